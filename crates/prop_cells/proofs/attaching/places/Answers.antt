use Rattle.std.proofs.Common.{◌≡◌, ◌∙◌, ◌++◌, ◌∷◌, [], ◌+◌, ◌<◌, length, map, zip, take, get_or, ap, arith, List, ℕ}
use Rattle.std.proofs.lemmas.List.{length-map, length-append, take_more, take_all, get_or-map}
use Rattle.prop_procedures.specs.declared.shape.Shape.{Shape}
use Rattle.prop_procedures.specs.declared.shape.Kinded.{Kinded}
use Rattle.prop_procedures.specs.Fitting.{kind_at}
use Rattle.prop_procedures.proofs.Zips.{length-zip, get_or-zip}
use Rattle.prop_cells.proofs.attaching.places.Goals as goal

module _ (ins : List Shape) (out : Shape) (kinds : List Kinded) (inputs : List ℕ) (output : ℕ)
    (count : length inputs ≡ length ins) where
  size : length (zip (ins ++ out ∷ []) (map (kind_at kinds) (inputs ++ output ∷ []))) ≡ length inputs + 1
  size =
      let n = length-map (inputs ++ output ∷ []) (kind_at kinds) in
      let m = length-append ins (out ∷ []) in
      let k = length-append inputs (output ∷ []) in
      length-zip (ins ++ out ∷ []) (map (kind_at kinds) (inputs ++ output ∷ [])) (omega (arith, n, m, k, count)) ∙ n ∙ k

  place_more : (places new : List (Shape × Kinded)) (i : ℕ) (shape : Shape) (kind : Kinded) → i < length inputs + 1
      → shape ≡ get_or (ins ++ out ∷ []) i out → kind ≡ kind_at kinds (get_or (inputs ++ output ∷ []) i output) →
      places ≡ take i (zip (ins ++ out ∷ []) (map (kind_at kinds) (inputs ++ output ∷ [])))
      → new ≡ places ++ (shape, kind) ∷ []
      → new ≡ take (i + 1) (zip (ins ++ out ∷ []) (map (kind_at kinds) (inputs ++ output ∷ [])))
  place_more places new i shape kind l s k e f =
      let cells = inputs ++ output ∷ [] in
      let all = zip (ins ++ out ∷ []) (map (kind_at kinds) cells) in
      let n = length-map cells (kind_at kinds) in
      let m = length-append ins (out ∷ []) in
      let o = length-append inputs (output ∷ []) in
      let at = get_or-zip (ins ++ out ∷ []) (map (kind_at kinds) cells) i out kind (shape, kind)
      (omega (arith, m, l, count)) (omega (arith, n, o, l)) in
      let at_kind = get_or-map (kind_at kinds) cells i output kind (omega (arith, o, l)) in
      let more = take_more all i (shape, kind) (omega (arith, size, l)) in
      cc

pub loop-i-preserved : goal.loop-i-preserved
loop-i-preserved g c =
    let h = c.loop-i.invariant in
    let i = c.loop-i.i in
    let asked = c.args.asked.now in
    let place : Shape × Kinded = (c.shape_at.result, c.kind.result) in
    let longer : length c.push_reserved.new.self.items ≡ length (c.loop-i.places.items ++ place ∷ []) =
    ap length c.push_reserved.ensures.items in
    record {
      items = place_more c.args.shapes.now c.args.shape c.args.held.now.kinds asked.ins.now asked.out c.requires.count
          c.loop-i.places.items c.push_reserved.new.self.items i c.shape_at.result c.kind.result c.loop-i-test.true
          c.shape_at.ensures
          (c.kind.ensures ∙ ap (kind_at c.args.held.now.kinds) c.cell_at-cell.ensures) h.items
          c.push_reserved.ensures.items;
      count = longer ∙ length-append c.loop-i.places.items (place ∷ []) ∙ ap (λ n. n + 1) h.count;
      room = c.push_reserved.ensures.capacity ∙ h.room;
    }

pub returns : goal.returns
returns g c =
    let asked = c.args.asked.now in
    let s = size c.args.shapes.now c.args.shape c.args.held.now.kinds asked.ins.now asked.out c.requires.count in
    c.loop-i.invariant.items ∙ take_all c.loop-i.i _ (omega (arith, s, c.loop-i-test.false))
