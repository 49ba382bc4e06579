use Rattle.std.proofs.Common.{◌≡◌, ◌∙◌, ◌+◌, ◌<◌, ◌≤◌, ◌++◌, ◌∷◌, [], List, Some, length, take, ap, sym, subst, arith}
use Rattle.std.proofs.Math.ListN.{set, length-set}
use Rattle.std.proofs.lemmas.List.{take-append-le, length_push}
use Rattle.std.proofs.lemmas.List.Elements.{All-pop}
use Rattle.prop_trail.specs.Places.{unmade}
use Rattle.prop_trail.specs.Trails.{place_at, all_after}
use Rattle.prop_trail.specs.declared.entry.Entry.{Entry}
use Rattle.prop_trail.specs.declared.place.Place.{Place}
use Rattle.prop_trail.specs.inner.Making.{AreMade}
use Rattle.prop_trail.proofs.TrailLaws.{after_last, front_made, last_made, undone}
use Rattle.prop_trail.proofs.trail.cut.Goals as goal

pub loop-entries-preserved-in-Some : goal.loop-entries-preserved-in-Some
loop-entries-preserved-in-Some c =
    let start = c.args.start in
    let xs = c.loop-entries.entries in
    let ps = c.loop-entries.places.items in
    let ys = c.pop.new.self.items in
    let e = c.in-Some.entry in
    let items : xs.items ≡ ys ++ e ∷ [] = c.in-Some.ensures.items in
    let count : length xs.items ≡ length ys + 1 = ap (λ (zs : List Entry). length zs) items ∙ length_push ys e in
    let long : start ≤ length ys = omega (arith, count, xs.ok) in
    let back = c.take_back.ensures in
    let same : length c.take_back.new.places.items ≡ length ps =
    ap (λ (qs : List Place). length qs) back ∙ length-set ps e.place (unmade (place_at ps e.place) e) in
    let all = All-pop (λ (x : Entry). x.place < length ps) xs.items ys (Some e) items c.loop-entries.invariant.within in
    record {
      front = sym (take-append-le start ys (e ∷ []) long) ∙ ap (take start) (sym items)
          ∙ c.loop-entries.invariant.front;
      within = λ k d l. (let w = all.0 k d l in omega (arith, w, same));
      now = λ roots a b. (
          let was = c.loop-entries.invariant.now roots a b in
          let made : AreMade 0 roots (ys ++ e ∷ []) = subst (AreMade 0 roots) items was.0 in
          let last = was.1 ∙ ap (all_after 0 roots) items ∙ after_last 0 roots ys e in (
            front_made 0 roots ys e made,
            back ∙ ap (λ (qs : List Place). set qs e.place (unmade (place_at qs e.place) e)) last
                ∙ undone (all_after 0 roots ys) (0 + length ys) e (last_made 0 roots ys e made),
          ));
    }
