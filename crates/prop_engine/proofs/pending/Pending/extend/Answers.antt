use Rattle.std.proofs.Common.{◌≡◌, ℕ, ◌≤◌, ◌+◌, ◌-◌, List, ◌++◌, take, length, arith, sym, ◌∙◌, ap, inl, inr, min}
use Rattle.std.proofs.lemmas.Bool.{cases_lt}
use Rattle.std.proofs.lemmas.List.{take_all, length-take}
use lib.Seq.{take-append-add}
use Rattle.std.proofs.lemmas.Slice.{take-put_mid}
use borrow.Rule.Slice.PartMut.{put_mid}
use Rattle.prop_engine.specs.Lines.{kept_of}
use Rattle.prop_engine.proofs.pending.Pending.extend.Goals as goal

-- as many bytes as there is room for, behind those that are kept
extended : (xs view src new : List ℕ) (n k count : ℕ) → take n xs ≡ view → n ≤ length xs → n ≤ 4097
    → count ≡ min (length src) (4097 - n) → new ≡ take count src
    → take (n + count) (put_mid n k xs new) ≡ kept_of (view ++ src)
unfolding kept_of
extended xs view src new n k count e inside l c after =
    let counted : length view ≡ n = sym (ap length e) ∙ length-take n xs ∙ omega arith in
    let long : length new ≡ count = ap length after ∙ length-take count src ∙ omega (arith, c) in
    let whole : 4097 ≡ length view + (4097 - n) = omega (arith, counted, l) in
    let room : take 4097 (view ++ src) ≡ view ++ take (4097 - n) src = ap (λ m. take m (view ++ src)) whole
    ∙ take-append-add view src (4097 - n) in
    let same : take count src ≡ take (4097 - n) src = elim (cases_lt (4097 - n) (length src)) [
      | inl h ↦ let full : count ≡ 4097 - n = omega (arith, c, h) in ap (λ m. take m src) full
      | inr h ↦ take_all count src (omega (arith, c, h)) ∙ sym (take_all (4097 - n) src h)
    ] in
    take-put_mid n k xs new (n + count) (omega (arith, long)) inside ∙ (λ i. e i ++ (after ∙ same) i) ∙ sym room

pub returns : goal.returns
returns c =
    extended c.self.inside.bytes _ c.args.bytes.now c.copy_from_slice.new.self c.self.inside.len _ c.min-count.result
    c.self.view_is (omega (arith, c.self.told, c.self.invariant)) (omega (arith, c.self.invariant)) c.min-count.ensures
    c.copy_from_slice.ensures.after
