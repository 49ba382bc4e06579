-- Whether a nogood is believed, told by the groups.
use Rattle.std.proofs.Common.{◌≡◌, ◌≤◌, ℕ, Bool, true, false, Some, List, [], ◌∷◌, length, get_or, refl, arith, ap}
use Rattle.std.proofs.Common.{Contains, IsTrue}
use Rattle.std.specs.Prelude.{slice_get}
use Rattle.std.proofs.lemmas.List.Elements.{All-contains, Contains-get_or}
use Rattle.prop_numbers.specs.Sets.{Members, is_within, is_below}
use Rattle.prop_numbers.proofs.WithinLemmas.{within_from}
use Rattle.prop_nogoods.specs.Stores.{has_part, AreBySize, PartsEndBelow, NoneEndsBelow}
use Rattle.prop_nogoods.specs.inner.Stores.{HaveSame}
use Rattle.prop_nogoods.proofs.StoreLaws.{part-listed}

-- what the nogoods of one list show, those of the other show too
pub end_below_same : (a b : List (List ℕ)) (w : Members) (n : ℕ) → HaveSame a b → PartsEndBelow b w n
    → PartsEndBelow a w n
end_below_same a b w n same below = λ k d l.
    All-contains (λ line. IsTrue (is_within w line) → IsTrue (is_below n line)) b (get_or a k d) below
    (same.first (get_or a k d) (Contains-get_or a k d l))

-- where the first set has a premise, each has one
pub each_has_one : (listed : List (List ℕ)) → AreBySize listed
    → ((line : List ℕ) → slice_get listed 0 ≡ Some line → ¬ (length line ≡ 0))
    → (line : List ℕ) → Contains listed line → ¬ (length line ≡ 0)
each_has_one [] up first line c e = absurd (omega (arith, c.1))
each_has_one (x ∷ xs) up first line c e =
    let at : length (get_or (x ∷ xs) c.0 line) ≡ 0 = rw c.2 e in
    let smallest : length x ≤ length (get_or (x ∷ xs) c.0 line) = up 0 c.0 line (omega arith) c.1 in
    first x refl (omega (arith, at, smallest))

-- where what is believed ends below a number, but what ends below it is the set of no premises, and
-- each set has a premise, nothing is believed
pub no_part_from : (listed : List (List ℕ)) (w : Members) (p : ℕ) → PartsEndBelow listed w p
    → NoneEndsBelow listed w p
    → ((line : List ℕ) → Contains listed line → ¬ (length line ≡ 0)) → has_part listed w ≡ false
no_part_from listed w p below none each = by (has_part listed w) refl
  where
    by : (b : Bool) → has_part listed w ≡ b → b ≡ false
    by true t =
        let its = part-listed listed w t in
        let within : is_within w its.line ≡ true = within_from w its.line its.is_part in
        let low = All-contains (λ line. IsTrue (is_within w line) → IsTrue (is_below p line)) listed its.line below
        its.listed_in within in
        let empty : its.line ≡ [] = All-contains
        (λ line. IsTrue (is_within w line) → IsTrue (is_below p line) → line ≡ []) listed its.line none
        its.listed_in within low in
        absurd (each its.line its.listed_in (ap length empty))
    by false t = refl
