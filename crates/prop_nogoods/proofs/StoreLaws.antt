-- What the layers above use of stores: a set of which a part is listed is more than a listed set.
use Rattle.std.proofs.Common.{◌≡◌, ℕ, true, List, Contains, IsTrue}
use Rattle.std.proofs.lemmas.List.Folds.{Any-from_list_any, list_any_at}
use Rattle.prop_numbers.specs.Sets.{Members, set_of, is_within, IsPart}
use Rattle.prop_numbers.proofs.WithinLemmas.{within_has, within_from}
use Rattle.prop_nogoods.specs.Stores.{has_part}

-- a listed set that is part of this one
pub record PartOf (listed : List (List ℕ)) (n : Members) : Type 0 where
  pub line : List ℕ
  pub listed_in : Contains listed line
  pub is_part : IsPart (set_of line) n

pub part-listed : (listed : List (List ℕ)) (n : Members) → IsTrue (has_part listed n) → PartOf listed n
part-listed listed n h =
    let some = Any-from_list_any (λ line. is_within n line) listed h in
    record {
      line = some.1;
      listed_in = (some.0, some.2, some.3);
      is_part = λ p t. within_has n some.1 p some.4 t;
    }

pub has_part-from : (listed : List (List ℕ)) (n : Members) (line : List ℕ) → Contains listed line
    → IsPart (set_of line) n → IsTrue (has_part listed n)
has_part-from listed n line c part =
    let its : is_within n line ≡ true = within_from n line part in
    list_any_at (λ x. is_within n x) listed c.0 line c.1 (rw c.2 its)

-- a larger set has the listed parts too
pub has_part-more : (listed : List (List ℕ)) (n m : Members) → IsPart n m → IsTrue (has_part listed n)
    → IsTrue (has_part listed m)
has_part-more listed n m part h =
    let its = part-listed listed n h in
    has_part-from listed m its.line its.listed_in (λ p t. part p (its.is_part p t))
