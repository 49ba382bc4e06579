-- A nogood that is believed with the list on which the choices stand.
use Rattle.std.proofs.Common.{◌≡◌, ◌∙◌, ℕ, zero, suc, IsTrue, Bool, true, false, List, [], ◌∷◌, Contains, Some}
use Rattle.std.proofs.Common.{slice_get, refl, sym, inl, inr, arith}
use Rattle.std.proofs.lemmas.List.Elements.{All-contains}
use Rattle.prop_numbers.specs.Sets.{Members, IsPart, set_of, is_within}
use Rattle.prop_premises.specs.ChoiceLists.{IsBefore}
use Rattle.prop_numbers.proofs.WithinLemmas.{within_has}
use Rattle.prop_cells.specs.Problems.{Problem}
use Rattle.prop_cells.specs.Reach.{IsConflict}
use Rattle.prop_nogoods.specs.Stores.{has_part, AddsSet}
use Rattle.prop_nogoods.proofs.StoreLaws.{part-listed, has_part-from, has_part-more}
use Rattle.prop_amb.specs.Refuted.{IsNogood}
use Rattle.prop_amb.specs.Search.{Stand, IsStand, IsSearch, users_of, choices_in, believed_with}
use Rattle.prop_amb.specs.Moving.{advanced}
use Rattle.prop_amb.specs.inner.Settling.{IsMet}
use Rattle.prop_amb.proofs.LevelLaws.{whole_has}
use Rattle.prop_amb.proofs.StandLaws.{users_no_sides}
use Rattle.prop_amb.proofs.SearchLaws.{both, clash_refuted}

-- what is believed, as a set
pub believes_worldview : (s : Stand) → IsStand s → set_of s.worldview ≡ believed_with s
believes_worldview s stand = λ i p. stand.believes p i

-- a clash of a run is a nogood
pub clash_nogood : (problem : Problem) (s : Stand) (n : List ℕ) → IsStand s
    → IsConflict problem (set_of s.worldview) (set_of n) → IsNogood problem (choices_in s) (set_of n)
clash_nogood problem s n stand clash = record {
  refuted = clash_refuted problem (users_of s) (set_of n) (choices_in s) s.list stand.numbered.in_order stand.is_list
      (users_no_sides s stand) (λ p t. whole_has s p (sym (stand.believes p) ∙ clash.part p t)) clash.contradictory;
  cell = clash.cell;
  related = clash.related;
}

-- a noted nogood all of which is believed
pub met_listed : (problem : Problem) (s : Stand) (n : List ℕ) → IsSearch problem s → Contains s.listed n
    → IsTrue (is_within (set_of s.worldview) n) → IsMet problem s n
met_listed problem s n search listed within = record {
  believed = λ p t. within_has (set_of s.worldview) n p within t;
  nogood = All-contains (λ line. IsNogood problem (choices_in s) (set_of line)) s.listed n search.nogoods listed;
  noted = listed;
}

-- an advanced list stands later
pub advanced_later : (list : List ℕ) (j side : ℕ) → slice_get list j ≡ Some side → IsBefore list (advanced list j)
advanced_later [] j side e = cc
advanced_later (a ∷ list) zero side e = inl (omega arith)
advanced_later (a ∷ list) (suc j) side e = inr (refl, advanced_later list j side e)

-- a set that was added is listed, where no part of it was
added_listed : (old new : List (List ℕ)) (n : List ℕ) (w : Members) → AddsSet old new n → IsPart (set_of n) w
    → has_part old w ≡ false → Contains new n
added_listed old new n w adds part unblocked =
    let its = part-listed new (set_of n) adds.has in
    elim (adds.only its.line its.listed_in) [
      | inl was ↦ absurd (both (has_part-from old w its.line was (λ p t. part p (its.is_part p t))) unblocked)
      | inr same ↦ rw same at its.listed_in
    ]

-- where no noted nogood is believed, none is part of a clash
pub clash_is_new : (problem : Problem) (s : Stand) (copy n : List ℕ)
    → IsConflict problem (set_of s.worldview) (set_of n) → copy ≡ n
    → has_part s.listed (set_of s.worldview) ≡ false → has_part s.listed (set_of copy) ≡ false
clash_is_new problem s copy n clash same unblocked = by (has_part s.listed (set_of copy)) refl
  where
    by : (b : Bool) → has_part s.listed (set_of copy) ≡ b → b ≡ false
    by true e = absurd (both (has_part-more s.listed (set_of copy) (set_of s.worldview) (rw same clash.part) e)
        unblocked)
    by false e = refl

-- a clash of a run, once it is noted
pub met_noted : (problem : Problem) (s : Stand) (listed : List (List ℕ)) (copy n : List ℕ) (new : Stand) → IsStand s
    → IsConflict problem (set_of s.worldview) (set_of n) → copy ≡ n → AddsSet s.listed new.listed copy →
    new ≡ record s { listed = new.listed } → has_part s.listed (set_of s.worldview) ≡ false → IsMet problem new n
met_noted problem s listed copy n new stand clash same adds only unblocked =
    let nogood = clash_nogood problem s n stand clash in
    let added : AddsSet s.listed new.listed n = rw same at adds in
    record {
      believed = rw only clash.part;
      nogood = rw only nogood;
      noted = added_listed s.listed new.listed n (set_of s.worldview) added clash.part unblocked;
    }
