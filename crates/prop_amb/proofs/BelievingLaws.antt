-- A stand stays one as premises of the user's are believed or not, and as the choices go to their first sides.
use Rattle.std.proofs.Common.{◌≡◌, ◌≤◌, ◌<◌, ◌==◌, ℕ, suc, ◌+◌, ◌&&◌, Bool, true, false, not, IsTrue, Some, List, []}
use Rattle.std.proofs.Common.{◌∷◌, ◌++◌, ◌||◌, length, take, drop, refl, sym, ap, subst, ◌∙◌, arith, inl, inr}
use Rattle.std.proofs.Common.{slice_get}
use Rattle.std.specs.List.{AllZip}
use Rattle.std.proofs.lemmas.Bool.Decides.{eqb_tells}
use Rattle.prop_refusals.specs.Refusals.{most}
use Rattle.prop_refusals.specs.declared.refusal.Limit.TheVariants.{Premises}
use Rattle.prop_numbers.specs.Sets.{Members, IsSame, set_of, union, without}
use Rattle.prop_premises.specs.declared.choice.Choice.{Choice}
use Rattle.prop_premises.specs.ChoiceLists.{hypothetical, IsChoiceList, AreOfSides, hypotheticals_of, worldview}
use Rattle.prop_premises.specs.Origins.{Origin, is_user_at, believed_in, choices_of, IsNumbered}
use Rattle.prop_premises.proofs.EntryLemmas.{take-front}
use Rattle.prop_cells.specs.Problems.{Problem}
use Rattle.prop_amb.specs.Search.{Stand, IsStand, IsSearch, users_of, choices_in, believed_with}
use Rattle.prop_amb.specs.Moving.{restarted, first_sides, level_first, no_reasons}
use Rattle.prop_amb.proofs.LevelLaws.{or_no, fewer_taken, deeper_believes, level_first_few, firsts_stay, firsts_length}
use Rattle.prop_amb.proofs.LeavingLaws.{TakenAt}
use Rattle.prop_amb.proofs.SearchLaws.{both, taken_is_side}

-- ---- one belief that changes

-- the choices stay where they stand
pub stand_believing : (s : Stand) (origins : List Origin) (w : List ℕ) → IsStand s → IsNumbered origins
    → length origins ≤ most Premises → choices_of origins ≡ choices_in s →
    IsSame (set_of w) (worldview (believed_in origins) (choices_of origins) (take s.level s.list))
    → IsStand (record s { premises = origins; worldview = w })
stand_believing s origins w stand numbered few same believes = record {
  numbered = numbered;
  few = few;
  is_list = rw same stand.is_list;
  reasoned = stand.reasoned;
  level = stand.level;
  believes = believes;
  minimal = stand.minimal;
}

turn : (u h e : Bool) → ((u || h) || e) ≡ ((u || e) || h)
turn true h e = refl
turn false true true = refl
turn false true false = refl
turn false false e = sym (or_no e)

-- one premise of the user's is believed too
pub brought_believes : (s : Stand) (origins : List Origin) (w : List ℕ) (q : ℕ) → IsStand s
    → choices_of origins ≡ choices_in s → IsSame (believed_in origins) (union (users_of s) (set_of (q ∷ [])))
    → IsSame (set_of w) (union (set_of s.worldview) (set_of (q ∷ []))) →
    IsSame (set_of w) (worldview (believed_in origins) (choices_of origins) (take s.level s.list))
brought_believes s origins w q stand same users more p =
    more p ∙ ap (λ b. b || set_of (q ∷ []) p) (stand.believes p)
    ∙ turn (users_of s p) (hypotheticals_of (choices_in s) (take s.level s.list) p) (set_of (q ∷ []) p)
    ∙ ap (λ b. b || hypotheticals_of (choices_in s) (take s.level s.list) p) (sym (users p))
    ∙ ap (λ cs. believed_in origins p || hypotheticals_of cs (take s.level s.list) p) (sym same)

parted : (u h e : Bool) → (e ≡ true → h ≡ false) → ((u || h) && not e) ≡ ((u && not e) || h)
parted true h true f = sym (f refl)
parted true h false f = refl
parted false true true f = sym (f refl)
parted false true false f = refl
parted false false e f = refl

-- one premise of the user's is believed no longer
pub kicked_believes : (s : Stand) (origins : List Origin) (w : List ℕ) (q : ℕ) → IsStand s
    → IsTrue (is_user_at s.premises q) → choices_of origins ≡ choices_in s
    → IsSame (believed_in origins) (without (users_of s) q) → IsSame (set_of w) (without (set_of s.worldview) q) →
    IsSame (set_of w) (worldview (believed_in origins) (choices_of origins) (take s.level s.list))
kicked_believes s origins w q stand user same users fewer p =
    fewer p ∙ ap (λ b. b && not (q == p)) (stand.believes p) ∙ parted (users_of s p) (sides p) (q == p) no_side
    ∙ ap (λ b. b || sides p) (sym (users p))
    ∙ ap (λ cs. believed_in origins p || hypotheticals_of cs (take s.level s.list) p) (sym same)
  where
    sides : Members
    sides = hypotheticals_of (choices_in s) (take s.level s.list)

    apart : (b : Bool) → sides q ≡ b → sides q ≡ false
    apart true t = absurd (both (taken_is_side (choices_in s) s.list q stand.is_list
        (fewer_taken (choices_in s) s.list s.level q t)) (stand.numbered.users q user))
    apart false e = e

    no_side : (q == p) ≡ true → sides p ≡ false
    no_side t = elim (eqb_tells q p) as (λ _. sides p ≡ false)
        [ inl e ↦ rw e.1 at (apart (sides q) refl) | inr e ↦ absurd (both t e.0) ]

-- ---- every choice on its first side

pub first_is_list : (cs : List Choice) (list : List ℕ) → AreOfSides cs → IsChoiceList cs list
    → IsChoiceList cs (first_sides list)
first_is_list [] [] sides h = tt
first_is_list [] (s ∷ l) sides h = absurd h
first_is_list (c ∷ cs) [] sides h = absurd h
first_is_list (c ∷ cs) (s ∷ l) sides h = ((omega arith, omega (arith, sides.0.0)), first_is_list cs l sides.1 h.1)

first_reasoned : (list : List ℕ) (reasons : List (List (List ℕ)))
    → AllZip (λ side reasons. length reasons + 1 ≡ side) list reasons →
    AllZip (λ side reasons. length reasons + 1 ≡ side) (first_sides list) (no_reasons reasons)
first_reasoned [] [] h = tt
first_reasoned [] (r ∷ rs) h = absurd h
first_reasoned (s ∷ l) [] h = absurd h
first_reasoned (s ∷ l) (r ∷ rs) h = (refl, first_reasoned l rs h.1)

pub stand_restarted : (s : Stand) (origins : List Origin) (w : List ℕ) → IsStand s → IsNumbered origins
    → length origins ≤ most Premises → choices_of origins ≡ choices_in s →
    IsSame (set_of w) (worldview (believed_in origins) (choices_of origins) (take (level_first s.level s.list) s.list))
    → IsStand (record (restarted s) { premises = origins; worldview = w })
stand_restarted s origins w stand numbered few same believes = record {
  numbered = numbered;
  few = few;
  is_list = rw same (first_is_list (choices_in s) s.list stand.numbered.of_sides stand.is_list);
  reasoned = first_reasoned s.list s.reasons stand.reasoned;
  level = (let few = (level_first_few s.level s.list).1 in let same_length = firsts_length s.list in omega
      (arith, few, same_length));
  believes = λ p. believes p ∙ ap (λ l. believed_in origins p || hypotheticals_of (choices_of origins) l p)
      (sym (firsts_stay s.level s.list));
  minimal = stand.minimal;
}

-- where the reasons lay, none is left
pub reasons_forgotten : (reasons now : List (List (List ℕ))) (n : ℕ) → n ≡ length reasons → now ≡ no_reasons reasons
    → take n (now ++ drop (length now) reasons) ≡ no_reasons reasons
reasons_forgotten reasons now n e is =
    take-front now (drop (length now) reasons) n (e ∙ sym (as_many reasons) ∙ sym (ap length is)) ∙ is
  where
    as_many : (rs : List (List (List ℕ))) → length (no_reasons rs) ≡ length rs
    as_many [] = refl
    as_many (r ∷ rs) = ap suc (as_many rs)

-- ---- one choice more

-- the side of one choice more is believed
pub stand_deeper : (s : Stand) (cs : List Choice) (c : Choice) (side q : ℕ) (w : List ℕ) → IsStand s → cs ≡ choices_in s
    → s.level < length s.list → TakenAt cs s.list s.level c side → q ≡ hypothetical c side →
    IsSame (set_of w) (union (set_of s.worldview) (set_of (q ∷ [])))
    → IsStand (record s { level = s.level + 1; worldview = w })
stand_deeper s cs c side q w stand same below taken is more = record {
  numbered = stand.numbered;
  few = stand.few;
  is_list = stand.is_list;
  reasoned = stand.reasoned;
  level = omega (arith, below);
  believes = λ p.
      more p ∙ ap (λ b. set_of s.worldview p || b) (or_no (q == p)) ∙ ap (λ b. b || (q == p)) (stand.believes p)
      ∙ ap (λ n. believed_with s p || (n == p)) is
      ∙ deeper_believes (users_of s) (choices_in s) s.list s.level c side p
      (subst (λ ds. slice_get ds s.level ≡ Some c) same taken.choice_at) taken.side_at;
  minimal = stand.minimal;
}

-- what is learned doesn't depend on how many choices are believed
pub search_deeper : (problem : Problem) (s : Stand) (level : ℕ) (w : List ℕ) → IsSearch problem s
    → IsSearch problem (record s { level = level; worldview = w })
search_deeper problem s level w h = record {
  nogoods = h.nogoods;
  reasons = record {
    kept = λ j choice side reason at one r.
        let k = h.reasons.kept j choice side reason at one r in
        record {
          refuted = k.refuted;
          grounded = k.grounded;
          covered = k.covered;
          against = k.against;
          beside = k.beside;
        };
  };
}
