-- What a search learned, without a premise of the user's.
use Rattle.std.proofs.Common.{◌≡◌, ℕ, ◌-◌, ◌||◌, IsTrue, Bool, true, false, not, List, get_or, refl}
use Rattle.std.proofs.lemmas.List.Elements.{All-filter, All-get_or, filter_passes}
use Rattle.prop_numbers.specs.Sets.{Members, set_of, union}
use Rattle.prop_premises.specs.declared.choice.Choice.{Choice}
use Rattle.prop_premises.specs.ChoiceLists.{IsChoiceList, hypotheticals_of, is_hypothetical}
use Rattle.prop_premises.specs.Origins.{is_user_at, IsNumbered}
use Rattle.prop_premises.proofs.WorldviewLemmas.{hypotheticals_are}
use Rattle.prop_cells.specs.Problems.{Problem}
use Rattle.prop_cells.specs.Forgetting.{Forgets}
use Rattle.prop_cells.proofs.ForgettingLaws.{contradictory_forgets, related_forgets}
use Rattle.prop_nogoods.specs.Stores.{lacking}
use Rattle.prop_amb.specs.Refuted.{IsRefuted, IsNogood}
use Rattle.prop_amb.specs.Search.{Stand, IsSearch, choices_in}
use Rattle.prop_amb.specs.Moving.{restarted}
use Rattle.prop_amb.proofs.KeepingLaws.{nothing_kept}

-- a set that doesn't hold the premise stays refuted
pub refuted_forgets : (old new : Problem) (p : ℕ) (choices : List Choice) (n : Members) → Forgets old new p
    → n p ≡ false → is_hypothetical choices p ≡ false → IsRefuted old choices n → IsRefuted new choices n
refuted_forgets old new p choices n less out user r = record {
  one_side = r.one_side;
  always = λ list is_list takes. contradictory_forgets old new p (union n (hypotheticals_of choices list)) less
      (neither (n p) (hypotheticals_of choices list p) out (untaken list is_list)) (r.always list is_list takes);
}
  where
    neither : (x y : Bool) → x ≡ false → y ≡ false → (x || y) ≡ false
    neither x y e f = cc

    untaken : (list : List ℕ) → IsChoiceList choices list → hypotheticals_of choices list p ≡ false
    untaken list is_list = by (hypotheticals_of choices list p) refl
      where
        by : (b : Bool) → hypotheticals_of choices list p ≡ b → b ≡ false
        by true e = cc (hypotheticals_are choices list p is_list e, user)
        by false e = refl

pub nogood_forgets : (old new : Problem) (p : ℕ) (choices : List Choice) (n : Members) → Forgets old new p → n p ≡ false
    → is_hypothetical choices p ≡ false → IsNogood old choices n → IsNogood new choices n
nogood_forgets old new p choices n less out user x = record {
  refuted = refuted_forgets old new p choices n less out user x.refuted;
  cell = x.cell;
  related = related_forgets old new p x.cell n less out x.related;
}

not_true : (b : Bool) → not b ≡ true → b ≡ false
not_true true h = cc
not_true false h = refl

-- every choice is on its first side again, and the nogoods that hold the premise are gone
pub search_forgotten : (old new : Problem) (p : ℕ) (s : Stand) (w : List ℕ) → IsNumbered s.premises
    → IsTrue (is_user_at s.premises p) → Forgets old new p → IsSearch old s →
    IsSearch new (record (restarted s) { listed = lacking s.listed p; worldview = w })
search_forgotten old new p s w numbered user less h = record {
  nogoods = λ k d l.
      let line = get_or (lacking s.listed p) k d in
      nogood_forgets old new p (choices_in s) (set_of line) less
      (not_true (set_of line p) (All-get_or (λ x. not (set_of x p) ≡ true) (lacking s.listed p) k d l
      (filter_passes (λ x. not (set_of x p)) s.listed)))
      (numbered.users p user)
      (All-get_or (λ x. IsNogood old (choices_in s) (set_of x)) (lacking s.listed p) k d l
      (All-filter (λ x. not (set_of x p)) (λ x. IsNogood old (choices_in s) (set_of x)) s.listed h.nogoods));
  reasons = record { kept = λ j choice side reason at one r. absurd (nothing_kept s.reasons j (side - 1) reason r) };
}
