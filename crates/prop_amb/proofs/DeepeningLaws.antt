-- One list at one level after the other, until it is refuted or the side of each choice is believed.
use Rattle.std.proofs.Common.{◌≡◌, ◌∙◌, ℕ, ◌+◌, ◌-◌, ◌<◌, ◌≤◌, ◌⊎◌, List, [], false, length, refl, sym, ap, subst, inl}
use Rattle.std.proofs.Common.{inr, arith}
use Rattle.prop_numbers.specs.Sets.{Members, set_of}
use Rattle.prop_procedures.specs.Stored.{Stored}
use Rattle.prop_contents.specs.Contents.{beliefs}
use Rattle.prop_cells.specs.Problems.{Problem}
use Rattle.prop_cells.specs.Data.{Data, IsFree, problem_of}
use Rattle.prop_nogoods.specs.Stores.{has_part}
use Rattle.prop_scheduler.specs.Turns.{IsUnderWay, IsSettled}
use Rattle.prop_scheduler.specs.Potential.{potential, most_steps}
use Rattle.prop_scheduler.specs.Shifts.{AreGrown}
use Rattle.prop_amb.specs.Search.{Stand, IsStand, IsSearch, believed_with}
use Rattle.prop_amb.specs.Moving.{deepened}
use Rattle.prop_amb.specs.Going.{work, MayDeepen}
use Rattle.prop_amb.specs.Going.Goes.{none, deeper}
use Rattle.prop_scheduler.specs.declared.outcome.Run.{Run}
use Rattle.prop_scheduler.specs.declared.outcome.Run.TheVariants.{Quiet}
use Rattle.prop_amb.proofs.GoingLaws.{goes_then}
use Rattle.prop_amb.proofs.MetLaws.{believes_worldview}
use Rattle.prop_amb.specs.Settling.{IsResting}
use Rattle.prop_amb.specs.inner.Trying.{Attempted}
use Rattle.prop_amb.proofs.OnWay.{IsStart, AtLevel, Deepening}
use Rattle.prop_amb.proofs.SettlingLaws.{same_in, rest_on}

-- what is believed is the same in other words
pub grown_believed : (d : Data) (s new : Stand) (waiting line : List ℕ) → IsStand s → IsStand new
    → AreGrown (set_of s.worldview) (set_of new.worldview) d (length d.kinds) waiting line →
    AreGrown (believed_with s) (believed_with new) d (length d.kinds) waiting line
grown_believed d s new waiting line stand stand' grown =
    subst (λ u. AreGrown u (believed_with new) d (length d.kinds) waiting line) (believes_worldview s stand)
    (subst (λ v. AreGrown (set_of s.worldview) v d (length d.kinds) waiting line) (believes_worldview new stand') grown)

-- of the same library in other words
pub at_level : {V O : Type 0} (mean : V → List Stored) (was now : V) (picks : O → ℕ → ℕ → O → Type 0) (s : Stand)
    (d : Data) (waiting : List ℕ) (order : O) (budget : ℕ) (tried : Run) (calls : ℕ) (new : Stand) (cells : Data)
    (after : List ℕ) (next : O) → now ≡ was →
    AtLevel picks (mean now) s d waiting order budget tried calls new cells after next
    → AtLevel picks (mean was) s d waiting order budget tried calls new cells after next
at_level mean was now picks s d waiting order budget tried calls new cells after next same a =
    subst (λ v. AtLevel picks (mean v) s d waiting order budget tried calls new cells after next) same a

module _ {O : Type 0} (picks : O → ℕ → ℕ → O → Type 0) (library : List Stored) (s : Stand) (d : Data) (waiting : List ℕ)
    (order : O) where
  pub at_first : IsSearch (problem_of library d) s → IsUnderWay library (set_of s.worldview) d waiting
      → Deepening picks library s d waiting order s d waiting order 0
  at_first learned under_way = record {
    only = refl;
    kept = λ m t. t;
    search = learned;
    rest = refl;
    under_way = under_way;
    gone = none;
    falls = omega arith;
    most = inl refl;
    since = inl (record { stand = refl; cells = refl; waits = refl; none = refl });
  }

  module _ (t : Stand) (mid : Data) (line : List ℕ) (last : O) (steps budget : ℕ)
      (w : Deepening picks library s d waiting order t mid line last steps) (within : steps ≤ budget) (tried : Run)
      (calls : ℕ) (new : Stand) (cells : Data) (after : List ℕ) (next : O)
      (a : AtLevel picks library t mid line last (budget - steps) tried calls new cells after next) where
    same : problem_of library mid ≡ problem_of library d
    same = same_in library d mid w.rest

    worldview_same : new.worldview ≡ t.worldview
    worldview_same = λ i. (a.only i).worldview

    only_now : new ≡ record s { level = new.level; listed = new.listed; worldview = new.worldview }
    only_now = λ i. record {
      premises = premises i;
      list = list i;
      level = new.level;
      reasons = reasons i;
      listed = new.listed;
      worldview = new.worldview;
    }
      where
        premises : new.premises ≡ s.premises
        premises = ap (λ (x : Stand). x.premises) a.only ∙ ap (λ (x : Stand). x.premises) w.only

        list : new.list ≡ s.list
        list = ap (λ (x : Stand). x.list) a.only ∙ ap (λ (x : Stand). x.list) w.only

        reasons : new.reasons ≡ s.reasons
        reasons = ap (λ (x : Stand). x.reasons) a.only ∙ ap (λ (x : Stand). x.reasons) w.only

    -- the potential falls by the calls, in the worldview of then
    fell : potential (problem_of library d) (beliefs (set_of new.worldview) cells.contents) after + calls ≤ potential
        (problem_of library d) (beliefs (set_of t.worldview) mid.contents) line
    fell =
        subst (λ v. potential (problem_of library d) (beliefs (set_of v) cells.contents) after + calls ≤ potential
        (problem_of library d) (beliefs (set_of t.worldview) mid.contents) line) (sym worldview_same)
        (subst (λ p. potential p (beliefs (set_of t.worldview) cells.contents) after + calls ≤ potential p
        (beliefs (set_of t.worldview) mid.contents) line) same a.falls)

    few_now : calls ≤ most_steps (problem_of library d)
    few_now = subst (λ p. calls ≤ most_steps p) same a.few

    most_now : (calls ≡ 0) ⊎ (potential (problem_of library d) (beliefs (set_of t.worldview) mid.contents)
        line ≤ most_steps (problem_of library d))
    most_now = subst (λ p. (calls ≡ 0) ⊎ (potential p (beliefs (set_of t.worldview) mid.contents) line ≤ most_steps p))
        same a.most

    in_all : (steps + calls ≡ 0) ⊎ (potential (problem_of library d) (beliefs (set_of new.worldview) cells.contents)
        after + (steps + calls) ≤ most_steps (problem_of library d))
    in_all = elim w.most as (λ _. (steps + calls ≡ 0)
        ⊎ (potential (problem_of library d) (beliefs (set_of new.worldview) cells.contents)
        after + (steps + calls) ≤ most_steps (problem_of library d))) [
          | inl no_step ↦ elim most_now as (λ _. (steps + calls ≡ 0)
              ⊎ (potential (problem_of library d) (beliefs (set_of new.worldview) cells.contents)
              after + (steps + calls) ≤ most_steps (problem_of library d))) [
                | inl no_call ↦ inl (omega (arith, no_step, no_call))
                | inr bound ↦ inr (omega (arith, no_step, bound, fell))
              ]
          | inr bound ↦ inr (omega (arith, bound, fell))
        ]

    pub list_tried : (tried ≡ Quiet → new.level ≡ length new.list)
        → Attempted picks library s d waiting order budget tried (steps + calls) new cells after next
    list_tried full = record {
      only = only_now;
      kept = λ m x. a.kept m (w.kept m x);
      search = subst (λ p. IsSearch p new) same a.search;
      stand = a.stand;
      rest = rest_on d mid cells w.rest a.rest;
      under_way = subst (λ v. IsUnderWay library (set_of v) cells after) (sym worldview_same) a.under_way;
      gone = goes_then w.gone a.gone;
      quiet = λ q. subst (λ v. IsSettled library (set_of v) cells) (sym worldview_same) (a.quiet q);
      full = full;
      rests = a.rests;
      spent = λ q. all (a.spent q);
      leaves = a.leaves;
      earned = λ q. fewer (a.leaves q).waits (subst (λ p. calls < most_steps p) same (a.earned q)) w.most;
      steps = (let x = a.steps in omega (arith, x, within));
      at_rest = λ r. stays r w.since;
      falls = (let before = w.falls in omega (arith, before, fell));
      few = elim in_all [ inl nothing ↦ omega (arith, nothing) | inr bound ↦ omega (arith, bound) ];
    }
      where
        all : calls ≡ budget - steps → steps + calls ≡ budget
        all x = omega (arith, x, within)

        fewer : 0 < length after → calls < most_steps (problem_of library d)
            → (steps ≡ 0) ⊎ (potential (problem_of library d) (beliefs (set_of t.worldview) mid.contents)
            line + steps ≤ most_steps (problem_of library d)) →
            steps + calls < most_steps (problem_of library d)
        fewer waits x (inl no_step) = omega (arith, no_step, x)
        fewer waits x (inr bound) = omega (arith, waits, bound, fell)

        stays : IsResting s d waiting → IsStart s t d mid waiting line steps ⊎ (s.level < length s.list)
            → (tried ≡ Quiet) × (steps + calls ≡ 0)
        stays r (inl x) =
            let idle : line ≡ [] = x.waits ∙ r.idle in
            let free : IsFree (set_of t.worldview) mid = rw (x.stand, x.cells) r.free in
            let unblocked : has_part t.listed (set_of t.worldview) ≡ false = rw x.stand r.unblocked in
            let full : t.level ≡ length t.list = rw x.stand r.full in
            let y : (tried ≡ Quiet) × (calls ≡ 0) = a.at_rest idle full free unblocked in
            (y.0, omega (arith, y.1, x.none))
        stays r (inr low) = absurd (let full = r.full in omega (arith, low, full))

    -- where a choice is left now, one was at the start
    low : new.level < length new.list → IsStart s t d mid waiting line steps ⊎ (s.level < length s.list)
        → s.level < length s.list
    low left (inr l) = l
    low left (inl x) =
        let level : new.level ≡ s.level = ap (λ (y : Stand). y.level) a.only ∙ ap (λ (y : Stand). y.level) x.stand in
        let sides : length new.list ≡ length s.list = ap (λ (y : Stand). length y.list) only_now in
        omega (arith, left, level, sides)

    -- the side of one choice more is believed
    pub deepened_on : (later : Stand) (later_line : List ℕ) → tried ≡ Quiet → new.level < length new.list
        → later ≡ record (deepened new) { worldview = later.worldview }
        → ((p : Problem) → IsSearch p new → IsSearch p later) →
        IsUnderWay library (set_of later.worldview) cells later_line
        → AreGrown (believed_with new) (believed_with later) cells (length cells.kinds) after later_line →
        potential (problem_of library cells) (beliefs (set_of later.worldview) cells.contents) later_line ≤ potential
        (problem_of library cells) (beliefs (set_of new.worldview) cells.contents) after →
        Deepening picks library s d waiting order later cells later_line next (steps + calls)
    deepened_on later later_line quiet left is learns under_way grown falls = record {
      only = λ i. record {
        premises = premises i;
        list = list i;
        level = later.level;
        reasons = reasons i;
        listed = later.listed;
        worldview = later.worldview;
      };
      kept = λ m x. rw listed (a.kept m (w.kept m x));
      search = learns (problem_of library d) (subst (λ p. IsSearch p new) same a.search);
      rest = rest;
      under_way = under_way;
      gone = deeper (steps + calls) (work new cells after next) later later_line (goes_then w.gone a.gone) may is grown;
      falls = (let before = w.falls in omega (arith, before, fell, less));
      most = elim in_all as (λ _. (steps + calls ≡ 0)
          ⊎ (potential (problem_of library d) (beliefs (set_of later.worldview) cells.contents)
          later_line + (steps + calls) ≤ most_steps (problem_of library d))) [
            | inl nothing ↦ inl nothing
            | inr bound ↦ inr (omega (arith, bound, less))
          ];
      since = inr (low left w.since);
    }
      where
        rest : cells ≡ record d { contents = cells.contents }
        rest = rest_on d mid cells w.rest a.rest

        premises : later.premises ≡ s.premises
        premises = ap (λ (x : Stand). x.premises) is ∙ ap (λ (x : Stand). x.premises) only_now

        list : later.list ≡ s.list
        list = ap (λ (x : Stand). x.list) is ∙ ap (λ (x : Stand). x.list) only_now

        reasons : later.reasons ≡ s.reasons
        reasons = ap (λ (x : Stand). x.reasons) is ∙ ap (λ (x : Stand). x.reasons) only_now

        listed : later.listed ≡ new.listed
        listed = ap (λ (x : Stand). x.listed) is

        less : potential (problem_of library d) (beliefs (set_of later.worldview) cells.contents) later_line ≤ potential
            (problem_of library d) (beliefs (set_of new.worldview) cells.contents) after
        less = subst (λ p. potential p (beliefs (set_of later.worldview) cells.contents) later_line ≤ potential p
            (beliefs (set_of new.worldview) cells.contents) after) (same_in library d cells rest) falls

        believed : set_of t.worldview ≡ believed_with new
        believed = ap set_of (sym worldview_same) ∙ believes_worldview new a.stand

        may : MayDeepen (work new cells after next)
        may = record {
          idle = a.rests quiet;
          unblocked = subst (λ (u : Members). has_part new.listed u ≡ false) believed (a.unblocked quiet);
          free = subst (λ (u : Members). IsFree u cells) believed (a.quiet quiet).free;
          left = left;
        }
