-- What a search keeps where a belief changes, a statement is made, or a name is taken up.
use Rattle.std.proofs.Common.{◌≡◌, ◌∙◌, ℕ, zero, suc, Bool, true, false, not, IsTrue, List, [], ◌∷◌, ◌++◌, Contains}
use Rattle.std.proofs.Common.{All, Ok, Some, None, ◌+◌, ◌<◌, ◌==◌, ◌||◌, map, length, get_or, arith, refl}
use Rattle.std.proofs.Common.{sym, ap, subst}
use Rattle.std.proofs.lemmas.Bool.Decides.{nat_tests}
use Rattle.std.proofs.lemmas.List.{length-append}
use Rattle.std.proofs.lemmas.List.Elements.{All-filter, All-weaker, Contains-get_or, Contains-append_left}
use Rattle.prop_numbers.specs.Sets.{Members, set_of}
use Rattle.prop_premises.specs.Origins.{Origin, User, Side, believed_in, is_user_at, is_choice, premise_number}
use Rattle.prop_premises.specs.Origins.{with_belief_at}
use Rattle.prop_premises.proofs.ChoiceLemmas.{choices_of-user, choices_of-with_belief_at}
use Rattle.prop_lattice.specs.declared.info.Info.{Info}
use Rattle.prop_procedures.specs.declared.shape.Param.{Param}
use Rattle.prop_procedures.specs.Stored.{Stored}
use Rattle.prop_cells.specs.declared.instance.Statement.{Statement}
use Rattle.prop_cells.specs.Problems.{Extends}
use Rattle.prop_cells.specs.Data.{Data, problem_of}
use Rattle.prop_cells.specs.Instances.{constraint_of}
use Rattle.prop_cells.specs.declared.network.Network.{Network}
use Rattle.prop_procedures.specs.Kept.{stored_of}
use Rattle.prop_cells.specs.Forgetting.{forgotten}
use Rattle.prop_cells.specs.inner.Forgetting.{is_under}
use Rattle.prop_scheduler.specs.Agendas.{Waiting}
use Rattle.prop_scheduler.specs.Live.{IsLiveIn}
use Rattle.prop_scheduler.specs.declared.live.Live.{Live}
use Rattle.prop_scheduler.specs.Turns.{IsUnderWay}
use Rattle.prop_amb.specs.Refuted.{IsCovered}
use Rattle.prop_amb.specs.Search.{Stand, IsStand, IsSearch, choices_in, users_of}
use Rattle.prop_amb.specs.Moving.{interned}
use Rattle.prop_amb.proofs.KeepingLaws.{search_extends}
use Rattle.prop_workbench.specs.declared.session.Session.{Session}
use Rattle.prop_workbench.specs.inner.Carrying.{IsDone}
use Rattle.prop_workbench.specs.Sessions.{state_from, state_of, library_of, IsAtWork, IsInOrder}
use Rattle.prop_workbench.specs.inner.Sessions.{Keeps}
use Rattle.prop_workbench.proofs.BeliefLemmas.{belief_command, believed_or_not}
use Rattle.prop_scheduler.specs.Watching.{IsWatched}
use Rattle.prop_workbench.proofs.PremiseLemmas.{known_more, under_way_agree, watched_agree}

-- ---- a belief

-- what is believed already, or not, changes nothing
with_belief_same : (os : List Origin) (p : ℕ) (b : Bool) → IsTrue (is_user_at os p) → believed_in os p ≡ b
    → with_belief_at os p b ≡ os
with_belief_same [] p b u e = cc
with_belief_same (User name was ∷ os) zero b u e = ap (λ (x : Bool). User name x ∷ os) (sym e)
with_belief_same (Side name side sides ∷ os) zero b u e = cc
with_belief_same (o ∷ os) (suc p) b u e = ap (λ xs. o ∷ xs) (with_belief_same os p b u e)

length-with_belief_at : (os : List Origin) (p : ℕ) (b : Bool) → length (with_belief_at os p b) ≡ length os
length-with_belief_at [] p b = refl
length-with_belief_at (o ∷ os) zero b = refl
length-with_belief_at (o ∷ os) (suc p) b = ap suc (length-with_belief_at os p b)

-- a search in which one premise is believed, or not, is at work where it is under way
believing_at_work : (library : List Stored) (old new : Stand) (p : ℕ) (b : Bool) (d : Data) (before after : Waiting)
    → IsAtWork library old d before → new.premises ≡ with_belief_at old.premises p b → IsStand new →
    (IsSearch (problem_of library d) old → IsSearch (problem_of library d) new)
    → IsUnderWay library (set_of new.worldview) d after.line
    → IsWatched (set_of new.worldview) d after.watched → IsAtWork library new d after
believing_at_work library old new p b d before after work changed stand search under_way watch = record {
  under_way = under_way;
  well_made = stand;
  search = search work.search;
  known = rw (changed, length-with_belief_at old.premises p b) work.known;
  watched = watch;
}

believing_covers : (old new : Stand) (p : ℕ) (b : Bool) → new.premises ≡ with_belief_at old.premises p b
    → new.listed ≡ old.listed → (m : Members) → IsCovered (choices_in old) old.listed m
    → IsCovered (choices_in new) new.listed m
believing_covers old new p b changed listed m h = rw (changed, listed, choices_of-with_belief_at old.premises p b) h

-- a session in whose search one premise is believed, or not, keeps what it has to, where it is under way again
pub believing_keeps : {R O : Type 0} {X : Type 0} {F : X → Type 0} {g : _} (value : R → Param → List Info → Info)
    (s : Session R O X F g) (new : Stand) (live : Live R X F g) (p : ℕ) (b : Bool) → IsInOrder value s
    → new.premises ≡ with_belief_at s.search.premises p b → new.listed ≡ s.search.listed → IsStand new →
    (IsSearch (problem_of (library_of value s) s.live.network.cells) s.search
    → IsSearch (problem_of (library_of value s) s.live.network.cells) new)
    → live.network ≡ s.live.network → IsLiveIn value (set_of new.worldview) live
    → Keeps value s (record s { search = new; live = live })
believing_keeps {R = R} {X = X} {F = F} {g = g} value s new live p b sound changed listed stand search same alive =
    record {
      library = ap (λ n. n.library) same;
      sound = record {
        at_work = rw same (believing_at_work (library_of value s) s.search new p b s.live.network.cells s.live.agenda
            live.agenda sound.at_work changed stand search
            (subst (λ (n : Network R X F g). IsUnderWay (stored_of value n.library) (set_of new.worldview) n.cells
            live.agenda.line) same alive.under_way)
            (subst (λ (n : Network R X F g). IsWatched (set_of new.worldview) n.cells live.agenda.watched) same
            alive.watched));
        sized = rw same sound.sized;
        locals = sound.locals;
        room = rw same sound.room;
        named = rw same sound.named;
        defined = rw same sound.defined;
      };
      steps = refl;
      covers = believing_covers s.search new p b changed listed;
    }

-- ---- a search that is as it was

-- so is the session, where the network and what waits are so too
pub back_keeps : {R O : Type 0} {X : Type 0} {F : X → Type 0} {g : _} (value : R → Param → List Info → Info)
    (s new : Session R O X F g) (stand : Stand) → IsInOrder value s → stand ≡ s.search
    → new.live.network.library ≡ s.live.network.library → new.live.network.cells ≡ s.live.network.cells →
    new.live.agenda ≡ s.live.agenda →
    Keeps value s (record s { search = stand; live = new.live })
back_keeps value s new stand sound same library cells agenda = record {
  library = library;
  sound = record {
    at_work = rw (same, library, cells, agenda) sound.at_work;
    sized = rw cells sound.sized;
    locals = sound.locals;
    room = rw cells sound.room;
    named = rw cells sound.named;
    defined = rw library sound.defined;
  };
  steps = refl;
  covers = λ m h. rw same h;
}

pub same_keeps : {R O : Type 0} {X : Type 0} {F : X → Type 0} {g : _} (value : R → Param → List Info → Info)
    (s : Session R O X F g) (stand : Stand) → IsInOrder value s → stand ≡ s.search
    → Keeps value s (record s { search = stand })
same_keeps value s stand sound same = back_keeps value s s stand sound same refl refl refl

-- and a premise is believed in it, or not, that was so already
pub same_done : {R O : Type 0} {X : Type 0} {F : X → Type 0} {g : _} (value : R → Param → List Info → Info)
    (s : Session R O X F g) (new : Stand) (b : Bool) (name : List ℕ) (p : ℕ) → new ≡ s.search
    → premise_number s.search.premises name ≡ Some p → is_choice s.search.premises name ≡ false →
    IsTrue (is_user_at s.search.premises p) → users_of s.search p ≡ b
    → IsDone value s (belief_command b name) (Ok tt) (record s { search = new })
same_done value s new b name p same found free user was =
    let changed : new.premises ≡ with_belief_at s.search.premises p b = ap (λ (t : Stand). t.premises) same
    ∙ sym (with_belief_same s.search.premises p b user was) in
    believed_or_not (library_of value s) (state_of s)
    (state_from s.names s.words s.definitions new.premises s.live.network.cells s.limit) b name (Ok tt)
    (p, found, free, λ i. state_from s.names s.words s.definitions (changed i) s.live.network.cells s.limit) tt tt

-- ---- one more statement

all_contained : {X : Type 0} (xs ys : List X) → All (Contains (xs ++ ys)) xs
all_contained xs ys = λ k d l. Contains-append_left xs ys (get_or xs k d) (Contains-get_or xs k d l)

extends_stated : (library : List Stored) (d new : Data) (x : Statement)
    → new ≡ record d { statements = d.statements ++ x ∷ []; contents = new.contents }
    → Extends (problem_of library d) (problem_of library new)
extends_stated library d new x e = rw e (record {
  cells = λ c k at. at;
  statements = all_contained d.statements (x ∷ []);
  constraints = λ k y l. Contains-get_or (map (constraint_of library) d.instances) k y l;
})

pub stated_kinds : (d new : Data) (x : Statement)
    → new ≡ record d { statements = d.statements ++ x ∷ []; contents = new.contents } → new.kinds ≡ d.kinds
stated_kinds d new x e = ap (λ (y : Data). y.kinds) e

pub stated_instances : (d new : Data) (x : Statement)
    → new ≡ record d { statements = d.statements ++ x ∷ []; contents = new.contents } → new.instances ≡ d.instances
stated_instances d new x e = ap (λ (y : Data). y.instances) e

-- a statement under a premise that there is, or under none
pub stated_at_work : (library : List Stored) (stand : Stand) (d new : Data) (before after : Waiting) (x : Statement)
    → IsAtWork library stand d before →
    new ≡ record d { statements = d.statements ++ x ∷ []; contents = new.contents }
    → ((p : ℕ) → x.premise ≡ Some p → p < length stand.premises)
    → IsUnderWay library (set_of stand.worldview) new after.line →
    IsWatched (set_of stand.worldview) new after.watched → IsAtWork library stand new after
stated_at_work library stand d new before after x work e known under_way watch =
    let n = length stand.premises in
    record {
      under_way = under_way;
      well_made = work.well_made;
      search = search_extends (problem_of library d) (problem_of library new) stand (extends_stated library d new x e)
          work.search;
      known = rw (ap (λ (y : Data). y.statements) e) (known_more n n d.statements x (omega arith) work.known known);
      watched = watch;
    }

-- ---- a new name

pub set_before : (w : List ℕ) (n p : ℕ) → p < n → set_of (w ++ n ∷ []) p ≡ set_of w p
set_before [] n p l = let other : (n == p) ≡ false = grind (arith, nat_tests) in ap (λ b. b || false) other
set_before (q ∷ w) n p l = ap (λ b. (q == p) || b) (set_before w n p l)

pub new_stand : (old : Stand) (name : List ℕ) → premise_number old.premises name ≡ None
    → interned old name ≡ record old {
      premises = old.premises ++ User name true ∷ [];
      worldview = old.worldview ++ length old.premises ∷ [];
    }
new_stand old name none = rw none refl

new_length : (old new : Stand) (name : List ℕ) → premise_number old.premises name ≡ None → new ≡ interned old name
    → length new.premises ≡ length old.premises + 1
new_length old new name none made = ap (λ (t : Stand). length t.premises) (made ∙ new_stand old name none)
    ∙ length-append old.premises (User name true ∷ [])

-- the new name's number is there
pub new_number : (old new : Stand) (name : List ℕ) (given : ℕ) → premise_number old.premises name ≡ None
    → new ≡ interned old name → given ≡ length old.premises → (p : ℕ) → Some given ≡ Some p → p < length new.premises
new_number old new name given none made is p e =
    let same : given ≡ p = cc in
    let more = new_length old new name none made in
    omega (arith, same, is, more)

-- a search with a new name is at work as before
pub named_at_work : (library : List Stored) (old new : Stand) (name : List ℕ) (d : Data) (agenda : Waiting)
    → IsAtWork library old d agenda → premise_number old.premises name ≡ None → new ≡ interned old name → IsStand new →
    (IsSearch (problem_of library d) old → IsSearch (problem_of library d) new) → IsAtWork library new d agenda
named_at_work library old new name d agenda work none made stand search =
    let n = length old.premises in
    let is : new ≡ record old { premises = old.premises ++ User name true ∷ []; worldview = old.worldview ++ n ∷ [] } =
    made ∙ new_stand old name none in
    let more = new_length old new name none made in
    record {
      under_way = rw (ap (λ (t : Stand). t.worldview) is)
          (under_way_agree library d n agenda.line (set_of old.worldview) (set_of (old.worldview ++ n ∷ [])) work.known
          (λ p l. set_before old.worldview n p l) work.under_way);
      well_made = stand;
      search = search work.search;
      known = All-weaker (λ y. (p : ℕ) → y.premise ≡ Some p → p < n)
          (λ y. (p : ℕ) → y.premise ≡ Some p → p < length new.premises)
          (λ y h p e. let l = h p e in omega (arith, l, more)) d.statements work.known;
      watched = rw (ap (λ (t : Stand). t.worldview) is)
          (watched_agree library d n agenda.watched (set_of old.worldview) (set_of (old.worldview ++ n ∷ []))
          work.under_way.kept work.known (λ p l. set_before old.worldview n p l) work.watched);
    }

pub named_covers : (old new : Stand) (name : List ℕ) → new ≡ interned old name → premise_number old.premises name ≡ None
    → (m : Members) → IsCovered (choices_in old) old.listed m → IsCovered (choices_in new) new.listed m
named_covers old new name made none m h =
    let is = made ∙ new_stand old name none in
    subst (λ (t : Stand). IsCovered (choices_in t) t.listed m) (sym is) (rw (choices_of-user old.premises name true) h)

-- ---- a premise that is forgotten

-- a search that forgets a premise is at work where the network forgets it too
pub forgotten_at_work : (library : List Stored) (old new : Stand) (p : ℕ) (d : Data) (before after : Waiting)
    → IsAtWork library old d before → new.premises ≡ old.premises → IsStand new →
    (IsSearch (problem_of library d) old → IsSearch (problem_of library (forgotten p d)) new)
    → IsUnderWay library (set_of new.worldview) (forgotten p d) after.line
    → IsWatched (set_of new.worldview) (forgotten p d) after.watched → IsAtWork library new (forgotten p d) after
forgotten_at_work library old new p d before after work same stand search under_way watch = record {
  under_way = under_way;
  well_made = stand;
  search = search work.search;
  known = rw same (All-filter (λ x. not (is_under p x.premise))
      (λ x. (q : ℕ) → x.premise ≡ Some q → q < length old.premises) d.statements work.known);
  watched = watch;
}
