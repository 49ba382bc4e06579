-- What is known of a session is what the law of what is posted asks.
use Rattle.std.proofs.Common.{◌≡◌, ◌∙◌, ◌++◌, ◌∷◌, [], ◌+◌, ℕ, Bool, true, false, List, Option, None}
use Rattle.std.proofs.Common.{arith, map, ap, codes, subst, sym}
use Rattle.std.specs.Prelude.{cond}
use Rattle.std.specs.List.{range_with_len}
use Rattle.std.proofs.lemmas.List.{map-id}
use Rattle.std.proofs.lemmas.List.FromFn.{map-range_with_len_more}
use Rattle.std.specs.Option.{option_map}
use Rattle.prop_lattice.specs.declared.info.Info.{Info}
use Rattle.prop_procedures.specs.declared.shape.Param.{Param}
use Rattle.prop_procedures.specs.Stored.{Stored}
use Rattle.prop_vocabulary.specs.Vocabulary as vocabularies
use Rattle.prop_workbench.specs.Points.{attached_in}
use Rattle.prop_workbench.specs.Sessions.{IsSound, library_of, state_of}
use Rattle.prop_workbench.specs.declared.session.Session.{Session}
use Rattle.prop_engine.specs.Answers.{Answer}
use Rattle.prop_workbench.specs.Questions.{Picks}
use Rattle.prop_seeking.specs.Seeking.{Sought}
use Rattle.prop_blaming.specs.Blaming.{blaming}
use Rattle.prop_requiring.specs.Asking.{is_definition, is_requirement}
use Rattle.prop_requiring.specs.Requiring.{Defines, Requires, requiring}
use Rattle.prop_demands.specs.inner.Laws.{IsGround, IsSolid}

pub sound_ground : {R O : Type 0} {X : Type 0} {F : X → Type 0} {g : _} (value : R → Param → List Info → Info)
    (s : Session R O X F g) → IsSound value s → vocabularies.IsWhole s.words
    → IsGround (library_of value s) s.names s.words s.live.network.cells
sound_ground value s sound whole = record {
  law = whole;
  sized = sound.in_order.sized;
  named = sound.in_order.named;
  kept = sound.in_order.at_work.under_way.kept;
}

pub sound_solid : {R O : Type 0} {X : Type 0} {F : X → Type 0} {g : _} (value : R → Param → List Info → Info)
    (s : Session R O X F g) → IsSound value s → IsSolid (library_of value s) (attached_in (state_of s))
sound_solid value s sound =
    let kept = sound.in_order.at_work.under_way.kept in
    record {
      fit = record { fitting = kept.fits; within = kept.made.within };
      within = λ k e l. (kept.made.stated k e l).within;
    }

-- a question that ends is none, as it is told too
pub ended : {A B : Type 0} (see : A → B) (b : Bool) (old new : Option A) → new ≡ cond b old None
    → option_map see new ≡ cond b (option_map see old) None
ended see true old new e = ap (option_map see) e
ended see false old new e = ap (option_map see) e

-- a line that requires something does what is required
pub own_line : {O : Type 0} (picks : Picks O) (library : List Stored) (old : Sought O) (line behind : List ℕ)
    (answer : Answer) (new : Sought O) → is_requirement line ≡ true → line ≡ codes "require" ++ behind
    → Requires library old (codes "require" ++ behind) answer new → requiring picks library old line answer new
own_line picks library old line behind answer new is split requires =
    rw is (subst (λ (l : List ℕ). Requires library old l answer new) (sym split) requires)

-- and one that defines a cell, what is defined
pub own_definition : {O : Type 0} (picks : Picks O) (library : List Stored) (old : Sought O) (line behind : List ℕ)
    (answer : Answer) (new : Sought O) → is_requirement line ≡ false → is_definition line ≡ true
    → line ≡ codes "let" ++ behind → Defines picks library old (codes "let" ++ behind) answer new
    → requiring picks library old line answer new
own_definition picks library old line behind answer new other is split defines =
    rw (other, is) (subst (λ (l : List ℕ). Defines picks library old l answer new) (sym split) defines)

-- any other does what the blamer does
pub other_line : {O : Type 0} (picks : Picks O) (library : List Stored) (old : Sought O) (line : List ℕ)
    (answer : Answer) (new : Sought O) → is_requirement line ≡ false → is_definition line ≡ false
    → blaming picks library old line answer new → requiring picks library old line answer new
other_line picks library old line answer new first second blames = rw (first, second) blames

-- the numbers below one more
pub range_push : (n : ℕ) (old new : List ℕ) → old ≡ range_with_len 0 n → new ≡ old ++ n ∷ []
    → new ≡ range_with_len 0 (n + 1)
range_push n old new e push =
    let same : (l : List ℕ) → map (λ (x : ℕ). x) l ≡ l = map-id in
    let more = sym (same (range_with_len 0 (n + 1))) ∙ map-range_with_len_more (λ (x : ℕ). x) 0 n n (omega arith)
    ∙ ap (λ l. l ++ n ∷ []) (same (range_with_len 0 n)) in
    push ∙ ap (λ l. l ++ n ∷ []) e ∙ sym more
