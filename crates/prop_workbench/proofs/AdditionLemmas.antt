-- What a search has learned stays learned where cells and instances are added.
use Rattle.std.proofs.Common.{◌≡◌, ℕ, zero, suc, List, [], ◌∷◌, ◌++◌, map, All, Contains, Some, slice_get, get_or}
use Rattle.std.proofs.lemmas.List.{map-append}
use Rattle.std.proofs.lemmas.List.Elements.{Contains-append_left, Contains-get_or}
use Rattle.prop_procedures.specs.declared.shape.Kinded.{Kinded}
use Rattle.prop_procedures.specs.Stored.{Stored}
use Rattle.prop_cells.specs.Problems.{Extends}
use Rattle.prop_cells.specs.Instances.{Instance, constraint_of}
use Rattle.prop_cells.specs.Data.{Data, problem_of}
use Rattle.prop_amb.specs.Search.{Stand, IsSearch}
use Rattle.prop_amb.proofs.KeepingLaws.{search_extends}

still_there : {X : Type 0} (xs ys : List X) (x : X) (i : ℕ) → slice_get xs i ≡ Some x → slice_get (xs ++ ys) i ≡ Some x
still_there [] ys x i e = cc
still_there (z ∷ xs) ys x zero e = e
still_there (z ∷ xs) ys x (suc i) e = still_there xs ys x i e

all_still : {X : Type 0} (xs ys : List X) → All (Contains (xs ++ ys)) xs
all_still xs ys = λ k d l. Contains-append_left xs ys (get_or xs k d) (Contains-get_or xs k d l)

-- the second is the first with more cells and instances
pub record Adds (old new : Data) : Type 0 where
  pub fresh : List Kinded
  pub made : List Instance
  pub kinds : new.kinds ≡ old.kinds ++ fresh
  pub statements : new.statements ≡ old.statements
  pub instances : new.instances ≡ old.instances ++ made

pub search_added : (library : List Stored) (old new : Data) (s : Stand) → Adds old new
    → IsSearch (problem_of library old) s → IsSearch (problem_of library new) s
search_added library old new s a h = search_extends (problem_of library old) (problem_of library new) s more h
  where
    more : Extends (problem_of library old) (problem_of library new)
    more = record {
      cells = λ c k e. rw a.kinds (still_there old.kinds a.fresh k c e);
      statements = rw a.statements (λ k d l. Contains-get_or old.statements k d l);
      constraints = rw (a.instances, map-append)
          (all_still (map (constraint_of library) old.instances) (map (constraint_of library) a.made));
    }
