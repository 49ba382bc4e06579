-- How paths are added, and what is noted.
use Rattle.std.proofs.Common.{◌≡◌, ◌∙◌, ◌+◌, ◌<◌, ◌≤◌, ℕ, List, [], ◌∷◌, ◌++◌, length, take, drop, sym, ap, refl}
use Rattle.std.proofs.Common.{append_assoc, append-nil, length-append, arith, subst, get_or}
use Rattle.std.proofs.lemmas.List.{take-append-le, take_all, at_drop_more}
use Rattle.prop_language.specs.Commands.{Step, Passed}
use Rattle.prop_notes.specs.Notes.{Notes, Note, Inner, Domain, Definition, Attached, most_paths, with_note}
use Rattle.prop_notes.specs.Notes.{locals_from, parts_from, locals_within, parts_within, inner_at}
use Rattle.prop_notes.specs.Notes.{definition_named}
use Rattle.prop_notes.specs.inner.Notes.{AddsPaths, AddsBefore}

-- ---- paths

pub adds_none : {A : Type 0} (old : List A) → length old ≤ most_paths → AddsPaths old [] old
adds_none old few = record { few = few; adds = λ rest. refl }

pub adds_one : {A : Type 0} (old : List A) (x : A) → length old < most_paths → AddsPaths old (x ∷ []) (old ++ x ∷ [])
adds_one old x few = record {
  few = omega (arith, few, length-append old (x ∷ []));
  adds = λ rest. ap (take most_paths) (append_assoc old (x ∷ []) rest);
}

pub adds_full : {A : Type 0} (old more : List A) → length old ≤ most_paths → most_paths ≤ length old
    → AddsPaths old more old
adds_full old more few full = record {
  few = few;
  adds = λ rest. take-append-le most_paths old rest full ∙ sym (take-append-le most_paths old (more ++ rest) full);
}

pub adds_then : {A : Type 0} (a xs b ys c : List A) → AddsPaths a xs b → AddsPaths b ys c → AddsPaths a (xs ++ ys) c
adds_then a xs b ys c first second = record {
  few = second.few;
  adds = λ rest. second.adds rest ∙ first.adds (ys ++ rest)
      ∙ ap (λ t. take most_paths (a ++ t)) (sym (append_assoc xs ys rest));
}

adds_all : {A : Type 0} (all new : List A) → AddsPaths [] all new → new ≡ take most_paths all
adds_all all new h =
    sym (take_all most_paths new h.few) ∙ ap (take most_paths) (sym (append-nil new)) ∙ h.adds []
    ∙ ap (take most_paths) (append-nil all)

-- ---- what is left

pub before_first : {A : Type 0} (all : List A) → AddsBefore all all []
before_first all = record { more = []; adds = record { few = omega arith; adds = λ rest. refl }; split = refl }

before_then : {A : Type 0} (xs left all new new' : List A) → AddsBefore (xs ++ left) all new
    → AddsPaths new xs new' → AddsBefore left all new'
before_then xs left all new new' before more = record {
  more = before.more ++ xs;
  adds = adds_then [] before.more new xs new' before.adds more;
  split = append_assoc before.more xs left ∙ before.split;
}

pub before_last : {A : Type 0} (all new : List A) → AddsBefore [] all new → new ≡ take most_paths all
before_last all new before =
    adds_all all new (subst (λ xs. AddsPaths [] xs new) (sym (append-nil before.more) ∙ before.split) before.adds)

-- ---- steps

-- a local, by its name
locals_local : (notes : Notes) (n : ℕ) (steps : List Step) (i : ℕ) (d step : Step) (name : List ℕ)
    → i < length steps → get_or steps i d ≡ step
    → ((rest : List Step) → locals_from notes n (step ∷ rest) ≡ name ∷ locals_from notes n rest)
    → locals_from notes n (drop i steps) ≡ (name ∷ []) ++ locals_from notes n (drop (i + 1) steps)
locals_local notes n steps i d step name l is local =
    at_drop_more (locals_from notes n) steps i d l ∙ ap (λ s. locals_from notes n (s ∷ drop (i + 1) steps)) is
    ∙ local (drop (i + 1) steps)

parts_local : (notes : Notes) (n : ℕ) (steps : List Step) (i : ℕ) (d step : Step)
    → i < length steps → get_or steps i d ≡ step
    → ((rest : List Step) → parts_from notes n (step ∷ rest) ≡ parts_from notes n rest)
    → parts_from notes n (drop i steps) ≡ parts_from notes n (drop (i + 1) steps)
parts_local notes n steps i d step l is local =
    at_drop_more (parts_from notes n) steps i d l ∙ ap (λ s. parts_from notes n (s ∷ drop (i + 1) steps)) is
    ∙ local (drop (i + 1) steps)

-- a use, which has the next number
locals_use : (notes : Notes) (n : ℕ) (steps : List Step) (i : ℕ) (d : Step) (name : List ℕ)
    (cells : List (List ℕ)) (passed : Passed) → i < length steps → get_or steps i d ≡ Step.Use name cells passed
    → locals_from notes n (drop i steps) ≡ locals_within (n + 1) (inner_at notes (definition_named notes name))
    ++ locals_from notes (n + 1) (drop (i + 1) steps)
locals_use notes n steps i d name cells passed l is =
    at_drop_more (locals_from notes n) steps i d l ∙ ap (λ s. locals_from notes n (s ∷ drop (i + 1) steps)) is
    ∙ ap (λ m. locals_within m (inner_at notes (definition_named notes name))
    ++ locals_from notes m (drop (i + 1) steps)) (omega arith)

parts_use : (notes : Notes) (n : ℕ) (steps : List Step) (i : ℕ) (d : Step) (name : List ℕ)
    (cells : List (List ℕ)) (passed : Passed) → i < length steps → get_or steps i d ≡ Step.Use name cells passed
    → parts_from notes n (drop i steps) ≡ parts_within (n + 1) passed (inner_at notes (definition_named notes name))
    ++ parts_from notes (n + 1) (drop (i + 1) steps)
parts_use notes n steps i d name cells passed l is =
    at_drop_more (parts_from notes n) steps i d l ∙ ap (λ s. parts_from notes n (s ∷ drop (i + 1) steps)) is
    ∙ ap (λ m. parts_within m passed (inner_at notes (definition_named notes name))
    ++ parts_from notes m (drop (i + 1) steps)) (omega arith)

-- a step that makes a local was taken
pub local_taken : (notes : Notes) (n m : ℕ) (steps : List Step) (i : ℕ) (d step : Step) (name : List ℕ)
    (old new : Inner) → i < length steps → get_or steps i d ≡ step
    → ((rest : List Step) → locals_from notes n (step ∷ rest) ≡ name ∷ locals_from notes n rest)
    → ((rest : List Step) → parts_from notes n (step ∷ rest) ≡ parts_from notes n rest) → m ≡ n
    → AddsBefore (locals_from notes n (drop i steps)) (locals_from notes 0 steps) old.locals
    → AddsBefore (parts_from notes n (drop i steps)) (parts_from notes 0 steps) old.parts
    → AddsPaths old.locals (name ∷ []) new.locals → new.parts ≡ old.parts
    → AddsBefore (locals_from notes m (drop (i + 1) steps)) (locals_from notes 0 steps) new.locals
    × AddsBefore (parts_from notes m (drop (i + 1) steps)) (parts_from notes 0 steps) new.parts
local_taken notes n m steps i d step name old new l at local part same locals parts more kept =
    let all = locals_from notes 0 steps in
    let begun = subst (λ xs. AddsBefore xs all old.locals)
    (locals_local notes n steps i d step name l at local) locals in
    let left = subst (λ xs. AddsBefore xs (parts_from notes 0 steps) old.parts)
    (parts_local notes n steps i d step l at part) parts in (
      subst (λ k. AddsBefore (locals_from notes k (drop (i + 1) steps)) all new.locals) (sym same)
          (before_then (name ∷ []) (locals_from notes n (drop (i + 1) steps)) all old.locals new.locals begun more),
      subst (λ (P : Type 0). P) (λ k. AddsBefore (parts_from notes (sym same k) (drop (i + 1) steps))
          (parts_from notes 0 steps) (sym kept k)) left,
    )

-- a step that uses something was taken
pub use_taken : (notes : Notes) (n m : ℕ) (steps : List Step) (i : ℕ) (d : Step) (name : List ℕ)
    (cells : List (List ℕ)) (passed : Passed) (old new : Inner) → i < length steps
    → get_or steps i d ≡ Step.Use name cells passed → m ≡ n + 1
    → AddsBefore (locals_from notes n (drop i steps)) (locals_from notes 0 steps) old.locals
    → AddsBefore (parts_from notes n (drop i steps)) (parts_from notes 0 steps) old.parts
    → AddsPaths old.locals (locals_within (n + 1) (inner_at notes (definition_named notes name))) new.locals
    → AddsPaths old.parts (parts_within (n + 1) passed (inner_at notes (definition_named notes name))) new.parts
    → AddsBefore (locals_from notes m (drop (i + 1) steps)) (locals_from notes 0 steps) new.locals
    × AddsBefore (parts_from notes m (drop (i + 1) steps)) (parts_from notes 0 steps) new.parts
use_taken notes n m steps i d name cells passed old new l at same locals parts more made =
    let used = inner_at notes (definition_named notes name) in
    let begun = subst (λ xs. AddsBefore xs (locals_from notes 0 steps) old.locals)
    (locals_use notes n steps i d name cells passed l at) locals in
    let left = subst (λ xs. AddsBefore xs (parts_from notes 0 steps) old.parts)
    (parts_use notes n steps i d name cells passed l at) parts in (
      subst (λ k. AddsBefore (locals_from notes k (drop (i + 1) steps)) (locals_from notes 0 steps) new.locals)
          (sym same) (before_then (locals_within (n + 1) used) (locals_from notes (n + 1) (drop (i + 1) steps))
          (locals_from notes 0 steps) old.locals new.locals begun more),
      subst (λ k. AddsBefore (parts_from notes k (drop (i + 1) steps)) (parts_from notes 0 steps) new.parts)
          (sym same) (before_then (parts_within (n + 1) passed used) (parts_from notes (n + 1) (drop (i + 1) steps))
          (parts_from notes 0 steps) old.parts new.parts left made),
    )

-- ---- what is noted

front : {A : Type 0} (xs ys : List A) → take (length xs) (xs ++ ys) ≡ xs
front [] [] = refl
front [] (y ∷ ys) = refl
front (x ∷ xs) ys = ap (λ t. x ∷ t) (front xs ys)

all_there : {A : Type 0} (xs : List A) → take (length xs) xs ≡ xs
all_there xs = take_all (length xs) xs (omega arith)

-- a note that is taken back
pub taken_back : (n : Notes) (note : Note) → record {
  domains = take (length n.domains) (with_note n note).domains;
  definitions = take (length n.definitions) (with_note n note).definitions;
  uses = take (length n.uses) (with_note n note).uses;
} ≡ n
taken_back n (Domain name) = λ i. record {
  domains = front n.domains (name ∷ []) i;
  definitions = all_there n.definitions i;
  uses = all_there n.uses i;
}
taken_back n (Definition inner) = λ i. record {
  domains = all_there n.domains i;
  definitions = front n.definitions (inner ∷ []) i;
  uses = all_there n.uses i;
}
taken_back n (Attached made) = λ i. record {
  domains = all_there n.domains i;
  definitions = all_there n.definitions i;
  uses = front n.uses (made ∷ []) i;
}
