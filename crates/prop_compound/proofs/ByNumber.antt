-- Definitions by number add what those by name add.
use Rattle.std.proofs.Common.{◌≡◌, ◌∙◌, ℕ, zero, suc, ◌+◌, ◌<◌, List, [], ◌∷◌, ◌++◌, Bool, true, false, cond, not, ◌||◌}
use Rattle.std.proofs.Common.{◌&&◌, ◌==◌, find, bytes_eq, zip, Option, Some, None, map, length, get_or, is_none}
use Rattle.std.proofs.Common.{is_some, refl, sym}
use Rattle.std.proofs.Common.{ap, arith}
use mathlib.Core.List.{reverse_aux}
use Rattle.std.specs.Prelude.{reverse, slice_get}
use Rattle.std.specs.List.{list_any, position_from, range_with_len}
use Rattle.std.proofs.lemmas.Iterator.Adapters.{position_from-zero}
use Rattle.std.proofs.lemmas.Slice.Eq.{bytes_eq-Decides}
use Rattle.std.specs.Option.{option_map, option_map_or, option_and_then, option_or}
use Rattle.std.proofs.lemmas.Bool.{ne_eqb, false≢true}
use Rattle.prop_procedures.specs.declared.shape.Param.{Param}
use Rattle.prop_procedures.specs.Stored.{Stored, procedure_number}
use Rattle.prop_procedures.specs.Fitting.{kind_at}
use Rattle.prop_vocabulary.specs.Names.{number_in}
use Rattle.prop_vocabulary.proofs.Lookups.{number_below}
use Rattle.prop_compound.specs.declared.definition.Passing.{Passing}
use Rattle.prop_compound.specs.declared.definition.Used.{Used}
use Rattle.prop_compound.specs.declared.definition.Used.TheVariants as uses
use Rattle.prop_compound.specs.declared.definition.NumberedStep.{NumberedStep}
use Rattle.prop_compound.specs.declared.definition.NumberedStep.TheVariants.{Local, Like, Use}
use Rattle.prop_compound.specs.Definitions.{Definition, Definitions, is_taking, used_named, cells_wanted}
use Rattle.prop_compound.specs.Expansion.{Walk, cell_at, cells_at, with_fresh, use_expanded, steps_expanded}
use Rattle.prop_compound.specs.Expansion.{definition_expanded, spare_in, spare_of, spare_used}
use Rattle.prop_compound.proofs.Unrolling.{Adds}
use Rattle.std.proofs.Common.{zero-add}
use Rattle.std.proofs.Math.Bool.{or-false}
use Rattle.prop_sets.specs.Relation.{Relation}
use Rattle.prop_vocabulary.specs.Vocabulary.{Vocabulary}
use Rattle.prop_compound.specs.declared.definition.Passing.TheVariants as passings
use Rattle.prop_compound.specs.Definitions as numbers
use Rattle.prop_compound.specs.Expansion.{param_passed, with_placed}
use Rattle.prop_compound.specs.Compounds.{Compound, procedure_as, compound_named, use_added, is_miscounted}
use Rattle.prop_compound.specs.inner.Compounds.{procedure_at}
use Rattle.prop_compound.specs.Numbered.{with_spare, added_in, compounds_from, compounds_of, passed_among}

-- ---- what is spare adds nothing

one_of : (is b : Bool) (x y x' y' : Walk) → x ≡ with_spare x' b → y ≡ with_spare y' b
    → cond is x y ≡ with_spare (cond is x' y') b
one_of true b x y x' y' h k = h
one_of false b x y x' y' h k = k

-- these behind the earlier ones, listed from the latest on
abbrev pub behind : List Definition → List Definition → List Definition
behind [] earlier = earlier
behind (d ∷ ds) earlier = behind ds (d ∷ earlier)

pub behind_is : (ds earlier : List Definition) → behind ds earlier ≡ reverse_aux ds earlier
behind_is [] earlier = refl
behind_is (d ∷ ds) earlier = behind_is ds (d ∷ earlier)

module _ (pass : Option Param → Passing → Option Param) where
  abbrev AddsSpare : Adds → Type 0
  AddsSpare f = (m : ℕ) (cells : List ℕ) (given : Option Param) (e : Walk) (b : Bool)
      → f m cells given (with_spare e b) ≡ with_spare (f m cells given e) b

  use_spare : (f : Adds) → AddsSpare f → (used : Used) (cells : List ℕ) (given : Option Param) (e : Walk) (b : Bool)
      → use_expanded f used cells given (with_spare e b) ≡ with_spare (use_expanded f used cells given e) b
  use_spare f h (uses.Procedure n) cells given e b = refl
  use_spare f h (uses.Definition n) cells given e b = h n cells given e b

  pub steps_spare : (f : Adds) → AddsSpare f
      → (given : Option Param) (cells : List ℕ) (steps : List NumberedStep) (e : Walk)
      (b : Bool) → steps_expanded pass f given cells steps (with_spare e b)
      ≡ with_spare (steps_expanded pass f given cells steps e) b
  steps_spare f h given cells [] e b = refl
  steps_spare f h given cells (Local kind ∷ steps) e b =
      steps_spare f h given (cells ++ length e.kinds ∷ []) steps (with_fresh e kind) b
  steps_spare f h given cells (Like place ∷ steps) e b =
      steps_spare f h given (cells ++ length e.kinds ∷ []) steps
      (with_fresh e (kind_at e.kinds (cell_at cells place))) b
  steps_spare f h given cells (Use used places passing ∷ steps) e b =
      let at = cells_at cells places in
      let own = pass given passing in
      ap (steps_expanded pass f given cells steps) (use_spare f h used at own e b)
      ∙ steps_spare f h given cells steps (use_expanded f used at own e) b

  pub definition_spare : (latest : List Definition) → AddsSpare (definition_expanded pass latest)
  definition_spare [] m cells given e b = refl
  definition_spare (d ∷ earlier) m cells given e b =
      one_of (m == length earlier) b (steps_expanded pass (definition_expanded pass earlier) given cells d.steps
      (with_spare e b)) (definition_expanded pass earlier m cells given (with_spare e b))
      (steps_expanded pass (definition_expanded pass earlier) given cells d.steps e)
      (definition_expanded pass earlier m cells given e)
      (steps_spare (definition_expanded pass earlier) (definition_spare earlier) given cells d.steps e b)
      (definition_spare earlier m cells given e b)

  -- ---- later definitions

  one_later : (d : Definition) (latest : List Definition) (n : ℕ) → n < length latest
      → added_in pass (d ∷ latest) n ≡ added_in pass latest n
  one_later d latest n l = λ i cells given e.
      cond (other i) (steps_expanded pass (definition_expanded pass latest) given cells d.steps
      (with_spare e (cond (other i) (spare_here (is_some given)) (spare_in latest n (is_some given)))))
      (definition_expanded pass latest n cells given
      (with_spare e (cond (other i) (spare_here (is_some given)) (spare_in latest n (is_some given)))))
    where
      other : (n == length latest) ≡ false
      other = ne_eqb n (length latest) (λ e. omega (arith, e, l))

      spare_here : Bool → Bool
      spare_here given = (given && not (is_taking d)) || list_any (spare_of (spare_in latest) given) d.steps

  still_added : (ds latest : List Definition) (n : ℕ) → n < length latest
      → added_in pass (behind ds latest) n ≡ added_in pass latest n
  still_added [] latest n l = refl
  still_added (d ∷ ds) latest n l = still_added ds (d ∷ latest) n (omega (arith, l)) ∙ one_later d latest n l

  -- ---- looking them up

  -- the definition with the number, the definitions being listed from the latest on
  abbrev pub numbered_at : List Definition → List ℕ → ℕ → ℕ → Compound
  numbered_at latest name wants n = record { name = name; wants = wants; adds = added_in pass latest n }

  pub found_at : (earlier : List Definition) (names : List (List ℕ)) (ds : List Definition) (n : ℕ)
      → length names ≡ length ds → n < length ds → slice_get (compounds_from pass earlier names ds) n
      ≡ Some (numbered_at (behind ds earlier) (get_or names n [])
      (option_map_or (λ (d : Definition). d.params) (slice_get ds n) 0) (length earlier + n))
  found_at earlier [] [] n same l = absurd (omega (arith, l))
  found_at earlier [] (d ∷ ds) n same l = absurd (omega (arith, same))
  found_at earlier (name ∷ names) [] n same l = absurd (omega (arith, l))
  found_at earlier (name ∷ names) (d ∷ ds) zero same l =
      let here : added_in pass (d ∷ earlier) (length earlier)
      ≡ added_in pass (behind ds (d ∷ earlier)) (length earlier + 0)
      = sym (still_added ds (d ∷ earlier) (length earlier) (omega arith))
      ∙ ap (added_in pass (behind ds (d ∷ earlier))) (omega arith) in
      λ i. Some (record { name = name; wants = d.params; adds = here i })
  found_at earlier (name ∷ names) (d ∷ ds) (suc n) same l =
      found_at (d ∷ earlier) names ds n (omega (arith, same)) (omega (arith, l))
      ∙ ap (λ k. Some (numbered_at (behind ds (d ∷ earlier)) (get_or names n [])
      (option_map_or (λ (d : Definition). d.params) (slice_get ds n) 0) k)) (omega arith)

  pub names_from : (earlier : List Definition) (names : List (List ℕ)) (ds : List Definition)
      → length names ≡ length ds → map (λ (c : Compound). c.name) (compounds_from pass earlier names ds) ≡ names
  names_from earlier [] [] same = refl
  names_from earlier [] (d ∷ ds) same = refl
  names_from earlier (name ∷ names) [] same = absurd (omega (arith, same))
  names_from earlier (name ∷ names) (d ∷ ds) same =
      ap (λ l. name ∷ l) (names_from (d ∷ earlier) names ds (omega (arith, same)))

  pub count_from : (earlier : List Definition) (names : List (List ℕ)) (ds : List Definition)
      → length names ≡ length ds → length (compounds_from pass earlier names ds) ≡ length ds
  count_from earlier [] [] same = refl
  count_from earlier [] (d ∷ ds) same = absurd (omega (arith, same))
  count_from earlier (name ∷ names) [] same = refl
  count_from earlier (name ∷ names) (d ∷ ds) same = ap suc (count_from (d ∷ earlier) names ds (omega (arith, same)))

  -- one more
  pub pushed_from : (earlier : List Definition) (names : List (List ℕ)) (ds : List Definition) (name : List ℕ)
      (d : Definition) → length names ≡ length ds → compounds_from pass earlier (names ++ name ∷ []) (ds ++ d ∷ [])
      ≡ compounds_from pass earlier names ds
      ++ numbered_at (d ∷ behind ds earlier) name d.params (length (behind ds earlier)) ∷ []
  pushed_from earlier [] [] name d same = refl
  pushed_from earlier [] (x ∷ ds) name d same = absurd (omega (arith, same))
  pushed_from earlier (n ∷ names) [] name d same = absurd (omega (arith, same))
  pushed_from earlier (n ∷ names) (x ∷ ds) name d same =
      ap (λ l. numbered_at (x ∷ earlier) n x.params (length earlier) ∷ l)
      (pushed_from (x ∷ earlier) names ds name d (omega (arith, same)))

-- ---- by name

module _ {X : Type 0} (test : X → Bool) where
  found_append : (xs ys : List X) → find test (xs ++ ys) ≡ option_or (find test xs) (find test ys)
  found_append [] ys = refl
  found_append (x ∷ xs) ys = by (test x) (found_append xs ys)
    where
      by : (t : Bool) → find test (xs ++ ys) ≡ option_or (find test xs) (find test ys)
          → cond t (Some x) (find test (xs ++ ys)) ≡ option_or (cond t (Some x) (find test xs)) (find test ys)
      by true e = refl
      by false e = e

names_alike : (a b : List ℕ) → bytes_eq a b ≡ bytes_eq b a
names_alike a b = by (bytes_eq a b) refl (bytes_eq b a) refl
  where
    by : (s : Bool) → bytes_eq a b ≡ s → (t : Bool) → bytes_eq b a ≡ t → s ≡ t
    by true e true f = refl
    by true e false f = absurd (false≢true (sym f ∙ (bytes_eq-Decides b a).1 (sym ((bytes_eq-Decides a b).0 e))))
    by false e true f = absurd (false≢true (sym e ∙ (bytes_eq-Decides a b).1 (sym ((bytes_eq-Decides b a).0 f))))
    by false e false f = refl

module _ (name : List ℕ) where
  abbrev is_named : Compound → Bool
  is_named c = bytes_eq c.name name

  -- the first definition with the name, those from k on being left
  defined_from : (cs : List Compound) (k : ℕ) (rest : List Compound)
      → ((n : ℕ) → slice_get cs (k + n) ≡ slice_get rest n)
      → find is_named rest
      ≡ option_and_then (slice_get cs) (position_from (bytes_eq name) k (map (λ (c : Compound). c.name) rest))
  defined_from cs k [] at = refl
  defined_from cs k (c ∷ rest) at =
      (λ i. cond (names_alike c.name name i) (Some c) (find is_named rest))
      ∙ by (bytes_eq name c.name) (defined_from cs (k + 1) rest (λ n. ap (slice_get cs) (omega arith) ∙ at (suc n)))
    where
      later : Option Compound
      later = option_and_then (slice_get cs)
          (position_from (bytes_eq name) (k + 1) (map (λ (x : Compound). x.name) rest))

      by : (t : Bool) → find is_named rest ≡ later → cond t (Some c) (find is_named rest)
          ≡ option_and_then (slice_get cs)
          (cond t (Some k) (position_from (bytes_eq name) (k + 1) (map (λ (x : Compound). x.name) rest)))
      by true e = sym (at 0) ∙ ap (slice_get cs) (omega arith)
      by false e = e

  found_defined : (cs : List Compound)
      → find is_named cs ≡ option_and_then (slice_get cs) (number_in (map (λ (c : Compound). c.name) cs) name)
  found_defined cs = defined_from cs 0 cs (λ n. ap (slice_get cs) (zero-add n))
      ∙ ap (option_and_then (slice_get cs)) (sym (position_from-zero (bytes_eq name)
      (map (λ (c : Compound). c.name) cs)))

  abbrev numbered_from : ℕ → List Stored → List Compound
  numbered_from k library = map procedure_as (zip (range_with_len k (length library)) library)

  -- and the first procedure
  stored_from : (library : List Stored) (k : ℕ) (rest : List Stored)
      → ((n : ℕ) → slice_get library (k + n) ≡ slice_get rest n)
      → find is_named (numbered_from k rest)
      ≡ option_map (procedure_at library) (position_from (λ (p : Stored). bytes_eq p.name name) k rest)
  stored_from library k [] at = refl
  stored_from library k (p ∷ rest) at =
      by (bytes_eq p.name name)
      (stored_from library (k + 1) rest (λ n. ap (slice_get library) (omega arith) ∙ at (suc n)))
    where
      here : slice_get library k ≡ Some p
      here = ap (slice_get library) (omega arith) ∙ at 0

      named : Stored → Bool
      named x = bytes_eq x.name name

      by : (t : Bool) → find is_named (numbered_from (k + 1) rest)
          ≡ option_map (procedure_at library) (position_from named (k + 1) rest)
          → cond t (Some (procedure_as (k, p))) (find is_named (numbered_from (k + 1) rest))
          ≡ option_map (procedure_at library) (cond t (Some k) (position_from named (k + 1) rest))
      by true e = λ i. Some (record (procedure_as (k, p)) {
        name = option_map_or (λ (x : Stored). x.name) (sym here i) [];
        wants = option_map_or (λ (x : Stored). length x.ins + 1) (sym here i) 0;
      })
      by false e = e

  found_stored : (library : List Stored) → find is_named (numbered_from 0 library)
      ≡ option_map (procedure_at library) (procedure_number library name)
  found_stored library = stored_from library 0 library (λ n. ap (slice_get library) (zero-add n))
      ∙ ap (option_map (procedure_at library)) (sym (position_from-zero (λ (p : Stored). bytes_eq p.name name) library))

-- procedures are looked at before definitions
found_first : (library : List Stored) (cs : List Compound) (name : List ℕ) → compound_named library cs name
    ≡ option_or (option_map (procedure_at library) (procedure_number library name))
    (option_and_then (slice_get cs) (number_in (map (λ (c : Compound). c.name) cs) name))
found_first library cs name =
    found_append (is_named name) (numbered_from name 0 library) cs
    ∙ (λ i. option_or (found_stored name library i) (found_defined name cs i))

same_passed : (words : Vocabulary) (given : Option Param) (p : Passing)
    → param_passed words given p ≡ passed_among words.relations given p
same_passed words given passings.Nothing = refl
same_passed words given (passings.Scale k) = refl
same_passed words given (passings.Relation n) = refl
same_passed words given passings.Own = refl

pub pass_is : (words : Vocabulary) → param_passed words ≡ passed_among words.relations
pass_is words = λ i given p. same_passed words given p i

module _ (relations : List Relation) (library : List Stored) (defs : Definitions)
    (same : length defs.names ≡ length defs.definitions) where
  abbrev pass : Option Param → Passing → Option Param
  pass = passed_among relations

  abbrev cs : List Compound
  cs = compounds_of relations defs

  abbrev latest : List Definition
  latest = reverse defs.definitions

  abbrev pub compound_used : Used → Compound
  compound_used (uses.Procedure n) = procedure_at library n
  compound_used (uses.Definition n) =
      numbered_at pass latest (get_or defs.names n []) (cells_wanted library defs (uses.Definition n)) n

  names_are : map (λ (c : Compound). c.name) cs ≡ defs.names
  names_are = names_from pass [] defs.names defs.definitions same

  found_by : (name : List ℕ) (b : Option ℕ) → number_in defs.names name ≡ b
      → option_and_then (slice_get cs) b ≡ option_map compound_used (option_map uses.Definition b)
  found_by name None e = refl
  found_by name (Some n) e =
      found_at pass [] defs.names defs.definitions n same
      (let l = number_below defs.names name n e in omega (arith, l, same))
      ∙ (λ i. Some (numbered_at pass (behind_is defs.definitions [] i) (get_or defs.names n [])
      (cells_wanted library defs (uses.Definition n)) (zero-add n i)))

  named_by : (name : List ℕ) (a b : Option ℕ) → number_in defs.names name ≡ b
      → option_or (option_map (procedure_at library) a)
      (option_and_then (slice_get cs) (number_in (map (λ (c : Compound). c.name) cs) name))
      ≡ option_map compound_used (option_or (option_map uses.Procedure a) (option_map uses.Definition b))
  named_by name (Some n) b e = refl
  named_by name None b e =
      ap (λ names. option_and_then (slice_get cs) (number_in names name)) names_are
      ∙ ap (option_and_then (slice_get cs)) e ∙ found_by name b e

  -- what has the name is what it stands for by number
  pub named_number : (name : List ℕ) → compound_named library cs name
      ≡ option_map compound_used (used_named library defs name)
  named_number name = found_first library cs name
      ∙ named_by name (procedure_number library name) (number_in defs.names name) refl

  -- a use of it adds the same, and what is spare
  use_one : (used : Used) (cells : List ℕ) (given : Option Param) (e : Walk)
      → (compound_used used).adds cells given e
      ≡ with_spare (use_expanded (definition_expanded pass latest) used cells given e)
      (spare_used (spare_in latest) used (is_some given))
  use_one (uses.Procedure n) cells given e = λ i.
      record (with_placed e (record { procedure = n; given = given; cells = cells })) {
        spare = sym
            (or-false e.spare) i;
      }
  use_one (uses.Definition n) cells given e = definition_spare pass latest n cells given e (spare_in latest n
      (is_some given))

  pub use_numbered : (name : List ℕ) (used : Used) → used_named library defs name ≡ Some used → (cells : List ℕ)
      (given : Option Param) (e : Walk) → use_added library cs name cells given e
      ≡ with_spare (use_expanded (definition_expanded pass latest) used cells given e)
      (spare_used (spare_in latest) used (is_some given))
  use_numbered name used found cells given e =
      ap (λ o. option_map_or (λ (c : Compound). c.adds cells given e) o e)
      (named_number name ∙ ap (option_map compound_used) found) ∙ use_one used cells given e

  -- the tests of a name
  is_none_map : (o : Option Used) → is_none (option_map compound_used o) ≡ is_none o
  is_none_map None = refl
  is_none_map (Some used) = refl

  is_some_map : (o : Option Used) → is_some (option_map compound_used o) ≡ is_some o
  is_some_map None = refl
  is_some_map (Some used) = refl

  pub none_numbered : (name : List ℕ)
      → is_none (compound_named library cs name) ≡ is_none (used_named library defs name)
  none_numbered name = ap is_none (named_number name) ∙ is_none_map (used_named library defs name)

  pub some_numbered : (name : List ℕ)
      → is_some (compound_named library cs name) ≡ is_some (used_named library defs name)
  some_numbered name = ap is_some (named_number name) ∙ is_some_map (used_named library defs name)

  counted_by : (count : ℕ) (o : Option Used)
      → option_map_or (λ (c : Compound). not (count == c.wants)) (option_map compound_used o) false
      ≡ option_map_or (λ used. not (count == cells_wanted library defs used)) o false
  counted_by count None = refl
  counted_by count (Some (uses.Procedure n)) = refl
  counted_by count (Some (uses.Definition n)) = refl

  pub miscounted_numbered : (name : List ℕ) (count : ℕ)
      → is_miscounted (compound_named library cs name) count ≡ numbers.is_miscounted library defs name count
  miscounted_numbered name count =
      ap (λ o. option_map_or (λ (c : Compound). not (count == c.wants)) o false) (named_number name)
      ∙ counted_by count (used_named library defs name)

  pub count_numbered : length cs ≡ length defs.definitions
  count_numbered = count_from pass [] defs.names defs.definitions same
