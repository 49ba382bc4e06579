-- The parameters and locals of a definition.
use Rattle.std.proofs.Common.{◌≡◌, ◌∙◌, ℕ, ◌+◌, ◌<◌, ◌≤◌, ◌⊎◌, Bool, true, false, ◌||◌, not, nat_le, List, [], ◌∷◌}
use Rattle.std.proofs.Common.{◌++◌, Option, Some, None, All, map, length, take, drop, get_or, is_none, is_some}
use Rattle.std.proofs.Common.{bytes_eq, refl, sym, ap, subst, arith, inl, inr}
use Rattle.std.specs.Prelude.{Result, Ok, Err, IfErr, OnOk}
use Rattle.std.specs.Borrow.{Bor}
use Rattle.std.specs.List.{list_any, flat_map}
use Rattle.std.proofs.lemmas.Bool.{or_parts, or_cases, or_left, or_right, cases_lt, le-leb, lt-leb}
use Rattle.std.proofs.lemmas.List.{length-append, length-take, length-take-le, append_assoc, take-append-drop, take_at}
use Rattle.std.proofs.lemmas.List.{drop_at, get_or_at, get_or-take, get_or_default, drop_all, drop_more, take_more}
use Rattle.std.proofs.lemmas.List.Folds.{list_any-append, list_any_at, list_any_none}
use Rattle.std.proofs.lemmas.List.Concat.{flat_map-append, flat_map-cons, flat_map_single}
use Rattle.std.proofs.lemmas.List.Quantifiers.{position-Some}
use Rattle.prop_refusals.specs.declared.refusal.Refusal.{Refusal}
use Rattle.prop_refusals.specs.declared.refusal.Refusal.TheVariants.{NameTaken, Memory}
use Rattle.prop_sets.specs.Names.{has_repeat}
use Rattle.prop_sets.specs.inner.Names.{is_among}
use Rattle.prop_sets.proofs.NameLemmas.{no_repeat-push, repeat_from_before}
use Rattle.prop_vocabulary.specs.Names.{number_in, is_missing}
use Rattle.prop_vocabulary.proofs.Lookups.{nowhere}
use Rattle.prop_language.specs.declared.command.KindWord.{KindWord}
use Rattle.prop_language.specs.declared.command.Step.{Step}
use Rattle.prop_language.specs.declared.command.Step.TheVariants as steps
use Rattle.prop_language.specs.Said.{words, step_of}
use Rattle.prop_compound.specs.Defining.{locals_of, cells_in, is_cell_missing}
use Rattle.prop_compound.proofs.Firsts.{list_any-map}

pub late_words : (names : List (List ℕ)) (cells : List (Bor (List ℕ))) (r : Bool)
    → r ≡ list_any (λ name. is_none (number_in names name.now)) cells → r ≡ is_missing names (map (λ x. x.now) cells)
late_words names cells r e = e ∙ sym
    (list_any-map (λ (x : Bor (List ℕ)). x.now) (λ name. is_none (number_in names name)) cells)

-- ---- names that stand twice

-- a name has a number where it is among the names
pub found_any : (names : List (List ℕ)) (name : List ℕ) → is_some (number_in names name) ≡ is_among name names
found_any names name = by (number_in names name) refl
  where
    by : (o : Option ℕ) → number_in names name ≡ o → is_some (number_in names name) ≡ is_among name names
    by None e = ap is_some e ∙ sym (nowhere (bytes_eq name) names e)
    by (Some i) e = let h = position-Some (bytes_eq name) names i [] e in ap is_some e
        ∙ sym (list_any_at (bytes_eq name) names i [] h.0 h.1)

-- a name that is among those before it stands twice
pub repeat_here : (before : List (List ℕ)) (name : List ℕ) (rest : List (List ℕ)) → is_among name before ≡ true
    → has_repeat (before ++ name ∷ rest) ≡ true
repeat_here before name rest h =
    let n = length before in
    let all = before ++ name ∷ rest in
    let here : get_or all n name ≡ name = get_or_at before name rest name n refl in
    let front : take n all ≡ before = take_at before (name ∷ rest) n refl in
    repeat_from_before all n name (omega (arith, length-append before (name ∷ rest))) (rw (here, front) h)

-- what stands twice does so when more follows
pub repeat_still : (names more : List (List ℕ)) → has_repeat names ≡ true → has_repeat (names ++ more) ≡ true
repeat_still [] more h = cc
repeat_still (x ∷ names) more h =
    elim (or_cases (is_among x names) (has_repeat names) h) [
      | inl here ↦ or_left _ _ (list_any-append (bytes_eq x) names more ∙ or_left _ _ here)
      | inr later ↦ or_right _ _ (repeat_still names more later)
    ]

-- the name that a parameter gives, and those that a step gives
abbrev pub named : Bor (List ℕ) → List (List ℕ)
named word = word.now ∷ []

abbrev pub locals_said : Step → List (List ℕ)
locals_said step = locals_of (step_of step)

-- the names that items give, one item after another
module _ {X : Type 0} (give : X → List (List ℕ)) (items : List X) (i : ℕ) (x : X) (l : i < length items)
    (at : x ≡ get_or items i x) where
  pub given_more : flat_map give (take (i + 1) items) ≡ flat_map give (take i items) ++ give x
  given_more =
      ap (flat_map give) (take_more items i x l ∙ ap (λ y. take i items ++ y ∷ []) (sym at))
      ∙ flat_map-append give (take i items) (x ∷ [])
      ∙ ap (λ ys. flat_map give (take i items) ++ ys) (flat_map-cons give x [] ∙ nil (give x))
    where
      nil : (ys : List (List ℕ)) → ys ++ [] ≡ ys
      nil [] = refl
      nil (y ∷ ys) = ap (λ zs. y ∷ zs) (nil ys)

  pub given_all : flat_map give items ≡ flat_map give (take i items) ++ (give x ++ flat_map give (drop (i + 1) items))
  given_all =
      ap (flat_map give) (sym (take-append-drop i items)
      ∙ ap (λ ys. take i items ++ ys) (drop_more items i x l ∙ ap (λ y. y ∷ drop (i + 1) items) (sym at))) ∙
      flat_map-append give (take i items) (x ∷ drop (i + 1) items)
      ∙ ap (λ ys. flat_map give (take i items) ++ ys) (flat_map-cons give x (drop (i + 1) items))

  -- where the names so far and this item's stand twice, all do
  pub repeat_all : (before so_far : List (List ℕ)) → so_far ≡ before ++ flat_map give (take i items)
      → has_repeat (so_far ++ give x) ≡ true → has_repeat (before ++ flat_map give items) ≡ true
  repeat_all before so_far e h =
      let rest = flat_map give (drop (i + 1) items) in
      let all : before ++ flat_map give items ≡ (so_far ++ give x) ++ rest =
      ap (λ ys. before ++ ys) given_all ∙ sym (append_assoc before (flat_map give (take i items)) (give x ++ rest))
      ∙ ap (λ ys. ys ++ (give x ++ rest)) (sym e) ∙ sym (append_assoc so_far (give x) rest) in
      rw all (repeat_still (so_far ++ give x) rest h)

  pub so_far_more : (before so_far new : List (List ℕ)) → so_far ≡ before ++ flat_map give (take i items)
      → new ≡ so_far ++ give x → new ≡ before ++ flat_map give (take (i + 1) items)
  so_far_more before so_far new e f =
      f ∙ ap (λ ys. ys ++ give x) e ∙ append_assoc before (flat_map give (take i items)) (give x)
      ∙ ap (λ ys. before ++ ys) (sym given_more)

-- one parameter more
module _ (params : List (Bor (List ℕ))) (i : ℕ) (d : Bor (List ℕ)) (l : i < length params) where
  same_param : get_or params i d ≡ get_or params i (get_or params i d)
  same_param = get_or_default params i d (get_or params i d) l

  pub repeat_params : (before so_far : List (List ℕ)) → so_far ≡ before ++ flat_map named (take i params)
      → has_repeat (so_far ++ (get_or params i d).now ∷ []) ≡ true → has_repeat (before ++ words params) ≡ true
  repeat_params before so_far e h =
      rw (← flat_map_single (λ (w : Bor (List ℕ)). w.now) params)
      (repeat_all named params i (get_or params i d) l same_param before so_far e h)

  pub params_more : (before so_far new : List (List ℕ)) → so_far ≡ before ++ flat_map named (take i params)
      → new ≡ so_far ++ (get_or params i d).now ∷ [] → new ≡ before ++ flat_map named (take (i + 1) params)
  params_more = so_far_more named params i (get_or params i d) l same_param

-- why names are refused, where more names are refused then
pub taken_then : {P Q : Type 0} (e : Refusal) → (P → Q) → ((e ≡ NameTaken) × P) ⊎ (e ≡ Memory)
    → ((e ≡ NameTaken) × Q) ⊎ (e ≡ Memory)
taken_then e f (inl h) = inl (h.0, f h.1)
taken_then e f (inr h) = inr h

-- one name more
pub pushed_apart : {X : Type 0} (r : Result X Refusal) (old new : List (List ℕ)) (name : List ℕ)
    → has_repeat old ≡ false → OnOk r (new ≡ old ++ name ∷ []) → OnOk r (is_among name old ≡ false)
    → OnOk r (has_repeat new ≡ false)
pushed_apart (Ok x) old new name apart e h = rw e (no_repeat-push old name apart h)
pushed_apart (Err e) old new name apart h k = h

pub pushed_why : {X : Type 0} (r : Result X Refusal) (old : List (List ℕ)) (name : List ℕ)
    → IfErr r (λ e. ((e ≡ NameTaken) × (is_among name old ≡ true)) ⊎ (e ≡ Memory))
    → IfErr r (λ e. ((e ≡ NameTaken) × (has_repeat (old ++ name ∷ []) ≡ true)) ⊎ (e ≡ Memory))
pushed_why (Ok x) old name h = h
pushed_why (Err e) old name h = taken_then e (repeat_here old name []) h

-- the local of a step that makes one
pub local_named : (step : Step) (name : Bor (List ℕ))
    → ((kind : KindWord) × (step ≡ steps.Local name kind)) ⊎ ((like : Bor (List ℕ)) × (step ≡ steps.Like name like))
    → locals_of (step_of step) ≡ name.now ∷ []
local_named step name (inl h) = rw h.1 refl
local_named step name (inr h) = rw h.1 refl

-- the locals behind the parameters
module _ {X : Type 0} (r : Result X Refusal) (none before all params locals : List (List ℕ)) (empty : none ≡ [])
    (first : before ≡ none ++ params) where
  both_in : before ++ locals ≡ params ++ locals
  both_in = ap (λ names. names ++ locals) (first ∙ ap (λ names. names ++ params) empty)

  pub all_pushed : OnOk r (all ≡ before ++ locals) → OnOk r (all ≡ params ++ locals)
  all_pushed h = by r h
    where
      by : (r : Result X Refusal) → OnOk r (all ≡ before ++ locals) → OnOk r (all ≡ params ++ locals)
      by (Ok x) h = h ∙ both_in
      by (Err e) h = h

  pub all_apart : OnOk r (all ≡ before ++ locals) → OnOk r (has_repeat all ≡ false)
      → OnOk r (has_repeat (params ++ locals) ≡ false)
  all_apart h k = by r h k
    where
      by : (r : Result X Refusal) → OnOk r (all ≡ before ++ locals) → OnOk r (has_repeat all ≡ false)
          → OnOk r (has_repeat (params ++ locals) ≡ false)
      by (Ok x) h k = ap has_repeat (sym (h ∙ both_in)) ∙ k
      by (Err e) h k = k

-- why the locals are refused behind the parameters
pub all_why : {X : Type 0} (r : Result X Refusal) (none before params locals : List (List ℕ)) → none ≡ []
    → before ≡ none ++ params →
    IfErr r (λ e. ((e ≡ NameTaken) × (has_repeat (before ++ locals) ≡ true)) ⊎ (e ≡ Memory))
    → IfErr r (λ e. ((e ≡ NameTaken) × (has_repeat (params ++ locals) ≡ true)) ⊎ (e ≡ Memory))
all_why (Ok x) none before params locals empty first h = h
all_why (Err e) none before params locals empty first h =
    taken_then e (λ again. ap (λ names. has_repeat (names ++ locals))
    (sym (first ∙ ap (λ names. names ++ params) empty)) ∙ again) h

-- ---- names among the first ones

-- the name is none of the first so many
abbrev pub late_at : ℕ → Option ℕ → Bool
late_at seen None = true
late_at seen (Some n) = nat_le seen n

not_false : (b : Bool) → b ≡ false → not b ≡ true
not_false b e = ap not e

none_is_not_some : (o : Option ℕ) → is_none o ≡ not (is_some o)
none_is_not_some None = refl
none_is_not_some (Some n) = refl

pub late_is : (names : List (List ℕ)) (seen : ℕ) (name : List ℕ)
    → is_none (number_in (take seen names) name) ≡ late_at seen (number_in names name)
late_is names seen name = by (number_in names name) refl
  where
    first : is_none (number_in (take seen names) name) ≡ not (is_among name (take seen names))
    first = none_is_not_some (number_in (take seen names) name) ∙ ap not (found_any (take seen names) name)

    by : (o : Option ℕ) → number_in names name ≡ o
        → is_none (number_in (take seen names) name) ≡ late_at seen (number_in names name)
    by None e =
        let nowhere_at_all : is_among name names ≡ false = nowhere (bytes_eq name) names e in
        let parts : (is_among name (take seen names) || is_among name (drop seen names)) ≡ false =
        sym (list_any-append (bytes_eq name) (take seen names) (drop seen names))
        ∙ ap (is_among name) (take-append-drop seen names) ∙ nowhere_at_all in
        first ∙ not_false _ (or_parts _ _ parts).0 ∙ sym (ap (late_at seen) e)
    by (Some n) e =
        let h = position-Some (bytes_eq name) names n [] e in
        elim (cases_lt n seen) [
          | inl early ↦
              (let size : n < length (take seen names) = omega (arith, length-take seen names, early, h.0) in
              let here : bytes_eq name (get_or (take seen names) n []) ≡ true =
              ap (bytes_eq name) (get_or-take seen names n [] early) ∙ h.1 in
              first ∙ ap not (list_any_at (bytes_eq name) (take seen names) n [] size here)
              ∙ sym (ap (late_at seen) e ∙ lt-leb seen n early))
          | inr late ↦
              (let none : All (λ other. bytes_eq name other ≡ false) (take seen names) = λ k d l. (
              let below : k < seen = omega (arith, length-take seen names, l) in
              let other = position-Some (bytes_eq name) names n d e in
              ap (bytes_eq name) (get_or-take seen names k d below) ∙ other.2 k (omega (arith, below, late))
              ) in
              first ∙ not_false _ (list_any_none (bytes_eq name) (take seen names) none)
              ∙ sym (ap (late_at seen) e ∙ le-leb seen n late))
        ]

-- ---- one item's names behind the first ones

module _ {X : Type 0} (names : List X) (seen : ℕ) (own more : List X) (within : seen ≤ length names)
    (rest : drop seen names ≡ own ++ more) where
  split : names ≡ (take seen names ++ own) ++ more
  split = sym (take-append-drop seen names) ∙ ap (λ ys. take seen names ++ ys) rest
      ∙ sym (append_assoc (take seen names) own more)

  front : length (take seen names ++ own) ≡ seen + length own
  front = length-append (take seen names) own ∙ ap (λ n. n + length own) (length-take-le seen names within)

  pub taken_on : take (seen + length own) names ≡ take seen names ++ own
  taken_on = ap (take (seen + length own)) split ∙ take_at (take seen names ++ own) more (seen + length own) front

  pub dropped_on : drop (seen + length own) names ≡ more
  dropped_on = ap (drop (seen + length own)) split ∙ drop_at (take seen names ++ own) more (seen + length own) front

  pub within_on : seen + length own ≤ length names
  within_on = omega (arith, ap length split, length-append (take seen names ++ own) more, front)

-- ---- the steps from one on

-- what is known before a step, where so many names have been seen
pub record IsSeen (scope : List (List ℕ)) (params seen : ℕ) (all rest : List Step) : Type 0 where
  pub within : seen ≤ length scope
  pub behind : drop seen scope ≡ flat_map locals_of (map step_of rest)
  pub same : is_cell_missing (take seen scope) (map step_of rest) ≡ is_cell_missing (take params scope)
      (map step_of all)

pub seen_at : (scope : List (List ℕ)) (params seen : ℕ) (all : List Step) (i : ℕ) (step : Step) → i < length all
    → step ≡ get_or all i step → IsSeen scope params seen all (drop i all)
    → IsSeen scope params seen all (step ∷ drop (i + 1) all)
seen_at scope params seen all i step l at h =
    subst (IsSeen scope params seen all) (drop_more all i step l ∙ ap (λ y. y ∷ drop (i + 1) all) (sym at)) h

pub missing_here : (scope : List (List ℕ)) (params seen : ℕ) (all rest : List Step) (step : Step)
    → IsSeen scope params seen all (step ∷ rest) → is_missing (take seen scope) (cells_in (step_of step)) ≡ true
    → is_cell_missing (take params scope) (map step_of all) ≡ true
missing_here scope params seen all rest step h k = sym h.same ∙ or_left _ _ k

pub seen_more : (scope : List (List ℕ)) (params seen : ℕ) (all rest : List Step) (step : Step)
    → IsSeen scope params seen all (step ∷ rest) → is_missing (take seen scope) (cells_in (step_of step)) ≡ false →
    IsSeen scope params (seen + length (locals_said step)) all rest
seen_more scope params seen all rest step h k =
    let own = locals_said step in
    let more = flat_map locals_of (map step_of rest) in
    let behind : drop seen scope ≡ own ++ more = h.behind ∙ flat_map-cons locals_of (step_of step) (map step_of rest) in
    record {
      within = within_on scope seen own more h.within behind;
      behind = dropped_on scope seen own more h.within behind;
      same = rw (taken_on scope seen own more h.within behind)
          (sym (ap (λ b. b || is_cell_missing (take seen scope ++ own) (map step_of rest)) k) ∙ h.same);
    }

pub none_missing : (scope : List (List ℕ)) (params seen : ℕ) (all : List Step) (i : ℕ) → length all ≤ i
    → IsSeen scope params seen all (drop i all) → is_cell_missing (take params scope) (map step_of all) ≡ false
none_missing scope params seen all i l h =
    let at_end : IsSeen scope params seen all [] =
    subst (IsSeen scope params seen all) (drop_all i all l) h in sym at_end.same
