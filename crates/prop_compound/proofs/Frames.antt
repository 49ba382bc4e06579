-- Definitions that are under way: what is left of them, and that less is left with each step.
use Rattle.std.proofs.Common.{◌≡◌, ◌∙◌, ℕ, ◌+◌, ◌-◌, ◌*◌, ◌^◌, ◌<◌, ◌≤◌, List, [], ◌∷◌, ◌++◌, All, Option, Some, None}
use Rattle.std.proofs.Common.{length, drop, get_or, refl, sym, ap, subst, arith}
use Rattle.std.specs.Prelude.{reverse, slice_get, sum_by}
use Rattle.std.specs.Option.{option_map_or}
use Rattle.std.proofs.Math.Nat.{one-le-pow, pow-le-pow_right, mul-le-mul_right, add-mul, mul_comm}
use Rattle.std.proofs.lemmas.Grind.{pow_more}
use Rattle.std.proofs.lemmas.List.{drop_all, length-map}
use Rattle.std.proofs.lemmas.List.Elements.{All-nil, All-head, All-tail, All-push, All-pop, All-weaker}
use Rattle.std.proofs.lemmas.List.Sums.{get_or-le-sum_by, sum_by_push}
use Rattle.prop_procedures.specs.declared.shape.Param.{Param}
use Rattle.prop_procedures.specs.Flats.{param_at}
use Rattle.prop_vocabulary.specs.Vocabulary.{Vocabulary}
use Rattle.prop_compound.specs.declared.definition.KeptDefinition.{KeptDefinition}
use Rattle.prop_compound.specs.declared.definition.NumberedStep.{NumberedStep}
use Rattle.prop_compound.specs.declared.definition.NumberedStep.TheVariants.{Use}
use Rattle.prop_compound.specs.declared.definition.Used.TheVariants as uses
use Rattle.prop_compound.specs.declared.expanding.Frame.{Frame}
use Rattle.prop_compound.specs.declared.walk.Walk as walks
use Rattle.prop_compound.specs.Definitions.{Definition}
use Rattle.prop_compound.specs.Expansion.{Walk, param_passed, expanded_in, steps_expanded, definition_expanded}
use Rattle.prop_compound.specs.Kept.{bare, all_bare, IsUseThere}
use Rattle.prop_compound.specs.inner.Flattened.{walk_of, IsPlaceIn, ArePlaced, IsFurther}
use Rattle.prop_compound.specs.inner.Frames.{used_expanded, IsOnCells, IsStepTaken, IsBegun, IsUnderWay, rest_added}
use Rattle.prop_compound.specs.inner.Frames.{all_added}
use Rattle.prop_compound.specs.inner.Kept.{places_made, IsInScope, AreInScope, IsUseBelow, AreKept}
use Rattle.prop_compound.specs.inner.Shortcuts.{plan_of}
use Rattle.prop_compound.proofs.Firsts.{all_here}
use Rattle.prop_compound.proofs.Placing.{param_still, place_still, none_further, further_on}
use Rattle.prop_compound.proofs.Shorter.{plan_is}
use Rattle.prop_compound.proofs.Unrolling.{Adds}
use Rattle.prop_compound.proofs.Walking.{kept_at, kept_here, params_at, begins, scope_here, scope_behind, goes_on}
use Rattle.prop_compound.proofs.Walking.{on_cells}

-- ---- what is left

module _ (words : Vocabulary) (ks : List KeptDefinition) (params : List Param) where
  -- one more waits
  pub all_added-push : (frames : List Frame) (frame : Frame) (e : Walk)
      → all_added words ks params (frames ++ frame ∷ []) e ≡ all_added words ks params frames
      (rest_added words ks params frame e)
  all_added-push [] frame e = refl
  all_added-push (f ∷ frames) frame e = ap (rest_added words ks params f) (all_added-push frames frame e)

  -- no step is left
  pub rest_none : (frame : Frame) (e : Walk) → length (plan_of ks frame.number) ≤ frame.next
      → rest_added words ks params frame e ≡ e
  rest_none frame e l =
      ap (λ steps. steps_expanded (param_passed words)
      (definition_expanded (param_passed words) (reverse (all_bare ks))) (param_at params frame.given)
      frame.cells.items steps e) (drop_all frame.next (plan_of ks frame.number) l)

  -- all steps are left
  pub rest_all : (frame : Frame) (e : Walk) → AreKept ks → frame.number < length ks → frame.next ≡ 0
      → option_map_or (λ (d : Definition). d.params) (slice_get (all_bare ks) frame.number) 0 ≡ length frame.cells.items
      →
      rest_added words ks params frame e ≡ expanded_in (param_passed words) (all_bare ks) (uses.Definition frame.number)
      frame.cells.items (param_at params frame.given) e
  rest_all frame e kept there first count =
      let found = kept_at ks frame.number there in
      let k = found.0 in
      let at : k ≡ get_or ks frame.number k = sym found.1 in
      let params_count = params_at ks frame.number k (length frame.cells.items) there at count in
      (λ i. steps_expanded (param_passed words) (definition_expanded (param_passed words) (reverse (all_bare ks)))
      (param_at params frame.given) frame.cells.items (drop (first i) (plan_is ks kept frame.number k there at i))
      e) ∙
      begins words ks frame.number k frame.cells.items (param_at params frame.given) e kept there at (sym params_count)

-- more parameters change nothing of it
module _ (ks : List KeptDefinition) (params params' more : List Param) (grown : params' ≡ params ++ more) where
  pub under_way_still : (frame : Frame) → IsUnderWay ks params frame → IsUnderWay ks params' frame
  under_way_still frame h = record {
    number = h.number;
    in_scope = h.in_scope;
    given = place_still params params' more grown frame.given h.given;
  }

  pub all_still : (frames : List Frame) → All (IsUnderWay ks params) frames → All (IsUnderWay ks params') frames
  all_still frames h = All-weaker (IsUnderWay ks params) (IsUnderWay ks params') under_way_still frames h

  pub added_still : (words : Vocabulary) (frames : List Frame) (e : Walk) → All (IsUnderWay ks params) frames
      → all_added words ks params' frames e ≡ all_added words ks params frames e
  added_still words [] e h = refl
  added_still words (frame ∷ frames) e h =
      let here = All-head (IsUnderWay ks params) frame frames h in
      λ i. steps_expanded (param_passed words) (definition_expanded (param_passed words) (reverse (all_bare ks)))
      (param_still params params' more grown frame.given here.given i) frame.cells.items
      (drop frame.next (plan_of ks frame.number))
      (added_still words frames e (All-tail (IsUnderWay ks params) frame frames h) i)

-- ---- less is left with each step

-- what a step of a definition counts, as a base: more than the plan of any definition has steps
abbrev pub base : List KeptDefinition → ℕ
base ks = sum_by (λ (k : KeptDefinition). length k.plan.items) ks + 2

-- A step of a definition counts more than all the steps of a definition before it.
abbrev pub left : List KeptDefinition → Frame → ℕ
left ks frame = (length (plan_of ks frame.number) - frame.next) * base ks ^ frame.number + 1

abbrev pub all_left : List KeptDefinition → List Frame → Frame → ℕ
all_left ks frames frame = sum_by (left ks) frames + left ks frame

module _ (ks : List KeptDefinition) (kept : AreKept ks) where
  plan_short : (n : ℕ) → n < length ks → length (plan_of ks n) + 2 ≤ base ks
  plan_short n l =
      let found = kept_at ks n l in
      let k = found.0 in
      let at : k ≡ get_or ks n k = sym found.1 in
      omega (
        arith,
        ap length (plan_is ks kept n k l at),
        ap (λ (k : KeptDefinition). length k.plan.items) at,
        get_or-le-sum_by (λ (k : KeptDefinition). length k.plan.items) ks n k l,
      )

  -- one step is taken
  pub step_less : (frame frame' : Frame) → frame.next < length (plan_of ks frame.number) → frame'.number ≡ frame.number
      → frame'.next ≡ frame.next + 1 → left ks frame' + base ks ^ frame.number ≡ left ks frame
  step_less frame frame' l n m =
      let steps = length (plan_of ks frame.number) in
      let power = base ks ^ frame.number in
      let fewer = steps - (frame.next + 1) in
      let now : left ks frame' ≡ fewer * power + 1 = λ i. (length (plan_of ks (n i)) - m i) * base ks ^ n i + 1 in
      let before : left ks frame ≡ (fewer + 1) * power + 1 = ap (λ d. d * power + 1) (omega arith) in
      omega (arith, now, before, add-mul fewer 1 power)

  -- all the steps of a definition count less than one step of one behind it
  pub plan_less : (used : Frame) (n : ℕ) → used.number < n → used.number < length ks → left ks used < base ks ^ n
  plan_less used n before there =
      let steps = length (plan_of ks used.number) in
      let power = base ks ^ used.number in
      let some = one-le-pow used.number (base ks) (omega arith) in
      let fewer : (steps - used.next) * power ≤ steps * power = mul-le-mul_right power (omega arith) in
      let short : (steps + 2) * power ≤ base ks * power = mul-le-mul_right power (plan_short used.number there) in
      let up : base ks ^ (used.number + 1) ≤ base ks ^ n = pow-le-pow_right (omega arith) (omega arith) in
      omega (
        arith,
        some,
        fewer,
        short,
        up,
        pow_more (base ks) used.number,
        mul_comm (base ks) power,
        add-mul steps 2 power,
      )

-- ---- one step

-- before its first step
pub first_on_its_way : (ks : List KeptDefinition) → AreKept ks → (params : List Param) (frame : Frame)
    → frame.number < length ks → frame.next ≡ 0 →
    option_map_or (λ (d : Definition). d.params) (slice_get (all_bare ks) frame.number) 0 ≡ length frame.cells.items
    → IsPlaceIn params frame.given → IsUnderWay ks params frame
first_on_its_way ks kept params frame there first count given =
    let found = kept_at ks frame.number there in
    let k = found.0 in
    let is : k ≡ get_or ks frame.number k = sym found.1 in
    let cells = params_at ks frame.number k (length frame.cells.items) there is count in
    let plan = plan_is ks kept frame.number k there is in record {
      number = there;
      in_scope = rw (first, plan, ← cells) (kept_here ks frame.number k kept there is).plan_in_scope;
      given = given;
    }

-- one that waited goes on
pub back_less : (ks : List KeptDefinition) (waiting before : List Frame) (frame last : Frame)
    → waiting ≡ before ++ last ∷ [] → all_left ks before last < all_left ks waiting frame
back_less ks waiting before frame last waits =
    omega (arith, ap (sum_by (left ks)) waits, sum_by_push (left ks) before last)

-- Behind what was added so far, what is left adds what the whole use does, which was begun with the first frame over
-- the first walk.
pub record IsOnTheWay (words : Vocabulary) (ks : List KeptDefinition) (first : Frame) (begin : walks.Walk)
    (waiting : List Frame) (frame : Frame) (walk : walks.Walk) : Type 0 where
  pub same : all_added words ks walk.params.items waiting
      (rest_added words ks walk.params.items frame (walk_of walk)) ≡ expanded_in (param_passed words) (all_bare ks)
      (uses.Definition first.number) first.cells.items (param_at begin.params.items first.given) (walk_of begin)
  pub current : IsUnderWay ks walk.params.items frame
  pub others : All (IsUnderWay ks walk.params.items) waiting
  pub further : IsFurther begin walk

module _ (words : Vocabulary) (ks : List KeptDefinition) (first : Frame) (begin : walks.Walk) where
  pub begun : AreKept ks → IsUseThere (all_bare ks) (uses.Definition first.number) (length first.cells.items)
      → first.next ≡ 0 → IsPlaceIn begin.params.items first.given → ArePlaced begin →
      (waiting : List Frame) → waiting ≡ [] → IsOnTheWay words ks first begin waiting first begin
  begun kept is_there next given placed waiting none = let l = is_there.0 in let there : first.number < length ks =
      omega (arith, l, length-map ks bare) in record {
        same = rw none (rest_all words ks begin.params.items first (walk_of begin) kept there next is_there.1);
        current = first_on_its_way ks kept begin.params.items first there next is_there.1 given;
        others = rw none (All-nil (IsUnderWay ks begin.params.items));
        further = none_further begin placed;
      }

  module _ (waiting : List Frame) (frame : Frame) (walk : walks.Walk)
      (way : IsOnTheWay words ks first begin waiting frame walk) (kept : AreKept ks) (k : KeptDefinition)
      (is : k ≡ get_or ks frame.number k) where
    planned : plan_of ks frame.number ≡ k.plan.items
    planned = plan_is ks kept frame.number k way.current.number is

    -- no step is left
    module _ (over : length k.plan.items ≤ frame.next) where
      nothing_left : (e : Walk) → rest_added words ks walk.params.items frame e ≡ e
      nothing_left e = rest_none words ks walk.params.items frame e
          (subst (λ steps. length steps ≤ frame.next) (sym planned) over)

      -- and none waits
      pub all_done : waiting ≡ [] → walk_of walk ≡ expanded_in (param_passed words) (all_bare ks)
          (uses.Definition first.number) first.cells.items (param_at begin.params.items first.given) (walk_of begin)
      all_done none =
          sym (ap (λ frames. all_added words ks walk.params.items frames
          (rest_added words ks walk.params.items frame (walk_of walk))) none ∙ nothing_left (walk_of walk))
          ∙ way.same

      -- and one waits
      pub goes_back : (before : List Frame) (last : Frame) → waiting ≡ before ++ last ∷ []
          → IsOnTheWay words ks first begin before last walk
      goes_back before last waits = let others =
          All-pop (IsUnderWay ks walk.params.items) waiting before (Some last) waits way.others in record {
            same =
                sym (all_added-push words ks walk.params.items before last (walk_of walk)) ∙
                (λ i. all_added words ks walk.params.items (sym waits i) (sym (nothing_left (walk_of walk)) i)) ∙ way.same;
            current = others.1;
            others = others.0;
            further = way.further;
          }

    -- a step is left
    module _ (step : NumberedStep) (within : frame.next < length k.plan.items)
        (item : step ≡ get_or k.plan.items frame.next step) where
      abbrev plan : List NumberedStep
      plan = plan_of ks frame.number

      abbrev M : Adds
      M = definition_expanded (param_passed words) (reverse (all_bare ks))

      l : frame.next < length (plan_of ks frame.number)
      l = subst (λ steps. frame.next < length steps) (sym planned) within

      at : step ≡ get_or (plan_of ks frame.number) frame.next step
      at = subst (λ steps. step ≡ get_or steps frame.next step) (sym planned) item

      pub step_in_scope : IsInScope (length frame.cells.items) step
      step_in_scope = scope_here plan frame.next step l at (length frame.cells.items) way.current.in_scope

      below : IsUseBelow (all_bare ks) frame.number step
      below =
          all_here k.plan.items frame.next step within item (IsUseBelow (all_bare ks) frame.number)
          (kept_here ks frame.number k kept way.current.number is).plan_uses

      pub step_on_cells : IsOnCells step
      step_on_cells = on_cells (all_bare ks) frame.number step below

      -- which is taken
      module _ (frame' : Frame) (walk' : walks.Walk)
          (same : frame' ≡ record frame { next = frame.next + 1; cells = frame'.cells })
          (made : length frame'.cells.items ≡ length frame.cells.items + places_made step)
          (further : IsFurther walk walk') where
        still : param_at walk'.params.items frame.given ≡ param_at walk.params.items frame.given
        still = param_still walk.params.items walk'.params.items further.more further.params frame.given
            way.current.given

        -- what was left of it is what is left, behind what the step uses
        rest_taken : (used : Option Frame) → IsStepTaken words step frame walk frame' walk' used →
            rest_added words ks walk'.params.items frame'
            (used_expanded words (all_bare ks) walk'.params.items used (walk_of walk')) ≡ rest_added words ks
            walk.params.items frame (walk_of walk)
        rest_taken used taken =
            let e' = used_expanded words (all_bare ks) walk'.params.items used (walk_of walk') in
            (λ i. steps_expanded (param_passed words) M (param_at walk'.params.items (same i).given) frame'.cells.items
            (drop (same i).next (plan_of ks (same i).number)) e') ∙
            ap (λ p. steps_expanded (param_passed words) M p frame'.cells.items (drop (frame.next + 1) plan) e') still ∙
            goes_on plan frame.next step l at words M (param_at walk.params.items frame.given) frame.cells.items
            frame'.cells.items (walk_of walk) e' (taken (all_bare ks))

        all_taken : (used : Option Frame) → IsStepTaken words step frame walk frame' walk' used →
            all_added words ks walk'.params.items waiting
            (rest_added words ks walk'.params.items frame'
            (used_expanded words (all_bare ks) walk'.params.items used (walk_of walk'))) ≡ all_added words ks
            walk.params.items waiting (rest_added words ks walk.params.items frame (walk_of walk))
        all_taken used taken =
            added_still ks walk.params.items walk'.params.items further.more further.params words waiting
            (rest_added words ks walk'.params.items frame'
            (used_expanded words (all_bare ks) walk'.params.items used (walk_of walk'))) way.others ∙
            ap (all_added words ks walk.params.items waiting) (rest_taken used taken)

        all_wait : All (IsUnderWay ks walk'.params.items) waiting
        all_wait = all_still ks walk.params.items walk'.params.items further.more further.params waiting way.others

        on_its_way : IsUnderWay ks walk'.params.items frame'
        on_its_way = record {
          number = subst (λ n. n < length ks) (sym (ap (λ (f : Frame). f.number) same)) way.current.number;
          in_scope =
              subst (λ (f : Frame). AreInScope (length frame'.cells.items) (drop f.next (plan_of ks f.number)))
              (sym same)
              (scope_behind plan frame.next step l at (length frame.cells.items) (length frame'.cells.items) made
              way.current.in_scope);
          given = subst (λ (f : Frame). IsPlaceIn walk'.params.items f.given) (sym same)
              (place_still walk.params.items walk'.params.items further.more further.params frame.given
              way.current.given);
        }

        less : left ks frame' + base ks ^ frame.number ≡ left ks frame
        less = step_less ks kept frame frame' l (ap (λ (f : Frame). f.number) same) (ap (λ (f : Frame). f.next) same)

        -- and uses no definition
        pub goes_past : (used : Option Frame) → used ≡ None → IsStepTaken words step frame walk frame' walk' used
            → IsOnTheWay words ks first begin waiting frame' walk'
        goes_past used none taken = record {
          same = all_taken None (subst (IsStepTaken words step frame walk frame' walk') none taken) ∙ way.same;
          current = on_its_way;
          others = all_wait;
          further = further_on begin walk walk' way.further further;
        }

        pub past_less : all_left ks waiting frame' < all_left ks waiting frame
        past_less = omega (arith, less, one-le-pow frame.number (base ks) (omega arith))

        -- and uses a definition
        module _ (used : Frame) (begun : IsBegun step walk' used) where
          its : IsUseBelow (all_bare ks) frame.number (Use (uses.Definition used.number) begun.places begun.passing)
          its = subst (IsUseBelow (all_bare ks) frame.number) begun.is below

          there : used.number < length ks
          there = let n = way.current.number in let b = its.0 in omega (arith, n, b)

          count : option_map_or (λ (d : Definition). d.params) (slice_get (all_bare ks) used.number) 0 ≡ length
              used.cells.items
          count = its.1 ∙ sym begun.count

          module _ (waiting' : List Frame) (pushed : waiting' ≡ waiting ++ frame' ∷ []) where
            pub goes_in : (o : Option Frame) → o ≡ Some used → IsStepTaken words step frame walk frame' walk' o
                → IsOnTheWay words ks first begin waiting' used walk'
            goes_in o some taken = record {
              same =
                  (λ i. all_added words ks walk'.params.items (pushed i)
                  (rest_all words ks walk'.params.items used (walk_of walk') kept there begun.next count i)) ∙
                  all_added-push words ks walk'.params.items waiting frame'
                  (used_expanded words (all_bare ks) walk'.params.items (Some used) (walk_of walk')) ∙
                  all_taken (Some used) (subst (IsStepTaken words step frame walk frame' walk') some taken) ∙ way.same;
              current = first_on_its_way ks kept walk'.params.items used there begun.next count begun.given;
              others = rw pushed (All-push (IsUnderWay ks walk'.params.items) waiting frame' all_wait on_its_way);
              further = further_on begin walk walk' way.further further;
            }

            pub in_less : all_left ks waiting' used < all_left ks waiting frame
            in_less =
                omega (
                  arith,
                  less,
                  plan_less ks kept used frame.number its.0 there,
                  ap (sum_by (left ks)) pushed,
                  sum_by_push (left ks) waiting frame',
                )
