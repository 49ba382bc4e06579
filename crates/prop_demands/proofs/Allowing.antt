-- What a term becomes may be posted: it fits what is there.
use Rattle.std.proofs.Common.{◌≡◌, ◌∙◌, ℕ, zero, suc, ◌+◌, ◌-◌, ◌^◌, ◌<◌, ◌≤◌, List, [], ◌∷◌, ◌++◌, All, length}
use Rattle.std.proofs.Common.{get_or, map, Option, None, refl, ap, sym, subst, arith, true}
use Rattle.std.specs.Prelude.{slice_get, zip}
use Rattle.std.specs.List.{range_with_len}
use Rattle.std.specs.Option.{option_and_then}
use Rattle.std.proofs.lemmas.List.{length-append, length-map}
use Rattle.std.proofs.lemmas.List.Elements.{All-head, All-tail}
use Rattle.std.proofs.lemmas.List.FromFn.{get_or-range_with_len, length-range_with_len}
use Rattle.prop_lattice.specs.Ends.{elements_from}
use Rattle.prop_lattice.specs.declared.info.Info.{Info}
use Rattle.prop_procedures.specs.Fitting.{kind_at, kinds_fit}
use Rattle.prop_procedures.specs.Flats.{cell_placed, cells_of, param_at}
use Rattle.prop_procedures.specs.Rules.{sides_of}
use Rattle.prop_procedures.specs.Stored.{Stored, are_right}
use Rattle.prop_procedures.specs.declared.flat.Placed.{Placed}
use Rattle.prop_procedures.specs.declared.shape.Kinded.{Kinded}
use Rattle.prop_procedures.specs.declared.shape.Need.{Need}
use Rattle.prop_procedures.specs.declared.shape.Shape.{Shape}
use Rattle.prop_scheduler.specs.Making.{MayBeMade}
use Rattle.prop_meaning.specs.Acts.{inputs_of}
use Rattle.prop_meaning.specs.Palette.{Instance, instance_of, numbered, param_place}
use Rattle.prop_meaning.specs.Words.{Lexicon}
use Rattle.prop_meaning.specs.declared.acts.Act.{Act}
use Rattle.prop_terms.specs.Terms.{Term}
use Rattle.prop_workbench.specs.Machine.{State}
use Rattle.prop_workbench.specs.Posting.{MayBeAt, MayBePosted}
use Rattle.prop_workbench.specs.declared.posting.Posting.{Posting}
use Rattle.prop_workbench.specs.declared.posting.Stated.{Stated}
use Rattle.prop_demands.specs.inner.Laws.{MayAllBePosted}
use Rattle.prop_workbench.specs.Sessions.{state_from}
use Rattle.prop_demands.specs.inner.Fitting.{Admits, Fits}
use Rattle.prop_demands.specs.inner.Palettes.{IsPalette, rule_number}
use Rattle.prop_demands.specs.inner.Postings.{IsUnderstood, constant_of}
use Rattle.prop_demands.proofs.Lists.{map_same}
use Rattle.prop_demands.proofs.Placing.{no_sides, param_taken, params, placed_all, placed_there}

-- a list of what is seen so, where another is, holds what each of that other one gives
all_seen : {X Y Z : Type 0} (f : X → Z) (g : Y → Z) (P : X → Type 0) (Q : Y → Type 0) (xs : List X) (ys : List Y)
    → map f xs ≡ map g ys → ((x : X) (y : Y) → f x ≡ g y → Q y → P x) → All Q ys → All P xs
all_seen f g P Q [] ys e h q k d l = absurd (omega (arith, l))
all_seen f g P Q (x ∷ xs) [] e h q k d l = absurd (omega (arith, ap length e, length-map xs f))
all_seen f g P Q (x ∷ xs) (y ∷ ys) e h q zero d l =
    let head : f x ≡ g y = cc in h x y head (All-head Q y ys q)
all_seen f g P Q (x ∷ xs) (y ∷ ys) e h q (suc k) d l =
    let tail : map f xs ≡ map g ys = cc in
    all_seen f g P Q xs ys tail h (All-tail Q y ys q) k d (omega (arith, l))

module _ (library : List Stored) (palette : IsPalette library) (kinds : List Kinded) (n : ℕ)
    (few : n ≤ 100_000) (room : length kinds ≤ 100_000)
  where
    abbrev cells : List ℕ
    cells = range_with_len 0 n

    small : (places : List ℕ) → All (λ c. c < length kinds) places
        → All (λ place. n + (place - length cells) < 2 ^ 64) places
    small places h k d l =
        let below : get_or places k d < length kinds = h k d l in
        omega (arith, below, few, room, length-range_with_len 0 n)

    is_right : (p : Stored) (ins : List Shape) (out : Shape) (need : Need) (given : Option _) (places : List ℕ)
        → p.ins ≡ ins → p.out ≡ out → p.need ≡ need
        → are_right need given (zip (ins ++ out ∷ []) (map (kind_at kinds) places)) ≡ true
        → kinds_fit p kinds given (map (cell_placed cells n) places) ≡ true
    is_right p ins out need given places e f g h = rw (placed_all n places, e, f, g) h

    pub may_be_made : (x : Placed) (act : Act) → instance_of x ≡ numbered rule_number act → Fits kinds act
        → MayBeMade library kinds params cells n x
    may_be_made x act e fits =
        let form = palette.forms act.rule in
        let p = form.0 in
        let number : x.procedure ≡ rule_number act.rule = ap (λ (i : Instance). i.procedure) e in
        let ins : x.inputs.items ≡ inputs_of act.inputs = ap (λ (i : Instance). i.inputs) e in
        let place : x.param ≡ param_place act.rule = ap (λ (i : Instance). i.param) e in
        let all : cells_of x ≡ inputs_of act.inputs ++ act.output ∷ [] =
        ap (λ (i : Instance). i.inputs ++ i.output ∷ []) e in
        let there : All (λ c. c < length kinds) (cells_of x) =
        subst (λ (cs : List ℕ). All (λ c. c < length kinds) cs) (sym all) fits.right.there in
        let sides : option_and_then sides_of (param_at params x.param) ≡ None =
        ap (λ o. option_and_then sides_of (param_at params o)) place ∙ no_sides act.rule in
        record {
          procedure = p;
          at = ap (slice_get library) number ∙ form.1;
          count = ap length ins ∙ fits.right.count ∙ ap length (sym form.2.ins);
          small = small (cells_of x) there;
          below = rw (placed_all n (cells_of x)) there;
          right = rw (sides, all) (is_right p _ _ _ None (inputs_of act.inputs ++ act.output ∷ []) form.2.ins form.2.out
              form.2.need fits.right.right);
          takes = rw (place, form.2.need, param_taken act.rule fits.taken) refl;
        }

pub may_be_at : (given fresh : List Kinded) (x : Stated) (c : ℕ × Info) → constant_of x ≡ c
    → Admits (given ++ fresh) c.0 c.1 → MayBeAt given fresh (range_with_len 0 (length given)) x
may_be_at given fresh x c e admits =
    let place : x.place ≡ c.0 = ap (λ (y : ℕ × Info). y.0) e in
    let info : x.info ≡ c.1 = ap (λ (y : ℕ × Info). y.1) e in
    record {
      place = omega (arith, admits.there, place, length-append given fresh, length-range_with_len 0 (length given));
      may = rw (placed_there (length given) x.place, place, info) admits.may;
    }

pub may_be_posted : (library : List Stored) (s : State) (lexicon : Lexicon) (t : Term) (p : Posting)
    → IsPalette library → length s.kinds ≤ 100_000 → IsUnderstood lexicon s.words s.kinds t p
    → MayBePosted library s (range_with_len 0 (length s.kinds)) p
may_be_posted library s lexicon t p palette few u =
    let n = length s.kinds in
    let fresh = u.posting.flat.fresh in
    let given = length-range_with_len 0 n in
    record {
      there = λ k d l. omega (arith, get_or-range_with_len 0 n k d (omega (arith, l, given)), l, given);
      sized = rw fresh u.fits.sized;
      made = λ room.
          rw (fresh, u.posting.flat.params)
          (all_seen instance_of (numbered rule_number)
          (MayBeMade library (s.kinds ++ u.posted.fresh.items) params (range_with_len 0 n) n)
          (Fits (s.kinds ++ u.posted.fresh.items)) p.flat.instances.items u.posted.acts.items u.posting.flat.instances
          (λ x act e fits. may_be_made library palette (s.kinds ++ u.posted.fresh.items) n few
          (omega (arith, room, length-append s.kinds u.posted.fresh.items, ap length fresh)) x act e fits)
          u.fits.acts);
      fixed = rw fresh
          (all_seen constant_of (λ c. c) (MayBeAt s.kinds u.posted.fresh.items (range_with_len 0 n))
          (λ (c : ℕ × Info). Admits (s.kinds ++ u.posted.fresh.items) c.0 c.1) p.fixed.items u.posted.constants.items
          (u.posting.fixed ∙ sym (map_same (λ (c : ℕ × Info). c) u.posted.constants.items (λ c. refl)))
          (λ x c e admits. may_be_at s.kinds u.posted.fresh.items x c e admits) u.fits.constants);
      told = rw fresh (may_be_at s.kinds u.posted.fresh.items p.told (u.posted.result, elements_from 1) u.posting.told
          u.fits.result);
    }

pub all_may_be_posted : (library : List Stored) → MayAllBePosted library
all_may_be_posted library names words definitions premises d limit whole domains t p palette few u =
    may_be_posted library (state_from names words definitions premises d limit) _ t p palette few u
