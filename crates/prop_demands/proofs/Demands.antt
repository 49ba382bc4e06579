-- What a line posts demands what its term says, where its premise is believed.
use Rattle.std.proofs.Common.{◌≡◌, ◌∙◌, ℕ, zero, suc, ◌<◌, List, [], ◌∷◌, ◌++◌, All, length, map, take, Option, None}
use Rattle.std.proofs.Common.{true, Result, Ok, Err, refl, ap, sym, subst, inl, inr, append_assoc}
use Rattle.std.specs.Prelude.{⊤}
use Rattle.std.specs.List.{range_with_len}
use Rattle.std.specs.Option.{option_map}
use Rattle.prop_refusals.specs.declared.refusal.Refusal.{Refusal}
use Rattle.prop_lattice.specs.Ends.{elements_from}
use Rattle.prop_lattice.specs.Points.{Point}
use Rattle.prop_lattice.specs.declared.info.Info.{Info}
use Rattle.prop_lattice.specs.declared.span.Span.{Span}
use Rattle.prop_numbers.specs.Sets.{Members}
use Rattle.prop_premises.specs.Origins.{Origin}
use Rattle.prop_procedures.specs.Stored.{Stored}
use Rattle.prop_procedures.specs.declared.shape.Kinded.{Kinded}
use Rattle.prop_cells.specs.Data.{Data, IsKept}
use Rattle.prop_cells.specs.Instances as instances
use Rattle.prop_cells.specs.Points.{Attached}
use Rattle.prop_cells.specs.declared.instance.Statement.{Statement}
use Rattle.prop_scheduler.specs.Making.{made_of}
use Rattle.prop_compound.specs.Definitions.{Definitions}
use Rattle.prop_compound.specs.Kinds.{IsSized}
use Rattle.prop_vocabulary.specs.Cells.{CellNames}
use Rattle.prop_vocabulary.specs.Vocabulary as vocabularies
use Rattle.prop_vocabulary.specs.Vocabulary.{Vocabulary}
use Rattle.prop_terms.specs.Terms.{Term}
use Rattle.prop_meaning.specs.declared.acts.Act.{Act}
use Rattle.prop_workbench.specs.Effects.{number_given}
use Rattle.prop_workbench.specs.Machine.{State}
use Rattle.prop_workbench.specs.Points.{attached_in}
use Rattle.prop_workbench.specs.Posting.{IsPosted, posted, statement_at, with_fixed, with_placed}
use Rattle.prop_workbench.specs.Sessions.{state_from}
use Rattle.prop_workbench.specs.declared.posting.Posting.{Posting}
use Rattle.prop_workbench.specs.declared.posting.Stated.{Stated}
use Rattle.prop_demands.specs.Demanding.{Demands, HoldsUnder, demanded}
use Rattle.prop_demands.specs.inner.Laws.{IsSolid, PostingDemands}
use Rattle.prop_demands.specs.inner.Glossaries.{IsWhole, lexicon_in, seen}
use Rattle.prop_demands.specs.inner.Palettes.{IsPalette, is_taken}
use Rattle.prop_demands.specs.inner.Postings.{IsUnderstood, constant_of}
use Rattle.prop_demands.proofs.Lists.{by_recursion}
use Rattle.prop_demands.proofs.Placing.{act_made, all_made}
use Rattle.prop_demands.proofs.Demanding.{joined, stated_at}
use Rattle.prop_demands.proofs.Core.{Asks, asks_nothing, asks_term}

-- ---- lists

map_fused : (n : ℕ) (xs : List Stated) → map (statement_at None (range_with_len 0 n) n) xs
    ≡ map (stated_at n None) (map constant_of xs)
map_fused n [] = refl
map_fused n (x ∷ xs) = let rest = map_fused n xs in λ i. stated_at n None (constant_of x) ∷ rest i

take_mapped : (k : ℕ) (xs : List Stated) → map constant_of (take k xs) ≡ take k (map constant_of xs)
take_mapped zero xs = refl
take_mapped (suc k) [] = refl
take_mapped (suc k) (x ∷ xs) = let rest = take_mapped k xs in λ i. constant_of x ∷ rest i

module _ (library : List Stored) (palette : IsPalette library) (names : CellNames) (words : Vocabulary)
    (definitions : Definitions) (premises : List Origin) (d : Data) (limit : ℕ) (whole : Span) (domains : ℕ)
    (law : vocabularies.IsWhole words) (sized : All (IsSized words) d.kinds)
    (named : All (λ cell. cell < length d.kinds) names.cells) (is_whole : IsWhole whole) (kept : IsKept library d)
    (t : Term) (p : Posting) (u : IsUnderstood (lexicon_in (seen names words d whole domains)) words d.kinds t p)
  where
    abbrev s : State
    s = state_from names words definitions premises d limit

    abbrev n : Attached
    n = attached_in s

    abbrev count : ℕ
    count = length d.kinds

    abbrev cells : List ℕ
    cells = range_with_len 0 count

    abbrev fresh : List Kinded
    fresh = u.posted.fresh.items

    abbrev made : List instances.Instance
    made = map act_made u.posted.acts.items

    abbrev fixed : List (ℕ × Info) → List Statement
    fixed constants = map (stated_at count None) constants

    abbrev last : Option ℕ → List Statement
    last under = stated_at count under (u.posted.result, elements_from 1) ∷ []

    made_is : map (made_of library p.flat.params.items cells count) p.flat.instances.items ≡ made
    made_is =
        ap (λ ps. map (made_of library ps cells count) p.flat.instances.items) u.posting.flat.params
        ∙ all_made library palette count p.flat.instances.items u.posted.acts.items u.posting.flat.instances
        (by_recursion (λ (a : Act). is_taken a.rule ≡ true) u.posted.acts.items
        (λ k e l. (u.fits.acts k e l).taken))

    -- ---- what is there then

    posted_is : (premise : Option (List ℕ)) → attached_in (posted library s cells p premise)
        ≡ joined n fresh (fixed u.posted.constants.items ++ last (option_map (number_given premises) premise)) made
    posted_is premise =
        let under = option_map (number_given premises) premise in
        let constants = map (statement_at None cells count) p.fixed.items in
        let told = statement_at under cells count p.told ∷ [] in
        let same : constants ≡ fixed u.posted.constants.items =
        map_fused count p.fixed.items ∙ ap fixed u.posting.fixed in
        let stated = append_assoc d.statements constants told
        ∙ ap (λ c. d.statements ++ (c ++ told)) same
        ∙ ap (λ c. d.statements ++ (fixed u.posted.constants.items ++ stated_at count under c ∷ [])) u.posting.told in
        λ i. record {
          kinds = d.kinds ++ u.posting.flat.fresh i;
          statements = stated i;
          instances = d.instances ++ made_is i;
        }

    left_is : (k : ℕ) → attached_in (with_fixed (with_placed library s cells p.flat) cells count (take k p.fixed.items))
        ≡ joined n fresh (fixed (take k u.posted.constants.items)) made
    left_is k =
        let same = map_fused count (take k p.fixed.items) ∙ ap fixed (take_mapped k p.fixed.items)
        ∙ ap (λ cs. fixed (take k cs)) u.posting.fixed in
        λ i. record {
          kinds = d.kinds ++ u.posting.flat.fresh i;
          statements = d.statements ++ same i;
          instances = d.instances ++ made_is i;
        }

    -- ---- what is demanded

    demands_from : (new : State) (Meet : Members → (ℕ → Point) → Type 0) → Asks library n (attached_in new) Meet
        → Demands library s new Meet
    demands_from new Meet a = record { kept = a.kept; found = a.found }

    same_demanded : (new : State) → new ≡ s → Demands library s new (λ believed points. ⊤)
    same_demanded new e =
        let P : State → Type 0 = λ x. Demands library s x (λ believed points. ⊤) in
        subst P (sym e) (record {
          kept = λ believed points q. (q, tt);
          found = λ believed points q meets. (points, λ cell l. refl, q);
        })

    asked : (new : State) (then : Attached) (Meet : Members → (ℕ → Point) → Type 0) → attached_in new ≡ then
        → IsSolid library (attached_in new) → (IsSolid library then → Asks library n then Meet)
        → Demands library s new Meet
    asked new then Meet e solid asks =
        let P : Attached → Type 0 = λ a. Asks library n a Meet in
        demands_from new Meet (subst P (sym e) (asks (subst (IsSolid library) e solid)))

    pub demands_met : (new : State) (premise : Option (List ℕ)) (result : Result ⊤ Refusal)
        → IsSolid library (attached_in new) → IsPosted library s cells p premise result new
        → Demands library s new (demanded s t premise result)
    demands_met new premise (Ok done) solid is =
        asked new _ (HoldsUnder s t premise) (ap attached_in is.1 ∙ posted_is premise) solid
        (λ then. asks_term library palette names words d whole domains law sized named is_whole kept t u.posted u.says
        u.fits.sized (option_map (number_given premises) premise) then)
    demands_met new premise (Err e) solid (inl is) = same_demanded new is.1
    demands_met new premise (Err e) solid (inr (m, inl is)) = same_demanded new is
    demands_met new premise (Err e) solid (inr (m, inr (k, is))) =
        asked new _ (λ believed points. ⊤) (ap attached_in is ∙ left_is k) solid
        (λ then. asks_nothing library palette names words d whole domains law sized named is_whole kept t u.posted
        u.says u.fits.sized k then)

pub posting_demands : (library : List Stored) → PostingDemands library
posting_demands library names words definitions premises d limit whole domains t p palette ground is_whole u new premise
    result solid posted =
    demands_met library palette names words definitions premises d limit whole domains ground.law ground.sized
    ground.named is_whole ground.kept t p u new premise result solid posted
