-- What is attached to cells for a term demands what it says: no point is lost, and none is wrong.
use Rattle.std.proofs.Common.{◌≡◌, ◌∙◌, ℕ, zero, suc, ◌<◌, List, [], ◌∷◌, ◌++◌, All, IsTrue, length}
use Rattle.std.proofs.Common.{map, Option, None, ap, sym, subst, take}
use Rattle.std.specs.Prelude.{⊤}
use Rattle.std.specs.List.{AllByRecursion}
use Rattle.std.proofs.lemmas.List.Elements.{All-append}
use Rattle.prop_lattice.specs.Ends.{elements_from}
use Rattle.prop_lattice.specs.Points.{Point, Element, Holds}
use Rattle.prop_lattice.specs.declared.info.Info.{Info}
use Rattle.prop_lattice.specs.declared.span.Span.{Span}
use Rattle.prop_numbers.specs.Sets.{Members}
use Rattle.prop_procedures.specs.Stored.{Stored, span_kind}
use Rattle.prop_procedures.specs.declared.shape.Kinded.{Kinded}
use Rattle.prop_cells.specs.Data.{Data, IsKept}
use Rattle.prop_cells.specs.Instances as instances
use Rattle.prop_cells.specs.Points.{AreFitting, ArePoints, Attached}
use Rattle.prop_cells.specs.Problems.{is_member}
use Rattle.prop_cells.specs.declared.instance.Statement.{Statement}
use Rattle.prop_compound.specs.Kinds.{IsSized}
use Rattle.prop_vocabulary.specs.Cells.{CellNames}
use Rattle.prop_vocabulary.specs.Vocabulary as vocabularies
use Rattle.prop_vocabulary.specs.Vocabulary.{Vocabulary}
use Rattle.prop_plans.specs.Held.{AreHeld, attached_of}
use Rattle.prop_terms.specs.Meaning.{holds, worth}
use Rattle.prop_terms.specs.Terms.{Term}
use Rattle.prop_meaning.specs.Acts.{RelatedBy, TellsBy}
use Rattle.prop_meaning.specs.Posting.{SaysSame, Solves}
use Rattle.prop_meaning.specs.Words.{Fits, IsLexicon, IsWithin, Lexicon, names_at}
use Rattle.prop_meaning.specs.declared.posting.Posted.{Posted}
use Rattle.prop_demands.specs.inner.Glossaries.{IsWhole, lexicon_in, seen}
use Rattle.prop_demands.specs.inner.Laws.{IsSolid}
use Rattle.prop_demands.specs.inner.Palettes.{IsPalette, tells_by}
use Rattle.prop_demands.proofs.Lists.{all_first, all_second, all_of, by_recursion}
use Rattle.prop_demands.proofs.Placing.{act_made, placed_there}
use Rattle.prop_demands.proofs.Singling.{AreFew, told_by_single}
use Rattle.prop_demands.proofs.LexiconLemmas.{kind_few, lexicon_law, names_alike, points_fit}
use Rattle.prop_demands.proofs.Demanding.{IsConstant, IsHeld, IsStated, IsTold, constants_stated, fresh_kinds}
use Rattle.prop_demands.proofs.Demanding.{held_all, held_yes, joined, parted, stated_at, stated_constants, tells_all}
use Rattle.prop_demands.proofs.Demanding.{together_with, told_all, yes_held}

-- points that satisfy what is there now, and what was there
pub record Asks (library : List Stored) (old new : Attached) (Meet : Members → (ℕ → Point) → Type 0) : Type 0 where
  pub kept : (believed : Members) (points : ℕ → Point) → ArePoints (AreHeld library) new believed points
      → ArePoints (AreHeld library) old believed points × Meet believed points
  pub found : (believed : Members) (points : ℕ → Point) → ArePoints (AreHeld library) old believed points
      → Meet believed points → (all : ℕ → Point)
      × ((cell : ℕ) → cell < length old.kinds → all cell ≡ points cell) × ArePoints (AreHeld library) new believed all

first_of : {X : Type 0} (P : X → Type 0) (k : ℕ) (xs : List X) → AllByRecursion P xs → AllByRecursion P (take k xs)
first_of P zero xs h = tt
first_of P (suc k) [] h = tt
first_of P (suc k) (x ∷ xs) h = (h.0, first_of P k xs h.1)

module _ (library : List Stored) (palette : IsPalette library) (names : CellNames) (words : Vocabulary) (d : Data)
    (whole : Span) (domains : ℕ) (law : vocabularies.IsWhole words) (sized : All (IsSized words) d.kinds)
    (named : All (λ cell. cell < length d.kinds) names.cells) (is_whole : IsWhole whole) (kept : IsKept library d)
    (t : Term) (posted : Posted) (says : SaysSame (lexicon_in (seen names words d whole domains)) posted t)
    (fresh_sized : All (IsSized words) posted.fresh.items)
  where
    abbrev n : Attached
    n = attached_of d

    abbrev count : ℕ
    count = length d.kinds

    abbrev lexicon : Lexicon
    lexicon = lexicon_in (seen names words d whole domains)

    abbrev fresh : List Kinded
    fresh = posted.fresh.items

    abbrev made : List instances.Instance
    made = map act_made posted.acts.items

    abbrev constants : List (ℕ × Info)
    constants = posted.constants.items

    fit : AreFitting library n
    fit = record { fitting = kept.fits; within = kept.made.within }

    within : All (λ (x : Statement). x.cell < length n.kinds) n.statements
    within k e l = (kept.made.stated k e l).within

    is_lexicon : IsLexicon lexicon
    is_lexicon = lexicon_law names words d whole domains law sized

    fits : (believed : Members) (points : ℕ → Point) → ArePoints (AreHeld library) n believed points
        → Fits lexicon points
    fits believed points q = points_fit library names words d whole domains kept is_whole believed points q

    few_there : AreFew (d.kinds ++ fresh)
    few_there cell l =
        kind_few words law _ (All-append (IsSized words) d.kinds fresh sized fresh_sized cell span_kind l)

    -- ---- what is there then

    module _ (more : List Statement) (solid : IsSolid library (joined n fresh more made)) (believed : Members) where
      abbrev now : Attached
      now = joined n fresh more made

      -- what was there is satisfied
      before : (points : ℕ → Point) → ArePoints (AreHeld library) now believed points
          → ArePoints (AreHeld library) n believed points
      before points q = parted library n fresh more made believed points q

      -- and the fresh cells are solved
      solved : (points : ℕ → Point) → ArePoints (AreHeld library) now believed points
          → AllByRecursion (IsConstant points) constants → Solves TellsBy count posted points
      solved points q stated =
          let told = told_by_single library tells_by palette.single now believed points solid.fit solid.within few_there
          q in
          record {
            kinds = λ k kinded at. fresh_kinds library n fresh more made believed points q k kinded at;
            constants = stated;
            acts = told_all points posted.acts.items
                (by_recursion (IsTold points) made (all_second (IsTold points) n.instances made told.together));
          }

      -- with points of the fresh cells that solve them it is satisfied, where more is stated
      after : (points all : ℕ → Point) → ((i : ℕ) → i < count → all i ≡ points i)
          → ArePoints (AreHeld library) n believed points → Solves RelatedBy count posted all
          → All (IsStated believed all) more → ArePoints (AreHeld library) now believed all
      after points all same q solves stated =
          together_with library n fit within believed points all same q fresh more made solves.kinds stated
          (all_of (IsHeld library all) made (held_all library palette.sound all posted.acts.items solves.acts))

    -- ---- nothing is demanded

    module _ (k : ℕ)
        (solid : IsSolid library (joined n fresh (map (stated_at count None) (take k constants)) made))
      where
        abbrev first : List Statement
        first = map (stated_at count None) (take k constants)

        pub asks_nothing : Asks library n (joined n fresh first made) (λ believed points. ⊤)
        asks_nothing = record {
          kept = λ believed points q. (before first solid believed points q, tt);
          found = λ believed points q meets.
              let lost = says.none_lost is_lexicon points (fits believed points q) in
              let all = lost.0 in
              let stated = constants_stated count believed all (take k constants)
              (first_of (IsConstant all) k constants lost.2.constants) in (
                all,
                lost.1,
                after first solid believed points all lost.1 q lost.2 (all_of (IsStated believed all) first stated),
              );
        }

    -- ---- the term is demanded

    -- it holds where this premise is believed, or there is none
    abbrev pub Holding : Option ℕ → Members → (ℕ → Point) → Type 0
    Holding under believed points = IsTrue (is_member believed under)
        → IsTrue (holds (worth (names_at lexicon points) t))

    module _ (under : Option ℕ) (solid : IsSolid library (joined n fresh (map (stated_at count None) constants
        ++ stated_at count under (posted.result, elements_from 1) ∷ []) made))
      where
        abbrev fixed : List Statement
        fixed = map (stated_at count None) constants

        abbrev last : List Statement
        last = stated_at count under (posted.result, elements_from 1) ∷ []

        result_there : (points : ℕ → Point)
            → points (stated_at count under (posted.result, elements_from 1)).cell ≡ points posted.result
        result_there points = ap points (placed_there count posted.result)

        pub asks_term : Asks library n (joined n fresh (fixed ++ last) made) (Holding under)
        asks_term = record {
          kept = λ believed points q.
              let old = before (fixed ++ last) solid believed points q in
              let stated : All (IsStated believed points) (fixed ++ last) =
              all_second (IsStated believed points) n.statements (fixed ++ last) q.stated in
              let first = by_recursion (IsStated believed points) fixed
              (all_first (IsStated believed points) fixed last stated) in
              let solves = solved (fixed ++ last) solid believed points q
              (stated_constants count believed points constants first) in
              let told = by_recursion (IsStated believed points) last
              (all_second (IsStated believed points) fixed last stated) in (
                old,
                λ member.
                    let P : Point → Type 0 = λ x. Holds (elements_from 1) x in
                    let yes = subst P (result_there points) (told.0 member) in
                    (says.none_wrong is_lexicon points (fits believed points old) solves).0
                    (held_yes (points posted.result) yes),
              );
          found = λ believed points q meets.
              let lost = says.none_lost is_lexicon points (fits believed points q) in
              let all = lost.0 in
              let same = lost.1 in
              let all_fits : Fits lexicon all = λ i l.
              subst (λ (x : Point). IsWithin (lexicon.known i) x) (sym (same i l)) (fits believed points q i l) in
              let tells : Solves TellsBy count posted all = record {
                kinds = lost.2.kinds;
                constants = lost.2.constants;
                acts = tells_all all posted.acts.items lost.2.acts;
              } in
              let first = constants_stated count believed all constants lost.2.constants in
              let alike = names_alike names words d whole domains named points all same in
              let told : AllByRecursion (IsStated believed all) last = (
                λ member.
                    let is_zero : all posted.result ≡ Element 0 =
                    (says.none_wrong is_lexicon all all_fits tells).1
                    (subst (λ v. IsTrue (holds (worth v t))) (sym alike) (meets member)) in
                    let P : Point → Type 0 = λ x. Holds (elements_from 1) x in
                    subst P (sym (result_there all ∙ is_zero)) yes_held,
                tt,
              ) in (
                all,
                same,
                after (fixed ++ last) solid believed points all same q lost.2
                    (All-append (IsStated believed all) fixed last (all_of (IsStated believed all) fixed first)
                    (all_of (IsStated believed all) last told)),
              );
        }
