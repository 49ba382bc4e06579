-- The values of a choice, one after the other.
use Rattle.std.proofs.Common.{◌≡◌, ◌∙◌, ℕ, suc, ◌+◌, ◌<◌, ◌≤◌, Bool, true, false, List, [], ◌∷◌, ◌++◌, drop, length}
use Rattle.std.proofs.Common.{map, subst, All, IsTrue, Some, None, is_some, if◌then◌else◌, refl, sym, ap, arith}
use Rattle.std.proofs.Common.{slice_index_or}
use Rattle.std.proofs.lemmas.List.{append_assoc}
use Rattle.std.proofs.lemmas.List.{length-append, length-map, take-append-le, take_all, drop_more}
use Rattle.std.proofs.lemmas.List.Elements.{All-get_or, All-cons, All-head, All-tail}
use Rattle.std.proofs.lemmas.Option.{unwrap_or-slice_get}
use Rattle.prop_lattice.specs.declared.info.Info.{Info}
use Rattle.prop_lattice.specs.declared.info.Kind.{Kind}
use Rattle.prop_lattice.specs.declared.info.Kind.TheVariants as kinds
use Rattle.prop_premises.specs.Origins.{with_choice}
use Rattle.prop_procedures.specs.declared.shape.Kinded.{Kinded}
use Rattle.prop_sets.specs.Names.{AreElements}
use Rattle.prop_cells.specs.Refusing.{may_be_stated}
use Rattle.prop_cells.specs.Sides.{sides_at}
use Rattle.prop_vocabulary.specs.declared.values.Meant as declared
use Rattle.prop_vocabulary.specs.Said.{meant_of}
use Rattle.prop_vocabulary.specs.Values.{Meant, Known, Name}
use Rattle.prop_vocabulary.specs.Names.{number_in}
use Rattle.prop_vocabulary.specs.Texts.{elements_of_kind}
use Rattle.prop_vocabulary.specs.Vocabulary.{Vocabulary, IsWhole, with_first_symbols}
use Rattle.prop_workbench.specs.inner.Choosing.{IsMeaning, infos_meant}
use Rattle.prop_workbench.specs.inner.Effects.{info_meant, with_meants, sides_stated, chosen}
use Rattle.prop_workbench.specs.inner.Effects.{MayMean}
use Rattle.prop_workbench.specs.Machine.{State}
use Rattle.prop_workbench.specs.inner.Refusing.{with_meant, naming_limit, all_naming_limit}
use Rattle.prop_compound.specs.Kinds.{IsKnown}
use Rattle.prop_workbench.proofs.TellLemmas.{same_domains}
use Rattle.prop_workbench.proofs.ValueLemmas.{value_may_be}

-- ---- the symbols of the values are numbered

-- From the first vocabulary to the second some of the meanings were told, and their symbols numbered; the rest is to
-- come.
pub record IsOnTheWay (start now : Vocabulary) (infos : List Info) (all rest : List Meant) : Type 0 where
  pub told : infos ++ infos_meant now rest ≡ infos_meant start all
  pub numbered : with_meants now rest ≡ with_meants start all
  pub limit : all_naming_limit start all ≡ all_naming_limit now rest
  pub domains : now.domains ≡ start.domains
  pub more : length start.symbols ≤ length now.symbols
  pub back : with_first_symbols now (length start.symbols) ≡ start

pub at_start : (start : Vocabulary) (infos : List Info) (all : List Meant) → infos ≡ []
    → IsOnTheWay start start infos all all
at_start start infos all none = rw none (record {
  told = refl;
  numbered = refl;
  limit = refl;
  domains = refl;
  more = omega arith;
  back = λ i. record start { symbols = take_all (length start.symbols) start.symbols (omega arith) i };
})

still_first : (words : Vocabulary) (meant : Meant) (n : ℕ) → n ≤ length words.symbols
    → with_first_symbols (with_meant words meant) n ≡ with_first_symbols words n
still_first words (Known info) n l = refl
still_first words (Name symbol) n l = by (is_some (number_in words.symbols symbol))
  where
    by : (t : Bool) → with_first_symbols (if t then words else record words { symbols = words.symbols ++ symbol ∷ [] })
        n ≡ with_first_symbols words n
    by true = refl
    by false = λ i. record words { symbols = take-append-le n words.symbols (symbol ∷ []) l i }

no_fewer : (words : Vocabulary) (meant : Meant) → length words.symbols ≤ length (with_meant words meant).symbols
no_fewer words (Known info) = omega arith
no_fewer words (Name symbol) = by (is_some (number_in words.symbols symbol))
  where
    by : (t : Bool) → length words.symbols ≤ length
        (if t then words else record words { symbols = words.symbols ++ symbol ∷ [] }).symbols
    by true = omega arith
    by false = omega (arith, length-append words.symbols (symbol ∷ []))

pub meant_domains : (words : Vocabulary) (meant : Meant) → (with_meant words meant).domains ≡ words.domains
meant_domains words (Known info) = refl
meant_domains words (Name symbol) = same_domains words symbol

limit_after : (words : Vocabulary) (meant : Meant) (rest : List Meant) → naming_limit words meant ≡ None
    → all_naming_limit words (meant ∷ rest) ≡ all_naming_limit (with_meant words meant) rest
limit_after words meant rest none = rw none refl

pub one_on : (start now new : Vocabulary) (infos after : List Info) (info : Info) (all rest : List Meant)
    (meant : Meant) → IsOnTheWay start now infos all (meant ∷ rest) → naming_limit now meant ≡ None →
    new ≡ with_meant now meant → info ≡ info_meant now meant → after ≡ infos ++ info ∷ []
    → IsOnTheWay start new after all rest
one_on start now new infos after info all rest meant way none e is_info is_after = rw (e, is_after, is_info) (record {
  told = append_assoc infos (info_meant now meant ∷ []) (infos_meant (with_meant now meant) rest) ∙ way.told;
  numbered = way.numbered;
  limit = way.limit ∙ limit_after now meant rest none;
  domains = meant_domains now meant ∙ way.domains;
  more = omega (arith, way.more, no_fewer now meant);
  back = still_first now meant (length start.symbols) way.more ∙ way.back;
})

-- what is true of the meanings from a place on
pub rest_here : (P : List declared.Meant → Type 0) (meants : List declared.Meant) (i : ℕ) (meant : declared.Meant)
    → i < length meants → meant ≡ slice_index_or meants i meant → P (drop i meants) → P (meant ∷ drop (i + 1) meants)
rest_here P meants i meant l is h = subst P (drop_more meants i meant l ∙ (λ j. sym is j ∷ drop (i + 1) meants)) h

-- ---- what the values say may be stated

info_may_be : (now : Vocabulary) (k : Kinded) (meant : Meant) → MayMean k meant
    → IsTrue (may_be_stated k.kind k.size (info_meant now meant))
info_may_be now k (Known info) h = h
info_may_be now k (Name symbol) h = rw h refl

pub infos_may_be : (words now : Vocabulary) (k : Kinded) (meants : List Meant)
    → k.size ≡ length (elements_of_kind words k.kind) → length (elements_of_kind words k.kind) ≤ 64
    → All (IsMeaning words k.kind) meants
    → All (λ info. IsTrue (may_be_stated k.kind k.size info)) (infos_meant now meants)
infos_may_be words now k [] same few mean = λ j d l. absurd (omega (arith, l))
infos_may_be words now k (meant ∷ more) same few mean =
    let first = All-head (IsMeaning words k.kind) meant more mean in
    All-cons (λ info. IsTrue (may_be_stated k.kind k.size info)) (info_meant now meant)
    (infos_meant (with_meant now meant) more)
    (info_may_be now k meant
    (value_may_be k (elements_of_kind words k.kind) first.0 meant same few first.1))
    (infos_may_be words (with_meant now meant) k more same few (All-tail (IsMeaning words k.kind) meant more mean))

pub few_elements : (words : Vocabulary) (kind : Kind) → IsWhole words → IsKnown words kind
    → length (elements_of_kind words kind) ≤ 64
few_elements words kinds.Span whole known = omega arith
few_elements words (kinds.Set d) whole known =
    rw (unwrap_or-slice_get words.domains d []) (All-get_or AreElements words.domains d [] known whole.each_domain).few
few_elements words kinds.Symbol whole known = omega arith

-- ---- as many informations as values, and a statement of each

length_infos : (words : Vocabulary) (meants : List Meant) → length (infos_meant words meants) ≡ length meants
length_infos words [] = refl
length_infos words (meant ∷ more) = ap suc (length_infos (with_meant words meant) more)

pub infos_count : (words : Vocabulary) (meants : List declared.Meant) (infos : List Info)
    → infos ≡ infos_meant words (map meant_of meants) → length infos ≡ length meants
infos_count words meants infos e =
    ap length e ∙ length_infos words (map meant_of meants) ∙ length-map meants meant_of

sides_same : (words : Vocabulary) (first cell : ℕ) (meants : List Meant)
    → sides_at first cell (infos_meant words meants) ≡ sides_stated words first cell meants
sides_same words first cell [] = refl
sides_same words first cell (meant ∷ more) =
    ap (λ xs. record { premise = Some first; cell = cell; info = info_meant words meant } ∷ xs)
    (sides_same (with_meant words meant) (suc first) cell more)

pub chosen_state : (s mid new : State) (name : List ℕ) (cell : ℕ) (meants : List Meant) (infos : List Info)
    → mid ≡ record s { words = with_meants s.words meants } → infos ≡ infos_meant s.words meants →
    new ≡ record mid {
      premises = with_choice s.premises name (length infos);
      statements = s.statements ++ sides_at (length s.premises) cell infos;
    } → new ≡ chosen s name cell meants
chosen_state s mid new name cell meants infos mid_is is_infos made =
    made ∙ (λ i. record (mid_is i) {
      premises = with_choice s.premises name (length (is_infos i));
      statements = s.statements ++ sides_at (length s.premises) cell (is_infos i);
    })
    ∙ (λ i. record s {
      words = with_meants s.words meants;
      premises = with_choice s.premises name (length_infos s.words meants i);
      statements =
          s.statements ++ sides_same s.words (length s.premises) cell meants i;
    })
