-- What is left to later searches, and what these take up of it.
use Rattle.std.proofs.Common.{◌≡◌, ◌∙◌, ℕ, zero, suc, List, [], ◌∷◌, ◌++◌, ◌⊎◌, inl, inr, Option, Some, None, IfSome}
use Rattle.std.proofs.Common.{All, subst, sym, refl, ap, arith, Contains, Vec, Global, length, map, ◌≤◌, ◌<◌}
use Rattle.std.specs.Prelude.{slice_index_or}
use Rattle.std.proofs.lemmas.List.Elements.{All-contains, All-push, Contains-append_left, Contains-append_right}
use Rattle.prop_numbers.specs.Sets.{IsPart, set_of}
use Rattle.prop_contents.proofs.Lists.{All-from_contains}
use Rattle.prop_premises.specs.Origins.{Origin, believed_in, choices_of}
use Rattle.prop_premises.specs.declared.choice.Choice.{Choice}
use Rattle.prop_procedures.specs.Stored.{Stored}
use Rattle.prop_cells.specs.Data.{Data}
use Rattle.prop_cells.specs.Points.{Attached}
use Rattle.prop_facts.specs.declared.fact.Literal.{Literal}
use Rattle.prop_plans.specs.Held.{attached_of}
use Rattle.prop_refuting.specs.Nogoods.{IsMet, IsNeverMet, Nogood}
use Rattle.prop_refuting.specs.Places.{IsSoAt}
use Rattle.prop_learned.specs.Stores.{IsKeptAt, IsKeptIn}
use Rattle.prop_learned.proofs.SlotLemmas.{contained_at}
use Rattle.prop_lessons.specs.Lessons.{Stands, Taught}
use Rattle.prop_solve.specs.Leaving.{AreApart, IsUnexcused, NarrowsAll, Recalls, Teaches}
use Rattle.prop_solve.specs.Searches.{IsSearch, Search, bare}
use Rattle.prop_solve.proofs.SearchLemmas.{Known, refuted_known}

module _ (library : List Stored) (d : Data) (premises : List Origin) where
  abbrev pub StandsThere : Nogood → Type 0
  StandsThere = Stands library (attached_of d) (choices_of premises) (believed_in premises)

  -- what nothing meets is known, whatever is excused
  pub stands_known : (excuses : List (List Literal)) (g : Nogood) → StandsThere g → Known library d premises excuses g
  stands_known excuses g h = record {
    within = h.within;
    excluded = record { out = λ list points c m. absurd (h.never list points c m) };
  }

  -- a search that takes up such a nogood
  pub recalls_search : (old new : Search) (g : Nogood) → StandsThere g → Recalls old g new
      → IsSearch library d premises old → IsSearch library d premises new
  recalls_search old new g stands r h =
      let P : Search → Type 0 = IsSearch library d premises in
      let known = stands_known old.excuses g stands in
      subst P (sym r.others) (record {
        root =
            let Q : List ℕ → Type 0 = λ root. IsPart (set_of root) (believed_in premises) in
            subst Q (sym r.root) h.root;
        nogoods = λ x k. elim (r.kept x k) [
          | inl a ↦ h.nogoods x a
          | inr e ↦ subst (Known library d premises old.excuses) (sym e) known
        ];
        learning = h.learning;
        proposal = h.proposal;
        refuted = refuted_known library d premises old.excuses g old.refuted new.refuted known h.refuted r.refuted;
      })

-- ---- what is left

abbrev items_of : Vec Literal Global → List Literal
items_of v = v.items

-- facts that are apart from the only ones that are excused
pub apart_unexcused : (only more : List Literal) → AreApart only more → IsUnexcused (only ∷ []) more
apart_unexcused only more apart n points list so e = apart n points list (one e.0 e.1 e.2) so
  where
    contains_only : (x y : List Literal) → Contains (x ∷ []) y → y ≡ x
    contains_only x y (zero, l, e) = cc
    contains_only x y (suc k, l, e) = absurd (omega (arith, l))

    one : (facts : List Literal) → Contains (only ∷ []) facts → All (IsSoAt n points list) facts
        → All (IsSoAt n points list) only
    one facts there h =
        let P : List Literal → Type 0 = All (IsSoAt n points list) in subst P (contains_only only facts there) h

-- nothing is excused
pub none_unexcused : (more : List Literal) → IsUnexcused [] more
none_unexcused more n points list so e = absurd (omega (arith, e.1.1))

-- a nogood that is known, with facts that nothing excused has
pub with_unexcused : (library : List Stored) (d : Data) (premises : List Origin) (excuses : List (List Literal))
    (more : List Literal) (g h : Nogood) → IsUnexcused excuses more
    → h ≡ record { literals = g.literals ++ more; premises = g.premises } → Known library d premises excuses g
    → IsNeverMet library (attached_of d) (choices_of premises) h
with_unexcused library d premises excuses more g h unexcused is known list points c m =
    let n = attached_of d in
    let P : Nogood → Type 0 = λ x. IsMet library n (choices_of premises) x list points in
    let met = subst P is m in
    let IsThere : Literal → Type 0 = IsSoAt n points list in
    let front = All-from_contains IsThere g.literals
    (λ x k. All-contains IsThere _ x met.so (Contains-append_left g.literals more x k)) in
    let back = All-from_contains IsThere more
    (λ x k. All-contains IsThere _ x met.so (Contains-append_right g.literals more x k)) in
    unexcused n points list back
    (known.excluded.out list points c (record { satisfied = met.satisfied; so = front }))

-- the only list of facts that is there
pub only_items : (xs : List (Vec Literal Global)) (x : Vec Literal Global) → 1 ≤ length xs → length xs < 2
    → x ≡ slice_index_or xs 0 x → map items_of xs ≡ x.items ∷ []
only_items [] x l m e = absurd (omega (arith, l))
only_items (y ∷ []) x l m e = ap (λ (z : Vec Literal Global). z.items ∷ []) (sym e)
only_items (y ∷ z ∷ ys) x l m e = absurd (omega (arith, m))

pub apart_some : (o : Option (Vec Literal Global)) (facts : List Literal) (excuses : List (List Literal))
    → excuses ≡ facts ∷ [] → IfSome o (λ more. AreApart facts more.items)
    → IfSome o (λ more. IsUnexcused excuses more.items)
apart_some None facts excuses e h = tt
apart_some (Some more) facts excuses e h =
    let P : List (List Literal) → Type 0 = λ x. IsUnexcused x more.items in
    subst P (sym e) (apart_unexcused facts more.items h)

-- ---- what is taught

pub teaches_none : (s : Search) (t : Taught) → Teaches s t t
teaches_none s t = record { same = (refl, refl); taught = λ library d premises e f search h. h }

pub teaches_along : (s : Search) (a b c : Taught) → Teaches s a b → Teaches s b c → Teaches s a c
teaches_along s a b c h k = record {
  same = (k.same.0 ∙ h.same.0, k.same.1 ∙ h.same.1);
  taught = λ library d premises e f search old. k.taught library d premises (h.same.0 ∙ e) (h.same.1 ∙ f) search
      (h.taught library d premises e f search old);
}

-- one nogood more, which nothing meets where the search is one of that past
pub teaches_one : (s : Search) (old new : Taught) (h : Nogood) → new ≡ record old { nogoods = old.nogoods ++ h ∷ [] }
    → ((library : List Stored) (d : Data) (premises : List Origin) → IsSearch library d premises s
    → IsNeverMet library (attached_of d) (choices_of premises) h) → Teaches s old new
teaches_one s old new h is never =
    let P : Taught → Type 0 = λ t. Teaches s old t in
    subst P (sym is) (record {
      same = (refl, refl);
      taught = λ library d premises e f search taught.
          let Q : Attached → Type 0 = λ n. IsNeverMet library n (choices_of premises) h in
          let R : List Choice → Type 0 = λ c. IsNeverMet library old.attached c h in
          All-push (IsNeverMet library old.attached old.choices) old.nogoods h taught
          (subst R (sym f) (subst Q (sym e) (never library d premises search)));
    })

-- a nogood that is kept, with facts that nothing excused has
pub kept_never : (s : Search) (more : List Literal) (g h : Nogood) → IsUnexcused s.excuses more
    → IsKeptIn s.spread.nogoods g → NarrowsAll (record { literals = g.literals ++ more; premises = g.premises }) h
    → (library : List Stored) (d : Data) (premises : List Origin) → IsSearch library d premises s
    → IsNeverMet library (attached_of d) (choices_of premises) h
kept_never s more g h unexcused kept narrows library d premises search list points c m =
    with_unexcused library d premises s.excuses more g (record { literals = g.literals ++ more; premises = g.premises })
    unexcused refl (search.nogoods g kept) list points c
    (narrows library (attached_of d) (choices_of premises) list points c m)

-- and what is refuted
pub refuted_never : (s : Search) (more : List Literal) (by : List ℕ) (h : Nogood) → IsUnexcused s.excuses more
    → s.refuted ≡ Some by → h ≡ record { literals = more; premises = by }
    → (library : List Stored) (d : Data) (premises : List Origin) → IsSearch library d premises s
    → IsNeverMet library (attached_of d) (choices_of premises) h
refuted_never s more by h unexcused some is library d premises search =
    let P : Option (List ℕ) → Type 0 = λ o. IfSome o (λ ps. Known library d premises s.excuses (bare ps)) in
    with_unexcused library d premises s.excuses more (bare by) h unexcused is (subst P some search.refuted)

-- a slot's nogood is kept
pub kept_in : (slots : List (Option Nogood)) (k : ℕ) (g : Nogood) → IsKeptAt slots k g → IsKeptIn slots g
kept_in slots k g at = contained_at slots k (Some g) at

-- what was refuted is yet
pub refuted_yet : (g : Nogood) (o old : Option (List ℕ)) → o ≡ old
    → IfSome o (λ by. (g ≡ bare by) ⊎ (old ≡ Some by))
refuted_yet g None old e = tt
refuted_yet g (Some by) old e = inr (sym e)
