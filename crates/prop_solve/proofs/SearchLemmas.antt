-- What a search keeps.
use Rattle.std.proofs.Common.{◌≡◌, ℕ, List, [], ◌∷◌, ◌++◌, ◌⊎◌, inl, inr, Option, Some, None, IfSome, All, Contains}
use Rattle.std.proofs.Common.{subst, sym, refl, ap, ◌∙◌, arith, Bool, IsTrue}
use Rattle.std.specs.List.{AllZip}
use Rattle.std.proofs.lemmas.List.Elements.{Contains-append_left, Contains-append_right}
use Rattle.prop_lattice.specs.declared.info.Info.{Info}
use Rattle.prop_numbers.specs.Sets.{Members, IsPart, IsSame, set_of}
use Rattle.prop_premises.specs.ChoiceLists.{IsChoiceList, worldview}
use Rattle.prop_premises.specs.Origins.{Origin, believed_in, choices_of}
use Rattle.prop_premises.specs.declared.choice.Choice.{Choice}
use Rattle.prop_procedures.specs.Stored.{Stored}
use Rattle.prop_cells.specs.Data.{Data}
use Rattle.prop_cells.specs.Points.{Attached}
use Rattle.prop_facts.specs.declared.fact.Literal.{Literal}
use Rattle.prop_plans.specs.Held.{attached_of, AreHeld}
use Rattle.prop_plans.specs.Plans.{IsUnderWay, Satisfy}
use Rattle.prop_refuting.specs.Nogoods.{Nogood, Excludes}
use Rattle.prop_refuting.specs.Places.{IsSoAt}
use Rattle.prop_refuting.specs.laws.Excluding.{excused_alone}
use Rattle.prop_refuting.proofs.MeetLemmas.{satisfy_less}
use Rattle.prop_refuting.proofs.PlaceLemmas.{place_in_range}
use Rattle.prop_learned.specs.Stores.{IsKeptIn}
use Rattle.prop_deriving.specs.Known.{AreKnown, Follows, IsExcused, IsKnown, Stays}
use Rattle.prop_deriving.specs.laws.Keeping.{known_excused}
use Rattle.prop_spread.specs.Proposals.{IsProposed, Proposed}
use Rattle.prop_spread.specs.Spreads.{Spread}
use Rattle.prop_solve.specs.Answers.{AsksTheSame, IsFound, IsRefuted}
use Rattle.prop_solve.specs.Questions.{AreExcusing, Grow, Imply, excused_then}
use Rattle.prop_solve.specs.declared.question.Goal.{Goal}
use Rattle.prop_solve.specs.declared.question.Goal.TheVariants.{Any, Least, Greatest, Differing}
use Rattle.prop_solve.specs.Searches.{IsSearch, Search, bare}

-- ---- lists of two types

pub zip_push : {A B : Type 0} (R : A → B → Type 0) (xs : List A) (ys : List B) (x : A) (y : B) → AllZip R xs ys → R x y
    → AllZip R (xs ++ x ∷ []) (ys ++ y ∷ [])
zip_push R [] [] x y h r = (r, tt)
zip_push R [] (b ∷ ys) x y h r = absurd h
zip_push R (a ∷ xs) [] x y h r = absurd h
zip_push R (a ∷ xs) (b ∷ ys) x y h r = (h.0, zip_push R xs ys x y h.1 r)

-- ---- what is known

module _ (library : List Stored) (n : Attached) (choices : List Choice) (s : Members)
    (excuses : List (List Literal)) (root : List ℕ) (slots : List (Option Nogood)) (part : IsPart (set_of root) s)
    (known : AreKnown library n choices s excuses slots) (l : List Stored) (m : Attached) (c : List Choice)
    (r : List ℕ) (t : List (Option Nogood)) (same_library : l ≡ library) (same_network : m ≡ n)
    (same_choices : c ≡ choices) (same_root : r ≡ root) (same_slots : t ≡ slots) where
  -- what follows from what is kept, read of a ground that is the same
  pub follows_known : (g : Nogood) → Follows l m c r t g → IsKnown library n choices s excuses g
  follows_known g f =
      let P1 : List Stored → Type 0 = λ x. Follows x m c r t g in
      let P2 : Attached → Type 0 = λ x. Follows library x c r t g in
      let P3 : List Choice → Type 0 = λ x. Follows library n x r t g in
      let P4 : List ℕ → Type 0 = λ x. Follows library n choices x t g in
      let P5 : List (Option Nogood) → Type 0 = λ x. Follows library n choices root x g in
      (subst P5 same_slots (subst P4 same_root (subst P3 same_choices
      (subst P2 same_network (subst P1 same_library f))))).known s excuses part known

  pub all_follow : (o : Option Nogood) → IfSome o (Follows l m c r t) → IfSome o (IsKnown library n choices s excuses)
  all_follow None f = tt
  all_follow (Some g) f = follows_known g f

  pub stays_known : (old new : Nogood) → Stays l m c r t old new → IsKnown library n choices s excuses old
      → IsKnown library n choices s excuses new
  stays_known old new f k =
      let P1 : List Stored → Type 0 = λ x. Stays x m c r t old new in
      let P2 : Attached → Type 0 = λ x. Stays library x c r t old new in
      let P3 : List Choice → Type 0 = λ x. Stays library n x r t old new in
      let P4 : List ℕ → Type 0 = λ x. Stays library n choices x t old new in
      let P5 : List (Option Nogood) → Type 0 = λ x. Stays library n choices root x old new in
      (subst P5 same_slots (subst P4 same_root (subst P3 same_choices
      (subst P2 same_network (subst P1 same_library f))))).known s excuses part known k

-- ---- excuses

-- the same excuses
pub grow_by_none : (excuses : List (List Literal)) → Grow excuses excuses
grow_by_none excuses n points list within e = e

-- one more excuse
pub grow_by_one : (excuses : List (List Literal)) (facts : List Literal) → Grow excuses (excuses ++ facts ∷ [])
grow_by_one excuses facts n points list within e =
    (e.0, Contains-append_left excuses (facts ∷ []) e.0 e.1, e.2)

-- an excuse that follows from all others
pub grow_by_better : (excuses : List (List Literal)) (facts : List Literal)
    → All (λ before. Imply before facts) excuses → Grow excuses (facts ∷ [])
grow_by_better excuses facts better n points list within e =
    let P : List Literal → Type 0 = λ before. Imply before facts in
    (facts, (0, omega arith, refl), (subst P e.1.2 (better e.1.0 e.0 e.1.1)) n points list within e.2)

pub contains_then : (goal : Goal) (excuses : List (List Literal)) (facts : List Literal) → (goal ≡ Any → ⊥)
    → Contains (excused_then goal excuses facts) facts
contains_then (Least cell) excuses facts some = (0, omega arith, refl)
contains_then (Greatest cell) excuses facts some = (0, omega arith, refl)
contains_then Any excuses facts some = absurd (some refl)
contains_then Differing excuses facts some = Contains-append_right excuses (facts ∷ []) facts (0, omega arith, refl)

-- what holds of what is there holds of none
pub if_none : {A : Type 0} (o : Option A) (P : A → Type 0) → o ≡ None → IfSome o P
if_none None P e = tt
if_none (Some a) P e = let no : ⊥ = cc in absurd no

module _ (library : List Stored) (d : Data) (premises : List Origin) where
  abbrev pub Known : List (List Literal) → Nogood → Type 0
  Known excuses = IsKnown library (attached_of d) (choices_of premises) (believed_in premises) excuses

  -- what is known of a nogood with one fact, put in its parts
  pub known_only : (excuses : List (List Literal)) (g : Nogood) (x : Literal) (by : List ℕ) → g.literals ≡ x ∷ []
      → by ≡ g.premises → Known excuses g → Known excuses (record { literals = x ∷ []; premises = by })
  known_only excuses g x by only same k =
      let e : g ≡ record { literals = x ∷ []; premises = by } =
      λ i. record { literals = only i; premises = sym same i } in subst (Known excuses) e k

  -- what is known stays known where more is excused
  pub known_grows : (before excuses : List (List Literal)) (g : Nogood) → Grow before excuses → Known before g
      → Known excuses g
  known_grows before excuses g grow k = record {
    within = k.within;
    excluded = record {
      out = λ list points c m. grow (attached_of d) points list
          (λ place. place_in_range (attached_of d) points m.satisfied list place)
          (k.excluded.out list points c m);
    };
  }

  all_grow : (before excuses : List (List Literal)) (o : Option Nogood) → Grow before excuses
      → IfSome o (Known before) → IfSome o (Known excuses)
  all_grow before excuses None grow k = tt
  all_grow before excuses (Some g) grow k = known_grows before excuses g grow k

  bare_grow : (before excuses : List (List Literal)) (o : Option (List ℕ)) → Grow before excuses
      → IfSome o (λ ps. Known before (bare ps)) → IfSome o (λ ps. Known excuses (bare ps))
  bare_grow before excuses None grow k = tt
  bare_grow before excuses (Some ps) grow k = known_grows before excuses (bare ps) grow k

  -- ---- a search where one thing changes

  pub with_excuses : (s : Search) (excuses : List (List Literal)) → Grow s.excuses excuses
      → IsSearch library d premises s → IsSearch library d premises (record s { excuses = excuses })
  with_excuses s excuses grow h = record {
    root = h.root;
    nogoods = λ g k. known_grows s.excuses excuses g grow (h.nogoods g k);
    learning = all_grow s.excuses excuses s.learning grow h.learning;
    proposal = h.proposal;
    refuted = bare_grow s.excuses excuses s.refuted grow h.refuted;
  }

  pub with_spread : (s : Search) (p : Spread) → p ≡ s.spread → IsSearch library d premises s
      → IsSearch library d premises (record s { spread = p })
  with_spread s p e h =
      let P : Spread → Type 0 = λ q. IsSearch library d premises (record s { spread = q }) in subst P (sym e) h

  pub with_nogoods : (s : Search) (p : Spread) → p.root ≡ s.spread.root
      → ((g : Nogood) → IsKeptIn p.nogoods g → IsKeptIn s.spread.nogoods g ⊎ Known s.excuses g)
      → IsSearch library d premises s → IsSearch library d premises (record s { spread = p })
  with_nogoods s p e kept h = record {
    root = let P : List ℕ → Type 0 = λ r. IsPart (set_of r) (believed_in premises) in subst P (sym e) h.root;
    nogoods = λ g k. elim (kept g k) [ inl a ↦ h.nogoods g a | inr b ↦ b ];
    learning = h.learning;
    proposal = h.proposal;
    refuted = h.refuted;
  }

  pub with_learning : (s : Search) (o : Option Nogood) → IfSome o (Known s.excuses)
      → IsSearch library d premises s → IsSearch library d premises (record s { learning = o })
  with_learning s o k h = record {
    root = h.root;
    nogoods = h.nogoods;
    learning = k;
    proposal = h.proposal;
    refuted = h.refuted;
  }

  pub with_proposal : (s : Search) (o : Option Proposed) → IfSome o (IsProposed library d premises)
      → IsSearch library d premises s → IsSearch library d premises (record s { proposal = o })
  with_proposal s o k h = record {
    root = h.root;
    nogoods = h.nogoods;
    learning = h.learning;
    proposal = k;
    refuted = h.refuted;
  }

  pub with_refuted : (s : Search) (o : Option (List ℕ)) → IfSome o (λ ps. Known s.excuses (bare ps))
      → IsSearch library d premises s → IsSearch library d premises (record s { refuted = o })
  with_refuted s o k h = record {
    root = h.root;
    nogoods = h.nogoods;
    learning = h.learning;
    proposal = h.proposal;
    refuted = k;
  }

  -- what is refuted is what a nogood without literals rests on, or was refuted before
  pub refuted_known : (excuses : List (List Literal)) (nogood : Nogood) (before o : Option (List ℕ))
      → Known excuses nogood → IfSome before (λ ps. Known excuses (bare ps))
      → IfSome o (λ ps. (nogood ≡ bare ps) ⊎ (before ≡ Some ps)) → IfSome o (λ ps. Known excuses (bare ps))
  refuted_known excuses nogood before None k h c = tt
  refuted_known excuses nogood before (Some ps) k h c =
      let P : Nogood → Type 0 = Known excuses in
      let Q : Option (List ℕ) → Type 0 = λ o. IfSome o (λ qs. Known excuses (bare qs)) in
      elim c [ inl e ↦ subst P e k | inr e ↦ subst Q e h ]

  -- what satisfies what is believed by one list of premises does by the same premises
  pub satisfy_same : (s t : Members) (values : List Info) → IsSame s t
      → Satisfy library d s values → Satisfy library d t values
  satisfy_same s t values e h = λ points single.
      satisfy_less {related = AreHeld library} (attached_of d) t s points
      (λ p k. let B : Bool → Type 0 = IsTrue in subst B (sym (e p)) k) (h points single)

  pub all_proposed : (o : Option Proposed)
      → IfSome o (λ p. (l : List Stored) (e : Data) → IsProposed l e premises p)
      → IfSome o (IsProposed library d premises)
  all_proposed None h = tt
  all_proposed (Some p) h = h library d

  -- a plan of which more is known
  pub proposed_on : (p q : Proposed) → q ≡ record p { check = q.check } → IsUnderWay library d q.check
      → IsProposed library d premises p → IsProposed library d premises q
  proposed_on p q e u h = record {
    sides =
        let P : List ℕ → Type 0 = IsChoiceList (choices_of premises) in
        subst P (sym (ap (λ (x : Proposed). x.sides) e)) h.sides;
    view =
        let P : Proposed → Type 0 = λ x.
        IsSame (set_of x.view) (worldview (believed_in premises) (choices_of premises) x.sides) in
        subst P (sym e) h.view;
    under_way = u;
  }

  -- facts whose excuse is that they are so
  pub excused_known : (excuses : List (List Literal)) (g : Nogood) (facts : List Literal) → Contains excuses facts
      → g ≡ record { literals = facts; premises = [] }
      → ((l : List Stored) (n : Attached) (choices : List Choice)
      → Excludes l n choices (λ points list. All (IsSoAt n points list) facts) g) → Known excuses g
  excused_known excuses g facts there e h =
      known_excused library (attached_of d) (choices_of premises) (believed_in premises) excuses g facts
      (ap (λ (x : Nogood). x.premises) e) there (h library (attached_of d) (choices_of premises))

  -- ---- what is answered

  pub refutes : (old s : Search) → IsSearch library d premises s → s.excuses ≡ old.excuses
      → (ps qs : List ℕ) → s.refuted ≡ Some ps → qs ≡ ps → IsRefuted library d premises old qs s
  refutes old s h e ps qs r b = record {
    believed = k.within;
    refuted = λ list points c p. excused_alone library (attached_of d) (choices_of premises)
        (IsExcused (attached_of d) old.excuses) (bare qs) refl k.excluded list c points p;
    same = e;
  }
    where
      k : Known old.excuses (bare qs)
      k =
          let P : Option (List ℕ) → Type 0 = λ o. IfSome o (λ us. Known s.excuses (bare us)) in
          let Q : List ℕ → Type 0 = λ us. Known s.excuses (bare us) in
          let R : List (List Literal) → Type 0 = λ x. Known x (bare qs) in
          subst R e (subst Q (sym b) (subst P r h.refuted))

  pub found_along : (old mid new : Search) (values : List Info) (sides : List ℕ) → AsksTheSame old mid
      → mid.excuses ≡ old.excuses → IsFound library d premises mid values sides new
      → IsFound library d premises old values sides new
  found_along old mid new values sides a e f = record {
    sided = f.sided;
    single = f.single;
    satisfied = f.satisfied;
    facts = f.facts;
    excusing =
        let P : Goal → Type 0 = λ g. AreExcusing g mid.named values f.facts in
        let Q : List ℕ → Type 0 = λ n. AreExcusing old.goal n values f.facts in
        subst Q a.named (subst P a.goal f.excusing);
    excused =
        let P : Goal → Type 0 = λ g. new.excuses ≡ excused_then g mid.excuses f.facts in
        let Q : List (List Literal) → Type 0 = λ x. new.excuses ≡ excused_then old.goal x f.facts in
        subst Q e (subst P a.goal f.excused);
  }

pub asks_along : (a b c : Search) → AsksTheSame a b → AsksTheSame b c → AsksTheSame a c
asks_along a b c h k = record { goal = k.goal ∙ h.goal; named = k.named ∙ h.named }
