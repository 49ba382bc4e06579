-- What founded entries say together is entailed, and by few premises.
use Rattle.std.proofs.Common.{◌≡◌, ◌∙◌, ℕ, suc, Bool, true, false, IsTrue, ◌||◌, List, [], ◌∷◌, get_or, refl, sym}
use Rattle.std.proofs.Common.{arith, Option, Some, None, All, Contains}
use Rattle.std.specs.List.{list_any, AllZip}
use Rattle.std.proofs.lemmas.List.Elements.{All-weaker, All-contains, All-cons}
use Rattle.std.proofs.lemmas.List.Folds.{Any-from_list_any}
use Rattle.prop_lattice.specs.declared.info.Info.{Info}
use Rattle.prop_lattice.specs.declared.info.Info.TheVariants.{Nothing, Contradiction}
use Rattle.prop_lattice.specs.Order.{Below, merge_of}
use Rattle.prop_lattice.specs.laws.OrderLaws.{info_laws}
use Rattle.prop_numbers.specs.Sets.{set_of, is_within, IsPart}
use Rattle.prop_numbers.proofs.WithinLemmas.{within_has, within_from}
use Rattle.prop_tms.specs.Beliefs.{belief_of, IsLean}
use Rattle.prop_tms.proofs.BeliefLemmas.{belief_below}
use Rattle.prop_tms.proofs.BeliefUses.{said_by, within_lean, lean_is_enough}
use Rattle.prop_procedures.specs.Stored.{Stored}
use Rattle.prop_contents.specs.Contents.{Entry, IsLeanAt, IsSupport, beliefs, content_of}
use Rattle.prop_cells.specs.Problems.{Problem, Assignment, IsSolution, Entails}
use Rattle.prop_cells.specs.inner.Problems.{Premises, Satisfies, IsContradictory}
use Rattle.prop_cells.specs.Problems.{is_member}
use Rattle.prop_cells.specs.Reach.{Reaches, Explains, IsConflict}
use Rattle.prop_cells.specs.Data.{Data, IsFounded, IsKept, IsClash, problem_of}

-- ---- more premises

member_more : (s t : Premises) → IsPart s t → (o : Option ℕ) → IsTrue (is_member s o) → IsTrue (is_member t o)
member_more s t h None m = m
member_more s t h (Some p) m = h p m

solution_less : (p : Problem) (s t : Premises) (a : Assignment) → IsPart s t → IsSolution p t a → IsSolution p s a
solution_less p s t a h sol = record {
  kinds = sol.kinds;
  statements = All-weaker (Satisfies t a) (Satisfies s a) (λ x k m. k (member_more s t h x.premise m)) p.statements
      sol.statements;
  instances = sol.instances;
}

pub entails_more : (p : Problem) (s t : Premises) (cell : ℕ) (v : Info) → IsPart s t → Entails p s cell v
    → Entails p t cell v
entails_more p s t cell v h e = record { below = λ a sol. e.below a (solution_less p s t a h sol) }

pub part_of_within : (s : Premises) (ps : List ℕ) → is_within s ps ≡ true → IsPart (set_of ps) s
part_of_within s ps on = λ q t. within_has s ps q on t

-- ---- what the entries of a cell say

pub belief_entailed : (p : Problem) (s : Premises) (cell : ℕ) (es : List Entry) → All (IsFounded p cell) es
    → Entails p s cell (belief_of Nothing merge_of s es)
belief_entailed p s cell es founded = record {
  below = λ a sol. belief_below info_laws s es (a cell) (λ x c on.
      (entails_more p (set_of x.support) s cell x.value (part_of_within s x.support on)
      (All-contains (IsFounded p cell) es x founded c).entailed).below a sol);
}

-- a lean support explains
pub lean_explains : (p : Problem) (s : Premises) (cell : ℕ) (es : List Entry) (v : Info) (support : List ℕ)
    → All (IsFounded p cell) es → IsLean Nothing merge_of es s v support → Explains p s cell v (set_of support)
lean_explains p s cell es v support founded lean = record {
  part = part_of_within s support (within_lean info_laws es s v support lean);
  entails = record {
    below = λ a sol. info_laws.transitive v (belief_of Nothing merge_of (set_of support) es) (a cell)
        (lean_is_enough info_laws es s v support lean)
        ((belief_entailed p (set_of support) cell es founded).below a sol);
  };
  related = λ q t.
      let by = said_by info_laws es s v support lean in
      let some = Any-from_list_any (λ e. set_of e.support q) by.chosen (sym (by.joined q) ∙ t) in
      let there = by.among some.0 some.1 some.2 in
      let its : set_of (get_or by.chosen some.0 some.1).support q ≡ true = rw some.3 some.4 in
      (All-contains (IsFounded p cell) es (get_or by.chosen some.0 some.1) founded there).related q its;
}

-- ---- the supports of several cells

or_first : (a b : Bool) → a ≡ true → (a || b) ≡ true
or_first true b e = refl
or_first false b e = cc

or_second : (a b : Bool) → b ≡ true → (a || b) ≡ true
or_second true b e = refl
or_second false b e = e

module _ (p : Problem) (s : Premises) (contents : List (List Entry))
    (founded : (cell : ℕ) → All (IsFounded p cell) (content_of contents cell)) where
  pub parts_entail : (u : Premises) (cells : List ℕ) (parts : List (List ℕ)) → AllZip (IsLeanAt s contents) cells parts
      → ((q : ℕ) → list_any (λ part. set_of part q) parts ≡ true → u q ≡ true) →
      All (λ c. Entails p u c (beliefs s contents c)) cells
  parts_entail u [] parts z h = λ k d l. absurd (omega (arith, l))
  parts_entail u (c ∷ cs) [] z h = absurd z
  parts_entail u (c ∷ cs) (part ∷ parts) z h =
      All-cons (λ k. Entails p u k (beliefs s contents k)) c cs
      (entails_more p (set_of part) u c (beliefs s contents c)
      (λ q t. h q (or_first (set_of part q) (list_any (λ other. set_of other q) parts) t))
      (lean_explains p s c (content_of contents c) (beliefs s contents c) part (founded c) z.0).entails)
      (parts_entail u cs parts z.1 (λ q t.
      h q (or_second (set_of part q) (list_any (λ other. set_of other q) parts) t)))

  -- a premise of one of the supports reaches that cell
  pub parts_related : (q : ℕ) (cells : List ℕ) (parts : List (List ℕ)) → AllZip (IsLeanAt s contents) cells parts
      → list_any (λ part. set_of part q) parts ≡ true →
      (c : ℕ) × Contains cells c × Reaches p q c
  parts_related q [] [] z t = cc
  parts_related q [] (part ∷ parts) z t = absurd z
  parts_related q (c ∷ cs) [] z t = absurd z
  parts_related q (c ∷ cs) (part ∷ parts) z t = by (set_of part q) refl t (parts_related q cs parts z.1)
    where
      later : (k : ℕ) × Contains cs k × Reaches p q k → (k : ℕ) × Contains (c ∷ cs) k × Reaches p q k
      later (k, (i, l, e), r) = (k, (suc i, omega (arith, l), e), r)

      by : (b : Bool) → set_of part q ≡ b → (b || list_any (λ other. set_of other q) parts) ≡ true
          → (list_any (λ other. set_of other q) parts ≡ true → (k : ℕ) × Contains cs k × Reaches p q k) →
          (k : ℕ) × Contains (c ∷ cs) k × Reaches p q k
      by true e h more = (
        c,
        (0, omega arith, refl),
        (lean_explains p s c (content_of contents c) (beliefs s contents c) part (founded c) z.0).related q e,
      )
      by false e h more = later (more h)

  -- and all of them are believed
  pub parts_believed : (q : ℕ) (cells : List ℕ) (parts : List (List ℕ)) → AllZip (IsLeanAt s contents) cells parts
      → list_any (λ part. set_of part q) parts ≡ true → s q ≡ true
  parts_believed q [] [] z t = cc
  parts_believed q [] (part ∷ parts) z t = absurd z
  parts_believed q (c ∷ cs) [] z t = absurd z
  parts_believed q (c ∷ cs) (part ∷ parts) z t = by (set_of part q) refl t (parts_believed q cs parts z.1)
    where
      by : (b : Bool) → set_of part q ≡ b → (b || list_any (λ other. set_of other q) parts) ≡ true
          → (list_any (λ other. set_of other q) parts ≡ true → s q ≡ true) → s q ≡ true
      by true e h more = (lean_explains p s c (content_of contents c) (beliefs s contents c) part (founded c) z.0).part
          q e
      by false e h more = more h

-- ---- a network

pub believed_entailed : (library : List Stored) (d : Data) (s : Premises) → IsKept library d → (cell : ℕ)
    → Entails (problem_of library d) s cell (beliefs s d.contents cell)
believed_entailed library d s kept cell =
    belief_entailed (problem_of library d) s cell (content_of d.contents cell) (kept.founded cell)

pub lean_at_explains : (library : List Stored) (d : Data) (s : Premises) (cell : ℕ) (support : List ℕ)
    → IsKept library d → IsLeanAt s d.contents cell support →
    Explains (problem_of library d) s cell (beliefs s d.contents cell) (set_of support)
lean_at_explains library d s cell support kept lean =
    lean_explains (problem_of library d) s cell (content_of d.contents cell) (beliefs s d.contents cell) support
    (kept.founded cell) lean

-- what entails a contradiction is contradictory
clash_entailed : (p : Problem) (s : Premises) (cell : ℕ) (v : Info) → v ≡ Contradiction → Entails p s cell v
    → IsContradictory p s
clash_entailed p s cell v is e some =
    let above : Below Contradiction (some.solution cell) = rw is at (e.below some.solution some.solves) in
    some.free cell (info_laws.antisymmetric (some.solution cell) Contradiction (info_laws.to_top (some.solution cell))
    above)

pub clash_conflicts : (library : List Stored) (d : Data) (s : Premises) (support : List ℕ) → IsKept library d
    → IsClash s d support → IsConflict (problem_of library d) s (set_of support)
clash_conflicts library d s support kept clash =
    let why = lean_at_explains library d s clash.cell support kept clash.lean in
    record {
      part = why.part;
      contradictory = clash_entailed (problem_of library d) (set_of support) clash.cell
          (beliefs s d.contents clash.cell) clash.clash why.entails;
      cell = clash.cell;
      related = why.related;
    }

-- the union of lean supports is believed
pub support_believed : (library : List Stored) (d : Data) (s : Premises) (cells support : List ℕ) → IsKept library d
    → IsSupport s d.contents cells support → is_within s support ≡ true
support_believed library d s cells support kept supports =
    within_from s support (λ q t. parts_believed (problem_of library d) s d.contents kept.founded q cells supports.parts
    supports.lean (sym (supports.union q) ∙ t))
