use Rattle.std.proofs.Common.{◌≡◌, ◌∙◌, List, true, Ok, Option, Vec, Global, Contains, IfSome, subst, sym}
use Rattle.prop_lattice.specs.declared.info.Info.{Info}
use Rattle.prop_procedures.specs.Kept.{stored_of}
use Rattle.prop_facts.specs.declared.fact.Literal.{Literal}
use Rattle.prop_solve.specs.Questions.{AreExcusing, excused_then}
use Rattle.prop_solve.specs.Searches.{IsSearch, Search}
use Rattle.prop_solve.specs.declared.question.Goal.TheVariants.{Any}
use Rattle.prop_solve.proofs.SearchLemmas.{contains_then, with_excuses}
use Rattle.prop_solve.proofs.solver.Solver.excuse_values.Goals as goal

pub begin_told-requires-clause-search : goal.begin_told-requires-clause-search
begin_told-requires-clause-search g c =
    let library = stored_of g.R.Rule.value_of c.args.network.now.library in
    let d = c.args.network.now.cells in
    let premises = c.args.premises.now in
    let is : c.in_ok-excuse.field-0 ≡ true = c.if-not-branch.false in
    let ok : Ok c.in_ok-excuse.field-0 ≡ Ok true = cc in
    let P : Search → Type 0 = IsSearch library d premises in
    let h = with_excuses library d premises c.args.self.now c.excuse.new.self.excuses
    (c.in_ok-excuse.ensures.grows ok) c.requires.search in
    subst P (sym c.excuse.ensures.others) h

pub begin_told-requires-clause-excused : goal.begin_told-requires-clause-excused
begin_told-requires-clause-excused g c = λ some.
    let is : c.in_ok-excuse.field-0 ≡ true = c.if-not-branch.false in
    let ok : Ok c.in_ok-excuse.field-0 ≡ Ok true = cc in
    let facts = c.deref-2.result.now in
    let P : List Literal → Type 0 = λ l. Contains c.excuse.new.self.excuses l in
    let Q : List (List Literal) → Type 0 = λ l. Contains l facts in
    let G : Search → Type 0 = λ s. s.goal ≡ Any → ⊥ in
    let others = subst G c.excuse.ensures.others some in
    subst P c.deref-2.ensures.value
    (subst Q (sym (c.in_ok-excuse.ensures.excused ok)) (contains_then _ _ facts others))

pub returns-clause-excused : goal.returns-clause-excused
returns-clause-excused g c = λ _.
    let is : c.in_ok-excuse.field-0 ≡ true = c.if-not-branch.false in
    let ok : Ok c.in_ok-excuse.field-0 ≡ Ok true = cc in
    let facts = c.in-Some.facts.items in
    let old = c.args.self.now in
    let asked = c.self.inside.question.goal in
    let named = c.self.inside.question.named.items in
    let values = c.args.values.now in
    let T : Option (Vec Literal Global) → Type 0 = λ o. IfSome o (λ f. AreExcusing asked named values f.items) in
    let V : Search → Type 0 = λ x. AreExcusing x.goal x.named values facts in
    let W : List Literal → Type 0 = λ f. c.excuse.new.self.excuses ≡ excused_then old.goal old.excuses f in (
      facts,
      subst V c.self.view_is (subst T c.in-Some.is c.in_ok-facts.ensures),
      c.in_ok-begin_told.ensures.excuses ∙ subst W c.deref-2.ensures.value (c.in_ok-excuse.ensures.excused ok),
    )
