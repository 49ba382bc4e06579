use Rattle.std.proofs.Common.{inl, inr, map, subst, sym}
use Rattle.prop_procedures.specs.Kept.{stored_of}
use Rattle.prop_refuting.specs.Nogoods.{Nogood}
use Rattle.prop_solve.specs.Searches.{IsSearch, Search}
use Rattle.prop_spread.proofs.Refusals.{on_ok_more}
use Rattle.prop_solve.proofs.SearchLemmas.{Known, refuted_known, with_nogoods, with_refuted}
use Rattle.prop_solve.proofs.solver.Solver.take_in.Goals as goal

pub returns-in_default-clause-search : goal.returns-in_default-clause-search
returns-in_default-clause-search g c =
    let library = stored_of g.R.Rule.value_of c.args.network.now.library in
    let d = c.args.network.now.cells in
    let premises = c.args.premises.now in
    let s = c.requires.search in
    let excuses = c.args.self.now.excuses in
    let nogood = c.into_nogood-nogood.result in
    let Q : Nogood → Type 0 = λ x. Known library d premises excuses x in
    let known : Q nogood = subst Q (sym c.into_nogood-nogood.ensures) c.requires.known in
    let R : Search → Type 0 = IsSearch library d premises in
    let before = c.args.self.now.refuted in
    let o = c.refute.new.self.refuted in
    on_ok_more c.refute.result _ _ (λ k. subst R (sym c.refute.ensures.others)
    (with_refuted library d premises c.args.self.now o
    (refuted_known library d premises excuses nogood before o known s.refuted k) s)) c.refute.ensures.refuted

pub begin-requires-clause-search : goal.begin-requires-clause-search
begin-requires-clause-search g c =
    let library = stored_of g.R.Rule.value_of c.args.network.now.library in
    let d = c.args.network.now.cells in
    let premises = c.args.premises.now in
    let s = subst (IsSearch library d premises) (sym c.self.view_is) c.requires.search in
    let nogood = c.into_nogood-nogood.result in
    let P : Search → Type 0 = λ x. Known library d premises x.excuses c.args.learning in
    let Q : Nogood → Type 0 = λ x. Known library d premises (map (λ v. v.items) c.self.inside.excuses.items) x in
    let known : Q nogood =
    subst Q (sym c.into_nogood-nogood.ensures) (subst P (sym c.self.view_is) c.requires.known) in
    let h = with_nogoods library d premises _ c.learn.new.self c.in_ok-learn.ensures.root
    (λ x k. elim (c.in_ok-learn.ensures.kept x k) [ inl a ↦ inl a | inr b ↦ inr (subst Q (sym b) known) ]) s in h

pub returns-else-not-branch-clause-search : goal.returns-else-not-branch-clause-search
returns-else-not-branch-clause-search g c =
    let library = stored_of g.R.Rule.value_of c.args.network.now.library in
    let d = c.args.network.now.cells in
    let premises = c.args.premises.now in
    let s = subst (IsSearch library d premises) (sym c.self.view_is) c.requires.search in
    let nogood = c.into_nogood-nogood.result in
    let P : Search → Type 0 = λ x. Known library d premises x.excuses c.args.learning in
    let Q : Nogood → Type 0 = λ x. Known library d premises (map (λ v. v.items) c.self.inside.excuses.items) x in
    let known : Q nogood =
    subst Q (sym c.into_nogood-nogood.ensures) (subst P (sym c.self.view_is) c.requires.known) in
    let h = with_nogoods library d premises _ c.learn.new.self c.in_ok-learn.ensures.root
    (λ x k. elim (c.in_ok-learn.ensures.kept x k) [ inl a ↦ inl a | inr b ↦ inr (subst Q (sym b) known) ]) s in h
