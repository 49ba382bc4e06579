use Rattle.std.proofs.Common.{◌≡◌, inl, subst, sym, List, Option}
use Rattle.std.specs.Prelude.{IfSome}
use Rattle.std.proofs.lemmas.Result.{IfOk-weaker}
use Rattle.prop_procedures.specs.Kept.{stored_of}
use Rattle.prop_procedures.specs.Stored.{Stored}
use Rattle.prop_lessons.specs.Lessons.{AreTaught, Taught}
use Rattle.prop_seeking.proofs.InquiryLemmas.{copied_so}
use Rattle.prop_seeking.proofs.ReplyLemmas.{rows_begin}
use Rattle.prop_seeking.proofs.seeker.Seeker.begun.Goals as goal

pub new-requires-clause-taught : goal.new-requires-clause-taught
new-requires-clause-taught g c =
    let library = stored_of g.R.Rule.value_of c.args.self.now.teller.session.live.network.library in
    let known = stored_of g.R.Rule.value_of c.network-network.result.now.library in
    let same : library ≡ known = cc (c.network-network.ensures, c.live.ensures, c.session-session.ensures) in
    let P : Option Taught → Type 0 = λ o. IfSome o (AreTaught library) in
    let left = subst P (sym c.as_ref-earlier.ensures.value) c.requires.earlier in
    let Q : List Stored → Type 0 = λ l. IfSome c.as_ref-earlier.result (λ e. AreTaught l e.now) in
    subst Q same (copied_so c.as_ref-earlier.result (AreTaught library) left)

pub returns-in_default-clause-before : goal.returns-in_default-clause-before
returns-in_default-clause-before g c =
    IfOk-weaker c.new.result _ _ (λ i none. inl (rows_begin i.solver.goal i.solver.excuses none)) c.new.ensures.excuses
