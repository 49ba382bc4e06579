use Rattle.std.proofs.Common.{◌∙◌, List, None, Result, ap, inl, subst, sym, ℕ}
use Rattle.std.specs.Prelude.{⊤}
use Rattle.prop_refusals.specs.declared.refusal.Refusal.{Refusal}
use Rattle.prop_refusals.specs.declared.refusal.Refusal.TheVariants.{Memory}
use Rattle.prop_procedures.specs.Kept.{stored_of}
use Rattle.prop_procedures.specs.Stored.{Stored}
use Rattle.prop_terms.specs.Terms.{term_of}
use Rattle.prop_engine.specs.Answers.{Done, Refused, answer_of}
use Rattle.prop_blaming.specs.Blaming.{blaming}
use Rattle.prop_seeking.specs.inner.Seekers.{sought_of}
use Rattle.prop_requiring.specs.inner.Puttings.{MayPass, MayPut}
use Rattle.prop_requiring.proofs.DefineLemmas.{after_err, after_ok, carried}
use Rattle.prop_requiring.proofs.requirer.Requirer.declare.Goals as goal

pub returns-then-not-is_done-clause-declares : goal.returns-then-not-is_done-clause-declares
returns-then-not-is_done-clause-declares g c =
    let old = c.args.self.now.blamer.seeker in
    let library = stored_of g.R.Rule.value_of old.teller.session.live.network.library in
    let P : List ℕ → Type 0 = λ line.
    blaming g.O.Order.picks library (sought_of old) line (answer_of c.command-reply.result)
    (sought_of c.command-reply.new.self.seeker) in
    inl (
      sym c.is_done.ensures ∙ c.if-not-is_done.true,
      subst P c.deref.ensures.value c.command-reply.ensures.blames,
    )

pub returns-in-Ok-clause-declares : goal.returns-in-Ok-clause-declares
returns-in-Ok-clause-declares g c =
    let value = g.R.Rule.value_of in
    let old = c.args.self.now.blamer.seeker in
    let library = stored_of value old.teller.session.live.network.library in
    let p = c.args.prepared.now in
    let t = term_of p.equation in
    let declared = sought_of c.command-reply.new.self.seeker in
    let fixed = sought_of c.fix.new.self.blamer.seeker in
    let new = sought_of c.put.new.self.blamer.seeker in
    let P : List ℕ → Type 0 = λ line.
    blaming g.O.Order.picks library (sought_of old) line (answer_of c.command-reply.result) declared in
    let F : List Stored → Type 0 = λ l. MayPass g.O.Order.picks l declared p.fixing fixed in
    let G : List Stored → Type 0 = λ l. MayPut l fixed t None c.put.result new in
    let H : Result ⊤ Refusal → Type 0 = λ r. MayPut library fixed t None r new in
    let puts = subst G (ap (stored_of value) (c.fix.ensures.same ∙ c.command-reply.ensures.same)) c.put.ensures.puts in
    carried g.O.Order.picks library (sought_of old) p.declaring.items p.fixing t (answer_of c.command-reply.result) Done
    declared fixed new (sym c.is_done.ensures ∙ c.if-not-is_done.false)
    (subst P c.deref.ensures.value c.command-reply.ensures.blames)
    (subst F (ap (stored_of value) c.command-reply.ensures.same) c.fix.ensures.passes)
    (after_ok library fixed t new (subst H c.in-Ok.is puts))

pub returns-in-Err-clause-declares : goal.returns-in-Err-clause-declares
returns-in-Err-clause-declares g c =
    let value = g.R.Rule.value_of in
    let old = c.args.self.now.blamer.seeker in
    let library = stored_of value old.teller.session.live.network.library in
    let p = c.args.prepared.now in
    let t = term_of p.equation in
    let declared = sought_of c.command-reply.new.self.seeker in
    let fixed = sought_of c.fix.new.self.blamer.seeker in
    let new = sought_of c.put.new.self.blamer.seeker in
    let P : List ℕ → Type 0 = λ line.
    blaming g.O.Order.picks library (sought_of old) line (answer_of c.command-reply.result) declared in
    let F : List Stored → Type 0 = λ l. MayPass g.O.Order.picks l declared p.fixing fixed in
    let G : List Stored → Type 0 = λ l. MayPut l fixed t None c.put.result new in
    let H : Result ⊤ Refusal → Type 0 = λ r. MayPut library fixed t None r new in
    let puts = subst G (ap (stored_of value) (c.fix.ensures.same ∙ c.command-reply.ensures.same)) c.put.ensures.puts in
    carried g.O.Order.picks library (sought_of old) p.declaring.items p.fixing t (answer_of c.command-reply.result)
    (Refused Memory) declared fixed new (sym c.is_done.ensures ∙ c.if-not-is_done.false)
    (subst P c.deref.ensures.value c.command-reply.ensures.blames)
    (subst F (ap (stored_of value) c.command-reply.ensures.same) c.fix.ensures.passes)
    (after_err library fixed t _ new (subst H c.in-Err.is puts))
