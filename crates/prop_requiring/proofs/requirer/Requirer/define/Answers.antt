use Rattle.std.proofs.Common.{◌++◌, codes, inl, inr, refl}
use Rattle.prop_procedures.specs.Kept.{stored_of}
use Rattle.prop_terms.specs.Terms.{term_of}
use Rattle.prop_engine.specs.Answers.{answer_of}
use Rattle.prop_seeking.specs.inner.Seekers.{sought_of}
use Rattle.prop_requiring.proofs.DefineLemmas.{declares_from, unparted}
use Rattle.prop_requiring.proofs.requirer.Requirer.define.Goals as goal

pub returns-in-Err-clause-defines : goal.returns-in-Err-clause-defines
returns-in-Err-clause-defines g c =
    let line = codes "let" ++ c.args.behind.now in
    inl (c.in-Err.refusal, unparted line c.in-Err.refusal c.in-Err.ensures.err, refl, refl)

pub returns-in-Err-prepare-clause-defines : goal.returns-in-Err-prepare-clause-defines
returns-in-Err-prepare-clause-defines g c =
    let parts = c.in-Ok.parts in
    inl (
      c.in-Err-prepare.refusal,
      inr (inr (parts.before.now, parts.text.now, c.in-Ok.ensures.ok, c.in-Err-prepare.ensures.err)),
      refl,
      refl,
    )

pub returns-in-Ok-prepare-clause-defines : goal.returns-in-Ok-prepare-clause-defines
returns-in-Ok-prepare-clause-defines g c =
    let parts = c.in-Ok.parts in
    let old = c.args.self.now.blamer.seeker in
    let library = stored_of g.R.Rule.value_of old.teller.session.live.network.library in
    let p = c.in-Ok-prepare.prepared in
    let is = c.in-Ok-prepare.ensures.ok in
    inr (
      parts.before.now,
      parts.text.now,
      p.declaring.items,
      is.name,
      is.term,
      is.span,
      c.in-Ok.ensures.ok,
      is.means,
      declares_from g.O.Order.picks library (sought_of old) p.declaring.items is.name is.term is.span p.fixing
          (term_of p.equation) (answer_of c.declare.result) (sought_of c.declare.new.self.blamer.seeker) is.fixes
          is.equation_is c.declare.ensures.declares,
    )
