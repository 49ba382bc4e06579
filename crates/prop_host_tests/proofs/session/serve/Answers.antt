use Rattle.std.proofs.Common.{◌∙◌, ap, map}
use Rattle.prop_engine.specs.Answers.{answer_of}
use Rattle.prop_host_tests.proofs.Listed.{answered}
use Rattle.prop_host_tests.proofs.session.serve.Goals as goal

pub carry_out-replies-requires-clause-means : goal.carry_out-replies-requires-clause-means
carry_out-replies-requires-clause-means g c =
    rw (c.in_ok-session.ensures.library, c.new-network.ensures.library, c.new.ensures) c.requires.means

pub returns : goal.returns
returns g c =
    let same = ap (λ l. l.procedures.items) (c.in_ok-session.ensures.library ∙ c.new-network.ensures.library)
    ∙ ap (λ p. p.items) c.new.ensures in
    answered c.in_ok-session.session.live.network.library c.args.procedures.items _ _ _ (λ r. map answer_of r.items)
    c.carry_out-replies.result same c.requires.listed (ap (λ s. s.shown) c.in_ok-session.ensures.state)
    c.carry_out-replies.ensures
