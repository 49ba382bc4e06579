use Rattle.std.proofs.Common.{◌∙◌, ap, map}
use Rattle.std.proofs.lemmas.Result.{err_from_is_err_and}
use Rattle.prop_procedures.specs.Kept.{stored_as, stored_of}
use Rattle.prop_scheduler.specs.Orders.{picks_first, picks_last, picks_mixed}
use Rattle.prop_requiring.proofs.Starting.{required_by, required_by_fault}
use Rattle.prop_requiring.proofs.running.run.Goals as goal

-- ---- fifo

pub serve-requires-clause-means : goal.serve-requires-clause-means
serve-requires-clause-means g c =
    rw (c.in_ok-new-in-Fifo.ensures.library, c.new-network.ensures.library, c.new.ensures) c.requires.means

pub serve-requires-clause-palette : goal.serve-requires-clause-palette
serve-requires-clause-palette g c =
    rw (c.in_ok-new-in-Fifo.ensures.library, c.new-network.ensures.library, c.new.ensures) c.requires.palette

pub returns-in_ok-new-in-Fifo : goal.returns-in_ok-new-in-Fifo
returns-in_ok-new-in-Fifo g c =
    let same = ap (stored_of g.R.Rule.value_of) (c.in_ok-new-in-Fifo.ensures.library ∙ c.new-network.ensures.library)
    ∙ ap (λ p. map (stored_as g.R.Rule.value_of) p.items) c.new.ensures in
    rw c.in-Fifo.is (required_by g.D.Devices.calls _ _ picks_first _ _ _ _ _ _ c.serve.result same
    c.in_ok-new-in-Fifo.ensures.state c.serve.ensures)

pub returns-in_err-new-in-Fifo : goal.returns-in_err-new-in-Fifo
returns-in_err-new-in-Fifo g c =
    let p = err_from_is_err_and c.from_residual.result c.from_residual.ensures.1 in
    required_by_fault g.D.Devices.calls _ _ _ c.args.options.order c.args.options.seed c.args.options.limit
    _ p.0 p.1 p.2

-- ---- lifo

pub serve-requires-in-Lifo-clause-means : goal.serve-requires-in-Lifo-clause-means
serve-requires-in-Lifo-clause-means g c =
    rw (c.in_ok-new-in-Lifo.ensures.library, c.new-network.ensures.library, c.new.ensures) c.requires.means

pub serve-requires-in-Lifo-clause-palette : goal.serve-requires-in-Lifo-clause-palette
serve-requires-in-Lifo-clause-palette g c =
    rw (c.in_ok-new-in-Lifo.ensures.library, c.new-network.ensures.library, c.new.ensures) c.requires.palette

pub returns-in_ok-new-in-Lifo : goal.returns-in_ok-new-in-Lifo
returns-in_ok-new-in-Lifo g c =
    let same = ap (stored_of g.R.Rule.value_of) (c.in_ok-new-in-Lifo.ensures.library ∙ c.new-network.ensures.library)
    ∙ ap (λ p. map (stored_as g.R.Rule.value_of) p.items) c.new.ensures in
    rw c.in-Lifo.is (required_by g.D.Devices.calls _ _ picks_last _ _ _ _ _ _ c.serve-in-Lifo.result same
    c.in_ok-new-in-Lifo.ensures.state c.serve-in-Lifo.ensures)

pub returns-in_err-new-in-Lifo : goal.returns-in_err-new-in-Lifo
returns-in_err-new-in-Lifo g c =
    let p = err_from_is_err_and c.from_residual-in_err-new-in-Lifo.result
    c.from_residual-in_err-new-in-Lifo.ensures.1 in
    required_by_fault g.D.Devices.calls _ _ _ c.args.options.order c.args.options.seed c.args.options.limit
    _ p.0 p.1 p.2

-- ---- mixed

pub serve-requires-in-Mixed-clause-means : goal.serve-requires-in-Mixed-clause-means
serve-requires-in-Mixed-clause-means g c =
    rw (c.in_ok-session-in-Mixed.ensures.library, c.new-network.ensures.library, c.new.ensures) c.requires.means

pub serve-requires-in-Mixed-clause-palette : goal.serve-requires-in-Mixed-clause-palette
serve-requires-in-Mixed-clause-palette g c =
    rw (c.in_ok-session-in-Mixed.ensures.library, c.new-network.ensures.library, c.new.ensures) c.requires.palette

pub returns-in_ok-session-in-Mixed : goal.returns-in_ok-session-in-Mixed
returns-in_ok-session-in-Mixed g c =
    let same = ap (stored_of g.R.Rule.value_of) (c.in_ok-session-in-Mixed.ensures.library
    ∙ c.new-network.ensures.library)
    ∙ ap (λ p. map (stored_as g.R.Rule.value_of) p.items) c.new.ensures in
    rw (c.in-Mixed.is, ← c.new-in-Mixed.ensures) (required_by g.D.Devices.calls _ _ picks_mixed _ _ _ _ _ _
    c.serve-in-Mixed.result same
    c.in_ok-session-in-Mixed.ensures.state c.serve-in-Mixed.ensures)

pub returns-in_err-session-in-Mixed : goal.returns-in_err-session-in-Mixed
returns-in_err-session-in-Mixed g c =
    let p = err_from_is_err_and c.from_residual-in_err-session-in-Mixed.result
    c.from_residual-in_err-session-in-Mixed.ensures.1 in
    required_by_fault g.D.Devices.calls _ _ _ c.args.options.order c.args.options.seed c.args.options.limit
    _ p.0 p.1 p.2
