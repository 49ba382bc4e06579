use Rattle.std.proofs.Common.{◌∙◌, sym}
use Rattle.std.proofs.lemmas.Option.{same_Some}
use Rattle.prop_scheduler.proofs.next.call_next.Goals as goal

pub returns-clause-called : goal.returns-clause-called
returns-clause-called g c =
    let turn = c.in_ok-turn.ensures.turn in
    record {
      place = c.pick-place.result;
      picked = rw c.waiting.ensures.waiting at c.pick-place.ensures.picks;
      turn = turn;
      called_is = same_Some turn.called c.at-called.result (sym turn.waits ∙ c.at-called.ensures);
    }
