use Rattle.std.proofs.Common.{◌<◌, List, ℕ, All, length}
use Rattle.std.proofs.lemmas.List.Elements.{All-weaker}
use Rattle.prop_numbers.specs.Sets.{set_of}
use Rattle.prop_premises.specs.Origins.{choices_of}
use Rattle.prop_amb.specs.Refuted.{IsNogood}
use Rattle.prop_procedures.specs.Kept.{stored_of}
use Rattle.prop_cells.specs.Data.{problem_of}
use Rattle.prop_workbench.specs.Sessions.{state_of, shown_of, work_of}
use Rattle.prop_workbench.proofs.AskLemmas.{nogood_known}
use Rattle.prop_workbench.proofs.RunLemmas.{nogoods_obeyed}
use Rattle.prop_workbench.proofs.WakingLemmas.{wakes_nogoods}
use Rattle.prop_workbench.proofs.SoundLemmas.{unchanged}
use Rattle.prop_workbench.proofs.session.Session.nogoods.Goals as goal

pub nogoods_reply-requires : goal.nogoods_reply-requires
nogoods_reply-requires g c =
    let s = c.args.self.now in
    let problem = problem_of (stored_of g.R.Rule.value_of s.live.network.library) s.live.network.cells in
    let choices = choices_of s.search.premises in
    let n = length s.search.premises in
    rw (c.nogoods.ensures, c.premises.ensures)
    (All-weaker (λ (line : List ℕ). IsNogood problem choices (set_of line))
    (λ (line : List ℕ). All (λ (p : ℕ). p < n) line)
    (λ line nogood. nogood_known problem choices n line c.requires.sound.at_work.known nogood) s.search.listed
    c.requires.sound.at_work.search.nogoods)

pub returns : goal.returns
returns g c =
    let s = c.args.self.now in
    record {
      keeps = unchanged c.requires.sound;
      step = nogoods_obeyed (stored_of g.R.Rule.value_of s.live.network.library) (shown_of s) _
          (rw c.nogoods.ensures at c.nogoods_reply.ensures.in_order) c.requires.sound.at_work.search.nogoods
          c.requires.sound.at_work.well_made.minimal
          (rw (c.nogoods.ensures, c.premises.ensures) at c.nogoods_reply.ensures.says);
      rests = record { lean = tt; earned = tt; wakes = wakes_nogoods (state_of s) (work_of s) _ };
    }
