use Rattle.std.proofs.Common.{sym, subst, Option, IfSome}
use Rattle.std.specs.Option.{option_map}
use Rattle.prop_procedures.specs.Kept.{stored_of}
use Rattle.prop_workbench.specs.Engine.{standing_of}
use Rattle.prop_lessons.specs.Lessons.{AreTaught, Taught}
use Rattle.prop_seeking.specs.declared.inquiry.Inquiry.{Inquiry}
use Rattle.prop_seeking.specs.inner.Seekers.{IsInquiry, ground_in, inquiry_of}
use Rattle.prop_conflicts.specs.declared.explorer.Explorer.{Explorer}
use Rattle.prop_conflicts.specs.inner.Explorers.{IsExplored}
use Rattle.prop_seeking.specs.inner.Explored.{ground_in as ground_there}
use Rattle.prop_requiring.proofs.Starting.{requirer_serves}
use Rattle.prop_requiring.proofs.running.serve.Goals as goal

pub answer-counts-requires : goal.answer-counts-requires
answer-counts-requires g c =
    let begun = c.new-requirer.ensures in
    let session = c.new-requirer.result.blamer.seeker.teller.session in
    record {
      ready = record {
        blamer = record {
          seeker = record {
            means = rw begun.session c.requires.means;
            sound = rw begun.session c.requires.sound;
            inquiry = subst (λ (o : Option Inquiry). IfSome o (IsInquiry (ground_in g.R.Rule.value_of session)))
                (sym begun.inquiry) tt;
            earlier = subst (λ (o : Option Taught). IfSome o
                (AreTaught (stored_of g.R.Rule.value_of session.live.network.library))) (sym begun.earlier) tt;
          };
          explored = subst (λ (o : Option Explorer). IfSome o (IsExplored (ground_there g.R.Rule.value_of session)))
              (sym begun.explorer) tt;
        };
        palette = rw begun.session c.requires.palette;
      };
    }

pub returns : goal.returns
returns g c =
    let begun = c.new-requirer.ensures in
    requirer_serves g.D.Devices.calls _ _ g.O.Order.picks _ _ _ _ _ c.answer-counts.result
    (λ i. stored_of g.R.Rule.value_of (begun.session i).live.network.library)
    (λ i. record {
      told = record { standing = standing_of (begun.session i); notes = begun.notes i };
      inquiry = option_map inquiry_of (begun.inquiry i);
    }) c.answer-counts.ensures
