use Rattle.std.proofs.Common.{arith, refl}
use Rattle.std.proofs.lemmas.Option.{none-some}
use Rattle.prop_workbench.proofs.StandLemmas.{no_stand_made, no_stand_search}
use Rattle.prop_workbench.proofs.session.Session.new.Goals as goal

pub returns-clause-sound : goal.returns-clause-sound
returns-clause-sound g c = record {
  in_order = record {
    at_work = record {
      under_way = record {
        kept = rw c.new-2.ensures.network c.requires.kept;
        line_below = rw c.new-2.ensures.agenda (λ k d l. absurd (omega (arith, l)));
        met = rw (c.new-2.ensures.network, c.requires.empty) (record { met = λ j x at idle. absurd (none-some _ at) });
      };
      well_made = rw c.new-5.ensures no_stand_made;
      search = rw c.new-5.ensures (no_stand_search _);
      known = rw (c.new-2.ensures.network, c.requires.empty) (λ k d l. absurd (omega (arith, l)));
      watched = rw (c.new-2.ensures.agenda, c.new-2.ensures.network, c.requires.empty)
          (record { below = λ k d l. absurd (omega (arith, l)); holds = λ cell clash. cc });
    };
    sized = rw (c.new-2.ensures.network, c.requires.empty) (λ k d l. absurd (omega (arith, l)));
    room = rw (c.new-2.ensures.network, c.requires.empty) (omega arith, omega arith);
    named = rw c.new-3.ensures (λ k d l. absurd (omega (arith, l)));
    locals = rw (c.new-4.ensures.none) (record {
      locals = λ k d l. absurd (omega (arith, l));
      relations = rw c.in_ok-words.ensures refl;
      names = refl;
      passed = λ k d l. absurd (omega (arith, l));
    });
    defined = c.new-4.ensures.over _;
  };
  within = omega arith;
}
