use Rattle.prop_host_tests.proofs.Listed.{host_is_sound}
use Rattle.prop_host_tests.proofs.session.answers_hold_points.Goals as goal

pub returns : goal.returns
returns c = host_is_sound
