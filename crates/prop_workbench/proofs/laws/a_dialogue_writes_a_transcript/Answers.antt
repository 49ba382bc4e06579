use Rattle.prop_engine.proofs.Speaking.{dialogue_transcript, dialogue_prefix}
use Rattle.prop_workbench.specs.laws.MachineLaws.{workbench_is_total}
use Rattle.prop_workbench.proofs.laws.a_dialogue_writes_a_transcript.Goals as goal

pub returns-clause-whole : goal.returns-clause-whole
returns-clause-whole g c = λ reads old counts calls new d. dialogue_transcript _ reads old counts calls new d

pub returns-clause-in_part : goal.returns-clause-in_part
returns-clause-in_part g c = λ reads old fault calls new d.
    dialogue_prefix _ (workbench_is_total _) reads old fault calls new d
