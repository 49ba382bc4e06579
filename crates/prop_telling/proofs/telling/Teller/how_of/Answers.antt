use Rattle.std.proofs.Common.{◌≡◌, ◌<◌, ◌≤◌, length}
use Rattle.std.proofs.lemmas.Result.{IfOk-weaker}
use Rattle.std.specs.String.{string_bytes}
use Rattle.prop_numbers.specs.Sets.{set_of}
use Rattle.prop_procedures.specs.Kept.{stored_of}
use Rattle.prop_contents.specs.Contents.{beliefs, IsLeanAt}
use Rattle.prop_cells.specs.Data.{problem_of}
use Rattle.prop_origins.specs.Founded.{MakeUp, FallShort}
use Rattle.prop_origins.specs.Parts.{calls_in}
use Rattle.prop_origins.specs.Whole.{IfWhole, IfCut}
use Rattle.prop_scheduler.specs.Potential.{most_steps}
use Rattle.prop_telling.specs.How.{most_calls}
use Rattle.prop_workbench.specs.Sessions.{state_of, work_of}
use Rattle.prop_workbench.proofs.PremiseLemmas.{support_known}
use Rattle.prop_telling.proofs.HowLemmas.{made_there, how_said}
use Rattle.prop_telling.proofs.telling.Teller.how_of.Goals as goal

pub how_text-text-requires-clause-known : goal.how_text-text-requires-clause-known
how_text-text-requires-clause-known g c =
    let s = c.args.self.now.session in
    let explains = rw (c.network-network.ensures, c.live.ensures) at c.in_ok-why.ensures.explains in
    support_known (problem_of (stored_of g.R.Rule.value_of s.live.network.library) s.live.network.cells)
    (length s.search.premises) c.args.cell c.in_ok-why.why.support c.requires.sound.in_order.at_work.known
    explains.related

pub how_text-text-requires-clause-there : goal.how_text-text-requires-clause-there
how_text-text-requires-clause-there g c =
    let s = c.args.self.now.session in
    let library = stored_of g.R.Rule.value_of s.live.network.library in
    let why = c.in_ok-why.why in
    let at_work = c.requires.sound.in_order.at_work in
    let told : IfWhole c.in_ok-made.made
    (MakeUp library s.live.network.cells (set_of why.support) c.args.cell why.value) =
    rw (c.network-network.ensures, c.live.ensures) at c.in_ok-made.ensures.whole in
    made_there library s.live.network.cells (set_of why.support) (length s.search.premises) c.args.cell why.value
    c.in_ok-made.made at_work.under_way.kept at_work.known told

pub returns : goal.returns
returns g c =
    let s = c.args.self.now.session in
    let library = stored_of g.R.Rule.value_of s.live.network.library in
    let d = s.live.network.cells in
    let why = c.in_ok-why.why in
    let cell = c.args.cell in
    let told : IfWhole c.in_ok-made.made (MakeUp library d (set_of why.support) cell why.value) =
    rw (c.network-network.ensures, c.live.ensures) at c.in_ok-made.ensures.whole in
    let cut : IfCut c.in_ok-made.made (most_calls < most_steps (problem_of library d)) =
    rw (c.network-network.ensures, c.live.ensures) at c.in_ok-made.ensures.cut in
    let few : IfWhole c.in_ok-made.made (λ parts. calls_in parts ≤ most_calls) = c.in_ok-made.ensures.few in
    let short : IfCut c.in_ok-made.made (FallShort library d (set_of why.support) cell why.value most_calls) =
    rw (c.network-network.ensures, c.live.ensures) at c.in_ok-made.ensures.short in
    let is : why.value ≡ beliefs (set_of s.search.worldview) d.contents cell =
    rw (c.worldview.ensures.same, c.search.ensures, c.network-network.ensures, c.live.ensures) at
    c.in_ok-why.ensures.value in
    let lean : IsLeanAt (set_of s.search.worldview) d.contents cell why.support =
    rw (c.worldview.ensures.same, c.search.ensures, c.network-network.ensures, c.live.ensures) at
    c.in_ok-why.ensures.lean in
    IfOk-weaker c.how_text-text.result _ _
    (λ t e. how_said library (state_of s) (work_of s) cell why.support why.value c.in_ok-made.made (string_bytes t) is
    lean told few short cut e) c.how_text-text.ensures
