use Rattle.std.proofs.Common.{◌∙◌, ◌&&◌, length}
use Rattle.std.specs.Prelude.{nat_le}
use Rattle.std.specs.String.{string_bytes}
use Rattle.std.proofs.lemmas.Result.{IfOk-weaker}
use Rattle.prop_workbench.specs.Sessions.{library_of, state_of}
use Rattle.prop_blaming.specs.Texts.{conflicts_text}
use Rattle.prop_blaming.proofs.SayLemmas.{listed_believed, says_conflicts}
use Rattle.prop_blaming.proofs.blamer.Blamer.conflicts.Goals as goal

pub conflicts_text-requires : goal.conflicts_text-requires
conflicts_text-requires g c =
    let s = c.args.self.now.seeker.teller.session in
    rw c.deref.ensures.value (listed_believed (library_of g.R.Rule.value_of s) (state_of s) c.args.explorer.now
    c.requires.explored c.args.most c.in_ok-found.found.items c.in_ok-found.ensures)

pub returns : goal.returns
returns g c =
    let s = c.args.self.now.seeker.teller.session in
    let library = library_of g.R.Rule.value_of s in
    let all = c.are_all-all.ensures ∙ (λ i. c.is_over.ensures i
    && nat_le (length (c.conflicts.ensures i)) c.args.most) in
    IfOk-weaker c.conflicts_text.result _ _
    (λ t is. says_conflicts library (state_of s) c.args.explorer.now c.requires.explored c.args.most (string_bytes t)
    c.in_ok-found.found.items c.in_ok-found.ensures
    (is ∙ (λ i. conflicts_text s.search.premises (c.deref.ensures.value i) (all i)))) c.conflicts_text.ensures
