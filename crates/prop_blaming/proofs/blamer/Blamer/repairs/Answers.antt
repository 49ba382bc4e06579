use Rattle.std.proofs.Common.{◌∙◌, ◌&&◌, ap, length, take}
use Rattle.std.specs.Prelude.{nat_le}
use Rattle.std.specs.String.{string_bytes}
use Rattle.std.proofs.lemmas.Result.{IfOk-weaker}
use Rattle.prop_workbench.specs.Sessions.{library_of, state_of}
use Rattle.prop_blaming.specs.Texts.{repairs_text}
use Rattle.prop_blaming.proofs.SayLemmas.{first_believed, says_repairs}
use Rattle.prop_blaming.proofs.blamer.Blamer.repairs.Goals as goal

pub repairs_text-requires : goal.repairs_text-requires
repairs_text-requires g c =
    let s = c.args.self.now.seeker.teller.session in
    first_believed (library_of g.R.Rule.value_of s) (state_of s) c.args.explorer.now c.requires.explored c.args.most
    c.first_repairs-found.result.now (c.first_repairs-found.ensures ∙ ap (take c.args.most) c.repairs.ensures)

pub returns : goal.returns
returns g c =
    let s = c.args.self.now.seeker.teller.session in
    let library = library_of g.R.Rule.value_of s in
    let found = c.first_repairs-found.result.now in
    let all = c.are_all-all.ensures ∙ (λ i. c.is_over.ensures i
    && nat_le (length (c.repairs-2.ensures i)) c.args.most) in
    IfOk-weaker c.repairs_text.result _ _
    (λ t is. says_repairs library (state_of s) c.args.explorer.now c.requires.explored c.args.most (string_bytes t)
    found (c.first_repairs-found.ensures ∙ ap (take c.args.most) c.repairs.ensures)
    (is ∙ ap (repairs_text s.search.premises found) all)) c.repairs_text.ensures
