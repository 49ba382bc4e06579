use Rattle.std.proofs.Common.{◌≡◌, ◌∙◌, [], ap, sym}
use Rattle.std.specs.Option.{option_map_or}
use Rattle.std.proofs.lemmas.Result.{IfOk-weaker}
use Rattle.prop_procedures.specs.Kept.{stored_of}
use Rattle.prop_origins.specs.declared.part.Origin.TheVariants.{Called}
use Rattle.prop_workbench.specs.Sessions.{state_of}
use Rattle.prop_telling.specs.How.{origin_text}
use Rattle.prop_notes.specs.Texts.{call_text}
use Rattle.prop_telling.proofs.TellingLemmas.{there}
use Rattle.prop_telling.proofs.telling.Teller.origin.Goals as goal

pub returns-in-Called : goal.returns-in-Called
returns-in-Called g c =
    let s = c.args.self.now.session in
    let library = stored_of g.R.Rule.value_of s.live.network.library in
    let i = c.in-Called.number in
    let called : c.args.part.now.origin ≡ Called i = sym c.origin.ensures ∙ c.in-Called.is in
    let x = there s.live.network.cells.instances i (c.requires.there.call i called) in
    let texts = rw (c.names.ensures, c.network-network.ensures, c.live.ensures) at c.call_text.ensures in
    let is : origin_text library (state_of s) c.args.part.now.support c.args.part.now.origin
    ≡ call_text s.names library i x.0 =
    ap (origin_text library (state_of s) c.args.part.now.support) called
    ∙ ap (λ o. option_map_or (call_text s.names library i) o []) x.1 in
    IfOk-weaker c.call_text.result _ _ (λ text e. e ∙ sym is) (texts x.0 x.1)
