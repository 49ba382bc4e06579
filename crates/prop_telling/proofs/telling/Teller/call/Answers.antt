use Rattle.std.proofs.Common.{◌≡◌, ◌∙◌, ap, subst, ℕ, IfOk}
use Rattle.std.proofs.lemmas.Result.{IfOk-weaker}
use Rattle.std.specs.String.{string_bytes}
use Rattle.prop_numbers.specs.Sets.{set_of}
use Rattle.prop_procedures.specs.Kept.{stored_of}
use Rattle.prop_workbench.specs.Sessions.{state_of, work_of}
use Rattle.prop_telling.specs.Telling.{SaysValue}
use Rattle.prop_notes.specs.Texts.{sides_text, call_text}
use Rattle.prop_telling.specs.Texts.{three_lines}
use Rattle.prop_telling.proofs.TellingLemmas.{there}
use Rattle.prop_telling.proofs.telling.Teller.call.Goals as goal

pub returns : goal.returns
returns g c =
    let s = c.args.self.now.session in
    let x = there s.live.network.cells.instances c.args.called c.requires.called in
    let sides : string_bytes c.in_ok-sides.sides ≡ sides_text s.search.premises (set_of s.search.worldview) =
    c.in_ok-sides.ensures
    ∙ ap (λ (w : _). sides_text s.search.premises (set_of w))
    (c.worldview.ensures.same ∙ ap (λ u. u.worldview) c.search.ensures) in
    let texts = rw (c.names.ensures, c.network-network.ensures, c.live.ensures) at c.in_ok-call.ensures in
    let call : string_bytes c.in_ok-call.call ≡ call_text s.names
    (stored_of g.R.Rule.value_of s.live.network.library) c.args.called x.0 = texts x.0 x.1 in
    let outputs = rw (c.network-network.ensures, c.live.ensures) at c.output.ensures.at in
    let says : SaysValue (state_of s) (work_of s) x.0.output (string_bytes c.in_ok-value.value) =
    subst (λ (cell : ℕ). SaysValue (state_of s) (work_of s) cell (string_bytes c.in_ok-value.value))
    (outputs x.0 x.1) c.in_ok-value.ensures in
    let written : IfOk c.format.result (λ text. string_bytes text ≡ three_lines (string_bytes c.in_ok-sides.sides)
    (string_bytes c.in_ok-call.call) (string_bytes c.in_ok-value.value)) = c.format.ensures.ok in
    IfOk-weaker c.format.result _ _
    (λ text is. record {
      instance = x.0;
      at = x.1;
      value = string_bytes c.in_ok-value.value;
      says = says;
      text_is = is ∙ (λ i. three_lines (sides i) (call i) (string_bytes c.in_ok-value.value));
    }) written
