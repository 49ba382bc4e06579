use Rattle.std.proofs.Common.{◌≡◌, ◌∙◌, ◌++◌, ℕ, List, ap, length, map}
use Rattle.std.specs.Prelude.{flat_map}
use Rattle.std.specs.List.{range_with_len, zip}
use Rattle.std.specs.String.{string_bytes}
use Rattle.std.proofs.lemmas.Result.{IfOk-weaker}
use Rattle.prop_premises.specs.ChoiceLists.{hypothetical}
use Rattle.prop_premises.specs.Origins.{Origin, choices_of}
use Rattle.prop_premises.specs.declared.choice.Choice.{Choice}
use Rattle.prop_texts.specs.inner.Listed.{label_at}
use Rattle.prop_workbench.specs.Sessions.{state_of}
use Rattle.prop_seeking.specs.Texts.{cell_texts, lines_of}
use Rattle.prop_seeking.specs.inner.Pieces.{counted_text}
use Rattle.prop_seeking.specs.inner.Seekers.{plan_of}
use Rattle.prop_seeking.proofs.seeker.Seeker.plan.Goals as goal

pub returns : goal.returns
returns g c =
    let s = c.args.self.now.teller.session in
    let plan = plan_of c.args.plan.now in
    let sides : List Origin → List ℕ → List (List ℕ) = λ premises list.
    map (λ (x : Choice × ℕ). label_at premises (hypothetical x.0 x.1)) (zip (choices_of premises) list) in
    let premises = c.premises.ensures ∙ ap (λ (u : _). u.premises) (c.search.ensures
    ∙ ap (λ (u : _). u.search) c.session-session.ensures) in
    let lines : map string_bytes c.deref-2.result.now ≡ lines_of (state_of s) plan =
    ap (map string_bytes) c.deref-2.ensures.value ∙ c.in_ok-push_sides.ensures
    ∙ (λ i. c.in_ok-push_cells.ensures i ++ sides (premises i) (c.deref.ensures.value i))
    ∙ (λ i. (map string_bytes (c.new-lines.ensures.items i)
    ++ flat_map (cell_texts (state_of s) plan) (range_with_len 0 (length s.live.network.cells.kinds)))
    ++ sides s.search.premises c.args.plan.now.sides.items) in
    IfOk-weaker c.counted_text.result _ _ (λ text is. is ∙ ap (counted_text c.args.mark.now) lines)
    c.counted_text.ensures
