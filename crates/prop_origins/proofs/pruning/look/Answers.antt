use Rattle.std.proofs.Common.{◌≡◌, ◌∙◌, ◌<◌, ◌||◌, ℕ, true, false, length, sym, ap, slice_index_or}
use Rattle.std.proofs.lemmas.List.{get_or_read}
use Rattle.prop_origins.specs.Parts.{reads}
use Rattle.prop_origins.proofs.PrunedLaws.{looked_left, looked_kept}
use Rattle.prop_origins.proofs.pruning.look.Goals as goal

pub returns-then-index-clause-step : goal.returns-then-index-clause-step
returns-then-index-clause-step c =
    let marks = c.args.marks.now.items in
    let p = c.args.part in
    let at : c.cell.result ≡ p.cell = c.cell.ensures in
    let l : c.cell.result < length marks = rw at c.requires.cell in
    let on : slice_index_or marks p.cell false ≡ true =
    ap (λ (k : ℕ). slice_index_or marks k false) (sym at)
    ∙ sym (get_or_read marks c.cell.result c.index.result.now l c.index.ensures false) ∙ c.if-index.true in
    let marked : (k : ℕ) → slice_index_or c.mark.new.marks.items k false ≡ (slice_index_or marks k false || reads p k) =
    rw c.inputs.ensures at c.mark.ensures.marked in
    λ behind. looked_kept marks c.mark.new.marks.items c.args.kept.now.items c.push.new.self.items p behind on marked
    c.in_ok-push.ensures.items

pub returns-clause-step : goal.returns-clause-step
returns-clause-step c =
    let marks = c.args.marks.now.items in
    let p = c.args.part in
    let at : c.cell.result ≡ p.cell = c.cell.ensures in
    let l : c.cell.result < length marks = rw at c.requires.cell in
    let off : slice_index_or marks p.cell false ≡ false =
    ap (λ (k : ℕ). slice_index_or marks k false) (sym at)
    ∙ sym (get_or_read marks c.cell.result c.index.result.now l c.index.ensures false) ∙ c.if-index.false in
    λ behind. looked_left marks c.args.kept.now.items p behind off
