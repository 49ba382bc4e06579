use Rattle.std.proofs.Common.{◌∙◌, ◌+◌, ◌||◌, ◌==◌, refl, sym, ap, arith, length, take}
use Rattle.prop_numbers.specs.Words.{has_bit}
use Rattle.prop_premises.specs.Origins.{believed_in}
use Rattle.prop_premises.specs.inner.Named.{origins_of, is_believed_kind}
use Rattle.prop_premises.proofs.BelievedLemmas.{first_within, believed_in-next, told_of, not_told}
use Rattle.prop_premises.proofs.table.Table.set_believed.Goals as goal
use Rattle.prop_premises.proofs.table.Table.set_believed.Goals.{then-is_believed, else-is_believed}

pub set_bit-requires : goal.set_bit-requires
set_bit-requires c =
    let within = first_within c.self.inside.names.entries c.loop-place.place c.index-named.result.now c.self.invariant.1
    c.index-named.ensures
    (sym c.is_believed.ensures ∙ c.if-is_believed.true) in
    omega (arith, within, c.requires, c.loop-place.invariant.len, ap length c.self.view_is)

pub loop-place-preserved : goal.loop-place-preserved
loop-place-preserved c =
    let named = c.index-named.result.now in
    record {
      len = c.if-is_believed.auto.words ∙ c.loop-place.invariant.len;
      bits = λ p. (
          let next = believed_in-next c.self.inside.names.entries c.loop-place.place
          (c.loop-place.place + 1) named p refl c.self.invariant.1 c.index-named.ensures in
          elim c.if-is_believed.branch [
            | then-is_believed w ↦ ap (λ ws. has_bit ws p) w.words-is ∙ w.set_bit.ensures.bits p
                ∙ ap (λ b. b || (named.first == p)) (c.loop-place.invariant.bits p)
                ∙ told_of (has_bit c.args.words.now p)
                (believed_in (origins_of (take c.loop-place.place c.self.inside.names.entries)) p)
                (is_believed_kind named.kind) (named.first == p) (sym c.is_believed.ensures ∙ w.if-is_believed.true)
                ∙ ap (λ b. has_bit c.args.words.now p || b) (sym next)
            | else-is_believed w ↦ ap (λ ws. has_bit ws p) w.words-is ∙ c.loop-place.invariant.bits p
                ∙ not_told (has_bit c.args.words.now p)
                (believed_in (origins_of (take c.loop-place.place c.self.inside.names.entries)) p)
                (is_believed_kind named.kind) (named.first == p) (sym c.is_believed.ensures ∙ w.if-is_believed.false)
                ∙ ap (λ b. has_bit c.args.words.now p || b) (sym next)
          ]);
    }
