use Rattle.std.proofs.Common.{[], ◌∷◌, take, refl, subst, sym}
use Rattle.prop_engine.specs.inner.Lines.{IsWithoutFeed}
use Rattle.prop_engine.proofs.Lines.{without_more}
use Rattle.prop_engine.proofs.Feeds.{next_place}
use Rattle.prop_engine.proofs.engine.line_end.Goals as goal

pub loop-i-preserved : goal.loop-i-preserved
loop-i-preserved c =
    let bytes = c.args.bytes.now in
    let i = c.loop-i.i in
    subst IsWithoutFeed (sym (next_place bytes i _ c.loop-i-test.true refl))
    (without_more (take i bytes) (_ ∷ []) c.loop-i.invariant (c.if-byte-eq10.false, tt))
