use Rattle.std.proofs.Common.{ℕ, List, [], ◌∷◌, sym, ◌∙◌, ap, arith, Bor}
use Rattle.std.proofs.lemmas.List.{map-append}
use Rattle.prop_sets.specs.Names.{texts_of}
use Rattle.prop_vocabulary.specs.Texts.{names_in}
use Rattle.prop_vocabulary.proofs.TextLemmas.{picks, passes, picked_all}
use Rattle.prop_vocabulary.proofs.texts.names_in.Goals as goal
use Rattle.prop_vocabulary.proofs.texts.names_in.Goals.{then-is_set+in_ok-push, else-is_set}

pub loop-i-preserved : goal.loop-i-preserved
loop-i-preserved c =
    let elements = c.args.domain.now in
    let names = texts_of c.loop-i.names.items in
    let bits = c.bits-bits.result in
    elim c.if-is_set.branch [
      | then-is_set+in_ok-push w ↦ ap (λ v. texts_of v.items) w.names-is ∙ ap texts_of w.in_ok-push.ensures.items
          ∙ map-append (λ (x : Bor (List ℕ)). x.now) c.loop-i.names.items (w.element.result ∷ [])
          ∙ picks elements names bits c.loop-i.i [] w.element.result.now
          (omega (arith, c.loop-i-test.true, c.size-i-end.ensures.size))
          (sym c.is_set.ensures ∙ w.if-is_set.true) w.element.ensures.name c.loop-i.invariant
      | else-is_set w ↦ ap (λ v. texts_of v.items) w.names-is
          ∙ passes elements names bits c.loop-i.i (omega (arith, c.loop-i-test.true, c.size-i-end.ensures.size))
          (sym c.is_set.ensures ∙ w.if-is_set.false) c.loop-i.invariant
    ]

pub returns : goal.returns
returns c =
    picked_all c.args.domain.now (texts_of c.loop-i.names.items) c.bits-bits.result c.loop-i.i
    (omega (arith, c.loop-i-test.false, c.size-i-end.ensures.size)) c.loop-i.invariant
    ∙ ap (names_in c.args.domain.now) c.bits-bits.ensures
