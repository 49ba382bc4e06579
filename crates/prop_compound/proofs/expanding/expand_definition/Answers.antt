use Rattle.std.proofs.Common.{◌≡◌, ◌<◌, ◌≤◌, length, ap, get_or, vec_len, subst, sym, arith}
use Rattle.std.specs.Prelude.{IfSome}
use Rattle.std.proofs.lemmas.List.{append-nil}
use Rattle.prop_compound.specs.declared.definition.KeptDefinition.{KeptDefinition}
use Rattle.prop_compound.specs.inner.Frames.{IsBegun}
use Rattle.prop_compound.proofs.Frames.{begun, step_in_scope, goes_past, past_less, goes_in, in_less, goes_back}
use Rattle.prop_compound.proofs.Frames.{back_less, all_done}
use Rattle.prop_compound.proofs.expanding.expand_definition.Goals as goal

pub loop-frame-init : goal.loop-frame-init
loop-frame-init c =
    begun c.args.words.now c.args.definitions.now c.args.frame c.args.walk.now c.requires.kept c.requires.there
    c.requires.next c.requires.given c.requires.placed c.new-waiting.result.items c.new-waiting.ensures.items

pub take_step-requires-clause-in_scope : goal.take_step-requires-clause-in_scope
take_step-requires-clause-in_scope c =
    let k = c.index-definitions-frame.result in
    let is = c.index-definitions-frame.is in
    let within : c.loop-frame.frame.next < length k.plan.items =
    omega (arith, c.if-frame-len.true, c.len.ensures, ap (λ (k : KeptDefinition). vec_len k.plan) is, k.plan.ok.0)
    in
    let item = subst (λ (k : KeptDefinition).
    c.index-step.result.now ≡ get_or k.plan.items c.loop-frame.frame.next c.index-step.result.now) (sym is)
    c.index-step.ensures in
    step_in_scope c.args.words.now c.args.definitions.now c.args.frame c.args.walk.now c.loop-frame.waiting.items
    c.loop-frame.frame c.loop-frame.walk c.loop-frame.invariant c.requires.kept k is c.index-step.result.now within
    item

pub loop-frame-preserved-in-None : goal.loop-frame-preserved-in-None
loop-frame-preserved-in-None c =
    let k = c.index-definitions-frame.result in
    let is = c.index-definitions-frame.is in
    let within : c.loop-frame.frame.next < length k.plan.items =
    omega (arith, c.if-frame-len.true, c.len.ensures, ap (λ (k : KeptDefinition). vec_len k.plan) is, k.plan.ok.0)
    in
    let item = subst (λ (k : KeptDefinition).
    c.index-step.result.now ≡ get_or k.plan.items c.loop-frame.frame.next c.index-step.result.now) (sym is)
    c.index-step.ensures in
    let taken = c.in_ok-used.ensures in
    goes_past c.args.words.now c.args.definitions.now c.args.frame c.args.walk.now c.loop-frame.waiting.items
    c.loop-frame.frame c.loop-frame.walk c.loop-frame.invariant c.requires.kept k is c.index-step.result.now within
    item c.take_step.new.frame c.take_step.new.walk taken.frame taken.places taken.further c.in_ok-used.field-0
    c.in-None.is taken.steps

pub loop-frame-smaller-in-None : goal.loop-frame-smaller-in-None
loop-frame-smaller-in-None c =
    let k = c.index-definitions-frame.result in
    let is = c.index-definitions-frame.is in
    let within : c.loop-frame.frame.next < length k.plan.items =
    omega (arith, c.if-frame-len.true, c.len.ensures, ap (λ (k : KeptDefinition). vec_len k.plan) is, k.plan.ok.0)
    in
    let item = subst (λ (k : KeptDefinition).
    c.index-step.result.now ≡ get_or k.plan.items c.loop-frame.frame.next c.index-step.result.now) (sym is)
    c.index-step.ensures in
    let taken = c.in_ok-used.ensures in
    past_less c.args.words.now c.args.definitions.now c.args.frame c.args.walk.now c.loop-frame.waiting.items
    c.loop-frame.frame c.loop-frame.walk c.loop-frame.invariant c.requires.kept k is c.index-step.result.now within
    item c.take_step.new.frame c.take_step.new.walk taken.frame taken.places taken.further

pub loop-frame-preserved-in-Some : goal.loop-frame-preserved-in-Some
loop-frame-preserved-in-Some c =
    let k = c.index-definitions-frame.result in
    let is = c.index-definitions-frame.is in
    let within : c.loop-frame.frame.next < length k.plan.items =
    omega (arith, c.if-frame-len.true, c.len.ensures, ap (λ (k : KeptDefinition). vec_len k.plan) is, k.plan.ok.0)
    in
    let item = subst (λ (k : KeptDefinition).
    c.index-step.result.now ≡ get_or k.plan.items c.loop-frame.frame.next c.index-step.result.now) (sym is)
    c.index-step.ensures in
    let begun = subst (λ o. IfSome o (IsBegun c.index-step.result.now c.take_step.new.walk)) c.in-Some.is
    c.in_ok-used.ensures.used in
    let taken = c.in_ok-used.ensures in
    goes_in c.args.words.now c.args.definitions.now c.args.frame c.args.walk.now c.loop-frame.waiting.items
    c.loop-frame.frame c.loop-frame.walk c.loop-frame.invariant c.requires.kept k is c.index-step.result.now within
    item c.take_step.new.frame c.take_step.new.walk taken.frame taken.places taken.further c.in-Some.used begun
    c.push.new.self.items c.in_ok-push-in-Some.ensures.items c.in_ok-used.field-0 c.in-Some.is taken.steps

pub loop-frame-smaller-in-Some : goal.loop-frame-smaller-in-Some
loop-frame-smaller-in-Some c =
    let k = c.index-definitions-frame.result in
    let is = c.index-definitions-frame.is in
    let within : c.loop-frame.frame.next < length k.plan.items =
    omega (arith, c.if-frame-len.true, c.len.ensures, ap (λ (k : KeptDefinition). vec_len k.plan) is, k.plan.ok.0)
    in
    let item = subst (λ (k : KeptDefinition).
    c.index-step.result.now ≡ get_or k.plan.items c.loop-frame.frame.next c.index-step.result.now) (sym is)
    c.index-step.ensures in
    let begun = subst (λ o. IfSome o (IsBegun c.index-step.result.now c.take_step.new.walk)) c.in-Some.is
    c.in_ok-used.ensures.used in
    let taken = c.in_ok-used.ensures in
    in_less c.args.words.now c.args.definitions.now c.args.frame c.args.walk.now c.loop-frame.waiting.items
    c.loop-frame.frame c.loop-frame.walk c.loop-frame.invariant c.requires.kept k is c.index-step.result.now within
    item c.take_step.new.frame c.take_step.new.walk taken.frame taken.places taken.further c.in-Some.used begun
    c.push.new.self.items c.in_ok-push-in-Some.ensures.items

pub loop-frame-preserved : goal.loop-frame-preserved
loop-frame-preserved c =
    let k = c.index-definitions-frame.result in
    let is = c.index-definitions-frame.is in
    let over : length k.plan.items ≤ c.loop-frame.frame.next =
    omega (arith, c.if-frame-len.false, c.len.ensures, ap (λ (k : KeptDefinition). vec_len k.plan) is, k.plan.ok.0)
    in
    goes_back c.args.words.now c.args.definitions.now c.args.frame c.args.walk.now c.loop-frame.waiting.items
    c.loop-frame.frame c.loop-frame.walk c.loop-frame.invariant c.requires.kept k is over c.pop.new.self.items
    c.in-Some-pop.last c.in-Some-pop.ensures.items

pub loop-frame-smaller : goal.loop-frame-smaller
loop-frame-smaller c =
    back_less c.args.definitions.now c.loop-frame.waiting.items c.pop.new.self.items c.loop-frame.frame
    c.in-Some-pop.last c.in-Some-pop.ensures.items

pub returns-in-None-pop : goal.returns-in-None-pop
returns-in-None-pop c =
    let k = c.index-definitions-frame.result in
    let is = c.index-definitions-frame.is in
    let over : length k.plan.items ≤ c.loop-frame.frame.next =
    omega (arith, c.if-frame-len.false, c.len.ensures, ap (λ (k : KeptDefinition). vec_len k.plan) is, k.plan.ok.0)
    in
    let none = c.in-None-pop.ensures in
    all_done c.args.words.now c.args.definitions.now c.args.frame c.args.walk.now c.loop-frame.waiting.items
    c.loop-frame.frame c.loop-frame.walk c.loop-frame.invariant c.requires.kept k is over
    (grind (arith, none.items, none.rest, none.cases.0, none.cases.1, append-nil))
