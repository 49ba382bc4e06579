use Rattle.std.proofs.Common.{◌≡◌, ◌∙◌, ℤ, IfOk, sym, subst, to_z, of_z, w64}
use Rattle.std.proofs.lemmas.Int.{ints}
use Rattle.std.proofs.Common.{arith}
use Rattle.std.proofs.lemmas.Result.{IfOk-weaker}
use Rattle.prop_lattice.specs.declared.info.Info.{Info as InfoOf}
use Rattle.prop_trail.specs.Sayings.{Said, RuledOut, IsMeant}
use Rattle.prop_trail.specs.declared.entry.Outcome.{Outcome}
use Rattle.prop_trail.proofs.SayLaws.{same_other}
use Rattle.prop_trail.proofs.trail.Trail.say_fact.Goals as goal

pub returns-in-Other-clause-other : goal.returns-in-Other-clause-other
returns-in-Other-clause-other c = λ n is. (
    let m = to_z w64 (of_z w64 c.in-Other.number) in
    let same : m ≡ c.in-Other.number = omega (arith, ints) in
    let told : c.in-Other.number ≡ n = same_other c.in-Other.number n (sym c.in-Other.is ∙ is) in
    subst (λ (z : ℤ). IfOk c.rule_out.result
    (RuledOut c.args.self.now c.args.literal.place z c.args.by c.rule_out.new.self)) (same ∙ told)
    c.rule_out.ensures.ok)

pub returns-in_default : goal.returns-in_default
returns-in_default c = record {
  other = λ n is. absurd (c.in_default.not-Other n is);
  said = λ hole. IfOk-weaker c.say.result
      (Said c.args.self.now c.args.literal.place c.info.result c.args.by c.say.new.self)
      (λ (outcome : Outcome). (said : InfoOf) × IsMeant c.args.literal.fact said
      × Said c.args.self.now c.args.literal.place said c.args.by c.say.new.self outcome)
      (λ outcome h. (c.info.result, (c.info.ensures.holds, c.info.ensures.says hole), h))
      c.say.ensures.ok;
  err = c.say.ensures.err;
  places = c.say.ensures.places;
  levels = c.say.ensures.levels;
  grows = c.say.ensures.grows;
}
