use Rattle.std.proofs.Common.{◌≡◌, ◌∙◌, ◌↔◌, ℤ, IsTrue, ap, sym, subst, arith, to_z, of_z, w64}
use Rattle.std.proofs.lemmas.Int.{ints}
use Rattle.prop_facts.specs.declared.fact.Fact.{Fact}
use Rattle.prop_facts.specs.declared.fact.Fact.TheVariants.{Other}
use Rattle.prop_trail.proofs.SayLaws.{SaysIn, follows_from_says, says_from_follows}
use Rattle.prop_trail.proofs.place.Place.says.Goals as goal

pub returns-in-Other : goal.returns-in-Other
returns-in-Other c =
    let m = to_z w64 (of_z w64 c.in-Other.number) in
    let same : m ≡ c.in-Other.number = omega (arith, ints) in
    let fact : Other m ≡ c.args.fact = ap (λ (z : ℤ). Other z) same ∙ sym c.in-Other.is in
    subst (λ (f : Fact). IsTrue c.is_other.result ↔ SaysIn f c.args.self.now) fact c.is_other.ensures

pub returns-in_default : goal.returns-in_default
returns-in_default c =
    let x = c.args.self.now in
    let f = c.args.fact in (
      λ t. says_from_follows f x (c.follows_from.ensures.0 t),
      λ says. c.follows_from.ensures.1
          (follows_from_says f x c.requires (λ n s _ is _. c.in_default.not-Other n is) says),
    )
