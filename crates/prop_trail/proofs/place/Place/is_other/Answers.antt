use Rattle.std.proofs.Common.{◌↔◌, ℤ, IsTrue, subst, SFits, w64}
use Rattle.std.proofs.lemmas.Int.{to_z-of_z}
use Rattle.prop_facts.specs.declared.fact.Fact.TheVariants.{Other}
use Rattle.prop_trail.proofs.SayLaws.{Follows, follows_from_says, says_from_follows, says_other_span}
use Rattle.prop_trail.proofs.place.Place.is_other.Goals as goal

pub returns-in-Span : goal.returns-in-Span
returns-in-Span c =
    let fits : SFits w64 c.args.number = c.ranges.number in
    let tells = simp to_z-of_z at c.leaves.ensures in
    says_other_span c.args.self.now c.in-Span.field-0 c.args.number c.leaves.result c.in-Span.is tells

pub returns-in_default : goal.returns-in_default
returns-in_default c =
    let x = c.args.self.now in
    let fits : SFits w64 c.args.number = c.ranges.number in
    let tells = subst (λ (z : ℤ). IsTrue c.follows_from.result ↔ Follows (Other z) x.info)
    (to_z-of_z w64 c.args.number fits) c.follows_from.ensures in (
      λ t. says_from_follows (Other c.args.number) x (tells.0 t),
      λ says. tells.1 (follows_from_says (Other c.args.number) x c.requires
          (λ n s is _ _. c.in_default.not-Span s is) says),
    )
