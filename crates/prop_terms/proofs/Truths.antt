-- Truths have values.
use Rattle.std.proofs.Common.{refl}
use Rattle.std.specs.Prelude.{◌&&◌, ◌||◌, not}
use Rattle.std.proofs.lemmas.Bool.{false≢true}
use Rattle.prop_terms.specs.declared.operators.Infix.TheVariants.{Iff, Implies, Xor, Or, And, Equal, Unequal, Less}
use Rattle.prop_terms.specs.declared.operators.Infix.TheVariants.{AtMost, Greater, AtLeast, In}
use Rattle.prop_terms.specs.Meaning.{worth, each, is_in, holds, is_equal, comparison, TruthsHaveValues}

pub truths : TruthsHaveValues
truths names And t u e = (holds (worth names t) && holds (worth names u), refl)
truths names Or t u e = (holds (worth names t) || holds (worth names u), refl)
truths names Xor t u e = (not (is_equal (holds (worth names t)) (holds (worth names u))), refl)
truths names Iff t u e = (is_equal (holds (worth names t)) (holds (worth names u)), refl)
truths names Implies t u e = (not (holds (worth names t)) || holds (worth names u), refl)
truths names Equal t u e = (comparison Equal (worth names t) (worth names u), refl)
truths names Unequal t u e = (comparison Unequal (worth names t) (worth names u), refl)
truths names Less t u e = (comparison Less (worth names t) (worth names u), refl)
truths names AtMost t u e = (comparison AtMost (worth names t) (worth names u), refl)
truths names Greater t u e = (comparison Greater (worth names t) (worth names u), refl)
truths names AtLeast t u e = (comparison AtLeast (worth names t) (worth names u), refl)
truths names In t u e = (is_in names u (each names t (worth names t)), refl)
truths names op t u e = absurd (false≢true e)
