-- From the laws of functions of informations to those of functions of lists of arguments.
use Rattle.std.specs.Prelude.{◌≢◌, ℕ, List, [], ◌∷◌}
use Rattle.std.proofs.Common.{rules}
use Rattle.prop_lattice.specs.Order.{Below}
use Rattle.prop_lattice.specs.Rank.{IsOf}
use Rattle.prop_lattice.specs.declared.info.Info.{Info}
use Rattle.prop_lattice.specs.declared.info.Info.TheVariants.{Contradiction}
use Rattle.prop_lattice.specs.declared.info.Kind.{Kind}
use Rattle.prop_procedures.specs.Rules.{EachBelow, AreClear}
use Rattle.prop_arith.specs.laws.Combined.{at_one, at_three, at_two}

-- ---- more in the arguments is more in the answer

pub one_below : (f : Info → Info)
    → ((x x' : Info) → Below x x' → x' ≢ Contradiction → Below (f x) (f x'))
    → (olds news : List Info) → EachBelow olds news → AreClear news
    → Below (at_one f olds) (at_one f news)
one_below f h (x ∷ []) (x' ∷ []) p n = h x x' p.0 n.0
one_below f h olds news p n = search rules

pub two_below : (f : Info → Info → Info)
    → ((x y x' y' : Info) → Below x x' → Below y y' → x' ≢ Contradiction → y' ≢ Contradiction
    → Below (f x y) (f x' y')) → (olds news : List Info) → EachBelow olds news → AreClear news
    → Below (at_two f olds) (at_two f news)
two_below f h (x ∷ y ∷ []) (x' ∷ y' ∷ []) p n = h x y x' y' p.0 p.1.0 n.0 n.1.0
two_below f h olds news p n = search rules

pub three_below : (f : Info → Info → Info → Info)
    → ((x y z x' y' z' : Info) → Below x x' → Below y y' → Below z z' → x' ≢ Contradiction
    → y' ≢ Contradiction → z' ≢ Contradiction → Below (f x y z) (f x' y' z'))
    → (olds news : List Info) → EachBelow olds news → AreClear news
    → Below (at_three f olds) (at_three f news)
three_below f h (x ∷ y ∷ z ∷ []) (x' ∷ y' ∷ z' ∷ []) p n =
    h x y z x' y' z' p.0 p.1.0 p.1.1.0 n.0 n.1.0 n.1.1.0
three_below f h olds news p n = search rules

-- ---- answers of their kind

pub one_kind : (kind : Kind) (size : ℕ) (f : Info → Info) → ((x : Info) → IsOf kind size (f x))
    → (args : List Info) → IsOf kind size (at_one f args)
one_kind kind size f h (x ∷ []) = h x
one_kind kind size f h args = search rules

pub two_kind : (kind : Kind) (size : ℕ) (f : Info → Info → Info)
    → ((x y : Info) → IsOf kind size (f x y)) → (args : List Info) → IsOf kind size (at_two f args)
two_kind kind size f h (x ∷ y ∷ []) = h x y
two_kind kind size f h args = search rules
