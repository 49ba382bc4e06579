-- What a fact says of a value.
use Rattle.std.specs.Prelude.{◌≡◌, ◌≢◌, ◌≤ℤ◌, neg_ℤ, ⊤, IfSome, int_le, Some, None}
use Rattle.std.specs.Prelude.{if◌then◌else◌}
use Rattle.prop_lattice.specs.Order.{HasElement}
use Rattle.prop_lattice.specs.Points.{Point, Number, Element, Symbol}
use Rattle.prop_lattice.specs.declared.info.Kind.{Kind}
use Rattle.prop_lattice.specs.declared.info.Info.{Info}
use Rattle.prop_lattice.specs.declared.info.Info.TheVariants.{Span, Set, Sym}
use Rattle.prop_lattice.specs.declared.info.Kind.TheVariants as kinds
use Rattle.prop_lattice.specs.declared.span.TheConstants.{B}
use Rattle.prop_facts.specs.declared.fact.Fact.{Fact}
use Rattle.prop_facts.specs.declared.fact.Fact.TheVariants.{AtLeast, AtMost, Is, Other, Among, Same}
use Rattle.prop_facts.specs.declared.fact.Parts.{Parts}

-- the fact is so of this value
abbrev pub IsSo : Fact → Point → Type 0
IsSo (AtLeast n) (Number v) = n ≤ℤ v
IsSo (AtMost n) (Number v) = v ≤ℤ n
IsSo (Is n) (Number v) = v ≡ n
IsSo (Other n) (Number v) = v ≢ n
IsSo (Among elements) (Element i) = HasElement elements i
IsSo (Same a) (Symbol b) = a ≡ b
IsSo fact p = ⊥

-- each of the facts is so of it
abbrev pub AreSo : Parts → Point → Type 0
AreSo parts p = IfSome parts.first (λ fact. IsSo fact p) × IfSome parts.second (λ fact. IsSo fact p)

-- the value is no number, or one that spans may have
abbrev pub IsInRange : Point → Type 0
IsInRange (Number v) = (neg_ℤ B ≤ℤ v) × (v ≤ℤ B)
IsInRange p = ⊤

-- the fact speaks of values of the kind
abbrev pub IsOfKind : Kind → Fact → Type 0
IsOfKind (kinds.Set domain) (Among elements) = ⊤
IsOfKind kinds.Symbol (Same a) = ⊤
IsOfKind kinds.Span (AtLeast n) = ⊤
IsOfKind kinds.Span (AtMost n) = ⊤
IsOfKind kinds.Span (Is n) = ⊤
IsOfKind kinds.Span (Other n) = ⊤
IsOfKind kind fact = ⊥

-- the fact says which number it isn't
abbrev pub IsHole : Fact → Type 0
IsHole (Other n) = ⊤
IsHole fact = ⊥

-- the fact says which symbol it is
abbrev pub IsSymbol : Fact → Type 0
IsSymbol (Same a) = ⊤
IsSymbol fact = ⊥

-- the facts that say together what the information says: an end that every number keeps needs none
abbrev pub parts_of : Info → Parts
parts_of (Span s) = record {
  first = if int_le s.lo (neg_ℤ B) then None else Some (AtLeast s.lo);
  second = if int_le B s.hi then None else Some (AtMost s.hi);
}
parts_of (Set elements) = record { first = Some (Among elements); second = None }
parts_of (Sym symbol) = record { first = Some (Same symbol); second = None }
parts_of info = record { first = None; second = None }
