-- The reader: what it keeps, and what each token changes.
use Rattle.std.specs.Prelude.{ℕ, List, [], ◌∷◌, Bool, true, false, cond, ◌&&◌, nat_le}
use Rattle.std.specs.Prelude.{Option, Some, None}
use Rattle.std.specs.Option.{option_and_then}
use Rattle.prop_terms.specs.declared.operators.Prefix.{Prefix}
use Rattle.prop_terms.specs.declared.operators.Infix.{Infix}
use Rattle.prop_terms.specs.declared.operators.Prefix.TheVariants as before
use Rattle.prop_terms.specs.declared.operators.Infix.TheVariants as between
use Rattle.prop_terms.specs.declared.tokens.Shape.{Shape}
use Rattle.prop_terms.specs.declared.tokens.Shape.TheVariants.{Round, Curly}
use Rattle.prop_terms.specs.Levels.{level_of, strength_of, leaf_level, bracket_level, left_at}
use Rattle.prop_terms.specs.Levels.{right_at}
use Rattle.prop_terms.specs.Terms.{Term, Number, Name, One, Two}
use Rattle.prop_terms.specs.Tokens.{Token, Numeral, Word, Before, Between, Open, Close, is_leaf}
use Rattle.prop_terms.specs.Writing.{inside}

-- what has begun: a bracket, an operator before a term, or a term with an operator behind it
pub data Frame : Type 0 where
  Bracket : Shape → Frame
  Ahead : Prefix → Frame
  Behind : Term → Infix → Frame

-- what has begun, the innermost first, and a term in it with its level
pub record Held : Type 0 where
  pub frames : List Frame
  pub term : Term
  pub level : ℕ

-- a term is to come, or one is held
pub data State : Type 0 where
  Want : List Frame → State
  Have : Held → State

-- the least level of what is to come
abbrev pub asks : Frame → ℕ
asks (Bracket shape) = 0
asks (Ahead op) = right_at (strength_of op)
asks (Behind t op) = right_at (level_of op)

abbrev pub demand : List Frame → ℕ
demand [] = 0
demand (f ∷ fs) = asks f

-- the term that what has begun makes with one behind it, and that term's level
abbrev pub joined : Frame → Term → Term
joined (Bracket shape) t = t
joined (Ahead op) t = One op t
joined (Behind a op) t = Two op a t

abbrev pub rank : Frame → ℕ
rank (Bracket shape) = 0
rank (Ahead op) = strength_of op
rank (Behind a op) = level_of op

-- what is held before something of this level: whatever asks for more than it is made
abbrev pub shut : ℕ → List Frame → Term → ℕ → Held
shut c [] t l = record { frames = []; term = t; level = l }
shut c (f ∷ fs) t l = cond (nat_le (asks f) c) (record { frames = f ∷ fs; term = t; level = l })
    (shut c fs (joined f t) (rank f))

abbrev pub shut_in : ℕ → Held → Held
shut_in c held = shut c held.frames held.term held.level

-- a number or a name where a term is to come
abbrev pub leaf : Term → List Frame → Option State
leaf t fs = cond (nat_le (demand fs) leaf_level)
    (Some (Have (record { frames = fs; term = t; level = leaf_level }))) None

-- an operator where a term is to come
abbrev pub lead : Prefix → List Frame → Option State
lead op fs = cond (nat_le (demand fs) (strength_of op)) (Some (Want (Ahead op ∷ fs))) None

-- a token where a term is to come
abbrev pub begin : Token → List Frame → Option State
begin (Numeral n) fs = leaf (Number n) fs
begin (Word w) fs = leaf (Name w) fs
begin (Before op) fs = lead op fs
begin (Between between.Minus) fs = lead before.Negated fs
begin (Open shape) fs = Some (Want (Bracket shape ∷ fs))
begin token fs = None

-- an operator behind a term
abbrev pub join : Infix → Held → Option State
join op held = cond (nat_le (left_at (level_of op)) held.level)
    (Some (Want (Behind held.term op ∷ held.frames))) None

-- these brackets are the same
abbrev pub is_same : Shape → Shape → Bool
is_same Round Round = true
is_same Curly Curly = true
is_same a b = false

-- it is such a bracket
abbrev pub is_bracket : Shape → Frame → Bool
is_bracket shape (Bracket other) = is_same shape other
is_bracket shape f = false

-- the innermost frame is such a bracket
abbrev pub is_open : Shape → List Frame → Bool
is_open shape [] = false
is_open shape (f ∷ fs) = is_bracket shape f

-- nothing has begun
abbrev pub is_done : List Frame → Bool
is_done [] = true
is_done (f ∷ fs) = false

abbrev pub closed_in : Shape → List Frame → Term → Option State
closed_in shape (Bracket other ∷ fs) t = cond (is_same shape other)
    (Some (Have (record { frames = fs; term = inside shape t; level = bracket_level }))) None
closed_in shape fs t = None

-- a closing bracket behind a term
abbrev pub close : Shape → Held → Option State
close shape held = closed_in shape held.frames held.term

-- a token behind a term
abbrev pub go_on : Token → Held → Option State
go_on (Between op) held = join op (shut_in (level_of op) held)
go_on (Close shape) held = close shape (shut_in 0 held)
go_on token held = None

abbrev pub step : Token → State → Option State
step token (Want fs) = begin token fs
step token (Have held) = go_on token held

abbrev pub run : List Token → State → Option State
run [] state = Some state
run (token ∷ ts) state = option_and_then (run ts) (step token state)

-- a token, and Beside before it where it and the one before are numbers or names
abbrev pub take : Bool → Token → State → Option State
take after token state = cond (after && is_leaf token)
    (option_and_then (step token) (step (Between between.Beside) state)) (step token state)

abbrev pub whole : List Frame → Term → Option Term
whole [] t = Some t
whole (f ∷ fs) t = None

-- the term at the end
abbrev pub end : State → Option Term
end (Want fs) = None
end (Have held) = let last = shut_in 0 held in whole last.frames last.term

-- the term that the tokens write, as the reader finds it
abbrev pub parsed : List Token → Option Term
parsed ts = option_and_then end (run ts (Want []))
