-- How many choice lists there are, the places among them, and the steps over them.
use Rattle.std.proofs.Common.{◌≡◌, ℕ, ◌+◌, ◌-◌, ◌*◌, ◌<◌, ◌≤◌, List, [], ◌∷◌, inl, inr, arith}
use Rattle.std.proofs.Math.Nat.{mul-le-mul_right, add-mul}
use Rattle.prop_premises.specs.declared.choice.Choice.{Choice}
use Rattle.prop_premises.specs.ChoiceLists.{IsChoiceList, IsBefore, lists_count, place_of}

-- where a number is one smaller or more, so many less are below
below_by_one : (a b n rest : ℕ) → a < b → rest < n → a * n + rest < b * n
below_by_one a b n rest lt l =
    let le = mul-le-mul_right {m = a + 1} {n = b} n (omega (arith, lt)) in
    let e = add-mul a 1 n in
    omega (arith, le, e, l)

pub place_below : (choices : List Choice) (list : List ℕ) → IsChoiceList choices list
    → place_of choices list < lists_count choices
place_below [] [] h = omega arith
place_below [] (side ∷ list) h = absurd h
place_below (choice ∷ choices) [] h = absurd h
place_below (choice ∷ choices) (side ∷ list) h =
    below_by_one (side - 1) choice.sides (lists_count choices) (place_of choices list) (omega (arith, h.0.0, h.0.1))
    (place_below choices list h.1)

-- a list that stands before another has a smaller place
pub earlier_place : (choices : List Choice) (l m : List ℕ) → IsChoiceList choices l → IsChoiceList choices m
    → IsBefore l m → place_of choices l < place_of choices m
earlier_place [] l m p q lt = by l m p lt
  where
    by : (l m : List ℕ) → IsChoiceList [] l → IsBefore l m → place_of [] l < place_of [] m
    by [] m p lt = absurd lt
    by (a ∷ l) m p lt = absurd p
earlier_place (c ∷ cs) [] m p q lt = absurd p
earlier_place (c ∷ cs) (a ∷ l) [] p q lt = absurd q
earlier_place (c ∷ cs) (a ∷ l) (b ∷ m) p q (inl lt) =
    let less = below_by_one (a - 1) (b - 1) (lists_count cs) (place_of cs l) (omega (arith, p.0.0, lt))
    (place_below cs l p.1) in
    omega (arith, less)
earlier_place (c ∷ cs) (a ∷ l) (b ∷ m) p q (inr (same, lt)) =
    let less = earlier_place cs l m p.1 q.1 lt in
    let e : (a - 1) * lists_count cs ≡ (b - 1) * lists_count cs = λ i. (same i - 1) * lists_count cs in
    omega (arith, less, e)

-- ---- steps over lists

-- So many steps, the moves among them, were taken over the lists up to one that stands so much further on, each of
-- which was given up after most steps at most. The steps in that list are fewer than one more list allows.
pub few_within : (further most steps calls : ℕ) → steps ≤ further * (most + 1) → calls ≤ most
    → steps + calls < (further + 1) * (most + 1)
few_within further most steps calls few c =
    let e = add-mul further 1 (most + 1) in
    omega (arith, e, few, c)

-- no list stands further on than the last, so all steps are fewer than the lists allow together
pub few_in_all : (further place count most steps : ℕ) → steps < (further + 1) * (most + 1) → place + further < count
    → steps < count * (most + 1)
few_in_all further place count most steps few lt =
    let le = mul-le-mul_right {m = further + 1} {n = count} (most + 1) (omega (arith, lt)) in
    omega (arith, few, le)
