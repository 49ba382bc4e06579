-- One step of the functions that go over tasks.
use Rattle.std.proofs.Common.{◌≡◌, ◌∙◌, ℤ, ◌+ℤ◌, ◌-ℤ◌, ◌-◌, ◌≤◌, ◌&&◌, Bool, true, false, if◌then◌else◌}
use Rattle.std.proofs.Common.{List, [], ◌∷◌, length, take, drop, get_or, arith, refl, ap}
use Rattle.std.proofs.lemmas.List.{take_all}
use Rattle.prop_lattice.specs.declared.info.Info.{Info}
use Rattle.prop_wide.specs.Ends.{low_of, high_of}
use Rattle.prop_many.specs.Cumulative.{cumulative_of, first_of, is_later, is_sooner, last_of, starts_of}
use Rattle.prop_many.specs.Loads.{demand_of, end_of, is_free, keeps_room}

pub both_sums : (a b x y : ℤ) → a ≡ x → b ≡ y → a +ℤ b ≡ x +ℤ y
both_sums a b x y p q = λ i. p i +ℤ q i

and_is : (a b : Bool) → true ≡ a → b ≡ (a && b)
and_is true b e = refl
and_is false b e = absurd (never e)
  where
    never : true ≡ false → ⊥
    never e = cc

-- the tail of a list of three and more
tail_is : (a b c : Info) (xs : List Info) → take (length (a ∷ b ∷ c ∷ xs) - 3) xs ≡ xs
tail_is a b c xs = take_all (length (a ∷ b ∷ c ∷ xs) - 3) xs (omega arith)

pub keeps_room_step : (tasks starting : List Info) (room from to time : ℤ) (s : Info) (r : Bool)
    → 3 ≤ length starting → s ≡ get_or starting 0 s → time ≡ high_of s → true ≡ is_free tasks room from to time
    → r ≡ keeps_room tasks (take (length starting - 3) (drop 3 starting)) room from to
    → r ≡ keeps_room tasks starting room from to
keeps_room_step tasks [] room from to time s r some p h f e = absurd (omega (arith, some))
keeps_room_step tasks (a ∷ []) room from to time s r some p h f e = absurd (omega (arith, some))
keeps_room_step tasks (a ∷ b ∷ []) room from to time s r some p h f e = absurd (omega (arith, some))
keeps_room_step tasks (a ∷ b ∷ c ∷ xs) room from to time s r some p h f e =
    let all = tail_is a b c xs in
    let at : time ≡ high_of a = h ∙ ap high_of p in
    e ∙ ap (λ ys. keeps_room tasks ys room from to) all
    ∙ and_is (is_free tasks room from to (high_of a)) (keeps_room tasks xs room from to)
    (f ∙ ap (is_free tasks room from to) at)

pub first_step : (tasks ending : List Info) (room length' low : ℤ) (s l : Info) (end first : ℤ) (t : Bool)
    → 3 ≤ length ending → s ≡ get_or ending 0 s → l ≡ get_or ending 1 l → end ≡ end_of s l
    → first ≡ first_of tasks (take (length ending - 3) (drop 3 ending)) room length' low
    → t ≡ is_sooner tasks room length' low end first
    → (if t then end else first) ≡ first_of tasks ending room length' low
first_step tasks [] room long low s l end first t some p q e f g = absurd (omega (arith, some))
first_step tasks (a ∷ []) room long low s l end first t some p q e f g = absurd (omega (arith, some))
first_step tasks (a ∷ b ∷ []) room long low s l end first t some p q e f g = absurd (omega (arith, some))
first_step tasks (a ∷ b ∷ c ∷ xs) room long low s l end first t some p q e f g =
    let ends : end ≡ end_of a b = e ∙ (λ i. end_of (p i) (q i)) in
    let firsts : first ≡ first_of tasks xs room long low = f
    ∙ ap (λ ys. first_of tasks ys room long low) (tail_is a b c xs) in
    let tests : t ≡ is_sooner tasks room long low (end_of a b) (first_of tasks xs room long low) = g
    ∙ (λ i. is_sooner tasks room long low (ends i) (firsts i)) in
    (λ i. if tests i then ends i else firsts i)

pub last_step : (tasks starting : List Info) (room length' high : ℤ) (s : Info) (before last : ℤ) (t : Bool)
    → 3 ≤ length starting → s ≡ get_or starting 0 s → before ≡ high_of s -ℤ length'
    → last ≡ last_of tasks (take (length starting - 3) (drop 3 starting)) room length' high
    → t ≡ is_later tasks room length' high before last
    → (if t then before else last) ≡ last_of tasks starting room length' high
last_step tasks [] room long high s before last t some p e f g = absurd (omega (arith, some))
last_step tasks (a ∷ []) room long high s before last t some p e f g = absurd (omega (arith, some))
last_step tasks (a ∷ b ∷ []) room long high s before last t some p e f g = absurd (omega (arith, some))
last_step tasks (a ∷ b ∷ c ∷ xs) room long high s before last t some p e f g =
    let befores : before ≡ high_of a -ℤ long = e ∙ ap (λ x. high_of x -ℤ long) p in
    let lasts : last ≡ last_of tasks xs room long high = f
    ∙ ap (λ ys. last_of tasks ys room long high) (tail_is a b c xs) in
    let tests : t ≡ is_later tasks room long high (high_of a -ℤ long) (last_of tasks xs room long high) = g
    ∙ (λ i. is_later tasks room long high (befores i) (lasts i)) in
    (λ i. if tests i then befores i else lasts i)

pub start_step : (args : List Info) (c s l d : Info) (room length' : ℤ) (r : Info) → 4 ≤ length args
    → c ≡ get_or args 0 c → s ≡ get_or args 1 s → l ≡ get_or args 2 l → d ≡ get_or args 3 d
    → r ≡ starts_of (take (length args - 4) (drop 4 args)) room length' s → room ≡ high_of c -ℤ demand_of d
    → length' ≡ low_of l → r ≡ cumulative_of args
start_step [] c s l d room long r some p q u v e f g = absurd (omega (arith, some))
start_step (w ∷ []) c s l d room long r some p q u v e f g = absurd (omega (arith, some))
start_step (w ∷ x ∷ []) c s l d room long r some p q u v e f g = absurd (omega (arith, some))
start_step (w ∷ x ∷ y ∷ []) c s l d room long r some p q u v e f g = absurd (omega (arith, some))
start_step (w ∷ x ∷ y ∷ z ∷ xs) c s l d room long r some p q u v e f g =
    let all : take (length (w ∷ x ∷ y ∷ z ∷ xs) - 4) xs ≡ xs =
    take_all (length (w ∷ x ∷ y ∷ z ∷ xs) - 4) xs (omega arith) in
    let rooms : room ≡ high_of w -ℤ demand_of z = f ∙ (λ i. high_of (p i) -ℤ demand_of (v i)) in
    let longs : long ≡ low_of y = g ∙ ap low_of u in
    e ∙ (λ i. starts_of (all i) (rooms i) (longs i) (q i))
