-- The laws of tasks that pause.
use Rattle.std.specs.Prelude.{◌≡◌, ◌≤◌, ℤ, pos, neg_ℤ, ◌+ℤ◌, ◌-ℤ◌, ◌≤ℤ◌, ◌<ℤ◌, Bool, true, false}
use Rattle.std.specs.Prelude.{int_lt, ◌&&◌, if◌then◌else◌, List, [], ◌∷◌, length}
use Rattle.std.specs.Int.{int_max, int_min}
use Rattle.std.specs.List.{list_all}
use Rattle.std.specs.Ordering.{int_eq}
use Rattle.std.proofs.Common.{◌∙◌, ap, arith, refl, rules, sym, subst}
use Rattle.std.proofs.lemmas.Bool.{and_parts}
use Rattle.std.proofs.lemmas.Bool.Decides.{Decides-int_eq}
use Rattle.std.proofs.lemmas.Int.{ints, clamps, by_lt_z}
use borrow.Author.Differences.{same_in}
use Rattle.prop_intervals.specs.laws.Relations.{IsInRange}
use Rattle.prop_lattice.specs.Order.{Below}
use Rattle.prop_lattice.specs.Points.{Point, Number, Element, Symbol, Holds, IsPointOf}
use Rattle.prop_lattice.specs.Rank.{IsOf}
use Rattle.prop_lattice.specs.declared.info.Info.{Info}
use Rattle.prop_lattice.specs.declared.info.Info.TheVariants.{Nothing}
use Rattle.prop_lattice.specs.declared.info.Kind.TheVariants as kinds
use Rattle.prop_lattice.specs.declared.span.TheConstants.{B}
use Rattle.prop_wide.specs.Ends.{low_of, high_of, known}
use Rattle.prop_wide.specs.laws.EndLaws.{AreWithin, IsBetween, ends_ordered}
use Rattle.prop_wide.specs.laws.EndLaws.{known_below, known_holds, known_kind}
use Rattle.prop_many.specs.Circuit.{is_one}
use Rattle.prop_many.specs.Exact.{AreJust}
use Rattle.prop_many.specs.Pausing.{RelatesEnding, RelatesStarting, are_known, earliest_by, end_by}
use Rattle.prop_many.specs.Pausing.{ending_of, first_start, last_start, late_enough, latest_by}
use Rattle.prop_many.specs.Pausing.{left_out, lows, numbers_in, put_before, put_in, soon_enough}
use Rattle.prop_many.specs.Pausing.{start_by, starting_of, workday_from, workday_to, worked_by}
use Rattle.prop_many.specs.laws.ExactLaws.{known_held}
use Rattle.prop_many.specs.laws.NumberLaws.{AreCloser, AreKept, never}

-- ---- one pause

put_in_to : (f d x t : ℤ) → pos 0 ≤ℤ d → put_in f d x ≤ℤ t → x ≤ℤ left_out f d t
put_in_to f d x t p = by (int_lt f x) refl (int_lt f t) refl
  where
    by : (r : Bool) → int_lt f x ≡ r → (s : Bool) → int_lt f t ≡ s
        → (if r then x +ℤ d else x) ≤ℤ t → x ≤ℤ (if s then int_max f (t -ℤ d) else t)
    by true e true g h = omega (arith, ints, clamps)
    by true e false g h = omega (arith, ints, clamps)
    by false e true g h = omega (arith, ints, clamps)
    by false e false g h = omega (arith, ints, clamps)

put_in_from : (f d x t : ℤ) → pos 0 ≤ℤ d → x ≤ℤ left_out f d t → put_in f d x ≤ℤ t
put_in_from f d x t p = by (int_lt f x) refl (int_lt f t) refl
  where
    by : (r : Bool) → int_lt f x ≡ r → (s : Bool) → int_lt f t ≡ s
        → x ≤ℤ (if s then int_max f (t -ℤ d) else t) → (if r then x +ℤ d else x) ≤ℤ t
    by true e true g h = omega (arith, ints, clamps)
    by true e false g h = omega (arith, ints, clamps)
    by false e true g h = omega (arith, ints, clamps)
    by false e false g h = omega (arith, ints, clamps)

left_out_to : (f d t y : ℤ) → pos 0 ≤ℤ d → left_out f d t ≤ℤ y → t ≤ℤ put_before f d y
left_out_to f d t y p = by (int_lt f t) refl (int_lt y f) refl
  where
    by : (r : Bool) → int_lt f t ≡ r → (s : Bool) → int_lt y f ≡ s
        → (if r then int_max f (t -ℤ d) else t) ≤ℤ y → t ≤ℤ (if s then y else y +ℤ d)
    by true e true g h = omega (arith, ints, clamps)
    by true e false g h = omega (arith, ints, clamps)
    by false e true g h = omega (arith, ints, clamps)
    by false e false g h = omega (arith, ints, clamps)

left_out_from : (f d t y : ℤ) → pos 0 ≤ℤ d → t ≤ℤ put_before f d y → left_out f d t ≤ℤ y
left_out_from f d t y p = by (int_lt f t) refl (int_lt y f) refl
  where
    by : (r : Bool) → int_lt f t ≡ r → (s : Bool) → int_lt y f ≡ s
        → t ≤ℤ (if s then y else y +ℤ d) → (if r then int_max f (t -ℤ d) else t) ≤ℤ y
    by true e true g h = omega (arith, ints, clamps)
    by true e false g h = omega (arith, ints, clamps)
    by false e true g h = omega (arith, ints, clamps)
    by false e false g h = omega (arith, ints, clamps)

-- ---- all pauses

none_below : (d : ℤ) → pos 0 ≤ℤ int_max d (pos 0)
none_below d = omega (arith, ints, clamps)

earliest_to : (ps : List ℤ) (x t : ℤ) → earliest_by ps x ≤ℤ t → x ≤ℤ worked_by ps t
earliest_to (f ∷ d ∷ ps) x t h =
    put_in_to f (int_max d (pos 0)) x (worked_by ps t) (none_below d)
    (earliest_to ps (put_in f (int_max d (pos 0)) x) t h)
earliest_to (f ∷ []) x t h = h
earliest_to [] x t h = h

earliest_from : (ps : List ℤ) (x t : ℤ) → x ≤ℤ worked_by ps t → earliest_by ps x ≤ℤ t
earliest_from (f ∷ d ∷ ps) x t h =
    earliest_from ps (put_in f (int_max d (pos 0)) x) t
    (put_in_from f (int_max d (pos 0)) x (worked_by ps t) (none_below d) h)
earliest_from (f ∷ []) x t h = h
earliest_from [] x t h = h

worked_to : (ps : List ℤ) (t y : ℤ) → worked_by ps t ≤ℤ y → t ≤ℤ latest_by ps y
worked_to (f ∷ d ∷ ps) t y h =
    worked_to ps t (put_before f (int_max d (pos 0)) y)
    (left_out_to f (int_max d (pos 0)) (worked_by ps t) y (none_below d) h)
worked_to (f ∷ []) t y h = h
worked_to [] t y h = h

worked_from : (ps : List ℤ) (t y : ℤ) → t ≤ℤ latest_by ps y → worked_by ps t ≤ℤ y
worked_from (f ∷ d ∷ ps) t y h =
    left_out_from f (int_max d (pos 0)) (worked_by ps t) y (none_below d)
    (worked_from ps t (put_before f (int_max d (pos 0)) y) h)
worked_from (f ∷ []) t y h = h
worked_from [] t y h = h

-- ---- later days come later

itself : (a : ℤ) → a ≤ℤ a
itself a = omega (arith, ints)

through : (a b c : ℤ) → a ≤ℤ b → b ≤ℤ c → a ≤ℤ c
through a b c p q = omega (arith, ints)

worked_grows : (ps : List ℤ) (t u : ℤ) → t ≤ℤ u → worked_by ps t ≤ℤ worked_by ps u
worked_grows ps t u p =
    let x = worked_by ps t in
    earliest_to ps x u (through (earliest_by ps x) t u (earliest_from ps x t (itself x)) p)

earliest_grows : (ps : List ℤ) (x y : ℤ) → x ≤ℤ y → earliest_by ps x ≤ℤ earliest_by ps y
earliest_grows ps x y p =
    let t = earliest_by ps y in
    earliest_from ps x t (through x y (worked_by ps t) p (earliest_to ps y t (itself t)))

latest_grows : (ps : List ℤ) (x y : ℤ) → x ≤ℤ y → latest_by ps x ≤ℤ latest_by ps y
latest_grows ps x y p =
    let t = latest_by ps x in
    worked_to ps t y (through (worked_by ps t) x y (worked_from ps t x (itself t)) p)

sum_grows : (a b w x : ℤ) → a ≤ℤ b → w ≤ℤ x
    → (a +ℤ int_max w (pos 0)) ≤ℤ (b +ℤ int_max x (pos 0))
sum_grows a b w x p q = omega (arith, ints, clamps)

greater_grows : (a b c d : ℤ) → a ≤ℤ c → b ≤ℤ d → int_max a b ≤ℤ int_max c d
greater_grows a b c d p q = omega (arith, ints, clamps)

end_grows : (ps : List ℤ) (s t w x : ℤ) → s ≤ℤ t → w ≤ℤ x → end_by ps s w ≤ℤ end_by ps t x
end_grows ps s t w x p q =
    greater_grows s _ t _ p
    (earliest_grows ps _ _
    (sum_grows (worked_by ps s) (worked_by ps t) w x (worked_grows ps s t p) q))

difference_grows : (a b w x : ℤ) → a ≤ℤ b → x ≤ℤ w
    → (a -ℤ int_max w (pos 0)) ≤ℤ (b -ℤ int_max x (pos 0))
difference_grows a b w x p q = omega (arith, ints, clamps)

start_grows : (ps : List ℤ) (e f w x : ℤ) → e ≤ℤ f → x ≤ℤ w → start_by ps e w ≤ℤ start_by ps f x
start_grows ps e f w x p q =
    latest_grows ps _ _
    (difference_grows (worked_by ps e) (worked_by ps f) w x (worked_grows ps e f p) q)

-- ---- the start and the end

-- a task that isn't over behind an end starts no later than is said
no_later : (ps : List ℤ) (s w e : ℤ)
    → earliest_by ps (worked_by ps s +ℤ int_max w (pos 0)) ≤ℤ e → s ≤ℤ start_by ps e w
no_later ps s w e h =
    worked_to ps s _ (moved (worked_by ps s) (worked_by ps e) (earliest_to ps _ e h))
  where
    moved : (a b : ℤ) → (a +ℤ int_max w (pos 0)) ≤ℤ b → a ≤ℤ (b -ℤ int_max w (pos 0))
    moved a b p = omega (arith, ints)

-- and one that starts no later is over by then
is_over : (ps : List ℤ) (s w e : ℤ) → s ≤ℤ start_by ps e w
    → earliest_by ps (worked_by ps s +ℤ int_max w (pos 0)) ≤ℤ e
is_over ps s w e h =
    earliest_from ps _ e (moved (worked_by ps s) (worked_by ps e) (worked_from ps s _ h))
  where
    moved : (a b : ℤ) → a ≤ℤ (b -ℤ int_max w (pos 0)) → (a +ℤ int_max w (pos 0)) ≤ℤ b
    moved a b p = omega (arith, ints)

-- ---- what is known of the pauses

one_is : (a : Info) → is_one a ≡ true → low_of a ≡ high_of a
one_is a e = (Decides-int_eq (low_of a) (high_of a)).0 e

is_one_where : (a : Info) → low_of a ≡ high_of a → is_one a ≡ true
is_one_where a e = (Decides-int_eq (low_of a) (high_of a)).1 e

-- what is known stays so
one_closer : (a b : Info) → AreWithin a b → is_one a ≡ true
    → (is_one b ≡ true) × (low_of a ≡ low_of b)
one_closer a b p e =
    same (low_of a) (high_of a) (low_of b) (high_of b) (one_is a e) p.low (ends_ordered b).ordered
    p.high
  where
    same : (l h l' h' : ℤ) → l ≡ h → l ≤ℤ l' → l' ≤ℤ h' → h' ≤ℤ h
        → (int_eq l' h' ≡ true) × (l ≡ l')
    same l h l' h' k p q r = (
      (Decides-int_eq l' h').1 (same_in _ _ (omega (arith, ints, k))),
      same_in _ _ (omega (arith, ints, k)),
    )

both : (a b : Bool) → a ≡ true → b ≡ true → (a && b) ≡ true
both true b e f = f
both false b e f = absurd (never e)

known_closer : (olds news : List Info) → AreCloser olds news → are_known olds ≡ true
    → (are_known news ≡ true) × (lows olds ≡ lows news)
known_closer [] [] p e = (refl, refl)
known_closer (a ∷ olds) (b ∷ news) p e =
    let parts = and_parts (is_one a) (list_all is_one olds) e in
    let first = one_closer a b p.0 parts.0 in
    let rest = known_closer olds news p.1 parts.1 in (
      both (is_one b) (list_all is_one news) first.0 rest.0,
      (λ i. first.1 i ∷ rest.1 i),
    )
known_closer [] (b ∷ news) p e = absurd p
known_closer (a ∷ olds) [] p e = absurd p

-- what is known is what the points are
known_kept : (args : List Info) (points : List Point) → AreKept args points
    → are_known args ≡ true → lows args ≡ numbers_in points
known_kept [] [] k e = refl
known_kept (a ∷ args) (Number v ∷ points) k e =
    let parts = and_parts (is_one a) (list_all is_one args) e in
    let first : low_of a ≡ v = same (low_of a) (high_of a) (one_is a parts.0) k.0.from k.0.to in
    let rest = known_kept args points k.1 parts.1 in (λ i. first i ∷ rest i)
  where
    same : (l h : ℤ) → l ≡ h → l ≤ℤ v → v ≤ℤ h → l ≡ v
    same l h p q r = omega (arith, ints)
known_kept (a ∷ args) (Element n ∷ points) k e = absurd k.0
known_kept (a ∷ args) (Symbol n ∷ points) k e = absurd k.0
known_kept [] (p ∷ points) k e = absurd k
known_kept (a ∷ args) [] k e = absurd k

just_known : (args : List Info) (points : List Point) → AreJust args points
    → (are_known args ≡ true) × (lows args ≡ numbers_in points)
just_known [] [] j = (refl, refl)
just_known (a ∷ args) (Number v ∷ points) j =
    let rest = just_known args points j.1 in (
      both (is_one a) (list_all is_one args) (is_one_where a (j.0.0 ∙ sym j.0.1)) rest.0,
      (λ i. j.0.0 i ∷ rest.1 i),
    )
just_known (a ∷ args) (Element n ∷ points) j = absurd j.0
just_known (a ∷ args) (Symbol n ∷ points) j = absurd j.0
just_known [] (p ∷ points) j = absurd j
just_known (a ∷ args) [] j = absurd j

-- ---- the end

ends_below : (ps qs : List ℤ) (s w s' w' : Info) → ps ≡ qs → AreWithin s s' → AreWithin w w'
    → Below (known (end_by ps (low_of s) (low_of w)) (end_by ps (high_of s) (high_of w)))
    (known (end_by qs (low_of s') (low_of w')) (end_by qs (high_of s') (high_of w')))
ends_below ps qs s w s' w' e a b =
    subst (λ rs. Below (known (end_by ps (low_of s) (low_of w))
    (end_by ps (high_of s) (high_of w)))
    (known (end_by rs (low_of s') (low_of w')) (end_by rs (high_of s') (high_of w')))) e
    (known_below _ _ _ _ (end_grows ps _ _ _ _ a.low b.low)
    (end_grows ps _ _ _ _ a.high b.high))

pub ending_below : (olds news : List Info) → AreCloser olds news
    → Below (ending_of olds) (ending_of news)
ending_below (s ∷ w ∷ olds) (s' ∷ w' ∷ news) p = by (are_known olds) refl
  where
    by : (t : Bool) → are_known olds ≡ t
        → Below (if t then known (end_by (lows olds) (low_of s) (low_of w))
        (end_by (lows olds) (high_of s) (high_of w)) else Nothing)
        (ending_of (s' ∷ w' ∷ news))
    by true e =
        let k = known_closer olds news p.1.1 e in
        rw k.0 (ends_below (lows olds) (lows news) s w s' w' k.1 p.0 p.1.0)
    by false e = tt
ending_below (s ∷ w ∷ olds) [] p = absurd p
ending_below (s ∷ w ∷ olds) (s' ∷ []) p = absurd p.1
ending_below olds news p = tt

pub ending_kind : (args : List Info) → IsOf kinds.Span 0 (ending_of args)
ending_kind (s ∷ w ∷ pauses) = by (are_known pauses)
  where
    by : (t : Bool) → IsOf kinds.Span 0
        (if t then known (end_by (lows pauses) (low_of s) (low_of w))
        (end_by (lows pauses) (high_of s) (high_of w)) else Nothing)
    by true = known_kind 0 _ _
    by false = tt
ending_kind args = tt

pub ending_holds : (args : List Info) (points : List Point) (point : Point) → AreKept args points
    → IsPointOf kinds.Span 0 point → RelatesEnding points point → Holds (ending_of args) point
ending_holds (s ∷ w ∷ pauses) (Number v ∷ Number n ∷ points) (Number z) k r h =
    by (are_known pauses) refl
  where
    number : Point → ℤ
    number (Number a) = a
    number (Element a) = pos 0
    number (Symbol a) = pos 0

    same : z ≡ end_by (numbers_in points) v n
    same = ap number h

    by : (t : Bool) → are_known pauses ≡ t
        → Holds (if t then known (end_by (lows pauses) (low_of s) (low_of w))
        (end_by (lows pauses) (high_of s) (high_of w)) else Nothing) (Number z)
    by true e =
        let told = sym (known_kept pauses points k.1.1 e) in
        let end = same ∙ ap (λ ps. end_by ps v n) told in
        known_holds _ _ z
        (subst (λ a. end_by (lows pauses) (low_of s) (low_of w) ≤ℤ a) (sym end)
        (end_grows (lows pauses) _ _ _ _ k.0.from k.1.0.from))
        (subst (λ a. a ≤ℤ end_by (lows pauses) (high_of s) (high_of w)) (sym end)
        (end_grows (lows pauses) _ _ _ _ k.0.to k.1.0.to)) r
    by false e = tt
ending_holds (s ∷ w ∷ pauses) points (Element i) k r h = absurd r
ending_holds (s ∷ w ∷ pauses) points (Symbol i) k r h = absurd r
ending_holds args points point k r h = search rules

pub ending_exact : (args : List Info) (points : List Point) (z : ℤ) → 2 ≤ length args
    → AreJust args points → IsInRange z → Holds (ending_of args) (Number z)
    → RelatesEnding points (Number z)
ending_exact (s ∷ w ∷ pauses) (Number v ∷ Number n ∷ points) z some j r h =
    by (are_known pauses) refl h
  where
    told : (are_known pauses ≡ true) × (lows pauses ≡ numbers_in points)
    told = just_known pauses points j.1.1

    by : (t : Bool) → are_known pauses ≡ t
        → Holds (if t then known (end_by (lows pauses) (low_of s) (low_of w))
        (end_by (lows pauses) (high_of s) (high_of w)) else Nothing) (Number z)
        → Number z ≡ Number (end_by (numbers_in points) v n)
    by true e h =
        let held = known_held _ _ z r h in
        let first : end_by (lows pauses) (low_of s) (low_of w) ≡ end_by (numbers_in points) v n =
        (λ i. end_by (told.1 i) (j.0.0 i) (j.1.0.0 i)) in
        let last : end_by (lows pauses) (high_of s) (high_of w) ≡ end_by (numbers_in points) v n =
        (λ i. end_by (told.1 i) (j.0.1 i) (j.1.0.1 i)) in
        ap Number (between z _ _ _ first last held.0 held.1)
      where
        between : (z a b c : ℤ) → a ≡ c → b ≡ c → a ≤ℤ z → z ≤ℤ b → z ≡ c
        between z a b c p q h k = omega (arith, ints)
    by false e h = absurd (never (sym e ∙ told.0))
ending_exact (s ∷ w ∷ pauses) points z some j r h = search rules
ending_exact [] points z some j r h = absurd (omega (arith, some))
ending_exact (s ∷ []) points z some j r h = absurd (omega (arith, some))

-- ---- days of work

no_sooner : (ps : List ℤ) (t : ℤ) → t ≤ℤ workday_from ps t
no_sooner ps t = worked_to ps t (worked_by ps t) (itself (worked_by ps t))

from_grows : (ps : List ℤ) (t u : ℤ) → t ≤ℤ u → workday_from ps t ≤ℤ workday_from ps u
from_grows ps t u p = latest_grows ps _ _ (worked_grows ps t u p)

one_less : (a b : ℤ) → a ≤ℤ b → (a -ℤ pos 1) ≤ℤ (b -ℤ pos 1)
one_less a b p = omega (arith, ints)

-- a day of work up to one is no later than the last such day
at_the_last : (ps : List ℤ) (v t : ℤ) → workday_from ps v ≡ v → v ≤ℤ t → v ≤ℤ workday_to ps t
at_the_last ps v t e p = by (int_lt t (workday_from ps t)) refl
  where
    not_all : (x : ℤ) → t <ℤ x → x ≤ℤ v → ⊥
    not_all x q r = omega (arith, ints)

    before : (a b : ℤ) → a <ℤ b → a ≤ℤ (b -ℤ pos 1)
    before a b k = omega (arith, ints)

    sooner : t <ℤ workday_from ps t → worked_by ps v ≤ℤ (worked_by ps t -ℤ pos 1)
    sooner less = by_lt_z (worked_by ps v) (worked_by ps t) (λ k. before _ _ k)
        (λ more. absurd (not_all (workday_from ps t) less
        (subst (λ a. workday_from ps t ≤ℤ a) e (latest_grows ps _ _ more))))

    is_less : (a b : ℤ) → int_lt a b ≡ true → a <ℤ b
    is_less a b g = omega (arith, ints)

    by : (r : Bool) → int_lt t (workday_from ps t) ≡ r
        → v ≤ℤ (if r then latest_by ps (worked_by ps t -ℤ pos 1) else t)
    by true f =
        subst (λ a. a ≤ℤ latest_by ps (worked_by ps t -ℤ pos 1)) e
        (latest_grows ps _ _ (sooner (is_less t (workday_from ps t) f)))
    by false f = p

-- and that one is no later than it
to_no_later : (ps : List ℤ) (t : ℤ) → workday_to ps t ≤ℤ t
to_no_later ps t = by (int_lt t (workday_from ps t)) refl
  where
    never_less : (a : ℤ) → a ≤ℤ (a -ℤ pos 1) → ⊥
    never_less a p = omega (arith, ints)

    weaker : (a b : ℤ) → a <ℤ b → a ≤ℤ b
    weaker a b p = omega (arith, ints)

    before : latest_by ps (worked_by ps t -ℤ pos 1) ≤ℤ t
    before = by_lt_z t (latest_by ps (worked_by ps t -ℤ pos 1))
        (λ k. absurd (never_less (worked_by ps t)
        (worked_from ps t (worked_by ps t -ℤ pos 1) (weaker _ _ k))))
        (λ k. k)

    by : (r : Bool) → int_lt t (workday_from ps t) ≡ r
        → (if r then latest_by ps (worked_by ps t -ℤ pos 1) else t) ≤ℤ t
    by true f = before
    by false f = itself t

to_grows : (ps : List ℤ) (t u : ℤ) → t ≤ℤ u → workday_to ps t ≤ℤ workday_to ps u
to_grows ps t u p =
    by (int_lt t (workday_from ps t)) refl (int_lt u (workday_from ps u)) refl
  where
    same : (a b : ℤ) → a ≤ℤ b → int_lt a b ≡ false → b ≡ a
    same a b q g = omega (arith, ints)

    by : (r : Bool) → int_lt t (workday_from ps t) ≡ r → (s : Bool)
        → int_lt u (workday_from ps u) ≡ s
        → (if r then latest_by ps (worked_by ps t -ℤ pos 1) else t)
        ≤ℤ (if s then latest_by ps (worked_by ps u -ℤ pos 1) else u)
    by true e true f = latest_grows ps _ _ (one_less _ _ (worked_grows ps t u p))
    by true e false f =
        through _ t u (subst (λ r. (if r then latest_by ps (worked_by ps t -ℤ pos 1) else t) ≤ℤ t)
        e (to_no_later ps t)) p
    by false e true f =
        subst (λ s. t ≤ℤ (if s then latest_by ps (worked_by ps u -ℤ pos 1) else u)) f
        (at_the_last ps t u (same t (workday_from ps t) (no_sooner ps t) e) p)
    by false e false f = p

-- ---- the start

late_grows : (ps : List ℤ) (s e w s' e' w' : Info) → AreWithin s s' → AreWithin e e'
    → AreWithin w w' → late_enough ps s e w ≤ℤ late_enough ps s' e' w'
late_grows ps s e w s' e' w' a b c =
    greater_grows _ _ _ _ a.low
    (lesser_grows _ _ _ _ b.low
    (one_more _ _ (start_grows ps _ _ _ _ (one_less _ _ b.low) c.high)))
  where
    lesser_grows : (a b c d : ℤ) → a ≤ℤ c → b ≤ℤ d → int_min a b ≤ℤ int_min c d
    lesser_grows a b c d p q = omega (arith, ints, clamps)

    one_more : (a b : ℤ) → a ≤ℤ b → (a +ℤ pos 1) ≤ℤ (b +ℤ pos 1)
    one_more a b p = omega (arith, ints)

soon_shrinks : (ps : List ℤ) (s e w s' e' w' : Info) → AreWithin s s' → AreWithin e e'
    → AreWithin w w' → soon_enough ps s' e' w' ≤ℤ soon_enough ps s e w
soon_shrinks ps s e w s' e' w' a b c =
    lesser_grows _ _ _ _ a.high
    (lesser_grows _ _ _ _ b.high (start_grows ps _ _ _ _ b.high c.low))
  where
    lesser_grows : (a b c d : ℤ) → a ≤ℤ c → b ≤ℤ d → int_min a b ≤ℤ int_min c d
    lesser_grows a b c d p q = omega (arith, ints, clamps)

-- where there is some work for sure, there is as more is known
stays : (a b : ℤ) → a ≤ℤ b → int_lt (pos 0) a ≡ true → int_lt (pos 0) b ≡ false → ⊥
stays a b q h k = omega (arith, ints)

first_grows : (ps : List ℤ) (s e w s' e' w' : Info) → AreWithin s s' → AreWithin e e'
    → AreWithin w w' → first_start ps s e w ≤ℤ first_start ps s' e' w'
first_grows ps s e w s' e' w' a b c =
    by (int_lt (pos 0) (low_of w)) refl (int_lt (pos 0) (low_of w')) refl
    (late_enough ps s e w) (late_enough ps s' e' w') (late_grows ps s e w s' e' w' a b c)
  where
    by : (r : Bool) → int_lt (pos 0) (low_of w) ≡ r → (t : Bool) → int_lt (pos 0) (low_of w') ≡ t
        → (x y : ℤ) → x ≤ℤ y
        → (if r then workday_from ps x else x) ≤ℤ (if t then workday_from ps y else y)
    by true f true g x y p = from_grows ps x y p
    by true f false g x y p = absurd (stays (low_of w) (low_of w') c.low f g)
    by false f true g x y p = through x y (workday_from ps y) p (no_sooner ps y)
    by false f false g x y p = p

last_shrinks : (ps : List ℤ) (s e w s' e' w' : Info) → AreWithin s s' → AreWithin e e'
    → AreWithin w w' → last_start ps s' e' w' ≤ℤ last_start ps s e w
last_shrinks ps s e w s' e' w' a b c =
    by (int_lt (pos 0) (low_of w)) refl (int_lt (pos 0) (low_of w')) refl
    (soon_enough ps s e w) (soon_enough ps s' e' w') (soon_shrinks ps s e w s' e' w' a b c)
  where
    by : (r : Bool) → int_lt (pos 0) (low_of w) ≡ r → (t : Bool) → int_lt (pos 0) (low_of w') ≡ t
        → (x y : ℤ) → y ≤ℤ x
        → (if t then workday_to ps y else y) ≤ℤ (if r then workday_to ps x else x)
    by true f true g x y p = to_grows ps y x p
    by true f false g x y p = absurd (stays (low_of w) (low_of w') c.low f g)
    by false f true g x y p = through (workday_to ps y) y x (to_no_later ps y) p
    by false f false g x y p = p

starts_below : (ps qs : List ℤ) (s e w s' e' w' : Info) → ps ≡ qs → AreWithin s s'
    → AreWithin e e' → AreWithin w w'
    → Below (known (first_start ps s e w) (last_start ps s e w))
    (known (first_start qs s' e' w') (last_start qs s' e' w'))
starts_below ps qs s e w s' e' w' same a b c =
    subst (λ rs. Below (known (first_start ps s e w) (last_start ps s e w))
    (known (first_start rs s' e' w') (last_start rs s' e' w'))) same
    (known_below _ _ _ _ (first_grows ps s e w s' e' w' a b c)
    (last_shrinks ps s e w s' e' w' a b c))

pub starting_below : (olds news : List Info) → AreCloser olds news
    → Below (starting_of olds) (starting_of news)
starting_below (s ∷ e ∷ w ∷ olds) (s' ∷ e' ∷ w' ∷ news) p = by (are_known olds) refl
  where
    by : (t : Bool) → are_known olds ≡ t
        → Below (if t then known (first_start (lows olds) s e w) (last_start (lows olds) s e w)
        else Nothing) (starting_of (s' ∷ e' ∷ w' ∷ news))
    by true told =
        let k = known_closer olds news p.1.1.1 told in
        rw k.0 (starts_below (lows olds) (lows news) s e w s' e' w' k.1 p.0 p.1.0 p.1.1.0)
    by false told = tt
starting_below (s ∷ e ∷ w ∷ olds) [] p = absurd p
starting_below (s ∷ e ∷ w ∷ olds) (s' ∷ []) p = absurd p.1
starting_below (s ∷ e ∷ w ∷ olds) (s' ∷ e' ∷ []) p = absurd p.1.1
starting_below olds news p = tt

pub starting_kind : (args : List Info) → IsOf kinds.Span 0 (starting_of args)
starting_kind (s ∷ e ∷ w ∷ pauses) = by (are_known pauses)
  where
    by : (t : Bool) → IsOf kinds.Span 0
        (if t then known (first_start (lows pauses) s e w) (last_start (lows pauses) s e w)
        else Nothing)
    by true = known_kind 0 _ _
    by false = tt
starting_kind args = tt

-- a task whose end is known so far starts late enough, and soon enough
ends_held : (ps : List ℤ) (s e w : Info) (v u n : ℤ) → IsBetween s v → IsBetween e u
    → IsBetween w n → u ≡ end_by ps v n
    → (late_enough ps s e w ≤ℤ v) × (v ≤ℤ soon_enough ps s e w)
ends_held ps s e w v u n a b c h = (
  at_first (low_of s) (low_of e) (start_by ps (low_of e -ℤ pos 1) (high_of w)) a.from
      (λ less more. sooner (low_of e) b.from less more),
  at_last (high_of s) (high_of e) (start_by ps (high_of e) (low_of w)) a.to
      (later v (high_of e) over.0 b.to)
      (no_later_than (high_of e) b.to),
)
  where
    work : ℤ
    work = earliest_by ps (worked_by ps v +ℤ int_max n (pos 0))

    over : (v ≤ℤ u) × (work ≤ℤ u)
    over = parts v work u h
      where
        parts : (v x u : ℤ) → u ≡ int_max v x → (v ≤ℤ u) × (x ≤ℤ u)
        parts v x u p = (omega (arith, ints, clamps), omega (arith, ints, clamps))

    later : (v f : ℤ) → v ≤ℤ u → u ≤ℤ f → v ≤ℤ f
    later v f p q = omega (arith, ints)

    no_later_than : (f : ℤ) → u ≤ℤ f → v ≤ℤ start_by ps f (low_of w)
    no_later_than f p =
        through v (start_by ps f n) (start_by ps f (low_of w))
        (no_later ps v n f (through work u f over.1 p))
        (start_grows ps f f n (low_of w) (itself f) c.from)

    -- from no later a start than this one the task is over before its end
    sooner : (l : ℤ) → l ≤ℤ u → v <ℤ l → v ≤ℤ start_by ps (l -ℤ pos 1) (high_of w) → ⊥
    sooner l p q k =
        early work l u (is_over ps v n (l -ℤ pos 1)
        (through v (start_by ps (l -ℤ pos 1) (high_of w)) (start_by ps (l -ℤ pos 1) n) k
        (start_grows ps (l -ℤ pos 1) (l -ℤ pos 1) (high_of w) n (itself (l -ℤ pos 1)) c.to)))
        p q h
      where
        early : (x l u : ℤ) → x ≤ℤ (l -ℤ pos 1) → l ≤ℤ u → v <ℤ l → u ≡ int_max v x → ⊥
        early x l u p q r t = omega (arith, ints, clamps)

    at_first : (a l x : ℤ) → a ≤ℤ v → ((v <ℤ l) → v ≤ℤ x → ⊥)
        → int_max a (int_min l (x +ℤ pos 1)) ≤ℤ v
    at_first a l x p k = by_lt_z v l
        (λ less. by_lt_z x v (λ m. omega (arith, ints, clamps))
        (λ more. absurd (k less more)))
        (λ more. omega (arith, ints, clamps))

    at_last : (a f x : ℤ) → v ≤ℤ a → v ≤ℤ f → v ≤ℤ x → v ≤ℤ int_min a (int_min f x)
    at_last a f x p q r = omega (arith, ints, clamps)

-- and it does so on a day of work
starts_held : (ps : List ℤ) (s e w : Info) (v u n : ℤ) → IsBetween s v → IsBetween e u
    → IsBetween w n → u ≡ end_by ps v n → (pos 0 <ℤ n → workday_from ps v ≡ v)
    → (first_start ps s e w ≤ℤ v) × (v ≤ℤ last_start ps s e w)
starts_held ps s e w v u n a b c h d =
    let held = ends_held ps s e w v u n a b c h in
    by (int_lt (pos 0) (low_of w)) refl (late_enough ps s e w) (soon_enough ps s e w) held.0
    held.1
  where
    some : (l : ℤ) → int_lt (pos 0) l ≡ true → l ≤ℤ n → pos 0 <ℤ n
    some l g k = omega (arith, ints)

    by : (r : Bool) → int_lt (pos 0) (low_of w) ≡ r → (x y : ℤ) → x ≤ℤ v → v ≤ℤ y
        → ((if r then workday_from ps x else x) ≤ℤ v) × (v ≤ℤ (if r then workday_to ps y else y))
    by true f x y p q =
        let is = d (some (low_of w) f c.from) in (
          subst (λ t. workday_from ps x ≤ℤ t) is (from_grows ps x v p),
          at_the_last ps v y is q,
        )
    by false f x y p q = (p, q)

pub starting_holds : (args : List Info) (points : List Point) (point : Point)
    → AreKept args points → RelatesStarting points point → Holds (starting_of args) point
starting_holds (s ∷ e ∷ w ∷ pauses) (Number v ∷ Number u ∷ Number n ∷ points) point k r =
    subst (Holds (starting_of (s ∷ e ∷ w ∷ pauses))) (sym r.0) (by (are_known pauses) refl)
  where
    by : (t : Bool) → are_known pauses ≡ t
        → Holds (if t then known (first_start (lows pauses) s e w)
        (last_start (lows pauses) s e w) else Nothing) (Number v)
    by true told =
        let same = sym (known_kept pauses points k.1.1.1 told) in
        let held = starts_held (lows pauses) s e w v u n k.0 k.1.0 k.1.1.0
        (r.1 ∙ ap (λ ps. end_by ps v n) same)
        (λ some. subst (λ ps. workday_from ps v ≡ v) same (r.2 some)) in
        let o = ends_ordered s in
        known_holds _ _ v held.0 held.1
        (through (neg_ℤ B) (low_of s) v o.above k.0.from, through v (high_of s) B k.0.to o.below)
    by false told = tt
starting_holds args points point k r = search rules

-- a task that starts between the first and the last start, by what is known, ends then
ends_then : (ps : List ℤ) (v u n : ℤ)
    → int_max v (int_min u (start_by ps (u -ℤ pos 1) n +ℤ pos 1)) ≤ℤ v
    → v ≤ℤ int_min v (int_min u (start_by ps u n)) → u ≡ end_by ps v n
ends_then ps v u n p q =
    ended v u (earliest_by ps (worked_by ps v +ℤ int_max n (pos 0))) (start_by ps u n)
    (start_by ps (u -ℤ pos 1) n) p q
    (λ h. is_over ps v n u h) (λ h. no_later ps v n (u -ℤ pos 1) h)
  where
    ended : (v u x last before : ℤ) → int_max v (int_min u (before +ℤ pos 1)) ≤ℤ v
        → v ≤ℤ int_min v (int_min u last) → (v ≤ℤ last → x ≤ℤ u)
        → (x ≤ℤ (u -ℤ pos 1) → v ≤ℤ before) → u ≡ int_max v x
    ended v u x last before p q over late =
        let done : x ≤ℤ u = over (omega (arith, ints, clamps)) in
        by_lt_z x u
        (λ less. by_lt_z v u
        (λ early. let k : v ≤ℤ before = late (omega (arith, ints)) in
        absurd (omega (arith, ints, clamps)))
        (λ more. omega (arith, ints, clamps)))
        (λ more. omega (arith, ints, clamps))

-- numbers between the first and the last start of a task are late and soon enough, and days of work
-- where there is any
between_starts : (ps : List ℤ) (s e w : Info) (z : ℤ) → first_start ps s e w ≤ℤ z
    → z ≤ℤ last_start ps s e w → (late_enough ps s e w ≤ℤ z) × (z ≤ℤ soon_enough ps s e w)
    × (pos 0 <ℤ low_of w → workday_from ps (late_enough ps s e w) ≤ℤ z)
between_starts ps s e w z =
    by (int_lt (pos 0) (low_of w)) refl (late_enough ps s e w) (soon_enough ps s e w)
  where
    none : (l : ℤ) → int_lt (pos 0) l ≡ false → pos 0 <ℤ l → ⊥
    none l g k = omega (arith, ints)

    by : (r : Bool) → int_lt (pos 0) (low_of w) ≡ r → (x y : ℤ)
        → (if r then workday_from ps x else x) ≤ℤ z → z ≤ℤ (if r then workday_to ps y else y)
        → (x ≤ℤ z) × (z ≤ℤ y) × (pos 0 <ℤ low_of w → workday_from ps x ≤ℤ z)
    by true f x y p q = (
      through x (workday_from ps x) z (no_sooner ps x) p,
      through z (workday_to ps y) y q (to_no_later ps y),
      λ some. p,
    )
    by false f x y p q = (p, q, λ some. absurd (none (low_of w) f some))

pub starting_exact : (args : List Info) (points : List Point) (z : ℤ) → 3 ≤ length args
    → AreJust args points → IsInRange z → Holds (starting_of args) (Number z)
    → RelatesStarting points (Number z)
starting_exact (s ∷ e ∷ w ∷ pauses) (Number v ∷ Number u ∷ Number n ∷ points) z some j r h =
    by (are_known pauses) refl h
  where
    told : (are_known pauses ≡ true) × (lows pauses ≡ numbers_in points)
    told = just_known pauses points j.1.1.1

    first : late_enough (lows pauses) s e w
        ≡ int_max v (int_min u (start_by (numbers_in points) (u -ℤ pos 1) n +ℤ pos 1))
    first =
        (λ i. int_max (j.0.0 i) (int_min (j.1.0.0 i)
        (start_by (told.1 i) (j.1.0.0 i -ℤ pos 1) (j.1.1.0.1 i) +ℤ pos 1)))

    last : soon_enough (lows pauses) s e w
        ≡ int_min v (int_min u (start_by (numbers_in points) u n))
    last =
        (λ i. int_min (j.0.1 i)
        (int_min (j.1.0.1 i) (start_by (told.1 i) (j.1.0.1 i) (j.1.1.0.0 i))))

    no_more : (d : ℤ) → v ≤ℤ d → d ≤ℤ v → d ≡ v
    no_more d p q = omega (arith, ints)

    -- the first start is the only one, so it is a day of work
    at_work : (x : ℤ) → x ≡ v → workday_from (lows pauses) x ≤ℤ v
        → workday_from (numbers_in points) v ≡ v
    at_work x is p =
        no_more (workday_from (numbers_in points) v) (no_sooner (numbers_in points) v)
        (subst (λ ps. workday_from ps v ≤ℤ v) told.1
        (subst (λ a. workday_from (lows pauses) a ≤ℤ v) is p))

    pinned : (before latest : ℤ) → int_max v (int_min u (before +ℤ pos 1)) ≤ℤ z
        → z ≤ℤ int_min v (int_min u latest) → z ≡ v
    pinned before latest p q = omega (arith, ints, clamps)

    greatest : (x : ℤ) → int_max v x ≤ℤ v → int_max v x ≡ v
    greatest x p = omega (arith, ints, clamps)

    by : (t : Bool) → are_known pauses ≡ t
        → Holds (if t then known (first_start (lows pauses) s e w)
        (last_start (lows pauses) s e w) else Nothing) (Number z)
        → (Number z ≡ Number v) × (u ≡ end_by (numbers_in points) v n)
        × (pos 0 <ℤ n → workday_from (numbers_in points) v ≡ v)
    by true f h =
        let ends = known_held (first_start (lows pauses) s e w) (last_start (lows pauses) s e w) z r
        h in
        let held = between_starts (lows pauses) s e w z ends.0 ends.1 in
        let least = subst (λ a. a ≤ℤ z) first held.0 in
        let most = subst (λ a. z ≤ℤ a) last held.1 in
        let before = start_by (numbers_in points) (u -ℤ pos 1) n in
        let latest = start_by (numbers_in points) u n in
        let same : z ≡ v = pinned before latest least most in
        let late = subst (λ a. int_max v (int_min u (before +ℤ pos 1)) ≤ℤ a) same least in (
          ap Number same,
          ends_then (numbers_in points) v u n late
              (subst (λ a. a ≤ℤ int_min v (int_min u latest)) same most),
          λ work. at_work (late_enough (lows pauses) s e w)
              (first ∙ greatest (int_min u (before +ℤ pos 1)) late)
              (subst (λ a. workday_from (lows pauses) (late_enough (lows pauses) s e w) ≤ℤ a) same
              (held.2 (subst (λ a. pos 0 <ℤ a) (sym j.1.1.0.0) work))),
        )
    by false f h = absurd (never (sym f ∙ told.0))
starting_exact (s ∷ e ∷ w ∷ pauses) points z some j r h = search rules
starting_exact [] points z some j r h = absurd (omega (arith, some))
starting_exact (s ∷ []) points z some j r h = absurd (omega (arith, some))
starting_exact (s ∷ e ∷ []) points z some j r h = absurd (omega (arith, some))
