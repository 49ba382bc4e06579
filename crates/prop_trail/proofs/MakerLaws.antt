-- Since which entry a literal holds.
use Rattle.std.proofs.Common.{◌≡◌, ◌∙◌, ℕ, zero, suc, ◌+◌, ◌<◌, ◌≤◌, ℤ, true, false, Option, None, Some, List, length}
use Rattle.std.proofs.Common.{get_or, map, ap, sym, refl, subst, arith, inl, inr}
use Rattle.std.proofs.lemmas.Bool.{false≢true, cases_eq}
use Rattle.std.proofs.lemmas.Bool.Decides.{Decides-int_eq}
use Rattle.std.proofs.lemmas.List.{take_all}
use Rattle.std.specs.Option.{option_eq}
use Rattle.std.specs.Ordering.{int_eq}
use Rattle.prop_lattice.specs.Points.{Number}
use Rattle.prop_lattice.specs.declared.info.Info.{Info}
use Rattle.prop_facts.specs.declared.fact.Fact.{Fact}
use Rattle.prop_facts.specs.declared.fact.Fact.TheVariants.{Other}
use Rattle.prop_trail.specs.Places.{root_of, without_out}
use Rattle.prop_trail.specs.Trails.{place_at, all_after}
use Rattle.prop_trail.specs.Windows.{Ruled, Covers, IsOut}
use Rattle.prop_trail.specs.declared.entry.Entry.{Entry}
use Rattle.prop_trail.specs.declared.place.Place.{Place}
use Rattle.prop_trail.specs.inner.Making.{AreMade}
use Rattle.prop_trail.proofs.GrowLaws.{out_later, left_before, tight_then, not_said_before, said_since}
use Rattle.prop_trail.proofs.SayLaws.{SaysIn, Follows, follows_from_says, says_from_follows}
use Rattle.prop_trail.proofs.TrailLaws.{was_at, step_other, step_same, root_is, was_is, is_is}
use Rattle.prop_trail.proofs.WindowLaws.{flipped_covers, out_or_same, none_out}

-- the place before an entry that isn't there is the place now
pub now_is : (ps : List Place) (es : List Entry) (p : ℕ)
    → was_at ps es (length es) p ≡ place_at (all_after 0 ps es) p
now_is ps es p =
    let all : length es ≤ length es = omega arith in
    ap (λ (xs : List Entry). place_at (all_after 0 ps xs) p) (take_all (length es) es all)

covers_out : (w : Ruled) (o : Option ℤ) (n : ℤ) → Covers (without_out w o) n → Covers w n
covers_out w None n c = c
covers_out w (Some m) n c = flipped_covers w m n c

-- a number that is out after an entry was so before, if the entry rules another out
pub out_earlier : (w : Ruled) (o : Option ℤ) (n : ℤ) → (o ≡ Some n → ⊥) → IsOut (without_out w o) n → IsOut w n
out_earlier w None n other out = out
out_earlier w (Some m) n other out = elim (out_or_same w m n out) as (λ _. IsOut w n) [
  | inl was ↦ was
  | inr e ↦ absurd (other (ap (λ (z : ℤ). Some z) (sym e)))
]

-- whether an entry rules a number out, by a test
pub same_out : (o : Option ℤ) (n : ℤ) → true ≡ option_eq int_eq o (Some n) → o ≡ Some n
same_out None n e = absurd (false≢true (sym e))
same_out (Some m) n e = ap (λ (z : ℤ). Some z) ((Decides-int_eq m n).0 (sym e))

pub other_out : (o : Option ℤ) (n : ℤ) → false ≡ option_eq int_eq o (Some n) → o ≡ Some n → ⊥
other_out o n e is =
    false≢true (e ∙ ap (λ (x : Option ℤ). option_eq int_eq x (Some n)) is ∙ (Decides-int_eq n n).1 refl)

-- at the root no number is out
pub root_clean : (roots : List Info) (p : ℕ) (n : ℤ) → IsOut (place_at (map root_of roots) p).window n → ⊥
root_clean roots p n out =
    let r = root_is roots p in
    none_out r.0 n (subst (λ (x : Place). IsOut x.window n) r.1 out)

module _ (ps : List Place) (es : List Entry) (d : Entry) (all : AreMade 0 ps es) (p : ℕ) where
  -- a number that a window covers, it covered before
  pub covers_before : (k m : ℕ) (n : ℤ) → k ≤ m → m ≤ length es → Covers (was_at ps es m p).window n
      → Covers (was_at ps es k p).window n
  covers_before k zero n le l c =
      let e : k ≡ 0 = omega (arith, le) in subst (λ (j : ℕ). Covers (was_at ps es j p).window n) (sym e) c
  covers_before k (suc m) n le l c =
      let within : m < length es = omega (arith, l) in
      let next : m + 1 ≡ suc m = omega arith in
      elim (cases_eq k (suc m)) as (λ _. Covers (was_at ps es k p).window n) [
        | inl e ↦ subst (λ (j : ℕ). Covers (was_at ps es j p).window n) (sym e) c
        | inr before ↦ (
            let last : Covers (was_at ps es (m + 1) p).window n =
            subst (λ (j : ℕ). Covers (was_at ps es j p).window n) (sym next) c in
            let was = elim (cases_eq (get_or es m d).place p) as (λ _. Covers (was_at ps es m p).window n) [
              | inl same ↦ covers_out (was_at ps es m p).window (get_or es m d).out n
                  (subst (λ (x : Place). Covers x.window n) (step_same ps es m p d all within same) last)
              | inr other ↦ subst (λ (x : Place). Covers x.window n) (step_other ps es m p d within other) last
            ] in
            covers_before k m n (omega (arith, le, before)) (omega (arith, l)) was)
      ]

-- ---- the places of a trail

module _ (roots : List Info) (es : List Entry) (d : Entry) (all : AreMade 0 (map root_of roots) es) (p : ℕ) where
  -- what is said before an entry follows from what was believed then
  pub follows_at : (f : Fact) (k : ℕ) → k ≤ length es
      → ((n : ℤ) → f ≡ Other n → IsOut (place_at (all_after 0 (map root_of roots) es) p).window n → ⊥)
      → SaysIn f (was_at (map root_of roots) es k p) → Follows f (was_at (map root_of roots) es k p).info
  follows_at f k l apart says =
      let most : length es ≤ length es = omega arith in
      follows_from_says f (was_at (map root_of roots) es k p) (tight_then roots es k p all)
      (λ n _ _ e out. apart n e (subst (λ (x : Place). IsOut x.window n) (now_is (map root_of roots) es p)
      (out_later (map root_of roots) es d all p k (length es) n l most out)))
      says

  -- what follows from what an entry says is said since then
  pub says_since : (f : Fact) (i : ℕ) → i < length es → (get_or es i d).place ≡ p → Follows f (get_or es i d).is
      → SaysIn f (was_at (map root_of roots) es (i + 1) p)
  says_since f i l same follows = says_from_follows f (was_at (map root_of roots) es (i + 1) p)
      (subst (Follows f) (sym (is_is (map root_of roots) es d p i all l same)) follows)

  -- what follows from what was believed before an entry was said before it
  pub says_until : (f : Fact) (i : ℕ) → i < length es → (get_or es i d).place ≡ p → Follows f (get_or es i d).was
      → SaysIn f (was_at (map root_of roots) es i p)
  says_until f i l same follows = says_from_follows f (was_at (map root_of roots) es i p)
      (subst (Follows f) (was_is (map root_of roots) es d p i all l same) follows)

  -- the entry that ruled a number out is the maker of its being another
  pub removed_since : (n : ℤ) (at : ℕ) → at < length es → (get_or es at d).place ≡ p
      → (get_or es at d).out ≡ Some n → IsOut (place_at (all_after 0 (map root_of roots) es) p).window n
      → SaysIn (Other n) (was_at (map root_of roots) es (at + 1) p)
  removed_since n at l same out now =
      let le : at ≤ length es = omega (arith, l) in
      let most : length es ≤ length es = omega arith in
      let whole = subst (λ (x : Place). IsOut x.window n) (sym (now_is (map root_of roots) es p)) now in
      said_since (map root_of roots) es d at p n all l same out
      (covers_before (map root_of roots) es d all p at (length es) n le most whole.0)

  -- and it isn't said before
  pub not_removed_before : (n : ℤ) (at k : ℕ) → at < length es → k ≤ at → (get_or es at d).place ≡ p
      → (get_or es at d).out ≡ Some n → SaysIn (Other n) (was_at (map root_of roots) es k p) → ⊥
  not_removed_before n at k l le same out says =
      let upto : at ≤ length es = omega (arith, l) in
      let left = not_said_before (map root_of roots) es d at p n all l same out in
      says (Number n) (left_before (map root_of roots) es d all p k at (Number n) le upto left) refl
