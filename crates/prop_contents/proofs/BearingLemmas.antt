-- Which premises bear on which cells, as entries come and go.
use Rattle.std.proofs.Common.{◌≡◌, ◌∙◌, ℕ, suc, ◌<◌, ◌/◌, ◌&&◌, ◌||◌, Bool, true, false, ◌==◌}
use Rattle.std.proofs.Common.{if◌then◌else◌, not, Contains, List, [], ◌∷◌, ◌++◌, length, take, map, filter, slice_set}
use Rattle.std.proofs.Common.{slice_index_or, refl, sym, ap, subst, arith, inl, inr, All}
use Rattle.std.proofs.lemmas.Bool.{cases_eq, cases_lt}
use Rattle.std.proofs.lemmas.Bool.Decides.{eqb_tells}
use Rattle.std.proofs.lemmas.List.{get_or-set_other, get_or-set_same, get_or-take, get_or_past, length-take}
use Rattle.std.proofs.lemmas.List.Elements.{All-contains, All-contains_itself, All-filter, All-weaker}
use Rattle.prop_lattice.specs.declared.info.Info.TheVariants.{Nothing}
use Rattle.prop_lattice.specs.Order.{merge_of}
use Rattle.prop_numbers.specs.Sets.{Members, set_of, is_below, is_within, IsPart}
use Rattle.prop_numbers.proofs.WithinLemmas.{within_has}
use Rattle.prop_tms.specs.Beliefs.{believed_of, merge_of_all}
use Rattle.prop_contents.specs.Contents.{Entry, beliefs, content_of}
use Rattle.prop_contents.specs.Changes.{AddsAt, TrimsAt, not_on, entries_below}
use Rattle.prop_contents.specs.inner.Bearing.{BearOn, AreSame, UnitesAt}
use Rattle.prop_contents.proofs.Lists.{All-from_contains, get_or-push_default}
use Rattle.prop_contents.proofs.DroppingLaws.{content_forgotten}

-- ---- what two worldviews believe alike

or_left : (a b : Bool) → a ≡ true → (a || b) ≡ true
or_left true b e = refl
or_left false b e = cc

or_right : (a b : Bool) → b ≡ true → (a || b) ≡ true
or_right true b e = refl
or_right false b e = e

same_test : (n : ℕ) → (n == n) ≡ true
same_test n = elim (eqb_tells n n) [ inl e ↦ e.0 | inr e ↦ absurd (e.1 refl) ]

within_alike : (w z : Members) (s : List ℕ) → ((p : ℕ) → set_of s p ≡ true → w p ≡ z p)
    → is_within w s ≡ is_within z s
within_alike w z [] h = refl
within_alike w z (p ∷ ps) h =
    ap (λ b. b && is_within w ps) (h p (or_left (p == p) (set_of ps p) (same_test p)))
    ∙ ap (λ b. z p && b) (within_alike w z ps (λ q t. h q (or_right (p == q) (set_of ps q) t)))

keep : {X : Type 0} (a b : Bool) (x : X) (xs ys : List X) → a ≡ b → xs ≡ ys
    → (if a then x ∷ xs else xs) ≡ (if b then x ∷ ys else ys)
keep true true x xs ys e h = ap (λ l. x ∷ l) h
keep true false x xs ys e h = cc
keep false true x xs ys e h = cc
keep false false x xs ys e h = h

-- the worldviews believe the same of each premise that the entry rests on
abbrev pub Alike : Members → Members → Entry → Type 0
Alike w z e = (p : ℕ) → set_of e.support p ≡ true → w p ≡ z p

believed_alike : (w z : Members) (es : List Entry) → All (Alike w z) es → believed_of w es ≡ believed_of z es
believed_alike w z [] h = refl
believed_alike w z (e ∷ es) h =
    keep (is_within w e.support) (is_within z e.support) e _ _
    (within_alike w z e.support (h 0 e (omega arith)))
    (believed_alike w z es (λ k d l. h (suc k) d (omega (arith, l))))

-- where two worldviews agree on what bears on some cells, none of them shifts
pub stays : (n : ℕ) (w z : Members) (contents : List (List Entry)) (sets : List (List ℕ)) (cell place : ℕ)
    → BearOn n contents sets → cell / n ≡ place
    → ((p : ℕ) → set_of (slice_index_or sets place []) p ≡ true → w p ≡ z p)
    → beliefs w contents cell ≡ beliefs z contents cell
stays n w z contents sets cell place bear at same =
    ap (merge_of_all Nothing merge_of) (believed_alike w z (content_of contents cell) (λ k d l p t.
    same p (subst (λ (i : ℕ). set_of (slice_index_or sets i []) p ≡ true) at (bear cell k d l p t))))

-- ---- more premises bear on some cells

bear_larger : (n : ℕ) (contents : List (List Entry)) (old new : List (List ℕ))
    → ((place : ℕ) → IsPart (set_of (slice_index_or old place [])) (set_of (slice_index_or new place [])))
    → BearOn n contents old → BearOn n contents new
bear_larger n contents old new more b = λ cell k d l p h. more (cell / n) p (b cell k d l p h)

pub bear_same : (n : ℕ) (contents : List (List Entry)) (old new : List (List ℕ)) → AreSame old new
    → BearOn n contents old → BearOn n contents new
bear_same n contents old new same b =
    bear_larger n contents old new
    (λ place p h. subst (λ (s : List ℕ). set_of s p ≡ true) (sym (same place)) h) b

pub bear_united : (n : ℕ) (contents : List (List Entry)) (old new : List (List ℕ)) (at : ℕ) (more : List ℕ)
    → UnitesAt old new at more → BearOn n contents old → BearOn n contents new
bear_united n contents old new at more unites b = bear_larger n contents old new larger b
  where
    larger : (place : ℕ) → IsPart (set_of (slice_index_or old place [])) (set_of (slice_index_or new place []))
    larger place p h = elim (cases_eq place at) [
      | inl here ↦ subst (λ (i : ℕ). set_of (slice_index_or new i []) p ≡ true) (sym here)
          (unites.here p ∙ or_left (set_of (slice_index_or old at []) p) (set_of more p)
          (subst (λ (i : ℕ). set_of (slice_index_or old i []) p ≡ true) here h))
      | inr other ↦ subst (λ (s : List ℕ). set_of s p ≡ true) (sym (unites.others place other)) h
    ]

-- the premises that joined are there
pub united : (old new : List (List ℕ)) (at : ℕ) (more : List ℕ) → UnitesAt old new at more
    → IsPart (set_of more) (set_of (slice_index_or new at []))
united old new at more unites p h =
    unites.here p ∙ or_right (set_of (slice_index_or old at []) p) (set_of more p) h

-- one of the sets, with more numbers
pub unites_at : (old mid : List (List ℕ)) (at : ℕ) (here now more : List ℕ) → AreSame old mid → at < length mid
    → here ≡ slice_index_or mid at [] → ((p : ℕ) → set_of now p ≡ (set_of here p || set_of more p))
    → UnitesAt old (slice_set mid at now) at more
unites_at old mid at here now more same l is unites = record {
  here = λ p. ap (λ (s : List ℕ). set_of s p) (get_or-set_same mid at now [] l) ∙ unites p
      ∙ ap (λ (s : List ℕ). set_of s p || set_of more p) (is ∙ same at);
  others = λ k ne. get_or-set_other mid at k now [] ne ∙ same k;
}

absorbed : (a b : Bool) → (b ≡ true → a ≡ true) → a ≡ (a || b)
absorbed true b h = refl
absorbed false true h = h refl
absorbed false false h = refl

-- the set at the place has the premises already
pub unites_there : (sets : List (List ℕ)) (at : ℕ) (more : List ℕ)
    → is_within (set_of (slice_index_or sets at [])) more ≡ true → UnitesAt sets sets at more
unites_there sets at more h = record {
  here = λ p. absorbed (set_of (slice_index_or sets at []) p) (set_of more p)
      (λ t. within_has (set_of (slice_index_or sets at [])) more p h t);
  others = λ k ne. refl;
}

-- one of the sets, written back as it was
pub same_at : (old mid : List (List ℕ)) (at : ℕ) (here now : List ℕ) → AreSame old mid → at < length mid
    → here ≡ slice_index_or mid at [] → now ≡ here → AreSame old (slice_set mid at now)
same_at old mid at here now same l is back k = elim (cases_eq k at) [
  | inl own ↦ subst (λ (i : ℕ). slice_index_or (slice_set mid at now) i [] ≡ slice_index_or old i []) (sym own)
      (get_or-set_same mid at now [] l ∙ back ∙ is ∙ same at)
  | inr other ↦ get_or-set_other mid at k now [] other ∙ same k
]

-- a further set, of no premises
pub same_more : (old mid new : List (List ℕ)) (x : List ℕ) → AreSame old mid → x ≡ [] → new ≡ mid ++ x ∷ []
    → AreSame old new
same_more old mid new x same none is k =
    ap (λ (sets : List (List ℕ)). slice_index_or sets k []) is
    ∙ ap (λ (y : List ℕ). slice_index_or (mid ++ y ∷ []) k []) none ∙ get_or-push_default mid [] k ∙ same k

-- ---- premises that two worldviews agree on

-- the same of each premise
abbrev pub Agree : Members → Members → List ℕ → Type 0
Agree w z ps = (p : ℕ) → set_of ps p ≡ true → w p ≡ z p

pub agree_none : (w z : Members) → Agree w z []
agree_none w z p h = cc

pub not_true : (b : Bool) → not b ≡ true → b ≡ false
not_true true h = cc
not_true false h = refl

-- ---- entries come and go

-- other entries at the cells, none of which rests on more
abbrev pub AreAmong : List (List Entry) → List (List Entry) → Type 0
AreAmong old new = (cell : ℕ) → All (Contains (content_of old cell)) (content_of new cell)

pub bear_fewer : (n : ℕ) (old new : List (List Entry)) (sets : List (List ℕ)) → AreAmong old new → BearOn n old sets
    → BearOn n new sets
bear_fewer n old new sets among b =
    λ cell. All-weaker (Contains (content_of old cell)) (rests_in cell)
    (λ e h. All-contains (rests_in cell) (content_of old cell) e (b cell) h) (content_of new cell) (among cell)
  where
    rests_in : ℕ → Entry → Type 0
    rests_in cell e = IsPart (set_of e.support) (set_of (slice_index_or sets (cell / n) []))

pub bear_equal : (n : ℕ) (old new : List (List Entry)) (sets : List (List ℕ)) → new ≡ old → BearOn n old sets
    → BearOn n new sets
bear_equal n old new sets same b = subst (λ (c : List (List Entry)). BearOn n c sets) (sym same) b

-- one more entry, whose premises bear on the cell
pub bear_added : (n : ℕ) (old new : List (List Entry)) (sets : List (List ℕ)) (cell : ℕ) (e : Entry)
    → AddsAt old new cell e → IsPart (set_of e.support) (set_of (slice_index_or sets (cell / n) []))
    → BearOn n old sets → BearOn n new sets
bear_added n old new sets cell e adds there b = has
  where
    rests_in : ℕ → Entry → Type 0
    rests_in c x = IsPart (set_of x.support) (set_of (slice_index_or sets (c / n) []))

    has : (c : ℕ) → All (rests_in c) (content_of new c)
    has c = elim (cases_eq c cell) [
      | inl here ↦ subst (λ (k : ℕ). All (rests_in k) (content_of new k)) (sym here)
          (All-from_contains (rests_in cell) (content_of new cell) (λ x k.
          elim (adds.adds.only x k) [
            | inl was ↦ All-contains (rests_in cell) (content_of old cell) x (b cell) was
            | inr is ↦ subst (rests_in cell) (sym is) there
          ]))
      | inr other ↦ subst (All (rests_in c)) (sym (adds.others c other)) (b c)
    ]

-- one more cell
pub bear_cell : (n : ℕ) (contents : List (List Entry)) (sets : List (List ℕ)) → BearOn n contents sets
    → BearOn n (contents ++ [] ∷ []) sets
bear_cell n contents sets b = λ cell.
    subst (All (λ e. IsPart (set_of e.support) (set_of (slice_index_or sets (cell / n) []))))
    (sym (get_or-push_default contents [] cell)) (b cell)

pub bear_none : (n : ℕ) (sets : List (List ℕ)) → BearOn n [] sets
bear_none n sets = λ cell k d l. absurd (omega (arith, l))

-- ---- which entries go

among_itself : (old new : List (List Entry)) (cell : ℕ) → content_of new cell ≡ content_of old cell
    → All (Contains (content_of old cell)) (content_of new cell)
among_itself old new cell same =
    subst (All (Contains (content_of old cell))) (sym same) (All-contains_itself (content_of old cell))

filter_among : (test : Entry → Bool) (es : List Entry) → All (Contains es) (filter test es)
filter_among test es = All-filter test (Contains es) es (All-contains_itself es)

pub trimmed_among : (s told : Members) (old new : List (List Entry)) (cell : ℕ) → TrimsAt s told old new cell
    → AreAmong old new
trimmed_among s told old new cell trims c = elim (cases_eq c cell) [
  | inl here ↦ subst (λ (k : ℕ). All (Contains (content_of old k)) (content_of new k)) (sym here) trims.among
  | inr other ↦ among_itself old new c (trims.others c other)
]

pub below_among : (premise : ℕ) (old : List (List Entry)) (cell : ℕ) → cell < length old
    → AreAmong old (entries_below premise old cell)
below_among premise old cell l c = elim (cases_eq c cell) [
  | inl here ↦ subst (λ (k : ℕ). All (Contains (content_of old k)) (content_of (entries_below premise old cell) k))
      (sym here) (subst (All (Contains (content_of old cell)))
      (sym (get_or-set_same old cell (filter (λ e. is_below premise e.support) (content_of old cell)) [] l))
      (filter_among (λ e. is_below premise e.support) (content_of old cell)))
  | inr other ↦ among_itself old (entries_below premise old cell) c
      (get_or-set_other old cell c (filter (λ e. is_below premise e.support) (content_of old cell)) [] other)
]

pub forgotten_among : (p : ℕ) (old : List (List Entry)) → AreAmong old (map (λ entries. not_on p entries) old)
forgotten_among p old cell =
    subst (All (Contains (content_of old cell))) (sym (content_forgotten p old cell))
    (filter_among (λ e. not (set_of e.support p)) (content_of old cell))

pub taken_among : (count : ℕ) (old : List (List Entry)) → AreAmong old (take count old)
taken_among count old cell = elim (cases_lt cell count) [
  | inl l ↦ among_itself old (take count old) cell (get_or-take count old cell [] l)
  | inr past ↦ subst (All (Contains (content_of old cell)))
      (sym (get_or_past (take count old) cell [] (let n = length-take count old in omega (arith, n, past))))
      (none (content_of old cell))
]
  where
    none : (es : List Entry) → All (Contains es) []
    none es = λ k d l. absurd (omega (arith, l))
