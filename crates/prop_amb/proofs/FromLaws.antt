-- Where the noted nogoods that are believed end, as what is believed or noted changes.
use Rattle.std.proofs.Common.{◌≡◌, ◌∙◌, ◌<◌, ◌≤◌, ◌⊎◌, ℕ, suc, Bool, true, false, ◌&&◌, ◌==◌, nat_lt, not, List, []}
use Rattle.std.proofs.Common.{◌∷◌, take, get_or, refl, sym, subst, arith, inl, inr, IsTrue}
use Rattle.std.proofs.lemmas.Bool.{leb-true, eqb-true, or_cases}
use Rattle.std.proofs.lemmas.List.Elements.{All-contains, All-filter, Contains-get_or}
use Rattle.prop_numbers.specs.Sets.{Members, set_of, union, without, is_within, is_below, IsPart, IsSame}
use Rattle.prop_premises.specs.declared.choice.Choice.{Choice}
use Rattle.prop_premises.specs.ChoiceLists.{hypotheticals_of, worldview}
use Rattle.prop_numbers.proofs.WithinLemmas.{within_has, within_from}
use Rattle.prop_nogoods.specs.Stores.{has_part, lacking, NoneEndsBelow, AddsSet, AreMinimal}
use Rattle.prop_nogoods.proofs.EndingLemmas.{has_middle}
use Rattle.prop_nogoods.proofs.StoreLaws.{has_part-from}
use Rattle.prop_amb.specs.Search.{Stand, IsStand}
use Rattle.prop_amb.proofs.LevelLaws.{or_no, taken_more}
use Rattle.prop_amb.proofs.NamingLaws.{lt_true}
use Rattle.prop_amb.proofs.SearchLaws.{or_true_left, or_true_right}

-- what has numbers below n alone has none from n on
below_has : (n p : ℕ) (line : List ℕ) → is_below n line ≡ true → set_of line p ≡ true → p < n
below_has n p line below t =
    let low = leb-true (suc p) n (within_has (λ q. nat_lt q n) line p below t) in omega (arith, low)

below_zero : (line : List ℕ) → is_below 0 line ≡ true → line ≡ []
below_zero [] h = refl
below_zero (p ∷ ps) h = let low = below_has 0 p (p ∷ ps) h (has_middle [] ps p) in absurd (omega (arith, low))

-- nothing ends below 0
pub none_below_zero : (listed : List (List ℕ)) (w : Members) → NoneEndsBelow listed w 0
none_below_zero listed w = λ k d l within below. below_zero (get_or listed k d) below

-- where none is believed, none ends anywhere
pub none_below_any : (listed : List (List ℕ)) (w : Members) (n : ℕ) → has_part listed w ≡ false
    → NoneEndsBelow listed w n
none_below_any listed w n none = λ k d l within below.
    let line = get_or listed k d in
    let some = has_part-from listed w line (Contains-get_or listed k d l) (λ p t. within_has w line p within t) in
    cc (none, some)

-- fewer premises are believed
pub none_below_fewer : (listed : List (List ℕ)) (w v : Members) (n : ℕ) → IsPart v w → NoneEndsBelow listed w n
    → NoneEndsBelow listed v n
none_below_fewer listed w v n part none = λ k d l within below.
    none k d l (within_from w (get_or listed k d) (λ p t. part p (within_has v (get_or listed k d) p within t))) below

-- fewer nogoods are listed
pub none_below_lacking : (listed : List (List ℕ)) (w : Members) (n p : ℕ) → NoneEndsBelow listed w n
    → NoneEndsBelow (lacking listed p) w n
none_below_lacking listed w n p none =
    All-filter (λ line. not (set_of line p)) (λ line. IsTrue (is_within w line) → IsTrue (is_below n line) → line ≡ [])
    listed none

-- one premise more is believed
none_below_more : (listed : List (List ℕ)) (w v : Members) (p n m : ℕ) → m ≤ n → m ≤ p
    → ((q : ℕ) → IsTrue (v q) → IsTrue (w q) ⊎ (p ≡ q)) → NoneEndsBelow listed w n → NoneEndsBelow listed v m
none_below_more listed w v p n m few low more none = λ k d l within below.
    let line = get_or listed k d in
    let old : is_within w line ≡ true = within_from w line (λ q t. elim (more q (within_has v line q within t)) [
      | inl h ↦ h
      | inr e ↦ let less = below_has m q line below t in absurd (omega (arith, less, low, e))
    ]) in
    none k d l old (within_from (λ q. nat_lt q n) line
    (λ q t. let less = below_has m q line below t in lt_true q n (omega (arith, less, few))))

one_more : (w v : List ℕ) (p : ℕ) → IsSame (set_of v) (union (set_of w) (set_of (p ∷ [])))
    → (q : ℕ) → IsTrue (set_of v q) → IsTrue (set_of w q) ⊎ (p ≡ q)
one_more w v p has q t = elim (or_cases (set_of w q) (set_of (p ∷ []) q) (sym (has q) ∙ t)) [
  | inl h ↦ inl h
  | inr h ↦ inr (eqb-true p q (sym (or_no (p == q)) ∙ h))
]

pub none_below_believed : (listed : List (List ℕ)) (w v : List ℕ) (p n m : ℕ) → m ≤ n → m ≤ p
    → IsSame (set_of v) (union (set_of w) (set_of (p ∷ []))) → NoneEndsBelow listed (set_of w) n
    → NoneEndsBelow listed (set_of v) m
none_below_believed listed w v p n m few low has none =
    none_below_more listed (set_of w) (set_of v) p n m few low (one_more w v p has) none

-- one premise more is believed, where no noted nogood was
pub none_below_deeper : (listed : List (List ℕ)) (w v : List ℕ) (p : ℕ) → has_part listed (set_of w) ≡ false
    → IsSame (set_of v) (union (set_of w) (set_of (p ∷ []))) → NoneEndsBelow listed (set_of v) p
none_below_deeper listed w v p none has =
    none_below_believed listed w v p p p (omega arith) (omega arith) has (none_below_any listed (set_of w) p none)

-- a choice moves: its next side is believed, and the sides of later choices no longer are
pub none_below_moved : (listed : List (List ℕ)) (users : Members) (cs : List Choice) (list before left after : List ℕ)
    (j level p n m : ℕ)
    → j ≤ level → IsSame (set_of before) (worldview users cs (take level list))
    → IsSame (set_of left) (worldview users cs (take j list))
    → IsSame (set_of after) (union (set_of left) (set_of (p ∷ []))) → m ≤ n → m ≤ p
    → NoneEndsBelow listed (set_of before) n → NoneEndsBelow listed (set_of after) m
none_below_moved listed users cs list before left after j level p n m less was is has few low none =
    none_below_believed listed left after p n m few low has
    (none_below_fewer listed (set_of before) (set_of left) n part none)
  where
    part : IsPart (set_of left) (set_of before)
    part q t = was q ∙ elim (or_cases (users q) (hypotheticals_of cs (take j list) q) (sym (is q) ∙ t)) [
      | inl h ↦ or_true_left (users q) (hypotheticals_of cs (take level list) q) h
      | inr h ↦ or_true_right (users q) (hypotheticals_of cs (take level list) q) (taken_more cs list j level q less h)
    ]

-- a nogood is noted
pub none_below_noted : (old new : List (List ℕ)) (w : Members) (nogood : List ℕ) (last n m : ℕ) → AddsSet old new nogood
    → m ≤ n → m ≤ last
    → IsTrue (set_of nogood last) ⊎ (nogood ≡ []) → NoneEndsBelow old w n → NoneEndsBelow new w m
none_below_noted old new w nogood last n m adds few low ends none = λ k d l within below.
    elim (adds.only (get_or new k d) (Contains-get_or new k d l)) [
      | inl c ↦ All-contains (λ line. IsTrue (is_within w line) → IsTrue (is_below n line) → line ≡ []) old
          (get_or new k d) none c within
          (within_from (λ q. nat_lt q n) (get_or new k d)
          (λ q t. let less = below_has m q (get_or new k d) below t in lt_true q n (omega (arith, less, few))))
      | inr e ↦ elim ends [
        | inl t ↦ let less = below_has m last nogood (subst (λ (line : List ℕ). is_below m line ≡ true) e below) t
            in absurd (omega (arith, less, low))
        | inr empty ↦ e ∙ empty
      ]
    ]

-- one premise of the user's is believed no longer
pub none_below_kicked : (listed : List (List ℕ)) (w v : List ℕ) (n p : ℕ) → IsSame (set_of v) (without (set_of w) p)
    → NoneEndsBelow listed (set_of w) n → NoneEndsBelow listed (set_of v) n
none_below_kicked listed w v n p left none =
    none_below_fewer listed (set_of w) (set_of v) n (λ q t. and_first (set_of w q) (not (p == q)) (sym (left q) ∙ t))
    none
  where
    and_first : (a b : Bool) → (a && b) ≡ true → a ≡ true
    and_first true b h = refl
    and_first false b h = cc

-- the stand, as more nogoods are noted
pub stand_noted : (s : Stand) (listed : List (List ℕ)) → IsStand s → AreMinimal listed
    → IsStand (record s { listed = listed })
stand_noted s listed stand minimal = record {
  numbered = stand.numbered;
  few = stand.few;
  is_list = stand.is_list;
  reasoned = stand.reasoned;
  level = stand.level;
  believes = stand.believes;
  minimal = minimal;
}
