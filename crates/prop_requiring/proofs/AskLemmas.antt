-- How a line falls into its parts.
use Rattle.std.proofs.Common.{◌≡◌, ◌∙◌, ℕ, zero, suc, ◌+◌, ◌-◌, ◌<◌, ◌≤◌, List, [], ◌∷◌, ◌++◌, Bool, true, false}
use Rattle.std.proofs.Common.{length, Option, Some, None, refl, ap, sym, subst, inr, append_assoc, arith}
use Rattle.std.proofs.Common.{add-one, drop-cons, codes, take, drop, get_or}
use Rattle.std.specs.Prelude.{cond, not, bytes_eq, ◌&&◌}
use Rattle.std.specs.List.{list_all}
use Rattle.std.specs.Option.{option_map, option_map_or}
use Rattle.std.proofs.lemmas.List.{append_cancel_left, take-append-drop}
use Rattle.std.proofs.lemmas.Bool.{and_parts}
use Rattle.std.proofs.lemmas.Slice.Eq.{bytes_eq-Decides}
use Rattle.prop_refusals.specs.declared.refusal.Refusal.{Refusal}
use Rattle.prop_refusals.specs.declared.refusal.Refusal.TheVariants.{NotAName}
use Rattle.prop_language.specs.Names.{is_name}
use Rattle.prop_requiring.specs.Asking.{AreSpaces, EndsUnder, IsAsked, IsMisread, IsWord, is_space}
use Rattle.prop_requiring.specs.inner.Parts.{before_under, cut, trimmed, under_word}

abbrev pub NoSpaces : List ℕ → Type 0
NoSpaces bytes = list_all (λ b. not (is_space b)) bytes ≡ true

no_space : (b : ℕ) → not (is_space b) ≡ true → is_space b ≡ false
no_space b n = not_true (is_space b) n
  where
    not_true : (c : Bool) → not c ≡ true → c ≡ false
    not_true false n = refl
    not_true true n = cc

and_false : (b : Bool) → (b && false) ≡ false
and_false true = refl
and_false false = refl

-- ---- without the spaces at the end

pub trimmed_spaces : (end : List ℕ) → AreSpaces end → trimmed end ≡ []
trimmed_spaces [] s = refl
trimmed_spaces (b ∷ end) s = rw s refl

all_skip : (xs ys : List ℕ) → list_all is_space ys ≡ false → list_all is_space (xs ++ ys) ≡ false
all_skip [] ys e = e
all_skip (x ∷ xs) ys e = rw (all_skip xs ys e) (and_false (is_space x))

-- where something is no space, what stands before it stays
trimmed_skip : (xs ys : List ℕ) → list_all is_space ys ≡ false → trimmed (xs ++ ys) ≡ xs ++ trimmed ys
trimmed_skip [] ys e = refl
trimmed_skip (x ∷ xs) ys e = rw (all_skip (x ∷ xs) ys e) (ap (λ l. x ∷ l) (trimmed_skip xs ys e))

-- a byte that is no space, and spaces behind it
pub trimmed_at : (xs : List ℕ) (k : ℕ) → k < length xs → is_space (get_or xs k 0) ≡ false → AreSpaces (drop (suc k) xs)
    → take (suc k) xs ≡ trimmed xs
trimmed_at [] k l e s = absurd (omega arith)
trimmed_at (x ∷ xs) zero l e s = rw e (ap (λ l. x ∷ l) (sym (trimmed_spaces xs s)))
trimmed_at (x ∷ xs) (suc k) l e s =
    let rest = trimmed_at xs k (omega arith) e s in
    rw (not_all (x ∷ xs) (suc k) l e) (ap (λ l. x ∷ l) rest)
  where
    not_all : (xs : List ℕ) (k : ℕ) → k < length xs → is_space (get_or xs k 0) ≡ false → list_all is_space xs ≡ false
    not_all [] k l e = absurd (omega arith)
    not_all (x ∷ xs) zero l e = rw e refl
    not_all (x ∷ xs) (suc k) l e = rw (not_all xs k (omega arith) e) (and_false (is_space x))

pub trimmed_before : (xs : List ℕ) (k : ℕ) → 0 < k → k ≤ length xs → is_space (get_or xs (k - 1) 0) ≡ false
    → AreSpaces (drop k xs) → take (k - 1 + 1) xs ≡ trimmed xs
trimmed_before xs k p l e s =
    let same : k ≡ suc (k - 1) = omega arith in
    rw add-one (trimmed_at xs (k - 1) (omega arith) e (subst (λ n. AreSpaces (drop n xs)) same s))

-- ---- at the last space

pub cut_none : (xs : List ℕ) → NoSpaces xs → cut xs ≡ None
cut_none [] n = refl
cut_none (x ∷ xs) n = let p = and_parts (not (is_space x)) _ n in rw (cut_none xs p.1, no_space x p.0) refl

pub cut_at : (xs : List ℕ) (b : ℕ) (word : List ℕ) → is_space b ≡ true → NoSpaces word
    → cut (xs ++ b ∷ word) ≡ Some (xs, word)
cut_at [] b word s n = rw (cut_none word n, s) refl
cut_at (x ∷ xs) b word s n = rw (cut_at xs b word s n) refl

-- a space, and none behind it
pub cut_here : (xs : List ℕ) (k : ℕ) → k < length xs → is_space (get_or xs k 0) ≡ true → NoSpaces (drop (suc k) xs)
    → cut xs ≡ Some (take k xs, drop (suc k) xs)
cut_here xs k l s n =
    let whole : take k xs ++ get_or xs k 0 ∷ drop (suc k) xs ≡ xs =
    ap (λ l. take k xs ++ l) (sym (drop-cons xs k 0 l)) ∙ take-append-drop k xs in
    let at = cut_at (take k xs) (get_or xs k 0) (drop (suc k) xs) s n in
    subst (λ (l : List ℕ). cut l ≡ Some (take k xs, drop (suc k) xs)) whole at

pub cut_before : (xs : List ℕ) (k : ℕ) → 0 < k → k ≤ length xs → is_space (get_or xs (k - 1) 0) ≡ true
    → NoSpaces (drop k xs) → Some (take (k - 1) xs, drop (k - 1 + 1) xs) ≡ cut xs
cut_before xs k p l s n =
    let same : k ≡ suc (k - 1) = omega arith in
    rw add-one (sym (cut_here xs (k - 1) (omega arith) s (subst (λ n. NoSpaces (drop n xs)) same n)))

-- what it says, where something was cut, and where nothing was
abbrev CutSays : List ℕ → Option (List ℕ × List ℕ) → Type 0
CutSays xs None = NoSpaces xs
CutSays xs (Some (before, word)) =
    (b : ℕ) × (is_space b ≡ true) × NoSpaces word × (xs ≡ before ++ b ∷ word)

cut_says : (xs : List ℕ) → CutSays xs (cut xs)
cut_says [] = refl
cut_says (x ∷ xs) = step (cut xs) (cut_says xs)
  where
    ends : (c : Bool) → is_space x ≡ c → NoSpaces xs → CutSays (x ∷ xs) (cond c (Some ([], xs)) None)
    ends true s n = (x, s, n, refl)
    ends false s n = rw s n

    step : (c : Option (List ℕ × List ℕ)) → CutSays xs c
        → CutSays (x ∷ xs) (option_map_or (λ parts. Some (x ∷ parts.0, parts.1)) c
        (cond (is_space x) (Some ([], xs)) None))
    step (Some (before, word)) (b, s, n, e) = (b, s, n, ap (λ l. x ∷ l) e)
    step None n = ends (is_space x) refl n

-- ---- what was trimmed

pub trimmed_says : (xs : List ℕ) → (end : List ℕ) × AreSpaces end × (xs ≡ trimmed xs ++ end)
trimmed_says [] = ([], refl, refl)
trimmed_says (x ∷ xs) = ends (list_all is_space (x ∷ xs)) refl (trimmed_says xs)
  where
    ends : (c : Bool) → list_all is_space (x ∷ xs) ≡ c → (end : List ℕ) × AreSpaces end × (xs ≡ trimmed xs ++ end)
        → (end : List ℕ) × AreSpaces end × (x ∷ xs ≡ cond c [] (x ∷ trimmed xs) ++ end)
    ends true s r = (x ∷ xs, s, refl)
    ends false s r = (r.0, r.1, ap (λ l. x ∷ l) r.2)

-- a byte that is left at the end is no space
not_nil : (front : List ℕ) (b : ℕ) → [] ≡ front ++ b ∷ [] → ⊥
not_nil [] b e = cc
not_nil (x ∷ front) b e = cc

trimmed_nil : (xs : List ℕ) → trimmed xs ≡ [] → AreSpaces xs
trimmed_nil [] e = refl
trimmed_nil (x ∷ xs) e = ends (list_all is_space (x ∷ xs)) refl e
  where
    ends : (c : Bool) → list_all is_space (x ∷ xs) ≡ c → cond c [] (x ∷ trimmed xs) ≡ [] → AreSpaces (x ∷ xs)
    ends true s e = s
    ends false s e = cc

last_is_none : (xs front : List ℕ) (b : ℕ) → trimmed xs ≡ front ++ b ∷ [] → is_space b ≡ false
last_is_none [] front b e = absurd (not_nil front b e)
last_is_none (x ∷ xs) front b e =
    ends (list_all is_space (x ∷ xs)) refl front e (λ front e. last_is_none xs front b e)
  where
    left : (c d : Bool) → (c && d) ≡ false → d ≡ true → c ≡ false
    left false d e f = refl
    left true d e f = cc

    ends : (c : Bool) → list_all is_space (x ∷ xs) ≡ c → (front : List ℕ)
        → cond c [] (x ∷ trimmed xs) ≡ front ++ b ∷ []
        → ((front : List ℕ) → trimmed xs ≡ front ++ b ∷ [] → is_space b ≡ false) → is_space b ≡ false
    ends true s front e more = absurd (not_nil front b e)
    ends false s [] e more =
        let same : x ≡ b = cc in
        let rest : trimmed xs ≡ [] = cc in
        subst (λ (y : ℕ). is_space y ≡ false) same (left (is_space x) _ s (trimmed_nil xs rest))
    ends false s (y ∷ front) e more = let rest : trimmed xs ≡ front ++ b ∷ [] = cc in more front rest

-- ---- a word at the end

word_not_all : (word end : List ℕ) → IsWord word → list_all is_space (word ++ end) ≡ false
word_not_all [] end w = absurd (omega (arith, w.0))
word_not_all (x ∷ word) end w = rw (no_space x (and_parts (not (is_space x)) _ w.1).0) refl

trimmed_word : (word end : List ℕ) → NoSpaces word → AreSpaces end → trimmed (word ++ end) ≡ word
trimmed_word [] end n s = trimmed_spaces end s
trimmed_word (x ∷ word) end n s =
    let p = and_parts (not (is_space x)) _ n in
    rw (no_space x p.0) (ap (λ l. x ∷ l) (trimmed_word word end p.1 s))

trimmed_behind : (xs : List ℕ) (b : ℕ) (word end : List ℕ) → IsWord word → AreSpaces end
    → trimmed (xs ++ b ∷ (word ++ end)) ≡ xs ++ b ∷ word
trimmed_behind xs b word end w s =
    let some = word_not_all word end w in
    trimmed_skip xs (b ∷ (word ++ end)) (all_skip (b ∷ []) (word ++ end) some)
    ∙ ap (λ l. xs ++ l) (trimmed_skip (b ∷ []) (word ++ end) some
    ∙ ap (λ l. b ∷ l) (trimmed_word word end w.1 s))

-- ---- `under` and a word

pub under_found : (behind text word : List ℕ) → EndsUnder (codes "require" ++ behind) text word
    → under_word behind ≡ Some (text, word)
under_found behind text word (a, b, gap, end, sa, sb, gaps, ends, w, e) =
    let whole = append_cancel_left (codes "require") _ _ e in
    let front = text ++ a ∷ (codes "under" ++ gap) in
    let split : behind ≡ front ++ b ∷ (word ++ end) =
    whole ∙ ap (λ l. text ++ a ∷ l) (sym (append_assoc (codes "under") gap (b ∷ (word ++ end))))
    ∙ sym (append_assoc text (a ∷ (codes "under" ++ gap)) (b ∷ (word ++ end))) in
    let t : trimmed behind ≡ front ++ b ∷ word = ap trimmed split ∙ trimmed_behind front b word end w ends in
    let c : cut (trimmed behind) ≡ Some (front, word) = ap cut t ∙ cut_at front b word sb w.1 in
    let u : trimmed front ≡ text ++ a ∷ codes "under" =
    trimmed_behind text a (codes "under") gap (omega arith, refl) gaps in
    let d : cut (trimmed front) ≡ Some (text, codes "under") = ap cut u ∙ cut_at text a (codes "under") sa refl in
    rw (c, d) refl

-- and back

abbrev at_under : Option (List ℕ × List ℕ) → Option (List ℕ)
at_under c = option_map_or (λ parts. cond (bytes_eq parts.1 (codes "under")) (Some parts.0) None) c None

-- what stands before `under` and spaces
abbrev IsBefore : List ℕ → List ℕ → Type 0
IsBefore before text = (a : ℕ) × (gap : List ℕ) × (is_space a ≡ true) × AreSpaces gap
    × (before ≡ text ++ a ∷ (codes "under" ++ gap))

before_from : (before text : List ℕ) (c : Option (List ℕ × List ℕ)) → CutSays (trimmed before) c
    → at_under c ≡ Some text → IsBefore before text
before_from before text None n e = cc
before_from before text (Some (front, word)) (a, s, n, split) e = test (bytes_eq word (codes "under")) refl e
  where
    test : (c : Bool) → bytes_eq word (codes "under") ≡ c → cond c (Some front) None ≡ Some text → IsBefore before text
    test false d e = cc
    test true d e =
        let r = trimmed_says before in
        let there : front ≡ text = cc in
        let is : word ≡ codes "under" = (bytes_eq-Decides word (codes "under")).0 d in (
          a,
          r.0,
          s,
          r.1,
          r.2 ∙ ap (λ l. l ++ r.0) split ∙ append_assoc front (a ∷ word) r.0
              ∙ ap (λ l. l ++ a ∷ (word ++ r.0)) there ∙ ap (λ w. text ++ a ∷ (w ++ r.0)) is,
        )

before_says : (before text : List ℕ) → before_under before ≡ Some text → IsBefore before text
before_says before text e = before_from before text (cut (trimmed before)) (cut_says (trimmed before)) e

-- a word stands behind the last space of what was trimmed
some_word : (xs before word : List ℕ) (b : ℕ) → is_space b ≡ true → trimmed xs ≡ before ++ b ∷ word
    → 0 < length word
some_word xs before [] b s e = absurd (let no = last_is_none xs before b e in cc)
some_word xs before (x ∷ word) b s e = omega arith

abbrev with_text : Option (List ℕ × List ℕ) → Option (List ℕ × List ℕ)
with_text c = option_map_or
    (λ parts. option_map {U = List ℕ × List ℕ} (λ text. (text, parts.1)) (before_under parts.0)) c None

joined : (behind before last text word gap end : List ℕ) (a b : ℕ) → behind ≡ (before ++ b ∷ last) ++ end
    → before ≡ text ++ a ∷ (codes "under" ++ gap) → last ≡ word
    → behind ≡ text ++ a ∷ (codes "under" ++ (gap ++ b ∷ (word ++ end)))
joined behind before last text word gap end a b whole front is =
    whole ∙ append_assoc before (b ∷ last) end ∙ ap (λ l. l ++ b ∷ (last ++ end)) front
    ∙ append_assoc text (a ∷ (codes "under" ++ gap)) (b ∷ (last ++ end))
    ∙ ap (λ l. text ++ a ∷ l) (append_assoc (codes "under") gap (b ∷ (last ++ end)))
    ∙ ap (λ w. text ++ a ∷ (codes "under" ++ (gap ++ b ∷ (w ++ end)))) is

ends_from : (behind before last text word end : List ℕ) (b : ℕ) → is_space b ≡ true → AreSpaces end → IsWord word
    → behind ≡ (before ++ b ∷ last) ++ end → last ≡ word → IsBefore before text
    → EndsUnder (codes "require" ++ behind) text word
ends_from behind before last text word end b s spaces some whole is (a, gap, sa, gaps, front) = (
  a,
  b,
  gap,
  end,
  sa,
  s,
  gaps,
  spaces,
  some,
  ap (λ l. codes "require" ++ l) (joined behind before last text word gap end a b whole front is),
)

found_from : (behind text word : List ℕ) (c : Option (List ℕ × List ℕ)) → CutSays (trimmed behind) c
    → with_text c ≡ Some (text, word) → EndsUnder (codes "require" ++ behind) text word
found_from behind text word None n e = cc
found_from behind text word (Some (before, last)) (b, s, n, split) e = test (before_under before) refl e
  where
    test : (c : Option (List ℕ)) → before_under before ≡ c
        → option_map {U = List ℕ × List ℕ} (λ text. (text, last)) c ≡ Some (text, word)
        → EndsUnder (codes "require" ++ behind) text word
    test None d e = cc
    test (Some front) d e =
        let r = trimmed_says behind in
        let both : Path (List ℕ × List ℕ) (front, last) (text, word) = cc in
        let there : front ≡ text = ap (λ (p : List ℕ × List ℕ). p.0) both in
        let is : last ≡ word = ap (λ (p : List ℕ × List ℕ). p.1) both in
        ends_from behind before last text word r.0 b s r.1
        (subst IsWord is (some_word behind before last b s split, n)) (r.2 ∙ ap (λ l. l ++ r.0) split) is
        (before_says before text (d ∙ ap (λ l. Some l) there))

-- where bytes end so, they do
pub found_under : (behind text word : List ℕ) → under_word behind ≡ Some (text, word)
    → EndsUnder (codes "require" ++ behind) text word
found_under behind text word e = found_from behind text word (cut (trimmed behind)) (cut_says (trimmed behind)) e

-- ---- lines

pub plain : (behind text : List ℕ) → length behind ≤ 4_089 → under_word behind ≡ None → text ≡ trimmed behind
    → IsAsked (codes "require" ++ behind) text None
plain behind text few none e =
    let r = trimmed_says behind in
    record {
      few = omega arith;
      parts = (
        λ before word ends. let found = under_found behind before word ends in cc,
        r.0,
        r.1,
        ap (λ l. codes "require" ++ l) (r.2 ∙ ap (λ l. l ++ r.0) (sym e)),
      );
      named = tt;
    }

pub under_name : (behind text word name : List ℕ) → length behind ≤ 4_089 → under_word behind ≡ Some (text, word)
    → name ≡ word → is_name word ≡ true → IsAsked (codes "require" ++ behind) text (Some name)
under_name behind text word name few found same is = record {
  few = omega arith;
  parts = found_under behind text name (found ∙ ap (λ w. Some (text, w)) (sym same));
  named = subst (λ (w : List ℕ). is_name w ≡ true) (sym same) is;
}

pub no_name : (behind text word : List ℕ) (e : Refusal) → length behind ≤ 4_089 → under_word behind ≡ Some (text, word)
    → e ≡ NotAName → is_name word ≡ false → IsMisread (codes "require" ++ behind) e
no_name behind text word e few found same is =
    inr (same, omega arith, text, word, found_under behind text word found, is)
