-- Lines, one more at a time.
use Rattle.std.proofs.Common.{◌≡◌, ◌∙◌, ◌+◌, ◌<◌, ℕ, zero, suc, List, [], ◌∷◌, ◌++◌, length, take, map, sym, ap, refl}
use Rattle.std.proofs.Common.{append_assoc, append-nil, map-id, arith, Bool, get_or, Some, None, slice_get}
use Rattle.std.specs.List.{range_with_len}
use Rattle.std.specs.Option.{option_map, option_map_or}
use Rattle.std.specs.Prelude.{flat_map, Result, Ok, Err, OnOk, Option, is_some, true, false, codes, decimal, unwrap_or}
use Rattle.std.proofs.lemmas.List.{take_more, map-append}
use Rattle.std.proofs.lemmas.List.FromFn.{map-range_with_len_more}
use Rattle.std.proofs.lemmas.List.Concat.{flat_map-append}
use Rattle.prop_premises.specs.Origins.{Origin, User, Side, name_of, side_at}
use Rattle.prop_premises.specs.Origins.{choices_of}
use Rattle.prop_premises.specs.declared.choice.Choice.{Choice}
use Rattle.prop_premises.specs.ChoiceLists.{hypothetical, IsSide}
use Rattle.prop_numbers.specs.Sets.{Members}
use Rattle.prop_amb.specs.Search.{Stand, IsStand}
use Rattle.prop_amb.proofs.ZipLemmas.{some_same, zip_length, zip_both}
use Rattle.prop_amb.proofs.LookingLaws.{its_side}
use Rattle.prop_telling.specs.Listing.{premise_lines, premise_line, belief_text, choice_text, choice_line}
use Rattle.prop_telling.proofs.TellingLemmas.{there}

-- one more line of so many
pub lines_more : (f : ℕ → List ℕ) (old now new : List (List ℕ)) (k : ℕ) (line : List ℕ)
    → now ≡ old ++ map f (range_with_len 0 k) → new ≡ now ++ line ∷ [] → line ≡ f k
    → new ≡ old ++ map f (range_with_len 0 (k + 1))
lines_more f old now new k line before more is =
    more ∙ (λ i. before i ++ is i ∷ []) ∙ append_assoc old (map f (range_with_len 0 k)) (f k ∷ [])
    ∙ ap (λ t. old ++ t) (sym (map-range_with_len_more f 0 k k (omega arith)))

pub lines_pushed : {T : Type 0} (bytes_of : T → List ℕ) (f : ℕ → List ℕ) (old now new : List T) (x : T) (k : ℕ)
    → map bytes_of now ≡ map bytes_of old ++ map f (range_with_len 0 k) → new ≡ now ++ x ∷ [] → bytes_of x ≡ f k
    → map bytes_of new ≡ map bytes_of old ++ map f (range_with_len 0 (k + 1))
lines_pushed bytes_of f old now new x k before more is =
    lines_more f (map bytes_of old) (map bytes_of now) (map bytes_of new) k (bytes_of x) before
    (ap (map bytes_of) more ∙ map-append bytes_of now (x ∷ [])) is

-- an item that there is, whatever stands for one that there is not
pub get_same : {A : Type 0} (xs : List A) (k : ℕ) (d e : A) → k < length xs → get_or xs k d ≡ get_or xs k e
get_same [] k d e l = absurd (omega (arith, l))
get_same (x ∷ xs) zero d e l = refl
get_same (x ∷ xs) (suc k) d e l = get_same xs k d e (omega (arith, l))

pub on_ok : {T E P Q : Type 0} (r : Result T E) → (P → Q) → OnOk r P → OnOk r Q
on_ok (Ok t) f h = f h
on_ok (Err e) f h = tt

-- several lines more for one place more
pub pieces_more : (f : ℕ → List (List ℕ)) (old now new : List (List ℕ)) (k : ℕ)
    → now ≡ old ++ flat_map f (range_with_len 0 k) → new ≡ now ++ f k
    → new ≡ old ++ flat_map f (range_with_len 0 (k + 1))
pieces_more f old now new k before more =
    let range : range_with_len 0 (k + 1) ≡ range_with_len 0 k ++ k ∷ [] = sym (map-id (range_with_len 0 (k + 1)))
    ∙ map-range_with_len_more (λ n. n) 0 k k (omega arith) ∙ ap (λ xs. xs ++ k ∷ []) (map-id (range_with_len 0 k)) in
    more ∙ ap (λ t. t ++ f k) before ∙ append_assoc old (flat_map f (range_with_len 0 k)) (f k)
    ∙ ap (λ t. old ++ (flat_map f (range_with_len 0 k) ++ t)) (sym (append-nil (f k)))
    ∙ ap (λ t. old ++ t) (sym (flat_map-append f (range_with_len 0 k) (k ∷ [])))
    ∙ ap (λ xs. old ++ flat_map f xs) (sym range)

-- ---- premises

lines_of_user : (os : List Origin) (p : ℕ) (d : Origin) → p < length os → is_some (side_at os p) ≡ false
    → premise_lines (get_or os p d) ≡ premise_line os p ∷ []
lines_of_user [] p d l h = absurd (omega (arith, l))
lines_of_user (User name believed ∷ os) zero d l h = refl
lines_of_user (Side choice side sides ∷ os) zero d l h = cc
lines_of_user (o ∷ os) (suc p) d l h = lines_of_user os p d (omega (arith, l)) h

lines_of_side : (os : List Origin) (p : ℕ) (d : Origin) → p < length os → is_some (side_at os p) ≡ true
    → premise_lines (get_or os p d) ≡ []
lines_of_side [] p d l h = absurd (omega (arith, l))
lines_of_side (User name believed ∷ os) zero d l h = cc
lines_of_side (Side choice side sides ∷ os) zero d l h = refl
lines_of_side (o ∷ os) (suc p) d l h = lines_of_side os p d (omega (arith, l)) h

premises_more : (os : List Origin) (old : List (List ℕ)) (k : ℕ) (d : Origin) → k < length os
    → (old ++ flat_map premise_lines (take k os)) ++ premise_lines (get_or os k d)
    ≡ old ++ flat_map premise_lines (take (k + 1) os)
premises_more os old k d l =
    append_assoc old (flat_map premise_lines (take k os)) (premise_lines (get_or os k d))
    ∙ ap (λ t. old ++ (flat_map premise_lines (take k os) ++ t)) (sym (append-nil (premise_lines (get_or os k d))))
    ∙ ap (λ t. old ++ t) (sym (flat_map-append premise_lines (take k os) (get_or os k d ∷ [])))
    ∙ ap (λ t. old ++ flat_map premise_lines t) (sym (take_more os k d l))

-- one more premise of the user's
pub user_more : (os : List Origin) (old now new : List (List ℕ)) (k : ℕ) (line : List ℕ) → k < length os
    → is_some (side_at os k) ≡ false → now ≡ old ++ flat_map premise_lines (take k os) → new ≡ now ++ line ∷ []
    → line ≡ premise_line os k → new ≡ old ++ flat_map premise_lines (take (k + 1) os)
user_more os old now new k line l user before more is =
    more ∙ (λ i. before i ++ is i ∷ [])
    ∙ ap (λ t. (old ++ flat_map premise_lines (take k os)) ++ t) (sym (lines_of_user os k (User [] Bool.true) l user))
    ∙ premises_more os old k (User [] Bool.true) l

-- and one more side
pub side_more : (os : List Origin) (old now : List (List ℕ)) (k : ℕ) → k < length os
    → is_some (side_at os k) ≡ true → now ≡ old ++ flat_map premise_lines (take k os)
    → now ≡ old ++ flat_map premise_lines (take (k + 1) os)
side_more os old now k l side before =
    before ∙ sym (append-nil (old ++ flat_map premise_lines (take k os)))
    ∙ ap (λ t. (old ++ flat_map premise_lines (take k os)) ++ t) (sym (lines_of_side os k (User [] Bool.true) l side))
    ∙ premises_more os old k (User [] Bool.true) l

-- ---- choices

-- a choice, the side on which it stands, and its first side, which is a premise
pub record IsPlace (s : Stand) (k : ℕ) : Type 0 where
  pub choice : Choice
  pub side : ℕ
  pub choice_at : slice_get (choices_of s.premises) k ≡ Some choice
  pub side_at : slice_get s.list k ≡ Some side
  pub is_side : IsSide choice side
  pub first : choice.first < length s.premises

pub place_there : (s : Stand) (k : ℕ) → IsStand s → k < length s.list → IsPlace s k
place_there s k stand l =
    let cs = choices_of s.premises in
    let many : length cs ≡ length s.list = zip_length IsSide cs s.list stand.is_list in
    let side = there s.list k l in
    let choice = there cs k (omega (arith, l, many)) in
    let is_side = zip_both IsSide cs s.list k choice.0 side.0 stand.is_list choice.1 side.1 in
    let below = stand.numbered.below (hypothetical choice.0 1)
    (its_side cs k choice.0 1 choice.1 (omega arith, omega (arith, is_side.0, is_side.1))) in
    record {
      choice = choice.0;
      side = side.0;
      choice_at = choice.1;
      side_at = side.1;
      is_side = is_side;
      first = omega (arith, below);
    }

pub named_or : (x : Option Origin) (n : List ℕ) → option_map name_of x ≡ Some n → option_map_or name_of x [] ≡ n
named_or (Some o) n e = some_same e
named_or None n e = cc

pub choice_said : (premises : List Origin) (w : Members) (list : List ℕ) (k : ℕ) (c : Choice) (side : ℕ)
    (name : List ℕ) → slice_get (choices_of premises) k ≡ Some c → slice_get list k ≡ Some side
    → option_map name_of (slice_get premises c.first) ≡ Some name
    → choice_line premises w list k ≡ codes "choice " ++ (name ++ (codes " " ++ (decimal side ++ (codes " of "
    ++ (decimal c.sides ++ (codes " " ++ belief_text (w (hypothetical c side))))))))
choice_said premises w list k c side name choice_at side_at named =
    (λ i. option_map_or (choice_text premises w (unwrap_or (side_at i) 0)) (choice_at i) [])
    ∙ ap (λ n. codes "choice " ++ (n ++ (codes " " ++ (decimal side ++ (codes " of " ++ (decimal c.sides ++ (codes " "
    ++ belief_text (w (hypothetical c side)))))))))
    (named_or (slice_get premises c.first) name named)
