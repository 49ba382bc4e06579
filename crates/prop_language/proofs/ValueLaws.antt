-- Values, and the sides of a choice, are read just from the tokens that spell them.
use Rattle.std.proofs.Common.{◌≡◌, ℕ, List, [], ◌∷◌, ◌++◌, Bool, true, false, cond, refl, sym, ◌∙◌, ap, subst, Some}
use Rattle.std.proofs.Common.{None, map, append-nil, append_assoc, length}
use Rattle.std.specs.Bool.{Decides}
use Rattle.std.specs.Prelude.{Option, bytes_eq, codes, nat_le, ◌&&◌, flat_map}
use Rattle.std.specs.Option.{option_map, option_and_then}
use Rattle.std.proofs.lemmas.Slice.Eq.{bytes_eq-Decides}
use Rattle.std.proofs.lemmas.Bool.{le-leb, leb-true}
use Rattle.prop_language.specs.Tokens.{Token, Word, Open, Close}
use Rattle.prop_language.specs.Commands.{Value, Bare, Braces, Command}
use Rattle.prop_language.specs.inner.Forms.{join, values, in_braces, one_value, sides, two_to_eight, choose}
use Rattle.prop_language.specs.inner.Grammar.{tokens_of_value}
use Rattle.prop_language.specs.inner.Grammar.{Spells, AreTwoToEight}
use Rattle.prop_language.specs.inner.Parts.{sides_in, few_sides_in}
use Rattle.prop_language.proofs.Forming.{Filled, filled}
use Rattle.prop_language.proofs.Choosing.{last_side, next_side}

-- the values after a first one, each behind an `or`
abbrev pub further_values : List Value → List Token
further_values vs = flat_map (λ w. Word (codes "or") ∷ tokens_of_value w) vs

-- ---- what is spelled is read

braces_read : (ws us : List (List ℕ)) (ts : List Token)
    → in_braces ws ((map Word us ++ Close ∷ []) ++ ts) ≡ join (Some (Braces (ws ++ us))) (values ts)
braces_read ws [] ts = ap (λ l. join (Some (Braces l)) (values ts)) (sym (append-nil ws))
braces_read ws (u ∷ us) ts =
    braces_read (ws ++ u ∷ []) us ts ∙ ap (λ l. join (Some (Braces l)) (values ts)) (append_assoc ws (u ∷ []) us)

-- a value before others
first_read : (v : Value) (ts : List Token) → values (tokens_of_value v ++ ts) ≡ join (Some v) (values ts)
first_read (Bare w) ts = refl
first_read (Braces ws) ts = braces_read [] ws ts

pub value_read : (v : Value) → values (tokens_of_value v) ≡ Some (v ∷ [])
value_read v = ap values (sym (append-nil (tokens_of_value v))) ∙ first_read v []

pub sides_read : (v : Value) (vs : List Value) → sides_in (tokens_of_value v ++ further_values vs) ≡ Some (v ∷ vs)
sides_read v [] = last_side (tokens_of_value v ++ []) [] v (first_read v []) refl
sides_read v (u ∷ vs) =
    let more = tokens_of_value u ++ further_values vs in
    next_side (tokens_of_value v ++ Word (codes "or") ∷ more) (Word (codes "or") ∷ more) more v
    (first_read v (Word (codes "or") ∷ more)) refl ∙ ap (join (Some v)) (sides_read u vs)

few_read : (vs : List Value) → AreTwoToEight vs → two_to_eight vs ≡ Some vs
few_read vs n = rw (le-leb 2 (length vs) n.0, le-leb (length vs) 8 n.1) refl

pub choice_read : (c x : List ℕ) (v : Value) (vs : List Value) → AreTwoToEight (v ∷ vs)
    → choose (Word c ∷ Word x ∷ tokens_of_value v ++ further_values vs) ≡ Some (Command.Choose c x (v ∷ vs))
choice_read c x v vs n =
    ap (λ o. option_map (Command.Choose c x) (option_and_then two_to_eight o)) (sides_read v vs)
    ∙ ap (option_map (Command.Choose c x)) (few_read (v ∷ vs) n)

-- ---- what is read is spelled

none_left : (ts : List Token) → values ts ≡ Some [] → ts ≡ []
none_left [] h = refl
none_left (t ∷ ts) h = absurd (subst Filled h (filled (t ∷ ts) (λ e. cc)))

-- a value before others is the first
first : (u v : Value) (vs : List Value) (o : Option (List Value)) → join (Some u) o ≡ Some (v ∷ vs)
    → (u ≡ v) × (o ≡ Some vs)
first u v vs None h = cc
first u v vs (Some us) h = (cc, cc)

braces_spelled : (ws : List (List ℕ)) (ts : List Token) (v : Value) (vs : List Value) → in_braces ws ts ≡ Some (v ∷ vs)
    → (us : List (List ℕ)) × (rest : List Token) × (v ≡ Braces (ws ++ us)) × (ts ≡ (map Word us ++ Close ∷ []) ++ rest)
    × (values rest ≡ Some vs)
braces_spelled ws [] v vs h = cc
braces_spelled ws (Word w ∷ ts) v vs h =
    let f = braces_spelled (ws ++ w ∷ []) ts v vs h in
    (w ∷ f.0, f.1, f.2 ∙ ap Braces (append_assoc ws (w ∷ []) f.0), ap (λ l. Word w ∷ l) f.3, f.4)
braces_spelled ws (Close ∷ ts) v vs h =
    let f = first (Braces ws) v vs (values ts) h in
    ([], ts, sym f.0 ∙ ap Braces (sym (append-nil ws)), refl, f.1)
braces_spelled ws (t ∷ ts) v vs h = cc

-- the tokens are those of a value and of others
abbrev Begins : List Token → Value → List Value → Type 0
Begins ts v vs = (rest : List Token) × (ts ≡ tokens_of_value v ++ rest) × (values rest ≡ Some vs)

first_spelled : (ts : List Token) (v : Value) (vs : List Value) → values ts ≡ Some (v ∷ vs) → Begins ts v vs
first_spelled [] v vs h = cc
first_spelled (Word w ∷ ts) v vs h =
    let f = first (Bare w) v vs (values ts) h in
    (ts, ap (λ u. tokens_of_value u ++ ts) f.0, f.1)
first_spelled (Open ∷ ts) v vs h =
    let f = braces_spelled [] ts v vs h in
    (f.1, ap (λ l. Open ∷ l) f.3 ∙ ap (λ u. tokens_of_value u ++ f.1) (sym f.2), f.4)
first_spelled (t ∷ ts) v vs h = cc

value_spelled : (ts : List Token) (v : Value) → values ts ≡ Some (v ∷ []) → ts ≡ tokens_of_value v
value_spelled ts v h =
    let f = first_spelled ts v [] h in
    f.1 ∙ ap (λ l. tokens_of_value v ++ l) (none_left f.0 f.2) ∙ append-nil (tokens_of_value v)

pub one_spelled : (ts : List Token) (v : Value) (vs : Option (List Value)) → values ts ≡ vs
    → option_and_then one_value vs ≡ Some v → ts ≡ tokens_of_value v
one_spelled ts v None e h = cc
one_spelled ts v (Some []) e h = cc
one_spelled ts v (Some (u ∷ [])) e h =
    let same : u ≡ v = cc in
    value_spelled ts v (e ∙ ap (λ w. Some (w ∷ [])) same)
one_spelled ts v (Some (u ∷ w ∷ vs)) e h = cc

-- the tokens are those of the sides, of which there is one or more
abbrev AreSides : List Token → List Value → Type 0
AreSides ts vs =
    (v : Value) × (us : List Value) × (vs ≡ v ∷ us) × (ts ≡ tokens_of_value v ++ further_values us)

sides_spelled : (read : List Value) (ts : List Token) (vs : List Value) → values ts ≡ Some read → sides read ≡ Some vs
    → AreSides ts vs
sides_spelled [] ts vs e h = cc
sides_spelled (v ∷ []) ts vs e h =
    let f = first_spelled ts v [] e in
    let same : vs ≡ v ∷ [] = cc in
    (v, [], same, f.1 ∙ ap (λ l. tokens_of_value v ++ l) (none_left f.0 f.2))
sides_spelled (v ∷ Bare w ∷ read) ts vs e h =
    at (bytes_eq w (codes "or")) (bytes_eq-Decides w (codes "or")) (sides read)
    (λ us q. sides_spelled read g.0 us g.2 q) h
  where
    f : Begins ts v (Bare w ∷ read)
    f = first_spelled ts v (Bare w ∷ read) e

    g : Begins f.0 (Bare w) read
    g = first_spelled f.0 (Bare w) read f.2

    at : (b : Bool) → Decides b (w ≡ codes "or") → (o : Option (List Value))
        → ((us : List Value) → o ≡ Some us → AreSides g.0 us) → cond b (join (Some v) o) None ≡ Some vs → AreSides ts vs
    at true d (Some us) spelled h =
        let s = spelled us refl in
        let same : vs ≡ v ∷ us = cc in
        let behind : f.0 ≡ further_values us = g.1 ∙ ap (λ u. Word u ∷ g.0) (d.0 refl)
        ∙ ap (λ l. Word (codes "or") ∷ l) s.3 ∙ ap further_values (sym s.2) in
        (v, us, same, f.1 ∙ ap (λ l. tokens_of_value v ++ l) behind)
    at true d None spelled h = cc
    at false d o spelled h = cc
sides_spelled (v ∷ Braces ws ∷ read) ts vs e h = cc

few_spelled : (us vs : List Value) → two_to_eight us ≡ Some vs → (us ≡ vs) × AreTwoToEight us
few_spelled us vs h = at (nat_le 2 (length us)) (nat_le (length us) 8) refl refl h
  where
    at : (a b : Bool) → nat_le 2 (length us) ≡ a → nat_le (length us) 8 ≡ b → cond (a && b) (Some us) None ≡ Some vs
        → (us ≡ vs) × AreTwoToEight us
    at true true l m h = (cc, (leb-true 2 (length us) l, leb-true (length us) 8 m))
    at true false l m h = cc
    at false b l m h = cc

-- the tokens spell the choice, behind its word
abbrev SpellChoice : (ts : List Token) (c x : List ℕ) (vs : List Value) → Type 0
SpellChoice ts c x vs = Spells (Word (codes "choose") ∷ Word c ∷ Word x ∷ ts) (Command.Choose c x vs)

few_sides_spelled : (ts : List Token) (c x : List ℕ) (read : Option (List Value)) (vs : List Value) → values ts ≡ read
    → option_and_then two_to_eight (option_and_then sides read) ≡ Some vs → SpellChoice ts c x vs
few_sides_spelled ts c x None vs e h = cc
few_sides_spelled ts c x (Some read) vs e h = at (sides read) refl h
  where
    at : (o : Option (List Value)) → sides read ≡ o → option_and_then two_to_eight o ≡ Some vs → SpellChoice ts c x vs
    at None q h = cc
    at (Some us) q h =
        let n = few_spelled us vs h in
        let s = sides_spelled read ts us e q in
        let spelled : SpellChoice ts c x (s.0 ∷ s.1) =
        (ap (λ l. Word (codes "choose") ∷ Word c ∷ Word x ∷ l) s.3, subst AreTwoToEight s.2 n.1) in
        subst (SpellChoice ts c x) (sym s.2 ∙ n.0) spelled

pub choice_spelled : (ts : List Token) (command : Command) → choose ts ≡ Some command
    → Spells (Word (codes "choose") ∷ ts) command
choice_spelled (Word c ∷ Word x ∷ ts) command h = at (few_sides_in ts) refl h
  where
    at : (o : Option (List Value)) → few_sides_in ts ≡ o → option_map (Command.Choose c x) o ≡ Some command
        → Spells (Word (codes "choose") ∷ Word c ∷ Word x ∷ ts) command
    at None e h = cc
    at (Some vs) e h =
        let same : Command.Choose c x vs ≡ command = cc in
        subst (Spells (Word (codes "choose") ∷ Word c ∷ Word x ∷ ts)) same
        (few_sides_spelled ts c x (values ts) vs refl e)
choice_spelled ts command h = cc
