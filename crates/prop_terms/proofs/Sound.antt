-- What the reader finds is written so.
use Rattle.std.proofs.Common.{◌≡◌, ℕ, ◌≤◌, List, [], ◌∷◌, ◌++◌, Bool, true, false, cond, Some}
use Rattle.std.proofs.Common.{refl, sym, ap, subst, ◌∙◌, arith, append_assoc, append-nil, lit≤}
use Rattle.std.specs.Prelude.{nat_le}
use Rattle.std.proofs.lemmas.Option.{cond_some, none-some, same_Some, option_and_then_some}
use Rattle.std.proofs.lemmas.Bool.{leb-true, leb-false}
use Rattle.prop_terms.specs.declared.operators.Prefix.{Prefix}
use Rattle.prop_terms.specs.declared.operators.Infix.{Infix}
use Rattle.prop_terms.specs.declared.operators.Prefix.TheVariants as before
use Rattle.prop_terms.specs.declared.operators.Infix.TheVariants as between
use Rattle.prop_terms.specs.declared.tokens.Shape.{Shape}
use Rattle.prop_terms.specs.declared.tokens.Shape.TheVariants.{Round, Curly}
use Rattle.prop_terms.specs.Levels.{level_of, strength_of, leaf_level}
use Rattle.prop_terms.specs.Levels.{bracket_level, left_at, right_at}
use Rattle.prop_terms.specs.Terms.{Term, Number, Name, One, Two}
use Rattle.prop_terms.specs.Tokens.{Token, Numeral, Word, Before, Between, Open, Close}
use Rattle.prop_terms.specs.Writing.{Writes, numeral, word, enclosed, leading, joining, ahead, inside}
use Rattle.prop_terms.specs.inner.Machine.{Frame, Bracket, Ahead, Behind, Held, State, Want, Have, asks, demand}
use Rattle.prop_terms.specs.inner.Machine.{joined, rank, shut, shut_in, leaf, lead, begin, join, is_same, closed_in}
use Rattle.prop_terms.specs.inner.Machine.{go_on, step, run, whole, end, parsed}

-- ---- where the reader stands

-- the tokens of what has begun, inside what asks for this level
abbrev pub Starts : Frame → ℕ → List Token → Type 0
Starts (Bracket shape) d vs = vs ≡ Open shape ∷ []
Starts (Ahead op) d vs = (token : Token) × (ahead token ≡ Some op) × (d ≤ strength_of op) × (vs ≡ token ∷ [])
Starts (Behind a op) d vs =
    (ws : List Token) × (d ≤ level_of op) × Writes (left_at (level_of op)) ws a × (vs ≡ ws ++ Between op ∷ [])

-- the tokens of all that has begun
abbrev pub Opens : List Frame → List Token → Type 0
Opens [] ts = ts ≡ []
Opens (f ∷ fs) ts =
    (us : List Token) × (vs : List Token) × Opens fs us × Starts f (demand fs) vs × (ts ≡ us ++ vs)

-- and of a term in it
pub record Holds (ts : List Token) (held : Held) : Type 0 where
  pub us : List Token
  pub vs : List Token
  pub opens : Opens held.frames us
  pub own : Writes held.level vs held.term
  pub asked : Writes (demand held.frames) vs held.term
  pub all : ts ≡ us ++ vs

abbrev pub Stands : List Token → State → Type 0
Stands ts (Want fs) = Opens fs ts
Stands ts (Have held) = Holds ts held

-- ---- levels

low : (op : Infix) → right_at (level_of op) ≤ bracket_level
low between.Semicolon = lit≤ tt
low op = lit≤ tt

low_before : (op : Prefix) → right_at (strength_of op) ≤ bracket_level
low_before before.Negated = lit≤ tt
low_before op = lit≤ tt

demand_low : (fs : List Frame) → demand fs ≤ bracket_level
demand_low [] = lit≤ tt
demand_low (Bracket shape ∷ fs) = lit≤ tt
demand_low (Ahead op ∷ fs) = low_before op
demand_low (Behind a op ∷ fs) = low op

same : (n : ℕ) → n ≤ n
same n = omega arith

-- ---- what is made

-- what has begun makes a term with what it asks for
made : (f : Frame) (c d p : ℕ) (vs ws : List Token) (t : Term) → nat_le (asks f) c ≡ false → Starts f d vs
    → Writes (asks f) ws t → p ≤ rank f → Writes p (vs ++ ws) (joined f t)
made (Bracket shape) c d p vs ws t e s w le = let no = leb-false 0 c e in absurd (omega arith)
made (Ahead op) c d p vs ws t e s w le =
    subst (λ l. Writes p (l ++ ws) (One op t)) (sym s.3) (leading p s.0 op ws t s.1 le w)
made (Behind a op) c d p vs ws t e s w le =
    subst (λ l. Writes p l (Two op a t)) (sym (ap (λ l. l ++ ws) s.3 ∙ append_assoc s.0 (Between op ∷ []) ws))
    (joining p op s.0 ws a t le s.2 w)

inside_of : (f : Frame) (c d : ℕ) (vs : List Token) → nat_le (asks f) c ≡ false → Starts f d vs → d ≤ rank f
inside_of (Bracket shape) c d vs e s = let no = leb-false 0 c e in absurd (omega arith)
inside_of (Ahead op) c d vs e s = s.2
inside_of (Behind a op) c d vs e s = s.1

by_test : (b : Bool) (P : Held → Type 0) (h k : Held) → (b ≡ true → P h) → (b ≡ false → P k) → P (cond b h k)
by_test true P h k f g = f refl
by_test false P h k f g = g refl

shuts : (c : ℕ) (fs : List Frame) (t : Term) (l : ℕ) (us vs : List Token) → Opens fs us → Writes l vs t
    → Writes (demand fs) vs t → Holds (us ++ vs) (shut c fs t l)
shuts c [] t l us vs o w d = record { us = us; vs = vs; opens = o; own = w; asked = d; all = refl }
shuts c (f ∷ fs) t l us vs o w d =
    by_test (nat_le (asks f) c) (λ h. Holds (us ++ vs) h) (record { frames = f ∷ fs; term = t; level = l })
    (shut c fs (joined f t) (rank f))
    (λ e. record { us = us; vs = vs; opens = o; own = w; asked = d; all = refl })
    (λ e. subst (λ l. Holds l (shut c fs (joined f t) (rank f)))
    (sym (ap (λ l. l ++ vs) o.4 ∙ append_assoc o.0 o.1 vs))
    (shuts c fs (joined f t) (rank f) o.0 (o.1 ++ vs) o.2
    (made f c (demand fs) (rank f) o.1 vs t e o.3 d (same (rank f)))
    (made f c (demand fs) (demand fs) o.1 vs t e o.3 d (inside_of f c (demand fs) o.1 e o.3))))

shuts_in : (c : ℕ) (held : Held) (ts : List Token) → Holds ts held → Holds ts (shut_in c held)
shuts_in c held ts h =
    subst (λ l. Holds l (shut_in c held)) (sym h.all)
    (shuts c held.frames held.term held.level h.us h.vs h.opens h.own h.asked)

stops : (c : ℕ) (fs : List Frame) (t : Term) (l : ℕ) → demand (shut c fs t l).frames ≤ c
stops c [] t l = omega arith
stops c (f ∷ fs) t l =
    by_test (nat_le (asks f) c) (λ h. demand h.frames ≤ c) (record { frames = f ∷ fs; term = t; level = l })
    (shut c fs (joined f t) (rank f)) (λ e. leb-true (asks f) c e) (λ e. stops c fs (joined f t) (rank f))

-- ---- a weaker level

looser : (q p : ℕ) (ts : List Token) (t : Term) → p ≤ q → Writes q ts t → Writes p ts t
looser q p ts t le (numeral _ n l) = numeral p n (omega arith)
looser q p ts t le (word _ w l) = word p w (omega arith)
looser q p ts t le (enclosed _ shape us u l w) = enclosed p shape us u (omega arith) w
looser q p ts t le (leading _ token op us u m l w) = leading p token op us u m (omega arith) w
looser q p ts t le (joining _ op us vs u v l w x) = joining p op us vs u v (omega arith) w x

-- ---- a token

leaves : (token : Token) (t : Term) (ts : List Token) (fs : List Frame) (next : State)
    → ((p : ℕ) → p ≤ leaf_level → Writes p (token ∷ []) t) → Opens fs ts → leaf t fs ≡ Some next
    → Stands (ts ++ token ∷ []) next
leaves token t ts fs next w o e =
    let h = cond_some _ _ _ e in
    subst (Stands (ts ++ token ∷ [])) h.1 (record {
      us = ts;
      vs = token ∷ [];
      opens = o;
      own = w leaf_level (same leaf_level);
      asked = w (demand fs) (leb-true _ _ h.0);
      all = refl;
    })

leads : (token : Token) (op : Prefix) (ts : List Token) (fs : List Frame) (next : State) → ahead token ≡ Some op
    → Opens fs ts → lead op fs ≡ Some next → Stands (ts ++ token ∷ []) next
leads token op ts fs next m o e =
    let h = cond_some _ _ _ e in
    subst (Stands (ts ++ token ∷ [])) h.1 (ts, token ∷ [], o, (token, m, leb-true _ _ h.0, refl), refl)

begins : (token : Token) (ts : List Token) (fs : List Frame) (next : State) → Opens fs ts → begin token fs ≡ Some next
    → Stands (ts ++ token ∷ []) next
begins (Numeral n) ts fs next o e = leaves (Numeral n) (Number n) ts fs next (λ p l. numeral p n l) o e
begins (Word w) ts fs next o e = leaves (Word w) (Name w) ts fs next (λ p l. word p w l) o e
begins (Open shape) ts fs next o e =
    subst (Stands (ts ++ Open shape ∷ [])) (same_Some _ _ e) (ts, Open shape ∷ [], o, refl, refl)
begins (Before op) ts fs next o e = leads (Before op) op ts fs next refl o e
begins (Between between.Minus) ts fs next o e = leads (Between between.Minus) before.Negated ts fs next refl o e
begins token ts fs next o e = absurd (none-some _ e)

joins : (op : Infix) (ts : List Token) (held : Held) (next : State) → Holds ts held
    → demand held.frames ≤ level_of op → join op held ≡ Some next → Stands (ts ++ Between op ∷ []) next
joins op ts held next h le e =
    let g = cond_some _ _ _ e in
    subst (Stands (ts ++ Between op ∷ [])) g.1 (
      h.us,
      h.vs ++ Between op ∷ [],
      h.opens,
      (h.vs, le, looser held.level (left_at (level_of op)) h.vs held.term (leb-true _ _ g.0) h.own, refl),
      ap (λ l. l ++ Between op ∷ []) h.all ∙ append_assoc h.us h.vs (Between op ∷ []),
    )

same_shape : (a b : Shape) → is_same a b ≡ true → b ≡ a
same_shape Round Round e = refl
same_shape Curly Curly e = refl
same_shape a b e = cc

closes_in : (shape other : Shape) (ts : List Token) (fs : List Frame) (t : Term) (l : ℕ) (next : State)
    → Holds ts (record { frames = Bracket other ∷ fs; term = t; level = l }) → other ≡ shape
    → Holds (ts ++ Close shape ∷ []) (record { frames = fs; term = inside shape t; level = bracket_level })
closes_in shape other ts fs t l next h s =
    let o = h.opens in
    record {
      us = o.0;
      vs = Open shape ∷ (h.vs ++ Close shape ∷ []);
      opens = o.2;
      own = enclosed bracket_level shape h.vs t (same bracket_level) h.asked;
      asked = enclosed (demand fs) shape h.vs t (demand_low fs) h.asked;
      all = ap (λ l. l ++ Close shape ∷ []) (h.all
          ∙ ap (λ l. l ++ h.vs) (o.4 ∙ ap (λ l. o.0 ++ l) (o.3 ∙ ap (λ b. Open b ∷ []) s)))
          ∙ append_assoc (o.0 ++ Open shape ∷ []) h.vs (Close shape ∷ [])
          ∙ append_assoc o.0 (Open shape ∷ []) (h.vs ++ Close shape ∷ []);
    }

closes : (shape : Shape) (ts : List Token) (fs : List Frame) (t : Term) (l : ℕ) (next : State)
    → Holds ts (record { frames = fs; term = t; level = l }) → closed_in shape fs t ≡ Some next
    → Stands (ts ++ Close shape ∷ []) next
closes shape ts (Bracket other ∷ fs) t l next h e =
    let g = cond_some _ _ _ e in
    subst (Stands (ts ++ Close shape ∷ [])) g.1
    (closes_in shape other ts fs t l next h (same_shape shape other g.0))
closes shape ts fs t l next h e = absurd (none-some _ e)

goes : (token : Token) (ts : List Token) (held : Held) (next : State) → Holds ts held → go_on token held ≡ Some next
    → Stands (ts ++ token ∷ []) next
goes (Between op) ts held next h e =
    joins op ts (shut_in (level_of op) held) next (shuts_in (level_of op) held ts h)
    (stops (level_of op) held.frames held.term held.level) e
goes (Close shape) ts held next h e =
    let s = shut_in 0 held in closes shape ts s.frames s.term s.level next (shuts_in 0 held ts h) e
goes token ts held next h e = absurd (none-some _ e)

steps : (token : Token) (ts : List Token) (state next : State) → Stands ts state → step token state ≡ Some next
    → Stands (ts ++ token ∷ []) next
steps token ts (Want fs) next h e = begins token ts fs next h e
steps token ts (Have held) next h e = goes token ts held next h e

runs : (ts done : List Token) (state last : State) → Stands done state → run ts state ≡ Some last
    → Stands (done ++ ts) last
runs [] done state last h e =
    subst (λ l. Stands l last) (sym (append-nil done)) (subst (Stands done) (same_Some _ _ e) h)
runs (token ∷ ts) done state last h e =
    option_and_then_some (run ts) (step token state) last e (λ next f g.
    subst (λ l. Stands l last) (append_assoc done (token ∷ []) ts)
    (runs ts (done ++ token ∷ []) next last (steps token done state next h f) g))

at_end : (ts : List Token) (fs : List Frame) (t u : Term) (l : ℕ)
    → Holds ts (record { frames = fs; term = t; level = l }) → whole fs t ≡ Some u → Writes 0 ts u
at_end ts [] t u l h e =
    subst (λ v. Writes 0 v u) (sym (h.all ∙ ap (λ l. l ++ h.vs) h.opens))
    (subst (Writes 0 h.vs) (same_Some _ _ e) h.asked)
at_end ts (f ∷ fs) t u l h e = absurd (none-some _ e)

ends : (ts : List Token) (state : State) (t : Term) → Stands ts state → end state ≡ Some t → Writes 0 ts t
ends ts (Want fs) t h e = absurd (none-some _ e)
ends ts (Have held) t h e =
    let s = shut_in 0 held in at_end ts s.frames s.term t s.level (shuts_in 0 held ts h) e

-- what the reader finds is written so
pub sound : (ts : List Token) (t : Term) → parsed ts ≡ Some t → Writes 0 ts t
sound ts t e =
    option_and_then_some end (run ts (Want [])) t e
    (λ last f g. ends ts last t (runs ts [] (Want []) last refl f) g)
