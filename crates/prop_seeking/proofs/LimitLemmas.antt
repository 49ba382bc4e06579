-- A line that begins with `limit` sets the limit, where it is carried out.
use Rattle.std.proofs.Common.{◌≡◌, ◌∙◌, ◌⊎◌, ◌+◌, ◌-◌, ◌<◌, ℕ, zero, suc, Bool, true, false, cond, not, ◌&&◌}
use Rattle.std.proofs.Common.{List, [], ◌∷◌, length, take, map, arith, sym, ap, subst, inl, inr, refl}
use Rattle.std.specs.Prelude.{Option, Some, None, Result, Ok, Err, ⊤, ◌==◌, bytes_eq, codes, slice_index}
use Rattle.std.specs.List.{list_all}
use Rattle.std.specs.Str.Lines.{strip_carriage_return}
use Rattle.std.proofs.lemmas.Bool.{and_parts, eqb-true, true≢false}
use Rattle.prop_refusals.specs.declared.refusal.Refusal.{Refusal}
use Rattle.prop_refusals.specs.declared.refusal.Refusal.TheVariants.{NotAName, NotANumber}
use Rattle.prop_language.specs.Commands.{Command}
use Rattle.prop_language.specs.Tokens.{Token, Word, tokens}
use Rattle.prop_language.specs.Spelling.{Part, Spells}
use Rattle.prop_language.specs.Reading.{AskFor, IsReading}
use Rattle.prop_telling.specs.Asking.{is_apart}
use Rattle.prop_seeking.specs.Asking.{begins}

-- what was read sets the limit, if it is a command
abbrev pub MaySet : Result (Option Command) Refusal → Type 0
MaySet (Ok (Some (Command.Limit steps))) = ⊤
MaySet (Ok (Some command)) = ⊥
MaySet read = ⊤

-- the first byte of the first word, 0 where there is none
abbrev first : List Token → ℕ
first (Word (b ∷ word) ∷ rest) = b
first rest = 0

abbrev of_parts : List Part → ℕ
of_parts ps = first (map (λ p. p.token) ps)

-- ---- the first byte of the line

first_of_tokens : (bytes : List ℕ) → first (tokens (108 ∷ bytes)) ≡ 108
first_of_tokens bytes = refl

front_taken : (n : ℕ) (x : ℕ) (xs : List ℕ) → 0 < n → (rest : List ℕ) × (take n (x ∷ xs) ≡ x ∷ rest)
front_taken zero x xs l = absurd (omega (arith, l))
front_taken (suc n) x xs l = (take n xs, refl)

stripped : (b : Bool) (x y : ℕ) (xs : List ℕ)
    → (rest : List ℕ) × (cond b (take (length (x ∷ y ∷ xs) - 1) (x ∷ y ∷ xs)) (x ∷ y ∷ xs) ≡ x ∷ rest)
stripped true x y xs = front_taken (length (x ∷ y ∷ xs) - 1) x (y ∷ xs) (omega arith)
stripped false x y xs = (y ∷ xs, refl)

first_of_line : (line : List ℕ) → begins (codes "limit") line ≡ true
    → first (tokens (strip_carriage_return line)) ≡ 108
first_of_line [] e = absurd (true≢false (sym e))
first_of_line (a ∷ []) e =
    let word = and_parts (bytes_eq (a ∷ []) (codes "limit")) _ e in
    absurd (true≢false (sym (and_parts (a == 108) false word.0).1))
first_of_line (a ∷ b ∷ rest) e =
    let line = a ∷ b ∷ rest in
    let word = and_parts (bytes_eq (take 5 line) (codes "limit")) _ e in
    let l : a ≡ 108 = eqb-true a 108 (and_parts (a == 108) _ word.0).0 in
    let text = stripped (slice_index line (length line - 1) == 13) a b rest in
    let is : strip_carriage_return line ≡ 108 ∷ text.0 = text.1 ∙ ap (λ x. x ∷ text.0) l in
    subst (λ (bytes : List ℕ). first (tokens bytes) ≡ 108) (sym is) (first_of_tokens text.0)

-- ---- what is spelled so

spelled_so : (ps : List Part) (command : Command) → Spells ps command → of_parts ps ≡ 108 → MaySet (Ok (Some command))
spelled_so ps (Command.Domain n es) h l = let e = ap of_parts h.0 in absurd (omega (arith, e, l))
spelled_so ps (Command.Relation n d e pairs) h l = let f = ap of_parts h.1 in absurd (omega (arith, f, l))
spelled_so ps (Command.Cell n kind) h l = let e = ap of_parts h.1 in absurd (omega (arith, e, l))
spelled_so ps (Command.Define n params steps) h l = let e = ap of_parts h.4 in absurd (omega (arith, e, l))
spelled_so ps (Command.Attach n cells by) h l = let e = ap of_parts h.1 in absurd (omega (arith, e, l))
spelled_so ps (Command.Fix cell value) h l = let e = ap of_parts h in absurd (omega (arith, e, l))
spelled_so ps (Command.Tell p cell value) h l = let e = ap of_parts h in absurd (omega (arith, e, l))
spelled_so ps (Command.Choose n cell values) h l = let e = ap of_parts h.2 in absurd (omega (arith, e, l))
spelled_so ps (Command.Kick premise) h l = let e = ap of_parts h in absurd (omega (arith, e, l))
spelled_so ps (Command.Bring premise) h l = let e = ap of_parts h in absurd (omega (arith, e, l))
spelled_so ps (Command.Forget premise) h l = let e = ap of_parts h in absurd (omega (arith, e, l))
spelled_so ps (Command.Limit steps) h l = tt
spelled_so ps (Command.Ask cell) h l = let e = ap of_parts h in absurd (omega (arith, e, l))
spelled_so ps (Command.Why cell) h l = let e = ap of_parts h in absurd (omega (arith, e, l))
spelled_so ps (Command.Core cell) h l = let e = ap of_parts h in absurd (omega (arith, e, l))
spelled_so ps Command.Settle h l = let e = ap of_parts h in absurd (omega (arith, e, l))
spelled_so ps Command.Worldview h l = let e = ap of_parts h in absurd (omega (arith, e, l))
spelled_so ps Command.Nogoods h l = let e = ap of_parts h in absurd (omega (arith, e, l))

judged : (b c : Bool) (command : Command) → MaySet (Ok (Some command))
    → MaySet (cond b (Err NotAName) (cond c (Err NotANumber) (Ok (Some command))))
judged true c command h = tt
judged false true command h = tt
judged false false command h = h

asked_so : (ts : List Token) (read : Result (Option Command) Refusal) → first ts ≡ 108 → AskFor ts read → MaySet read
asked_so ts read l (inl (ps, command, same, spells, is)) =
    subst MaySet (sym is) (judged (not (list_all (λ p. p.is_named) ps)) (not (list_all (λ p. p.is_ranged) ps)) command
    (spelled_so ps command spells (ap first same ∙ l)))
asked_so ts read l (inr (none, is)) = subst MaySet (sym is) tt

-- such a line may set the limit, and does nothing else
pub limit_sets : (line : List ℕ) (read : Result (Option Command) Refusal) → begins (codes "limit") line ≡ true
    → IsReading line read → MaySet read
limit_sets line read e (inl (long, is)) = subst MaySet (sym is) tt
limit_sets line read e (inr (short, inl (utf, is))) = subst MaySet (sym is) tt
limit_sets line read e (inr (short, inr (inl (utf, silent, is)))) = subst MaySet (sym is) tt
limit_sets line read e (inr (short, inr (inr (utf, loud, asks)))) =
    asked_so (tokens (strip_carriage_return line)) read (first_of_line line e) asks

-- where a line does not end the question, nothing is done, or it may set the limit
pub calm_line : (done sets : Bool) → (done && not sets) ≡ false → (done ≡ false) ⊎ (sets ≡ true)
calm_line true true e = inr refl
calm_line true false e = absurd (true≢false e)
calm_line false sets e = inl refl
