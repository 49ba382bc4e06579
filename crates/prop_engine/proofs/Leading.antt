-- Calls one after another, and calls that are tried again.
use Rattle.std.proofs.Common.{◌≡◌, ℕ, ◌+◌, ◌-◌, ◌<◌, ◌≤◌, List, [], ◌∷◌, ◌++◌, refl, subst, arith, replicate}
use Rattle.std.specs.Prelude.{Result, Ok, Err}
use Rattle.std.proofs.lemmas.List.{replicate_more}
use Rattle.prop_engine.specs.Calls.{Call, Leads, given}
use Rattle.prop_engine.specs.Dialogues.{Patiently}
use Rattle.prop_engine.specs.declared.failure.Failure.{Failure}
use Rattle.prop_engine.specs.declared.failure.Failure.TheVariants.{Interrupted, Other}

module _ {D : Type 0} (may : D → Call → D → Type 0) where
  pub leads_one : (a b : D) (call : Call) → may a call b → Leads may a (call ∷ []) b
  leads_one a b call s = (b, s, refl)

  pub leads_join : (a b c : D) (xs ys : List Call) → Leads may a xs b → Leads may b ys c → Leads may a (xs ++ ys) c
  leads_join a b c [] ys e l = subst (λ (d : D). Leads may d ys c) e l
  leads_join a b c (x ∷ xs) ys (mid, s, l) k = (mid, s, leads_join mid b c xs ys l k)

  -- a call that was interrupted, after others of it that were
  pub tried_again : (a b c : D) (n : ℕ) (call : Call) → Leads may a (replicate n call) b → may b call c
      → Leads may a (replicate (n + 1) call) c
  tried_again a b c n call l s =
      subst (λ (calls : List Call). Leads may a calls c) (replicate_more n call)
      (leads_join a b c (replicate n call) (call ∷ []) l (leads_one b c call s))

  pub same_tries : (a c : D) (call : Call) (i : ℕ) → 1 ≤ i → Leads may a (replicate (i - 1 + 1) call) c
      → Leads may a (replicate (i + 1 - 1) call) c
  same_tries a c call i h l =
      let same : i - 1 + 1 ≡ i + 1 - 1 = omega (arith, h) in
      subst (λ (k : ℕ). Leads may a (replicate k call) c) same l

  -- a call whose result is taken, after tries of it that were interrupted
  pub tried : {A : Type 0} (call : Result A Failure → Call) (result : Result A Failure) (a b c : D) (n : ℕ)
      → n < 65_536 → (result ≡ Err Interrupted → n + 1 ≡ 65_536) → Leads may a (replicate n (call (Err Interrupted))) b
      → may b (call result) c → (tries : List Call) × Leads may a tries c × Patiently call result tries
  tried call result a b c n h g l s = (
    replicate n (call (Err Interrupted)) ++ call result ∷ [],
    leads_join a b c _ _ l (leads_one b c (call result) s),
    record { interrupted = n; calls_are = refl; at_most = h; given_up = g },
  )

-- what a read gave was interrupted only where the read was
pub given_interrupted : (result : Result ℕ Failure) (buffer : List ℕ) → given result buffer ≡ Err Interrupted
    → result ≡ Err Interrupted
given_interrupted (Ok n) buffer e = cc
given_interrupted (Err Interrupted) buffer e = refl
given_interrupted (Err Other) buffer e = cc

pub not_interrupted : {A : Type 0} → ◌≡◌ {A = Result A Failure} (Err Other) (Err Interrupted) → ⊥
not_interrupted e = cc

pub not_failed : {A : Type 0} (x : A) → ◌≡◌ {A = Result A Failure} (Ok x) (Err Interrupted) → ⊥
not_failed x e = cc
