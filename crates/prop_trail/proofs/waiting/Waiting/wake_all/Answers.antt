use Rattle.std.proofs.Common.{◌≡◌, ◌∙◌, ◌++◌, ◌∷◌, [], ℕ, suc, ◌+◌, List, false, ap, refl, sym, arith, get_or}
use Rattle.std.specs.List.{fold}
use Rattle.std.proofs.lemmas.Bool.{cond_both}
use Rattle.prop_trail.specs.Queues.{Lines, woken, numbers_below, joined}
use Rattle.prop_trail.proofs.waiting.Waiting.wake_all.Goals as goal

-- waking one changes no cost
woken_dear : (w : Lines) (i : ℕ) → (woken w i).dear ≡ w.dear
woken_dear w i =
    cond_both (get_or w.dear i false) (record w { last = joined w.last i }) (record w { first = joined w.first i })
    (λ (v : Lines). v.dear ≡ w.dear) (λ _. refl) (λ _. refl)

fold_last : (w : Lines) (xs : List ℕ) (x : ℕ) → fold woken w (xs ++ x ∷ []) ≡ woken (fold woken w xs) x
fold_last w [] x = refl
fold_last w (y ∷ ys) x = fold_last (woken w y) ys x

below_next : (n : ℕ) → numbers_below (n + 1) ≡ numbers_below n ++ n ∷ []
below_next n = let e : n + 1 ≡ suc n = omega arith in ap numbers_below e

pub loop-instance-preserved : goal.loop-instance-preserved
loop-instance-preserved c =
    let i = c.loop-instance.instance in
    let was = c.loop-instance.self in
    record {
      now = (c.wake.ensures ∙ ap (λ (w : Lines). woken w i) c.loop-instance.invariant.now
          ∙ sym (fold_last c.args.self.now (numbers_below i) i)
          ∙ ap (fold woken c.args.self.now) (sym (below_next i)));
      dear = (ap (λ (w : Lines). w.dear) c.wake.ensures ∙ woken_dear was i
          ∙ c.loop-instance.invariant.dear);
    }
