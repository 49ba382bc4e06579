-- The laws of what is known of the rules without a call.
use Rattle.std.specs.Prelude.{◌≡◌, ℕ, zero, suc, ℤ, neg_ℤ, ◌≤ℤ◌, Bool, true, false, List, [], ◌∷◌}
use Rattle.std.specs.Prelude.{Option, Some, None, IfSome, if◌then◌else◌, slice_get}
use Rattle.std.specs.Option.{option_and_then}
use Rattle.std.proofs.Common.{◌∙◌, ap, refl, rules, subst, sym}
use Rattle.std.proofs.lemmas.Option.{same_Some, none-some}
use Rattle.prop_guards.specs.Guards.{AreRepeated, AreRuledOut, AreSilent, IsOwn, IsRuledOut}
use Rattle.prop_guards.specs.Known.{just, number_of}
use Rattle.prop_guards.specs.laws.KnownLaws.{IsJust, just_holds, just_is, number_is}
use Rattle.prop_hall.specs.Points.{IsNoneOf}
use Rattle.prop_intervals.specs.laws.Relations.{IsInRange}
use Rattle.prop_lattice.specs.Points.{Point, Number, Holds}
use Rattle.prop_lattice.specs.declared.info.Info.{Info}
use Rattle.prop_lattice.specs.declared.info.Info.TheVariants.{Contradiction}
use Rattle.prop_lattice.specs.declared.span.TheConstants.{B}
use Rattle.prop_procedures.specs.Rules.{EachHolds}
use Rattle.prop_wide.specs.Ends.{low_of, high_of, known}
use Rattle.prop_many.specs.Differ.{RelatesDiffer, any_crowded, before_all, differ_of, past_all}
use Rattle.prop_many.specs.Guards.{own_of, ruled_out}
use Rattle.prop_many.specs.Many.{Related, value_of}
use Rattle.prop_many.specs.declared.many.Many.{Many}
use Rattle.prop_many.specs.declared.many.Many.TheVariants.{Circuit, Cumulative, Differ, Disjoint}
use Rattle.prop_many.specs.declared.many.Many.TheVariants.{Ending, Starting}
use Rattle.prop_many.specs.laws.DifferLaws.{IsShown, lt_le_not, shown_here, shown_later, shown_past}
use Rattle.prop_many.specs.laws.ExactLaws.{known_held}
use Rattle.prop_many.specs.laws.NumberLaws.{never}

-- the output is the task's own start, the own number or the node's own successor
pub many_own : (rule : Many) → IsOwn (Related rule) (own_of rule)
many_own Cumulative param (Number c ∷ Number s ∷ Number l ∷ Number d ∷ points) point r =
    ap Some (sym r.0)
many_own Disjoint param (Number s ∷ Number l ∷ points) point r = ap Some (sym r.0)
many_own Differ param (p ∷ points) point r = ap Some (sym r.0)
many_own Circuit param (Number v ∷ Number i ∷ points) point r = ap Some (sym r.0)
many_own Ending param points point r = tt
many_own Starting param (Number v ∷ Number u ∷ Number n ∷ points) point r = ap Some (sym r.0)
many_own rule param points point r = search rules

-- no rule is silent or repeats an argument at a glance

pub many_silent : (rule : Many) → AreSilent (value_of rule) (λ param args. false)
many_silent rule param args clear e = absurd (never e)

pub many_repeated : (rule : Many)
    → AreRepeated (value_of rule) (own_of rule) (λ param args. false)
many_repeated rule param args e = absurd (never e)

-- ---- numbers that are ruled out

shown_at : (others : List Info) (k : ℕ) (x : Info) (v : ℤ) → IsJust x v
    → slice_get others k ≡ Some x → IsShown others v
shown_at [] k x v j e = absurd (none-some x e)
shown_at (a ∷ others) zero x v j e =
    let is = same_Some a x e ∙ j.is in
    shown_here a others v (ap low_of is ∙ j.lo) (ap high_of is ∙ j.hi)
shown_at (a ∷ others) (suc k) x v j e = shown_later a others v (shown_at others k x v j e)

-- the only number that another leaves is the point of that other
none_at : (others : List Info) (points : List Point) (k : ℕ) (x : Info) (v : ℤ) → IsJust x v
    → slice_get others k ≡ Some x → EachHolds others points → ¬ (IsNoneOf (Number v) points)
none_at [] points k x v j e h n = none-some x e
none_at (a ∷ others) [] k x v j e h n = h
none_at (a ∷ others) (p ∷ points) zero x v j e h n =
    n.0 (sym (just_holds x v j p (subst (λ b. Holds b p) (same_Some a x e) h.0)))
none_at (a ∷ others) (p ∷ points) (suc k) x v j e h n = none_at others points k x v j e h.1 n.1

related_none : (own : Info) (others : List Info) (k : ℕ) (x : Info) (v : ℤ) → IsJust x v
    → slice_get others k ≡ Some x → (points : List Point) → EachHolds (own ∷ others) points
    → ¬ (RelatesDiffer points (Number v))
related_none own others k x v j e [] h r = r
related_none own others k x v j e (p ∷ points) h r =
    none_at others points k x v j e h.1 (subst (λ q. IsNoneOf q points) (sym r.0) r.1.0)

differ_left_out : (others : List Info) (k : ℕ) (x : Info) (v : ℤ) → IsJust x v
    → slice_get others k ≡ Some x → ¬ (Holds (differ_of (just v ∷ others)) (Number v))
differ_left_out others k x v j e = by (any_crowded others others)
  where
    low : low_of (just v) ≡ v
    low = ap low_of (just_is x v j ∙ j.is) ∙ j.lo

    in_range : IsInRange v
    in_range = (
      subst (λ n. neg_ℤ B ≤ℤ n) j.lo j.span.above,
      subst (λ n. n ≤ℤ B) j.hi j.span.below,
    )

    first : ℤ
    first = past_all others others (low_of (just v)) (low_of (just v))

    last : ℤ
    last = before_all others others (high_of (just v)) (high_of (just v))

    by : (t : Bool) → ¬ (Holds (if t then Contradiction else known first last) (Number v))
    by true h = h
    by false h =
        lt_le_not v first (shown_past others (low_of (just v)) v (shown_at others k x v j e) low)
        (known_held first last v in_range h).0

pub many_barred : (rule : Many)
    → AreRuledOut (value_of rule) (Related rule) (own_of rule)
    (λ param args place. ruled_out rule args place)
many_barred Cumulative param args place = tt
many_barred Disjoint param args place = tt
many_barred Circuit param args place = tt
many_barred Ending param args place = tt
many_barred Starting param args place = tt
many_barred Differ param [] place = tt
many_barred Differ param (own ∷ others) zero = tt
many_barred Differ param (own ∷ others) (suc k) = by (slice_get others k) refl
  where
    told_at : (x : Info) (o : Option ℤ) → number_of x ≡ o → slice_get others k ≡ Some x
        → IfSome o (IsRuledOut (value_of Differ) (Related Differ) (Some 0) param (own ∷ others))
    told_at x None f e = tt
    told_at x (Some v) f e = record {
      belongs_to_none = related_none own others k x v (number_is x v f) e;
      left_out = differ_left_out others k x v (number_is x v f) e;
    }

    by : (o : Option Info) → slice_get others k ≡ o → IfSome (option_and_then number_of o)
        (IsRuledOut (value_of Differ) (Related Differ) (Some 0) param (own ∷ others))
    by None e = tt
    by (Some x) e = told_at x (number_of x) refl e
