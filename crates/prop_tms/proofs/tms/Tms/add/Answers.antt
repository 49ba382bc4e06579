use Rattle.std.proofs.Common.{rules, ◌≡◌, ◌≢◌, ◌∙◌, ◌+◌, ◌*◌, ◌<◌, ◌≤◌, ◌++◌, [], ◌∷◌, List, ℕ, AllPairs, refl, sym, ap}
use Rattle.std.proofs.Common.{subst, inl, inr, length, get_or, map, set, drop, arith, All}
use Rattle.prop_lattice.specs.InformationOrder.{IsInformationOrder}
use Rattle.std.specs.List.{refill}
use Rattle.std.proofs.lemmas.List.{length-append, length-set}
use Rattle.std.proofs.Math.Nat.{le_of_lt, lt_of_le_of_lt, mul-le-mul_right}
use Rattle.prop_tms.specs.Beliefs.{Adds, IsNeedless, NoneAlike, NoneSubsumed, Subsumes, joined_with}
use Rattle.prop_tms.specs.Kept.{IsLeftWithout}
use Rattle.prop_tms.specs.Values.{entries_of}
use Rattle.prop_tms.specs.inner.Values.{values_of, AreApart, AreKept, NoneBare, StandsAlone}
use Rattle.prop_tms.specs.declared.supported.Supported.{Supported}
use Rattle.prop_tms.specs.declared.values.Valued.{Valued}
use Rattle.prop_tms.proofs.BeliefLemmas.{adds_joined, adds_needless, joined_alone, needed_joined, none_alike-joined}
use Rattle.prop_tms.proofs.BeliefLemmas.{none_subsumed-joined}
use Rattle.prop_tms.proofs.KeptLemmas.{insert_length}
use Rattle.prop_tms.proofs.SurveyLemmas.{apart_last, is_off, none_left}
use Rattle.prop_tms.proofs.ValueLemmas.{grown_all, has_room, left_length, length_values, none_bare-push, values_of-set}
use Rattle.prop_tms.proofs.ValueLemmas.{written, written_values}
use Rattle.prop_tms.proofs.tms.Tms.add.Given.{Over}
use Rattle.prop_tms.proofs.tms.Tms.add.Goals as goal

-- the list, after a whole list was written to it
again_is : {V : Type 0} (start mid again : List (Valued V)) → again ≡ refill (length start) start mid
    → values_of mid ≡ values_of start → again ≡ mid
again_is start mid again is values = is ∙ written_values (length start) start mid refl values

-- the list, after one of its values was written too
pushed_is : {V : Type 0} (start mid again : List (Valued V)) (i : ℕ) (y : Valued V)
    → again ≡ refill (length start) start mid → values_of mid ≡ values_of start →
    refill (length (refill (length start) start mid)) (refill (length start) start mid) (set again i y) ≡ set mid i y
pushed_is start mid again i y is values =
    let given = refill (length start) start mid in
    let n = length-set again i y in
    let m = ap length is in
    written (length given) (set again i y) (drop (length (set again i y)) given) (omega (arith, n, m))
    ∙ ap (λ zs. set zs i y) (again_is start mid again is values)

-- ---- what says nothing new

pub returns-in_default-clause-adds : goal.returns-in_default-clause-adds
returns-in_default-clause-adds g c =
    let e : Supported _ = record { value = c.args.value; support = c.args.support } in
    let needless : IsNeedless g.V.Partial.below g.V.Partial.bottom c.args.self.now e =
    rw (← c.self.view_is) (rw c.deref.ensures at (c.in_default.ensures.known refl)) in
    adds_needless g.met.V.Partial.laws c.args.self.now e needless

pub returns-in_default-clause-same : goal.returns-in_default-clause-same
returns-in_default-clause-same g c =
    let e : Supported _ = record { value = c.args.value; support = c.args.support } in
    let needless : IsNeedless g.V.Partial.below g.V.Partial.bottom c.args.self.now e =
    rw (← c.self.view_is) (rw c.deref.ensures at (c.in_default.ensures.known refl)) in
    (λ t. needless, λ n. refl)

pub returns-in_default-clause-apart : goal.returns-in_default-clause-apart
returns-in_default-clause-apart g c = rw (← c.self.view_is) c.self.invariant.subsumed

-- ---- where memory is refused

pub returns-then-survey-clause-needless : goal.returns-then-survey-clause-needless
returns-then-survey-clause-needless g c =
    let e : Supported _ = record { value = c.args.value; support = c.args.support } in
    let needed : ¬ (IsNeedless g.V.Partial.below g.V.Partial.bottom (entries_of c.self.inside.values.items) e) =
    rw c.deref.ensures at c.in-Some.ensures.new in
    λ n. absurd (needed (rw c.self.view_is n))

pub returns-then-survey-clause-apart : goal.returns-then-survey-clause-apart
returns-then-survey-clause-apart g c = rw (← c.self.view_is) c.self.invariant.subsumed

pub invariant_of-self : goal.invariant_of-self
invariant_of-self g c = subst (AreKept g.V.Partial.below) (sym c.in_err-push_apart.ensures.err) c.self.invariant

pub returns-in_err-push_apart-clause-needless : goal.returns-in_err-push_apart-clause-needless
returns-in_err-push_apart-clause-needless g c =
    let e : Supported _ = record { value = c.args.value; support = c.args.support } in
    let needed : ¬ (IsNeedless g.V.Partial.below g.V.Partial.bottom (entries_of c.self.inside.values.items) e) =
    rw c.deref.ensures at c.in-Some.ensures.new in
    λ n. absurd (needed (rw c.self.view_is n))

pub returns-in_err-place-clause-needless : goal.returns-in_err-place-clause-needless
returns-in_err-place-clause-needless g c =
    let e : Supported _ = record { value = c.args.value; support = c.args.support } in
    let needed : ¬ (IsNeedless g.V.Partial.below g.V.Partial.bottom (entries_of c.self.inside.values.items) e) =
    rw c.deref.ensures at c.in-Some.ensures.new in
    λ n. absurd (needed (rw c.self.view_is n))

pub invariant_of-self-in_err-place : goal.invariant_of-self-in_err-place
invariant_of-self-in_err-place g c =
    let same = c.in_err-place.ensures.same in
    let count = ap length same in
    record {
      subsumed = subst (NoneSubsumed g.V.Partial.below) (sym same) c.self.invariant.subsumed;
      alike = subst NoneAlike (sym same) c.self.invariant.alike;
      apart = c.in_err-place.ensures.apart;
      bare = c.in_err-place.ensures.err c.self.invariant.bare;
      counted = omega (arith, count, c.self.invariant.counted);
    }

-- there is room for the support
no_refusal : (g : Over) (c : goal.After-from_residual-in_err-push g) → ⊥
no_refusal g c =
    let start = c.room_for.new.values.items in
    let mid = c.drop_subsumed-emptied.new.values in
    let i = c.in_ok-place.place in
    let x = c.index-deref_mut-place.result in
    let values = rw c.deref_mut-2.ensures.value at c.drop_subsumed-emptied.ensures.values in
    let is : x ≡ get_or mid i x = rw (c.deref_mut-3.ensures.value, written_values (length start) start mid refl values)
    at c.index-deref_mut-place.is in
    let l = c.in_ok-place.ensures.place.0 in
    let kept = rw c.deref_mut-2.ensures.value at c.drop_subsumed-emptied.ensures.room in
    cc (c.in_err-push.ensures.succeeds (rw (← c.index-deref_mut-place.is)
    (has_room start mid i x l is (c.in_ok-place.ensures.room x) (kept i x l))))

pub invariant_of-self-in_err-push : goal.invariant_of-self-in_err-push
invariant_of-self-in_err-push g c = absurd (no_refusal g c)

pub returns-in_err-push-clause-needless : goal.returns-in_err-push-clause-needless
returns-in_err-push-clause-needless g c = absurd (no_refusal g c)

pub returns-in_err-push-clause-apart : goal.returns-in_err-push-clause-apart
returns-in_err-push-clause-apart g c = absurd (no_refusal g c)

pub returns-in_err-push-clause-alone : goal.returns-in_err-push-clause-alone
returns-in_err-push-clause-alone g c = absurd (no_refusal g c)

pub returns-in_err-push-clause-len : goal.returns-in_err-push-clause-len
returns-in_err-push-clause-len g c = absurd (no_refusal g c)

pub returns-in_err-push-clause-err : goal.returns-in_err-push-clause-err
returns-in_err-push-clause-err g c = absurd (no_refusal g c)

-- ---- as a new value

pub invariant_of-self-then-not-survey : goal.invariant_of-self-then-not-survey
invariant_of-self-then-not-survey g c =
    let laws = g.met.V.Partial.laws in
    let xs = c.self.inside.values.items in
    let old = entries_of xs in
    let e : Supported _ = record { value = c.args.value; support = c.args.support } in
    let m = joined_with g.V.Partial.bottom g.V.Partial.join old e in
    let said : c.in-Some.survey.value ≡ m.value = rw c.deref.ensures at c.in-Some.ensures.value in
    let off = is_off c.in-Some.survey.may_cover (λ on. cc (on, c.if-not-survey.true)) in
    let new : All (λ (x : Valued _). ¬ (g.V.Partial.below x.value m.value)) xs =
    rw (c.deref.ensures, said) at (c.in-Some.ensures.apart off) in
    let left = none_left g.V.Partial.below m xs new in
    let stands : entries_of c.push_apart.new.values.items ≡ old ++ m ∷ [] = c.in_ok-push_apart.ensures.ok
    ∙ ap (λ v. old ++ record { value = v; support = c.args.support } ∷ []) said in
    let needed : ¬ (IsNeedless g.V.Partial.below g.V.Partial.bottom old e) =
    rw c.deref.ensures at c.in-Some.ensures.new in
    record {
      subsumed = subst (NoneSubsumed g.V.Partial.below) (sym stands)
          (none_subsumed-joined laws old old [] m left (needed_joined laws old e needed) c.self.invariant.subsumed);
      alike = subst NoneAlike (sym stands) (none_alike-joined laws old old [] e left c.self.invariant.alike);
      apart = subst (AllPairs (λ a b. a ≢ b)) (sym (c.in_ok-push_apart.ensures.values
          ∙ ap (λ v. values_of xs ++ v ∷ []) said))
          (apart_last g.V.Partial.below laws.reflexive xs m.value new c.self.invariant.apart);
      bare = c.in_ok-push_apart.ensures.bare c.self.invariant.bare;
      counted = (
          let counted = rw c.deref.ensures at c.in-Some.ensures.count in
          let longer = ap length stands in
          let more = length-append old (m ∷ []) in
          omega (arith, longer, more, c.if-survey.false, counted, c.self.invariant.counted)
          );
    }

pub returns-then-not-survey-clause-adds : goal.returns-then-not-survey-clause-adds
returns-then-not-survey-clause-adds g c =
    let laws = g.met.V.Partial.laws in
    let xs = c.self.inside.values.items in
    let old = entries_of xs in
    let e : Supported _ = record { value = c.args.value; support = c.args.support } in
    let m = joined_with g.V.Partial.bottom g.V.Partial.join old e in
    let said : c.in-Some.survey.value ≡ m.value = rw c.deref.ensures at c.in-Some.ensures.value in
    let off = is_off c.in-Some.survey.may_cover (λ on. cc (on, c.if-not-survey.true)) in
    let new : All (λ (x : Valued _). ¬ (g.V.Partial.below x.value m.value)) xs =
    rw (c.deref.ensures, said) at (c.in-Some.ensures.apart off) in
    let left = none_left g.V.Partial.below m xs new in
    let stands : entries_of c.push_apart.new.values.items ≡ old ++ m ∷ [] = c.in_ok-push_apart.ensures.ok
    ∙ ap (λ v. old ++ record { value = v; support = c.args.support } ∷ []) said in
    rw (← c.self.view_is) (subst (λ (new : List (Supported _)). Adds g.V.Partial.bottom g.V.Partial.join old new e)
    (sym stands) (adds_joined laws old old [] e left))

pub returns-then-not-survey-clause-same : goal.returns-then-not-survey-clause-same
returns-then-not-survey-clause-same g c =
    let e : Supported _ = record { value = c.args.value; support = c.args.support } in
    let needed : ¬ (IsNeedless g.V.Partial.below g.V.Partial.bottom (entries_of c.self.inside.values.items) e) =
    rw c.deref.ensures at c.in-Some.ensures.new in
    (λ t. cc, λ n. absurd (needed (rw c.self.view_is n)))

pub returns-then-not-survey-clause-needless : goal.returns-then-not-survey-clause-needless
returns-then-not-survey-clause-needless g c =
    let e : Supported _ = record { value = c.args.value; support = c.args.support } in
    let needed : ¬ (IsNeedless g.V.Partial.below g.V.Partial.bottom (entries_of c.self.inside.values.items) e) =
    rw c.deref.ensures at c.in-Some.ensures.new in
    λ n. absurd (needed (rw c.self.view_is n))

pub returns-then-not-survey-clause-apart : goal.returns-then-not-survey-clause-apart
returns-then-not-survey-clause-apart g c =
    let laws = g.met.V.Partial.laws in
    let xs = c.self.inside.values.items in
    let old = entries_of xs in
    let e : Supported _ = record { value = c.args.value; support = c.args.support } in
    let m = joined_with g.V.Partial.bottom g.V.Partial.join old e in
    let said : c.in-Some.survey.value ≡ m.value = rw c.deref.ensures at c.in-Some.ensures.value in
    let off = is_off c.in-Some.survey.may_cover (λ on. cc (on, c.if-not-survey.true)) in
    let new : All (λ (x : Valued _). ¬ (g.V.Partial.below x.value m.value)) xs =
    rw (c.deref.ensures, said) at (c.in-Some.ensures.apart off) in
    let left = none_left g.V.Partial.below m xs new in
    let stands : entries_of c.push_apart.new.values.items ≡ old ++ m ∷ [] = c.in_ok-push_apart.ensures.ok
    ∙ ap (λ v. old ++ record { value = v; support = c.args.support } ∷ []) said in
    let needed : ¬ (IsNeedless g.V.Partial.below g.V.Partial.bottom old e) =
    rw c.deref.ensures at c.in-Some.ensures.new in
    subst (NoneSubsumed g.V.Partial.below) (sym stands)
    (none_subsumed-joined laws old old [] m left (needed_joined laws old e needed) c.self.invariant.subsumed)

pub returns-then-not-survey-clause-alone : goal.returns-then-not-survey-clause-alone
returns-then-not-survey-clause-alone g c =
    let laws = g.met.V.Partial.laws in
    let xs = c.self.inside.values.items in
    let old = entries_of xs in
    let e : Supported _ = record { value = c.args.value; support = c.args.support } in
    let m = joined_with g.V.Partial.bottom g.V.Partial.join old e in
    let said : c.in-Some.survey.value ≡ m.value = rw c.deref.ensures at c.in-Some.ensures.value in
    let off = is_off c.in-Some.survey.may_cover (λ on. cc (on, c.if-not-survey.true)) in
    let new : All (λ (x : Valued _). ¬ (g.V.Partial.below x.value m.value)) xs =
    rw (c.deref.ensures, said) at (c.in-Some.ensures.apart off) in
    let left = none_left g.V.Partial.below m xs new in
    let stands : entries_of c.push_apart.new.values.items ≡ old ++ m ∷ [] = c.in_ok-push_apart.ensures.ok
    ∙ ap (λ v. old ++ record { value = v; support = c.args.support } ∷ []) said in
    subst NoneAlike (sym stands) (none_alike-joined laws old old [] e left c.self.invariant.alike)

pub returns-then-not-survey-clause-stay : goal.returns-then-not-survey-clause-stay
returns-then-not-survey-clause-stay g c =
    let laws = g.met.V.Partial.laws in
    let xs = c.self.inside.values.items in
    let old = entries_of xs in
    let e : Supported _ = record { value = c.args.value; support = c.args.support } in
    let m = joined_with g.V.Partial.bottom g.V.Partial.join old e in
    let said : c.in-Some.survey.value ≡ m.value = rw c.deref.ensures at c.in-Some.ensures.value in
    let off = is_off c.in-Some.survey.may_cover (λ on. cc (on, c.if-not-survey.true)) in
    let new : All (λ (x : Valued _). ¬ (g.V.Partial.below x.value m.value)) xs =
    rw (c.deref.ensures, said) at (c.in-Some.ensures.apart off) in
    let left = none_left g.V.Partial.below m xs new in
    let stands : entries_of c.push_apart.new.values.items ≡ old ++ m ∷ [] = c.in_ok-push_apart.ensures.ok
    ∙ ap (λ v. old ++ record { value = v; support = c.args.support } ∷ []) said in
    rw (← c.self.view_is) (inr (old, [], left, stands))

-- ---- in the place of the only entry

-- the entry subsumes the only one
left_alone : {V : Type 0} {below : V → V → Type 0} {bottom top : V} {join : V → V → V}
    (laws : IsInformationOrder below bottom top join) (xs : List (Valued V)) (e : Supported V)
    → StandsAlone xs e.support →
    IsLeftWithout (Subsumes below (joined_with bottom join (entries_of xs) e)) (entries_of xs) []
left_alone {V} {below} {bottom} {top} {join} laws xs e alone =
    let x = alone.0 in
    let o : Supported V = record { value = x.value; support = alone.1 } in
    let is : entries_of xs ≡ o ∷ [] = ap entries_of alone.2
    ∙ ap (λ ss. map (λ s. record { value = x.value; support = s }) ss ++ []) alone.3 in
    subst (λ es. IsLeftWithout (Subsumes below (joined_with bottom join es e)) es []) (sym is)
    (inl (joined_alone laws o e alone.4, refl))

stands_alone : (g : Over) (c : goal.After-self-1 g) → StandsAlone c.self.inside.values.items c.args.support
stands_alone g c = rw c.deref-2.ensures at (c.is_alone.ensures c.if-is_alone.true)

pub put_alone-requires : goal.put_alone-requires
put_alone-requires g c = (
  c.args.support,
  rw c.deref_mut.ensures.value (rw c.deref-2.ensures at (c.is_alone.ensures c.if-is_alone.true)),
)

put_again : (g : Over) (c : goal.After-self-1 g) →
    let start = c.self.inside.values.items in
    refill (length start) start c.put_alone.new.values ≡ c.put_alone.new.values
put_again g c =
    let start = c.self.inside.values.items in
    let new = c.put_alone.new.values in
    let given = ap length c.deref_mut.ensures.value in
    written (length start) new (drop (length new) start) (omega (arith, c.put_alone.ensures.len, given))

replaced : (g : Over) (c : goal.After-self-1 g) →
    let old = entries_of c.self.inside.values.items in
    let m = joined_with g.V.Partial.bottom g.V.Partial.join old
    (record { value = c.args.value; support = c.args.support }) in
    let start = c.self.inside.values.items in
    IsLeftWithout (Subsumes g.V.Partial.below m) old []
    × (entries_of (refill (length start) start c.put_alone.new.values) ≡ m ∷ [])
replaced g c =
    let old = entries_of c.self.inside.values.items in
    let e : Supported _ = record { value = c.args.value; support = c.args.support } in
    let m = joined_with g.V.Partial.bottom g.V.Partial.join old e in
    let said : c.in-Some.survey.value ≡ m.value = rw c.deref.ensures at c.in-Some.ensures.value in (
      left_alone g.met.V.Partial.laws c.self.inside.values.items e (stands_alone g c),
      ap entries_of (put_again g c) ∙ c.put_alone.ensures.same
          ∙ ap (λ v. record { value = v; support = c.args.support } ∷ []) said,
    )

needed_alone : (g : Over) (c : goal.After-self-1 g)
    → ¬ (IsNeedless g.V.Partial.below g.V.Partial.bottom (entries_of c.self.inside.values.items)
    (record { value = c.args.value; support = c.args.support }))
needed_alone g c = rw c.deref.ensures at c.in-Some.ensures.new

pub invariant_of-self-then-is_alone : goal.invariant_of-self-then-is_alone
invariant_of-self-then-is_alone g c =
    let laws = g.met.V.Partial.laws in
    let old = entries_of c.self.inside.values.items in
    let e : Supported _ = record { value = c.args.value; support = c.args.support } in
    let m = joined_with g.V.Partial.bottom g.V.Partial.join old e in
    let stands = replaced g c in
    record {
      subsumed = subst (NoneSubsumed g.V.Partial.below) (sym stands.1)
          (none_subsumed-joined laws old [] [] m stands.0 (needed_joined laws old e (needed_alone g c))
          c.self.invariant.subsumed);
      alike = subst NoneAlike (sym stands.1) (none_alike-joined laws old [] [] e stands.0 c.self.invariant.alike);
      apart = subst AreApart (sym (put_again g c)) c.put_alone.ensures.apart;
      bare = subst NoneBare (sym (put_again g c)) c.put_alone.ensures.bare;
      counted = (let one = ap length stands.1 in omega (arith, one));
    }

pub returns-then-is_alone-clause-adds : goal.returns-then-is_alone-clause-adds
returns-then-is_alone-clause-adds g c =
    let old = entries_of c.self.inside.values.items in
    let e : Supported _ = record { value = c.args.value; support = c.args.support } in
    let stands = replaced g c in
    rw (← c.self.view_is) (subst (λ (new : List (Supported _)). Adds g.V.Partial.bottom g.V.Partial.join old new e)
    (sym stands.1) (adds_joined g.met.V.Partial.laws old [] [] e stands.0))

pub returns-then-is_alone-clause-same : goal.returns-then-is_alone-clause-same
returns-then-is_alone-clause-same g c = (λ t. cc, λ n. absurd (needed_alone g c (rw c.self.view_is n)))

pub returns-then-is_alone-clause-needless : goal.returns-then-is_alone-clause-needless
returns-then-is_alone-clause-needless g c = λ n. absurd (needed_alone g c (rw c.self.view_is n))

pub returns-then-is_alone-clause-stay : goal.returns-then-is_alone-clause-stay
returns-then-is_alone-clause-stay g c =
    let stands = replaced g c in rw (← c.self.view_is) (inr ([], [], stands.0, stands.1))

-- ---- the entry, with what those on its premises say

fits_at : (i n size top : ℕ) → i < n → n * size < top → i * size < top
fits_at i n size top l h = lt_of_le_of_lt (mul-le-mul_right size (le_of_lt l)) h

pub offset_bounds-deref_mut-place : goal.offset_bounds-deref_mut-place
offset_bounds-deref_mut-place g c =
    let start = c.room_for.new.values.items in
    let mid = c.drop_subsumed-emptied.new.values in
    let values = rw c.deref_mut-2.ensures.value at c.drop_subsumed-emptied.ensures.values in
    let same = ap length (again_is start mid c.deref_mut-3.result.now c.deref_mut-3.ensures.value values) in
    let n = length_values mid start values in
    let l : c.in_ok-place.place < length c.deref_mut-3.result.now =
    omega (arith, c.in_ok-place.ensures.place.0, n, same) in
    let fits = fits_at _ _ _ _ l c.deref_mut-3.type_inv.1 in
    omega (arith, fits)

pub drop_emptied-requires : goal.drop_emptied-requires
drop_emptied-requires g c =
    let start = c.room_for.new.values.items in
    let mid = c.drop_subsumed-emptied.new.values in
    let again = c.deref_mut-3.result.now in
    let values = rw c.deref_mut-2.ensures.value at c.drop_subsumed-emptied.ensures.values in
    let emptied = rw c.deref_mut-2.ensures.value at c.drop_subsumed-emptied.ensures.emptied in
    let i = c.in_ok-place.place in
    let x = c.index-deref_mut-place.result in
    let y : Valued _ = record { value = (get_or again i x).value; supports = c.push.new.self } in
    let whole = again_is start mid again c.deref_mut-3.ensures.value values in
    let pushed = pushed_is start mid again i y c.deref_mut-3.ensures.value values in
    let n = length_values mid start values in
    let l : i < length mid = omega (arith, c.in_ok-place.ensures.place.0, n) in
    let some : y.supports.items ≢ [] = λ none.
    none_pushed (get_or again i x).supports.items c.args.support (sym c.in_ok-push.ensures.ok ∙ none) in (
      search rules,
      (
        subst AreApart (sym pushed) (subst (AllPairs (λ a b. a ≢ b))
            (sym (values_of-set mid i y x l (ap (λ (zs : List (Valued _)). (get_or zs i x).value) whole) ∙ values))
            c.in_ok-place.ensures.apart),
        λ left. subst NoneBare (sym pushed)
            (none_bare-push start mid i y l n some (c.in_ok-place.ensures.others c.self.invariant.bare) (emptied left)),
      ),
    )
  where
    none_pushed : {X : Type 0} (xs : List X) (x : X) → xs ++ x ∷ [] ≡ [] → ⊥
    none_pushed [] x e = absurd (cc)
    none_pushed (y ∷ xs) x e = absurd (cc)

-- where it stands
grown : (g : Over) (c : goal.After-drop_emptied g) →
    let old = entries_of c.self.inside.values.items in
    let m = joined_with g.V.Partial.bottom g.V.Partial.join old
    (record { value = c.args.value; support = c.args.support }) in
    (front : List (Supported _)) × (rear : List (Supported _))
    × IsLeftWithout (Subsumes g.V.Partial.below m) old (front ++ rear)
    × (entries_of c.drop_emptied.new.values.items ≡ front ++ m ∷ rear)
grown g c =
    let old = entries_of c.self.inside.values.items in
    let m = joined_with g.V.Partial.bottom g.V.Partial.join old
    (record { value = c.args.value; support = c.args.support }) in
    let start = c.room_for.new.values.items in
    let mid = c.drop_subsumed-emptied.new.values in
    let i = c.in_ok-place.place in
    let x = c.index-deref_mut-place.result in
    let again = c.deref_mut-3.result.now in
    let y : Valued _ = record { value = (get_or again i x).value; supports = c.push.new.self } in
    let said : c.in-Some.survey.value ≡ m.value = rw c.deref.ensures at c.in-Some.ensures.value in
    let values = rw c.deref_mut-2.ensures.value at c.drop_subsumed-emptied.ensures.values in
    let whole = again_is start mid again c.deref_mut-3.ensures.value values in
    let pushed = pushed_is start mid again i y c.deref_mut-3.ensures.value values in
    let at = c.index-deref_mut-place.is in
    let is : x ≡ get_or mid i x = at ∙ ap (λ (zs : List (Valued _)). get_or zs i x) whole in
    let left : IsLeftWithout (Subsumes g.V.Partial.below m) (entries_of start) (entries_of mid) =
    rw (c.deref_mut-2.ensures.value, said) at c.drop_subsumed-emptied.ensures.kept in
    grown_all (Subsumes g.V.Partial.below m) old (entries_of c.drop_emptied.new.values.items) m start mid i x y
    c.in_ok-place.ensures.same c.in_ok-place.ensures.place.0 (c.in_ok-place.ensures.place.1 x ∙ said) left values is
    (sym (ap (λ (z : Valued _). z.value) at)) (rw (← at) at c.in_ok-push.ensures.ok)
    (c.drop_emptied.ensures.same ∙ ap entries_of pushed)

needed : (g : Over) (c : goal.After-drop_emptied g)
    → ¬ (IsNeedless g.V.Partial.below g.V.Partial.bottom (entries_of c.self.inside.values.items)
    (record { value = c.args.value; support = c.args.support }))
needed g c = rw c.deref.ensures at c.in-Some.ensures.new

subsumed : (g : Over) (c : goal.After-drop_emptied g)
    → NoneSubsumed g.V.Partial.below (entries_of c.drop_emptied.new.values.items)
subsumed g c =
    let laws = g.met.V.Partial.laws in
    let old = entries_of c.self.inside.values.items in
    let e : Supported _ = record { value = c.args.value; support = c.args.support } in
    let m = joined_with g.V.Partial.bottom g.V.Partial.join old e in
    let stands = grown g c in
    subst (NoneSubsumed g.V.Partial.below) (sym stands.3)
    (none_subsumed-joined laws old stands.0 stands.1 m stands.2 (needed_joined laws old e (needed g c))
    c.self.invariant.subsumed)

alike : (g : Over) (c : goal.After-drop_emptied g) → NoneAlike (entries_of c.drop_emptied.new.values.items)
alike g c =
    let e : Supported _ = record { value = c.args.value; support = c.args.support } in
    let stands = grown g c in
    subst NoneAlike (sym stands.3) (none_alike-joined g.met.V.Partial.laws (entries_of c.self.inside.values.items)
    stands.0 stands.1 e stands.2 c.self.invariant.alike)

longer : (g : Over) (c : goal.After-drop_emptied g)
    → length (entries_of c.drop_emptied.new.values.items) ≤ length (entries_of c.self.inside.values.items) + 1
longer g c =
    let old = entries_of c.self.inside.values.items in
    let m = joined_with g.V.Partial.bottom g.V.Partial.join old
    (record { value = c.args.value; support = c.args.support }) in
    let stands = grown g c in
    let more = insert_length stands.0 stands.1 m in
    let less = left_length (Subsumes g.V.Partial.below m) old (stands.0 ++ stands.1) stands.2 in
    let same = ap length stands.3 in
    omega (arith, more, less, same)

pub invariant_of-self-2 : goal.invariant_of-self-2
invariant_of-self-2 g c = record {
  subsumed = subsumed g c;
  alike = alike g c;
  apart = c.drop_emptied.ensures.apart;
  bare = c.drop_emptied.ensures.bare;
  counted = (
      let counted = rw c.deref.ensures at c.in-Some.ensures.count in
      omega (arith, longer g c, c.if-survey.false, counted, c.self.invariant.counted)
      );
}

pub returns-clause-adds : goal.returns-clause-adds
returns-clause-adds g c =
    let old = entries_of c.self.inside.values.items in
    let e : Supported _ = record { value = c.args.value; support = c.args.support } in
    let stands = grown g c in
    rw (← c.self.view_is) (subst (λ (new : List (Supported _)). Adds g.V.Partial.bottom g.V.Partial.join old new e)
    (sym stands.3) (adds_joined g.met.V.Partial.laws old stands.0 stands.1 e stands.2))

pub returns-clause-same : goal.returns-clause-same
returns-clause-same g c = (λ t. cc, λ n. absurd (needed g c (rw c.self.view_is n)))

pub returns-clause-needless : goal.returns-clause-needless
returns-clause-needless g c = λ n. absurd (needed g c (rw c.self.view_is n))

pub returns-clause-apart : goal.returns-clause-apart
returns-clause-apart g c = subsumed g c

pub returns-clause-alone : goal.returns-clause-alone
returns-clause-alone g c = alike g c

pub returns-clause-stay : goal.returns-clause-stay
returns-clause-stay g c = rw (← c.self.view_is) (inr (grown g c))

pub returns-clause-len : goal.returns-clause-len
returns-clause-len g c = rw (← c.self.view_is) (longer g c)
