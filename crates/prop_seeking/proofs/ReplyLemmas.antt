-- Replies that are so.
use Rattle.std.proofs.Common.{◌≡◌, ◌∙◌, ◌∷◌, ◌++◌, ◌<◌, ◌≤◌, ℕ, true, List, [], All, ap, inl, inr}
use Rattle.std.proofs.Common.{map, refl, sym, subst}
use Rattle.std.proofs.Common.{length, append-nil, arith}
use Rattle.std.specs.Prelude.{Option, Some, None, IfSome, codes, slice_index, ◌==◌, ℤ}
use Rattle.std.proofs.lemmas.Bool.{eqb-true}
use Rattle.std.proofs.lemmas.Option.{get_or_from_slice_get}
use Rattle.prop_lattice.specs.Points.{Point}
use Rattle.prop_lattice.specs.declared.info.Info.{Info}
use Rattle.prop_lattice.specs.declared.info.Info.TheVariants.{Nothing, Span}
use Rattle.prop_lattice.specs.declared.span.Span.{Span as SpanOf}
use Rattle.prop_facts.specs.declared.fact.Fact.TheVariants.{AtLeast, AtMost}
use Rattle.prop_facts.specs.declared.fact.Literal.{Literal}
use Rattle.prop_procedures.specs.Stored.{Stored}
use Rattle.prop_plans.specs.Held.{attached_of}
use Rattle.prop_deriving.specs.Known.{IsExcused}
use Rattle.prop_texts.specs.Texts.{support_text}
use Rattle.prop_solve.specs.Questions.{excused_then, AreExcusing, is_optimum}
use Rattle.prop_solve.specs.Searches.{Search}
use Rattle.prop_solve.specs.declared.solver.Plan.{Plan as PlanOf}
use Rattle.prop_solve.specs.declared.question.Goal.{Goal}
use Rattle.prop_solve.specs.declared.question.Goal.TheVariants.{Any, Least, Greatest, Differing}
use Rattle.prop_workbench.specs.Machine.{State}
use Rattle.prop_seeking.specs.Asking as aims
use Rattle.prop_seeking.specs.Texts.{Plan, plan_text, many_text}
use Rattle.prop_seeking.specs.Plans.{AreTold, Fits, IsNoBetter, Refutes, Says, SaysOne}
use Rattle.prop_seeking.specs.inner.Bounds.{IsWithin}
use Rattle.prop_seeking.specs.inner.Pieces.{best_text, bounded_text}
use Rattle.prop_seeking.specs.declared.inquiry.Inquiry.{Inquiry as InquiryOf}
use Rattle.prop_seeking.specs.inner.Seekers.{Answers, AreFound, AreOf, Ground, IsAllBut, IsFirst, IsLast}
use Rattle.prop_seeking.specs.inner.Seekers.{IsSameQuestion, inquiry_of}
use Rattle.prop_seeking.specs.inner.Seekers.{aim_of, plan_of, question_of, row_of, rows_in, state_at}
use Rattle.prop_seeking.proofs.ExcuseLemmas.{excused_told, no_less, no_more, none_excused}

-- ---- nothing is told

-- where no rows are kept
pub no_rows : (goal : Goal) (before after : List (List Literal)) → (goal ≡ Differing → ⊥)
    → rows_in goal after ≡ rows_in goal before
no_rows Any before after quiet = refl
no_rows (Least cell) before after quiet = refl
no_rows (Greatest cell) before after quiet = refl
no_rows Differing before after quiet = absurd (quiet refl)

-- and where no more are
pub same_rows : (goal : Goal) (before after : List (List Literal)) → map row_of after ≡ map row_of before
    → rows_in goal after ≡ rows_in goal before
same_rows Any before after same = refl
same_rows (Least cell) before after same = refl
same_rows (Greatest cell) before after same = refl
same_rows Differing before after same = same

-- no rows are told of a question that begins
pub rows_begin : (goal : Goal) (excuses : List (List Literal)) → excuses ≡ [] → rows_in goal excuses ≡ []
rows_begin Any excuses none = refl
rows_begin (Least cell) excuses none = refl
rows_begin (Greatest cell) excuses none = refl
rows_begin Differing excuses none = ap (map row_of) none

-- a question is as it was asked, where points are not to differ
pub asked_yet : (i j : InquiryOf) → (i.solver.goal ≡ Differing → ⊥) → IsSameQuestion i j → inquiry_of j ≡ inquiry_of i
asked_yet i j quiet same =
    let rows = ap (λ (goal : Goal). rows_in goal j.solver.excuses) same.goal
    ∙ no_rows i.solver.goal i.solver.excuses j.solver.excuses quiet in
    λ k. (question_of (same.goal k) (same.named k), rows k)

-- ---- what is refuted, of all but points that are excused

pub refutes_but : (g : Ground) (Excused : (ℕ → Point) → Type 0) (excuses : List (List Literal)) (by : List ℕ)
    → ((points : ℕ → Point) (list : List ℕ) → IsExcused (attached_of g.cells) excuses points list → Excused points)
    → IsAllBut g excuses by → Refutes g.library (state_at g) Excused by
refutes_but g Excused excuses by so h =
    (h.believed, λ list points sided are. so points list (h.only list points sided are))

-- of all points, where nothing is excused
pub refutes_all : (g : Ground) (excuses : List (List Literal)) (by : List ℕ) → excuses ≡ [] → IsAllBut g excuses by
    → Refutes g.library (state_at g) (λ points. ⊥) by
refutes_all g excuses by none h =
    refutes_but g (λ points. ⊥) excuses by
    (λ points list. none_excused (attached_of g.cells) points list excuses none) h

-- of all points but those of the rows that were told
pub refutes_others : (g : Ground) (named : List ℕ) (excuses : List (List Literal)) (by : List ℕ)
    → All (λ cell. cell < length g.cells.kinds) named → All (AreOf named) excuses → IsAllBut g excuses by
    → Refutes g.library (state_at g) (AreTold named (map row_of excuses)) by
refutes_others g named excuses by within rows h =
    refutes_but g (AreTold named (map row_of excuses)) excuses by
    (λ points list. excused_told (attached_of g.cells) points list named excuses within rows) h

-- of all points but those that are no better than the last plan
refutes_better : (g : Ground) (goal : Goal) (named : List ℕ) (p : PlanOf) (excuses : List (List Literal))
    (facts : List Literal) (by : List ℕ) → is_optimum goal ≡ true → IsFirst goal named
    → AreExcusing goal named p.values.items facts → excuses ≡ facts ∷ [] → IsAllBut g excuses by
    → Refutes g.library (state_at g) (λ points. IsNoBetter (aim_of goal) ((plan_of p).values (slice_index named 0))
    (points (slice_index named 0))) by
refutes_better g Any named p excuses facts by e first excusing is h = cc
refutes_better g Differing named p excuses facts by e first excusing is h = cc
refutes_better g (Least cell) named p excuses facts by e first (s, at, only) is h =
    let value : (plan_of p).values cell ≡ Span s = get_or_from_slice_get p.values.items cell (Span s) Nothing at in
    let only_fact : excuses ≡ (record { place = cell; fact = AtLeast s.lo } ∷ []) ∷ [] =
    is ∙ ap (λ (xs : List Literal). xs ∷ []) only in
    subst (λ (c : ℕ). Refutes g.library (state_at g)
    (λ points. IsNoBetter aims.Least ((plan_of p).values c) (points c)) by) (sym first)
    (refutes_but g (λ points. IsNoBetter aims.Least ((plan_of p).values cell) (points cell)) excuses by
    (λ points list excused. subst (λ (a : Info). IsNoBetter aims.Least a (points cell)) (sym value)
    (no_less (attached_of g.cells) points list cell s excuses only_fact excused)) h)
refutes_better g (Greatest cell) named p excuses facts by e first (s, at, only) is h =
    let value : (plan_of p).values cell ≡ Span s = get_or_from_slice_get p.values.items cell (Span s) Nothing at in
    let only_fact : excuses ≡ (record { place = cell; fact = AtMost s.hi } ∷ []) ∷ [] =
    is ∙ ap (λ (xs : List Literal). xs ∷ []) only in
    subst (λ (c : ℕ). Refutes g.library (state_at g)
    (λ points. IsNoBetter aims.Greatest ((plan_of p).values c) (points c)) by) (sym first)
    (refutes_but g (λ points. IsNoBetter aims.Greatest ((plan_of p).values cell) (points cell)) excuses by
    (λ points list excused. subst (λ (a : Info). IsNoBetter aims.Greatest a (points cell)) (sym value)
    (no_more (attached_of g.cells) points list cell s excuses only_fact excused)) h)

-- of an optimum just the last plan excuses
pub optimum_alone : (goal : Goal) (facts : List Literal) → is_optimum goal ≡ true
    → excused_then goal [] facts ≡ facts ∷ []
optimum_alone Any facts e = cc
optimum_alone (Least cell) facts e = refl
optimum_alone (Greatest cell) facts e = refl
optimum_alone Differing facts e = cc

pub refutes_best : (g : Ground) (old new : Search) (last : Option PlanOf) (p : PlanOf) (by : List ℕ)
    → is_optimum old.goal ≡ true → new.goal ≡ old.goal → new.named ≡ old.named → IsFirst old.goal old.named
    → last ≡ Some p → IsLast g new last → IsAllBut g new.excuses by
    → Refutes g.library (state_at g) (λ points. IsNoBetter (aim_of old.goal)
    ((plan_of p).values (slice_index old.named 0)) (points (slice_index old.named 0))) by
refutes_best g old new last p by optimum same_goal same_named first some h all =
    let k = subst (λ (o : Option PlanOf). IsLast g new o) some h in
    let excusing : AreExcusing old.goal old.named p.values.items k.1.0 =
    subst (λ (P : Type 0). P) (λ i. AreExcusing (same_goal i) (same_named i) p.values.items k.1.0) k.1.1 in
    let alone = k.1.2 ∙ ap (λ (goal : Goal). excused_then goal [] k.1.0) same_goal
    ∙ optimum_alone old.goal k.1.0 optimum in
    refutes_better g old.goal old.named p new.excuses k.1.0 by optimum first excusing alone all

-- the last plan that was found fits
pub last_fits : (g : Ground) (search : Search) (last : Option PlanOf) (p : PlanOf) → last ≡ Some p
    → IsLast g search last → Fits g.library (state_at g) (plan_of p)
last_fits g search last p some h = (subst (λ (o : Option PlanOf). IsLast g search o) some h).0

-- ---- what is said

module _ (library : List Stored) (s : State) (search : Search) (most : ℕ) (before after : List (List Literal))
    (text : List ℕ) where
  pub unsettled_so : rows_in search.goal after ≡ rows_in search.goal before → text ≡ codes "unsettled"
      → Answers library s search most before after text
  unsettled_so same is = inl (same, inl is)

  pub none_so : (by : List ℕ) → rows_in search.goal after ≡ rows_in search.goal before
      → Refutes library s (λ points. ⊥) by → text ≡ codes "none:" ++ support_text s.premises by
      → Answers library s search most before after text
  none_so by same refutes is = inl (same, inr (by, refutes, is))

  -- one plan, where points are not to differ
  one_so : (goal : Goal) (named : List ℕ) → (goal ≡ Differing → ⊥)
      → SaysOne library s (aim_of goal) (slice_index named 0) text
      → Says library s (question_of goal named) most (rows_in goal before) (rows_in goal after) text
  one_so Any named quiet says = inr (refl, says)
  one_so (Least cell) named quiet says = inr (refl, says)
  one_so (Greatest cell) named quiet says = inr (refl, says)
  one_so Differing named quiet says = absurd (quiet refl)

  says_points : (goal : Goal) (cell : ℕ) (p : Plan) → goal ≡ Any → Fits library s p → text ≡ plan_text s [] p
      → SaysOne library s (aim_of goal) cell text
  says_points Any cell p any fits is = (p, None, None, fits, tt, is)
  says_points (Least x) cell p any fits is = cc
  says_points (Greatest x) cell p any fits is = cc
  says_points Differing cell p any fits is = cc

  pub points_so : (p : Plan) → search.goal ≡ Any → (search.goal ≡ Differing → ⊥) → Fits library s p
      → text ≡ plan_text s [] p → Answers library s search most before after text
  points_so p any quiet fits is =
      one_so search.goal search.named quiet
      (says_points search.goal (slice_index search.named 0) p any fits is)

  pub says_so_far : (goal : Goal) (cell : ℕ) (p : Plan) → is_optimum goal ≡ true → Fits library s p
      → text ≡ plan_text s (codes " unsettled") p → SaysOne library s (aim_of goal) cell text
  says_so_far Any cell p e fits is = cc
  says_so_far (Least x) cell p e fits is = (p, None, None, fits, tt, is)
  says_so_far (Greatest x) cell p e fits is = (p, None, None, fits, tt, is)
  says_so_far Differing cell p e fits is = cc

  -- with how good others can still be
  pub says_bounded : (goal : Goal) (named : List ℕ) (p : Plan) (found : SpanOf) (end : ℤ) (cell : ℕ) (a : Info)
      (by : List ℕ) → IsFirst goal named → IsWithin goal cell found end → Fits library s p
      → Refutes library s (λ points. IsNoBetter (aim_of goal) a (points (slice_index named 0))) by
      → text ≡ bounded_text s cell a p by → SaysOne library s (aim_of goal) (slice_index named 0) text
  says_bounded Any named p found end cell a by first within fits refutes is = absurd within
  says_bounded (Least x) named p found end cell a by first within fits refutes is =
      (p, Some a, Some by, fits, refutes, is ∙ ap (λ (c : ℕ). bounded_text s c a p by) (sym (first ∙ within.0)))
  says_bounded (Greatest x) named p found end cell a by first within fits refutes is =
      (p, Some a, Some by, fits, refutes, is ∙ ap (λ (c : ℕ). bounded_text s c a p by) (sym (first ∙ within.0)))
  says_bounded Differing named p found end cell a by first within fits refutes is = absurd within

  pub one_plan_so : (search.goal ≡ Differing → ⊥)
      → SaysOne library s (aim_of search.goal) (slice_index search.named 0) text
      → Answers library s search most before after text
  one_plan_so quiet says = one_so search.goal search.named quiet says

  says_best : (goal : Goal) (named : List ℕ) (p : Plan) (by : List ℕ) → is_optimum goal ≡ true → IsFirst goal named
      → Fits library s p → Refutes library s (λ points. IsNoBetter (aim_of goal) (p.values (slice_index named 0))
      (points (slice_index named 0))) by → text ≡ best_text s goal p by
      → SaysOne library s (aim_of goal) (slice_index named 0) text
  says_best Any named p by e first fits refutes is = cc
  says_best (Least cell) named p by e first fits refutes is =
      (p, None, Some by, fits, refutes, is ∙ ap (λ (c : ℕ). best_text s (Least c) p by) (sym first))
  says_best (Greatest cell) named p by e first fits refutes is =
      (p, None, Some by, fits, refutes, is ∙ ap (λ (c : ℕ). best_text s (Greatest c) p by) (sym first))
  says_best Differing named p by e first fits refutes is = cc

  pub best_so : (p : Plan) (by : List ℕ) → is_optimum search.goal ≡ true → (search.goal ≡ Differing → ⊥)
      → IsFirst search.goal search.named → Fits library s p
      → Refutes library s (λ points. IsNoBetter (aim_of search.goal) (p.values (slice_index search.named 0))
      (points (slice_index search.named 0))) by → text ≡ best_text s search.goal p by
      → Answers library s search most before after text
  best_so p by optimum quiet first fits refutes is =
      one_so search.goal search.named quiet
      (says_best search.goal search.named p by optimum first fits refutes is)

  says_many : (goal : Goal) (named : List ℕ) (ps : List Plan) (by : Option (List ℕ)) → goal ≡ Differing
      → All (Fits library s) ps → length ps ≤ most
      → map row_of after ≡ map row_of before ++ map (λ (p : Plan). map p.values named) ps
      → IfSome by (Refutes library s (AreTold named (map row_of after))) → text ≡ many_text s named ps by
      → Says library s (question_of goal named) most (rows_in goal before) (rows_in goal after) text
  says_many Any named ps by e fit few grown refutes is = cc
  says_many (Least x) named ps by e fit few grown refutes is = cc
  says_many (Greatest x) named ps by e fit few grown refutes is = cc
  says_many Differing named ps by e fit few grown refutes is = inr (ps, by, fit, few, grown, refutes, is)

  pub many_so : (ps : List Plan) (by : Option (List ℕ)) → search.goal ≡ Differing → All (Fits library s) ps
      → length ps ≤ most
      → map row_of after ≡ map row_of before ++ map (λ (p : Plan). map p.values search.named) ps
      → IfSome by (Refutes library s (AreTold search.named (map row_of after)))
      → text ≡ many_text s search.named ps by → Answers library s search most before after text
  many_so ps by differing fit few grown refutes is =
      says_many search.goal search.named ps by differing fit few grown refutes is

-- where no plan is listed, none was found
pub none_listed : (ps : List PlanOf) → (length ps == 0) ≡ true → map plan_of ps ≡ []
none_listed [] e = refl
none_listed (p ∷ ps) e = let none = eqb-true (length (p ∷ ps)) 0 e in absurd (omega (arith, none))

-- where no plan was found, no rows were told
pub none_found : (g : Ground) (named : List ℕ) (most : ℕ) (before after : List (List Literal)) (ps : List Plan)
    → ps ≡ [] → AreFound g named most before after ps → map row_of after ≡ map row_of before
none_found g named most before after ps none h =
    h.grown ∙ ap (λ (qs : List Plan). map row_of before ++ map (λ (p : Plan). map p.values named) qs) none
    ∙ append-nil (map row_of before)

pub optimum_else : (goal : Goal) → (goal ≡ Any → ⊥) → (goal ≡ Differing → ⊥) → is_optimum goal ≡ true
optimum_else Any quiet other = absurd (quiet refl)
optimum_else (Least cell) quiet other = refl
optimum_else (Greatest cell) quiet other = refl
optimum_else Differing quiet other = absurd (other refl)

-- an optimum asks for no points that differ
pub optimum_quiet : (goal : Goal) → is_optimum goal ≡ true → goal ≡ Differing → ⊥
optimum_quiet Any e is = cc
optimum_quiet (Least cell) e is = cc
optimum_quiet (Greatest cell) e is = cc
optimum_quiet Differing e is = cc
