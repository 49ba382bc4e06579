-- What an inquiry comes to.
use Rattle.std.proofs.Common.{◌≡◌, ◌∙◌, ◌⊎◌, ◌+◌, ◌<◌, ◌≤◌, ℕ, true, false, List, [], ◌∷◌, ◌++◌}
use Rattle.std.proofs.Common.{Bor, length, map, refl, sym, ap, subst}
use Rattle.std.proofs.Common.{inl, inr, arith, All, Some, None, append_assoc, append-nil, length-append}
use Rattle.std.specs.Prelude.{IfSome, Option, is_some}
use Rattle.std.specs.List.{AllZip}
use Rattle.std.specs.Option.{option_copied, option_map}
use Rattle.std.proofs.lemmas.List.{map-append}
use Rattle.std.proofs.lemmas.List.Elements.{All-nil, All-push}
use Rattle.prop_lattice.specs.declared.info.Info.{Info}
use Rattle.prop_facts.specs.declared.fact.Literal.{Literal}
use Rattle.prop_procedures.specs.Stored.{Stored}
use Rattle.prop_plans.specs.Held.{attached_of}
use Rattle.prop_lessons.specs.Lessons.{Taught}
use Rattle.prop_deriving.specs.Known.{IsExcused}
use Rattle.prop_solve.specs.Questions.{AreExcusing, IsValueFact, excused_then, is_optimum}
use Rattle.prop_solve.specs.Searches.{Search, IsSearch}
use Rattle.prop_solve.specs.Answers.{AsksTheSame, IsAnswer, IsFound}
use Rattle.prop_solve.specs.Leaving.{IsOf}
use Rattle.prop_solve.specs.declared.question.Goal.{Goal}
use Rattle.prop_solve.specs.declared.question.Goal.TheVariants.{Any, Least, Greatest, Differing}
use Rattle.prop_solve.specs.declared.solver.Answer.{Answer}
use Rattle.prop_solve.specs.declared.solver.Answer.TheVariants.{Found, Refuted, Unsettled}
use Rattle.prop_solve.specs.declared.solver.Plan.{Plan as PlanOf}
use Rattle.prop_seeking.specs.Asking.{Question}
use Rattle.prop_seeking.specs.Texts.{Plan}
use Rattle.prop_seeking.specs.Plans.{Fits}
use Rattle.prop_seeking.specs.declared.question.Asked.{Asked as AskedOf}
use Rattle.prop_seeking.specs.declared.inquiry.Inquiry.{Inquiry as InquiryOf}
use Rattle.prop_seeking.specs.inner.Seekers.{AreFound, AreOf, Ground, IsAllBut, IsApt, IsFirst, IsInquiry, IsLast}
use Rattle.prop_seeking.specs.inner.Seekers.{AreBefore, IsOpen, IsSameQuestion, inquiry_of, plan_of, row_of}
use Rattle.prop_seeking.specs.inner.Seekers.{state_at}
use Rattle.prop_seeking.proofs.ExcuseLemmas.{facts_of, rows_of}

-- ---- from one search to the next

module _ (g : Ground) (old new : Search) where
  -- what is refuted is refuted of all that is excused then
  pub refuted_ends : (answer : Answer) (by : List ℕ) → answer ≡ Refuted by
      → IsAnswer g.library g.cells g.premises old answer new → IsAllBut g new.excuses by
  refuted_ends answer by is h =
      let r = subst (λ (a : Answer). IsAnswer g.library g.cells g.premises old a new) is h in
      record {
        believed = r.believed;
        only = λ list points sided are.
            subst (λ (excuses : List (List Literal)). IsExcused (attached_of g.cells) excuses points list) (sym r.same)
            (r.refuted list points sided are);
      }

  -- what was found fits
  pub found_fits : (plan : PlanOf) → IsFound g.library g.cells g.premises old plan.values.items plan.sides.items new
      → Fits g.library (state_at g) (plan_of plan)
  found_fits plan f = (f.sided, (f.single.0, f.single.1, f.satisfied f.single.0 f.single.1))

  -- where points are to differ, what is excused is of the named cells
  found_rows : (plan : PlanOf) → IsFound g.library g.cells g.premises old plan.values.items plan.sides.items new
      → old.goal ≡ Differing → (facts : List Literal) × AllZip (IsValueFact plan.values.items) old.named facts
      × (new.excuses ≡ old.excuses ++ facts ∷ [])
  found_rows plan f differing = (
    f.facts,
    subst (λ (goal : Goal). AreExcusing goal old.named plan.values.items f.facts) differing f.excusing,
    f.excused ∙ ap (λ (goal : Goal). excused_then goal old.excuses f.facts) differing,
  )

  rows_then : (answer : Answer) → IsAnswer g.library g.cells g.premises old answer new → old.goal ≡ Differing
      → All (AreOf old.named) old.excuses → All (AreOf old.named) new.excuses
  rows_then (Found plan) h differing rows =
      let more = found_rows plan h differing in
      subst (All (AreOf old.named)) (sym more.2)
      (All-push (AreOf old.named) old.excuses more.0 rows (facts_of plan.values.items old.named more.0 more.1))
  rows_then (Refuted by) h differing rows = subst (All (AreOf old.named)) (sym h.same) rows
  rows_then Unsettled h differing rows = subst (All (AreOf old.named)) (sym h) rows

  pub rows_after : (answer : Answer) → IsAnswer g.library g.cells g.premises old answer new → AsksTheSame old new
      → (old.goal ≡ Differing → All (AreOf old.named) old.excuses)
      → new.goal ≡ Differing → All (AreOf new.named) new.excuses
  rows_after answer h asks rows differing =
      let was = sym asks.goal ∙ differing in
      subst (λ (named : List ℕ). All (AreOf named) new.excuses) (sym asks.named)
      (rows_then answer h was (rows was))

  -- what is excused after the first plan, or the last of an optimum
  alone : (goal : Goal) (excuses : List (List Literal)) (facts : List Literal)
      → (is_optimum goal ≡ true) ⊎ (excuses ≡ []) → (goal ≡ Differing → ⊥)
      → excused_then goal excuses facts ≡ excused_then goal [] facts
  alone (Least cell) excuses facts h quiet = refl
  alone (Greatest cell) excuses facts h quiet = refl
  alone Any excuses facts (inl e) quiet = cc
  alone Any excuses facts (inr none) quiet = none
  alone Differing excuses facts h quiet = absurd (quiet refl)

  pub last_found : (plan : PlanOf) → IsFound g.library g.cells g.premises old plan.values.items plan.sides.items new
      → AsksTheSame old new → (is_optimum old.goal ≡ true) ⊎ (old.excuses ≡ []) → (old.goal ≡ Differing → ⊥)
      → IsLast g new (Some plan)
  last_found plan f asks h quiet = (
    found_fits plan f,
    (
      f.facts,
      subst (λ (P : Type 0). P)
          (λ i. AreExcusing (sym asks.goal i) (sym asks.named i) plan.values.items f.facts) f.excusing,
      subst (λ (goal : Goal). new.excuses ≡ excused_then goal [] f.facts) (sym asks.goal)
          (f.excused ∙ alone old.goal old.excuses f.facts h quiet),
    ),
  )

  -- where no more is excused, the last plan stays
  pub last_kept : (last : Option PlanOf) → AsksTheSame old new → new.excuses ≡ old.excuses → IsLast g old last
      → IsLast g new last
  last_kept (Some plan) asks same (fits, (facts, excusing, is)) = (
    fits,
    (
      facts,
      subst (λ (P : Type 0). P)
          (λ i. AreExcusing (sym asks.goal i) (sym asks.named i) plan.values.items facts) excusing,
      subst (λ (goal : Goal). new.excuses ≡ excused_then goal [] facts) (sym asks.goal) (same ∙ is),
    ),
  )
  last_kept None asks same h = same ∙ h

  pub first_kept : AsksTheSame old new → IsFirst old.goal old.named → IsFirst new.goal new.named
  first_kept asks h = subst (λ (P : Type 0). P) (λ i. IsFirst (sym asks.goal i) (sym asks.named i)) h

-- ---- from one inquiry to the next

pub inquiry_begins : (g : Ground) (i : InquiryOf) (a : AskedOf) → IsSearch g.library g.cells g.premises i.solver
    → i.solver.goal ≡ a.goal → i.solver.named ≡ a.named.items → i.solver.excuses ≡ [] → i.last ≡ None
    → IsApt g.cells.kinds a → IsOf g.cells g.premises i.past → IsInquiry g i
inquiry_begins g i a search goal named none last apt past = record {
  search = search;
  first = subst (λ (P : Type 0). P) (λ j. IsFirst (sym goal j) (sym named j)) apt.first;
  within = subst (All (λ (cell : ℕ). cell < length g.cells.kinds)) (sym named) apt.within;
  last = λ quiet. subst (λ (o : Option PlanOf). IsLast g i.solver o) (sym last) none;
  rows = λ differing. subst (All (AreOf i.solver.named)) (sym none) (All-nil (AreOf i.solver.named));
  past = past;
}

module _ (g : Ground) (i j : InquiryOf) (inquiry : IsInquiry g i) (asks : AsksTheSame i.solver j.solver)
    (search : IsSearch g.library g.cells g.premises j.solver) (past : j.past ≡ i.past) where
  cells_kept : All (λ cell. cell < length g.cells.kinds) j.solver.named
  cells_kept = subst (All (λ (cell : ℕ). cell < length g.cells.kinds)) (sym asks.named) inquiry.within

  was_quiet : (j.solver.goal ≡ Differing → ⊥) → i.solver.goal ≡ Differing → ⊥
  was_quiet quiet e = quiet (asks.goal ∙ e)

  -- where nothing more is excused
  pub on_kept : j.solver.excuses ≡ i.solver.excuses → j.last ≡ i.last → IsInquiry g j
  on_kept same last = record {
    search = search;
    first = first_kept g i.solver j.solver asks inquiry.first;
    within = cells_kept;
    last = λ quiet. last_kept g i.solver j.solver j.last asks same
        (subst (λ (o : Option PlanOf). IsLast g i.solver o) (sym last) (inquiry.last (was_quiet quiet)));
    rows = λ differing. subst (λ (named : List ℕ). All (AreOf named) j.solver.excuses) (sym asks.named)
        (subst (All (AreOf i.solver.named)) (sym same) (inquiry.rows (sym asks.goal ∙ differing)));
    past = past ∙ inquiry.past;
  }

  none_before : (goal : Goal) → (is_optimum goal ≡ true) ⊎ (i.last ≡ None) → IsLast g i.solver i.last
      → (is_optimum goal ≡ true) ⊎ (i.solver.excuses ≡ [])
  none_before goal (inl optimum) h = inl optimum
  none_before goal (inr none) h = inr (subst (λ (o : Option PlanOf). IsLast g i.solver o) none h)

  -- where a plan was found: the first, or one of an optimum
  pub on_found : (answer : Answer) (plan : PlanOf) → answer ≡ Found plan
      → IsAnswer g.library g.cells g.premises i.solver answer j.solver
      → (is_optimum i.solver.goal ≡ true) ⊎ (i.last ≡ None) → j.last ≡ Some plan → IsInquiry g j
  on_found answer plan is h before last = record {
    search = search;
    first = first_kept g i.solver j.solver asks inquiry.first;
    within = cells_kept;
    last = λ quiet. subst (λ (o : Option PlanOf). IsLast g j.solver o) (sym last)
        (last_found g i.solver j.solver plan
        (subst (λ (a : Answer). IsAnswer g.library g.cells g.premises i.solver a j.solver) is h) asks
        (none_before i.solver.goal before (inquiry.last (was_quiet quiet))) (was_quiet quiet));
    rows = rows_after g i.solver j.solver answer h asks inquiry.rows;
    past = past ∙ inquiry.past;
  }

  -- where points are to differ
  pub on_listed : (answer : Answer) → IsAnswer g.library g.cells g.premises i.solver answer j.solver
      → i.solver.goal ≡ Differing → IsInquiry g j
  on_listed answer h differing = record {
    search = search;
    first = first_kept g i.solver j.solver asks inquiry.first;
    within = cells_kept;
    last = λ quiet. absurd (was_quiet quiet differing);
    rows = rows_after g i.solver j.solver answer h asks inquiry.rows;
    past = past ∙ inquiry.past;
  }

-- only how far was told is another
pub told_apart : (g : Ground) (i j : InquiryOf) → j ≡ record i { told = j.told } → IsInquiry g i → IsInquiry g j
told_apart g i j e h = subst (IsInquiry g) (sym e) (record {
  search = h.search;
  first = h.first;
  within = h.within;
  last = h.last;
  rows = h.rows;
  past = h.past;
})

-- a question that ends was one of this library
pub ends_known : (library : List Stored) (g : Ground) (o : Option InquiryOf) → g.library ≡ library
    → IfSome o (IsInquiry g) → IfSome o (λ i. (h : Ground) × (h.library ≡ library) × IsInquiry h i)
ends_known library g None same h = tt
ends_known library g (Some i) same h = (g, same, h)

-- what was told of a question that is gone on with, or begins anew
pub before_taken : (o old : Option InquiryOf) (q : Question) (rows : List (List Info)) → (o ≡ old) ⊎ (o ≡ None)
    → AreBefore (option_map inquiry_of o) q rows → AreBefore (option_map inquiry_of old) q rows
before_taken o old q rows (inl e) h =
    subst (λ (x : Option InquiryOf). AreBefore (option_map inquiry_of x) q rows) e h
before_taken None old q rows (inr e) (inl none) = inl none
before_taken None old q rows (inr e) (inr some) = let no : ⊥ = cc in absurd no
before_taken (Some i) old q rows (inr e) h = let no : ⊥ = cc in absurd no

-- what is so of what a reference lends
pub copied_so : (o : Option (Bor Taught)) (P : Taught → Type 0) → IfSome (option_copied o) P
    → IfSome o (λ e. P e.now)
copied_so None P h = tt
copied_so (Some e) P h = h

-- a question that was open is, where it is the same and no plan came
pub open_yet : (i j : InquiryOf) → IsOpen i → IsSameQuestion i j → j.last ≡ i.last
    → (is_optimum j.solver.goal ≡ true) ⊎ (j.last ≡ None)
open_yet i j (quiet, inl optimum) same last =
    inl (subst (λ (x : Goal). is_optimum x ≡ true) (sym same.goal) optimum)
open_yet i j (quiet, inr none) same last = inr (last ∙ none)

-- where there is none
pub none_there : {A : Type 0} (o : Option A) → is_some o ≡ false → o ≡ None
none_there None e = refl
none_there (Some a) e = cc

-- nothing more is excused by what refutes, or by what is open
pub refuted_same : (g : Ground) (old new : Search) (answer : Answer) (by : List ℕ) → answer ≡ Refuted by
    → IsAnswer g.library g.cells g.premises old answer new → new.excuses ≡ old.excuses
refuted_same g old new answer by is h =
    (subst (λ (a : Answer). IsAnswer g.library g.cells g.premises old a new) is h).same

pub open_same : (g : Ground) (old new : Search) (answer : Answer) → answer ≡ Unsettled
    → IsAnswer g.library g.cells g.premises old answer new → new.excuses ≡ old.excuses
open_same g old new answer is h = subst (λ (a : Answer). IsAnswer g.library g.cells g.premises old a new) is h

-- ---- plans that differ

-- before any plan is found
pub found_none : (g : Ground) (named : List ℕ) (n : ℕ) (before : List (List Literal)) (ps : List Plan)
    → All (AreOf named) before → ps ≡ [] → AreFound g named n before before ps
found_none g named n before ps rows none =
    subst (λ (qs : List Plan). AreFound g named n before before qs) (sym none) (record {
      fit = All-nil (Fits g.library (state_at g));
      few = omega arith;
      grown = sym (append-nil (map row_of before));
      rows = rows;
    })

-- and no more than so many are
pub found_within : (g : Ground) (named : List ℕ) (n m : ℕ) (before after : List (List Literal)) (ps : List Plan)
    → n ≤ m → AreFound g named n before after ps → AreFound g named m before after ps
found_within g named n m before after ps l h =
    record { fit = h.fit; few = omega (arith, l, h.few); grown = h.grown; rows = h.rows }

-- where nothing more is excused
pub found_same : (g : Ground) (named : List ℕ) (n : ℕ) (before mid after : List (List Literal)) (ps : List Plan)
    → after ≡ mid → AreFound g named n before mid ps → AreFound g named n before after ps
found_same g named n before mid after ps same h =
    subst (λ (x : List (List Literal)). AreFound g named n before x ps) (sym same) h

-- one plan more
pub found_more : (g : Ground) (named : List ℕ) (n : ℕ) (before : List (List Literal)) (ps qs : List Plan)
    (old new : Search) (plan : PlanOf) → old.goal ≡ Differing → old.named ≡ named → qs ≡ ps ++ plan_of plan ∷ []
    → AreFound g named n before old.excuses ps
    → IsFound g.library g.cells g.premises old plan.values.items plan.sides.items new
    → AreFound g named (n + 1) before new.excuses qs
found_more g named n before ps qs old new plan differing same one_more h f =
    let more = found_rows g old new plan f differing in
    let facts = more.0 in
    let row : Plan → List Info = λ (p : Plan). map p.values named in
    let of : AllZip (IsValueFact plan.values.items) named facts =
    subst (λ (cells : List ℕ). AllZip (IsValueFact plan.values.items) cells facts) same more.1 in
    let told : row_of facts ≡ row (plan_of plan) = rows_of plan.values.items named facts of in
    let grown : map row_of new.excuses ≡ map row_of before ++ map row (ps ++ plan_of plan ∷ []) =
    ap (map row_of) more.2 ∙ map-append row_of old.excuses (facts ∷ [])
    ∙ (λ i. h.grown i ++ told i ∷ []) ∙ append_assoc (map row_of before) (map row ps) (row (plan_of plan) ∷ [])
    ∙ ap (λ xs. map row_of before ++ xs) (sym (map-append row ps (plan_of plan ∷ []))) in
    subst (λ (xs : List Plan). AreFound g named (n + 1) before new.excuses xs) (sym one_more) (record {
      fit = All-push (Fits g.library (state_at g)) ps (plan_of plan) h.fit (found_fits g old new plan f);
      few = omega (arith, h.few, length-append ps (plan_of plan ∷ []));
      grown = grown;
      rows = subst (All (AreOf named)) (sym more.2)
          (All-push (AreOf named) old.excuses facts h.rows (facts_of plan.values.items named facts of));
    })
