use Rattle.std.proofs.Common.{◌≡◌, ◌∙◌, ◌++◌, ◌∷◌, [], ap, refl, map, subst, arith}
use Rattle.std.proofs.lemmas.List.{map-append}
use Rattle.prop_procedures.specs.Kept.{stored_of}
use Rattle.prop_solve.specs.Answers.{IsAnswer}
use Rattle.prop_solve.specs.declared.solver.Answer.{Answer}
use Rattle.prop_seeking.specs.inner.Seekers.{ground_at, plan_of}
use Rattle.prop_seeking.proofs.InquiryLemmas.{found_none, found_more, found_same, found_within, on_listed}
use Rattle.prop_seeking.proofs.InquiryLemmas.{open_same, refuted_ends, refuted_same}
use Rattle.prop_seeking.proofs.inquiry.Inquiry.list.Goals as goal

pub loop-init : goal.loop-init
loop-init g c = record {
  inquiry = c.requires.inquiry;
  same = record { goal = refl; named = refl };
  found = found_none
      (ground_at (stored_of g.R.Rule.value_of c.args.network.now.library) c.args.network.now.cells c.args.premises.now)
      c.args.self.now.solver.named 0 c.args.self.now.solver.excuses (map plan_of c.args.plans.now.found.items)
      (c.requires.inquiry.rows c.requires.differing) (ap (map plan_of) c.requires.empty);
}

pub loop-preserved : goal.loop-preserved
loop-preserved g c =
    let ground =
    ground_at (stored_of g.R.Rule.value_of c.args.network.now.library) c.args.network.now.cells c.args.premises.now in
    let first = c.args.self.now.solver in
    let old = c.loop.self.solver in
    let new = c.advance.new.self in
    let asks = c.in_ok-answer.ensures.asks in
    let inv = c.loop.invariant in
    let differing = inv.same.goal ∙ c.requires.differing in
    let more : map plan_of c.push.new.self.items
    ≡ map plan_of c.loop.plans.found.items ++ plan_of c.in-Found.plan ∷ [] =
    ap (map plan_of) c.in_ok-push-in-Found.ensures.items
    ∙ map-append plan_of c.loop.plans.found.items (c.in-Found.plan ∷ []) in
    let is = subst (λ (a : Answer). IsAnswer ground.library ground.cells ground.premises old a new) c.in-Found.is
    c.in_ok-answer.ensures.answer in
    record {
      inquiry = on_listed ground c.loop.self
          (record {
            solver = new;
            last = c.loop.self.last;
            told = c.loop.self.told;
            past = c.loop.self.past;
          }) inv.inquiry asks
          c.in_ok-answer.ensures.search refl c.in_ok-answer.answer c.in_ok-answer.ensures.answer differing;
      same = record { goal = asks.goal ∙ inv.same.goal; named = asks.named ∙ inv.same.named };
      found = found_more ground first.named c.loop.counter first.excuses (map plan_of c.loop.plans.found.items)
          (map plan_of c.push.new.self.items) old new c.in-Found.plan differing inv.same.named more inv.found is;
    }

pub returns-in-Refuted-clause-inquiry : goal.returns-in-Refuted-clause-inquiry
returns-in-Refuted-clause-inquiry g c =
    let ground =
    ground_at (stored_of g.R.Rule.value_of c.args.network.now.library) c.args.network.now.cells c.args.premises.now in
    on_listed ground c.loop.self
    (record { solver = c.advance.new.self; last = c.loop.self.last; told = c.loop.self.told; past = c.loop.self.past })
    c.loop.invariant.inquiry c.in_ok-answer.ensures.asks c.in_ok-answer.ensures.search refl c.in_ok-answer.answer
    c.in_ok-answer.ensures.answer (c.loop.invariant.same.goal ∙ c.requires.differing)

pub returns-in-Refuted-clause-same : goal.returns-in-Refuted-clause-same
returns-in-Refuted-clause-same g c = record {
  goal = c.in_ok-answer.ensures.asks.goal ∙ c.loop.invariant.same.goal;
  named = c.in_ok-answer.ensures.asks.named ∙ c.loop.invariant.same.named;
}

pub returns-in-Refuted-clause-found : goal.returns-in-Refuted-clause-found
returns-in-Refuted-clause-found g c =
    let ground =
    ground_at (stored_of g.R.Rule.value_of c.args.network.now.library) c.args.network.now.cells c.args.premises.now in
    let first = c.args.self.now.solver in
    let plans = map plan_of c.loop.plans.found.items in
    let same = refuted_same ground c.loop.self.solver c.advance.new.self c.in_ok-answer.answer c.in-Refuted.by
    c.in-Refuted.is c.in_ok-answer.ensures.answer in
    found_within ground first.named c.loop.counter c.args.plans.now.most first.excuses c.advance.new.self.excuses plans
    (omega arith) (found_same ground first.named c.loop.counter first.excuses c.loop.self.solver.excuses
    c.advance.new.self.excuses plans same c.loop.invariant.found)

pub returns-in-Unsettled-clause-inquiry : goal.returns-in-Unsettled-clause-inquiry
returns-in-Unsettled-clause-inquiry g c =
    let ground =
    ground_at (stored_of g.R.Rule.value_of c.args.network.now.library) c.args.network.now.cells c.args.premises.now in
    on_listed ground c.loop.self
    (record { solver = c.advance.new.self; last = c.loop.self.last; told = c.loop.self.told; past = c.loop.self.past })
    c.loop.invariant.inquiry c.in_ok-answer.ensures.asks c.in_ok-answer.ensures.search refl c.in_ok-answer.answer
    c.in_ok-answer.ensures.answer (c.loop.invariant.same.goal ∙ c.requires.differing)

pub returns-in-Unsettled-clause-same : goal.returns-in-Unsettled-clause-same
returns-in-Unsettled-clause-same g c = record {
  goal = c.in_ok-answer.ensures.asks.goal ∙ c.loop.invariant.same.goal;
  named = c.in_ok-answer.ensures.asks.named ∙ c.loop.invariant.same.named;
}

pub returns-in-Unsettled-clause-found : goal.returns-in-Unsettled-clause-found
returns-in-Unsettled-clause-found g c =
    let ground =
    ground_at (stored_of g.R.Rule.value_of c.args.network.now.library) c.args.network.now.cells c.args.premises.now in
    let first = c.args.self.now.solver in
    let plans = map plan_of c.loop.plans.found.items in
    let same = open_same ground c.loop.self.solver c.advance.new.self c.in_ok-answer.answer c.in-Unsettled.is
    c.in_ok-answer.ensures.answer in
    found_within ground first.named c.loop.counter c.args.plans.now.most first.excuses c.advance.new.self.excuses plans
    (omega arith) (found_same ground first.named c.loop.counter first.excuses c.loop.self.solver.excuses
    c.advance.new.self.excuses plans same c.loop.invariant.found)

pub returns-in-Refuted-clause-end : goal.returns-in-Refuted-clause-end
returns-in-Refuted-clause-end g c =
    refuted_ends (ground_at (stored_of g.R.Rule.value_of c.args.network.now.library) c.args.network.now.cells
    c.args.premises.now) c.loop.self.solver c.advance.new.self c.in_ok-answer.answer c.in-Refuted.by c.in-Refuted.is
    c.in_ok-answer.ensures.answer

pub returns-clause-found : goal.returns-clause-found
returns-clause-found g c =
    found_within
    (ground_at (stored_of g.R.Rule.value_of c.args.network.now.library) c.args.network.now.cells c.args.premises.now)
    c.args.self.now.solver.named c.loop.counter c.args.plans.now.most c.args.self.now.solver.excuses
    c.loop.self.solver.excuses (map plan_of c.loop.plans.found.items) (omega arith) c.loop.invariant.found
