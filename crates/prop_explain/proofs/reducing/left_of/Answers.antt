use Rattle.std.proofs.Common.{◌∙◌, ◌∷◌, [], refl, sym, subst, arith, append_assoc}
use Rattle.std.proofs.lemmas.List.Elements.{All-nil}
use Rattle.prop_numbers.specs.Sets.{Members, set_of, without, IsPart}
use Rattle.prop_numbers.proofs.MergeLemmas.{Rising, rising_from_increasing}
use Rattle.prop_procedures.specs.Kept.{stored_of}
use Rattle.prop_cells.specs.Data.{problem_of}
use Rattle.prop_explain.specs.Trying.TriesOf.{none}
use Rattle.prop_explain.proofs.ReducingLaws.{as_ready, consistent_fewer, one_more, same_problem, tried_on}
use Rattle.prop_explain.proofs.TryingLaws.{none_tried, left_out, stays, less_is_part, less_holds, still_left}
use Rattle.prop_explain.proofs.reducing.left_of.Goals as goal

pub loop-premise-init : goal.loop-premise-init
loop-premise-init g c =
    let library = stored_of g.R.Rule.value_of c.args.live.now.network.library in
    let start = c.args.live.now.network.cells in
    let copied = c.in_ok-support.ensures in
    let so_far = c.into_iter-premise-iterator.ensures.into_iter_gives ∙ c.iter-premise-items.ensures.all in
    record {
      claim = refl;
      so_far = so_far;
      same = refl;
      done = record {
        left = as_ready library start c.args.live.now.agenda (record {
          kept = c.requires.alive.under_way.kept;
          line = c.requires.alive.under_way.line_below;
          watched = c.requires.alive.watched.below;
        });
        within = omega arith;
        few = omega arith;
        sets = [];
        last = rw (c.in_ok-believed.ensures.of, copied) refl;
        tries = none;
        held = record {
          rising = subst Rising (sym so_far)
              (rising_from_increasing c.args.why.now.support c.iter-premise-items.ensures.ordered);
          part = rw so_far (λ p h. h);
          tried = All-nil _;
          left = rw (so_far, copied) (λ p h. h);
        };
      };
      alive = rw (c.in_ok-believed.ensures.of, copied) c.requires.alive;
      tried = rw copied (none_tried (problem_of library start) c.args.cell c.args.why.now.value
          (set_of c.args.why.now.support) c.requires.entails);
      part = rw copied (λ p h. h);
    }

pub leave_out-requires-clause-consistent : goal.leave_out-requires-clause-consistent
leave_out-requires-clause-consistent g c =
    let kept = c.loop-premise.invariant in
    let library = stored_of g.R.Rule.value_of c.args.live.now.network.library in
    let start = c.args.live.now.network.cells in
    let problem = same_problem library library start c.loop-premise.live.network.cells refl kept.done.left.rest in
    rw (kept.same, problem) (consistent_fewer (problem_of library start) (set_of c.loop-premise.trial.support)
    (set_of c.args.why.now.support) kept.part c.requires.consistent)

pub loop-premise-preserved-in-Enough : goal.loop-premise-preserved-in-Enough
loop-premise-preserved-in-Enough g c =
    let kept = c.loop-premise.invariant in
    let try = c.in_ok-tried.ensures in
    let library = stored_of g.R.Rule.value_of c.args.live.now.network.library in
    let start = c.args.live.now.network.cells in
    let s = set_of c.loop-premise.trial.support in
    let p = c.in-Some.premise in
    let part = less_is_part s (set_of c.args.why.now.support) (without s p) p refl kept.part in
    let problem = same_problem library library start c.loop-premise.live.network.cells refl kept.done.left.rest in
    let done = rw c.in-Some.ensures.steps at kept.done in
    let enough = try.enough c.in-Enough.is in
    record {
      claim = try.claim ∙ kept.claim;
      so_far = append_assoc c.loop-premise.yielded (p ∷ []) c.next.new.self
          ∙ (rw c.in-Some.ensures.steps at kept.so_far);
      same = try.same ∙ kept.same;
      done = rw (try.believed, enough.0) (one_more library start c.loop-premise.live.network.cells
          c.loop-premise.yielded c.next.new.self p c.loop-premise.steps c.in_ok-tried.tried.steps
          (set_of c.loop-premise.trial.believed) (without s p) (without s p) refl done part
          (less_holds p c.next.new.self done.held) (rw kept.same at try.left) try.steps (rw kept.same at try.falls)
          (rw kept.same at try.called));
      alive = try.alive;
      tried = rw enough.0 (left_out (problem_of library start) c.args.cell c.args.why.now.value c.loop-premise.yielded s
          p kept.tried (rw (kept.same, problem, kept.claim) at enough.1));
      part = subst (λ (u : Members). IsPart u (set_of c.args.why.now.support)) (sym enough.0) part;
    }

pub loop-premise-preserved : goal.loop-premise-preserved
loop-premise-preserved g c =
    let kept = c.loop-premise.invariant in
    let try = c.in_ok-tried.ensures in
    let library = stored_of g.R.Rule.value_of c.args.live.now.network.library in
    let start = c.args.live.now.network.cells in
    let s = set_of c.loop-premise.trial.support in
    let p = c.in-Some.premise in
    let part = less_is_part s (set_of c.args.why.now.support) (without s p) p refl kept.part in
    let problem = same_problem library library start c.loop-premise.live.network.cells refl kept.done.left.rest in
    let done = rw c.in-Some.ensures.steps at kept.done in
    let few = try.too_few c.in-TooFew.is in
    record {
      claim = try.claim ∙ kept.claim;
      so_far = append_assoc c.loop-premise.yielded (p ∷ []) c.next.new.self
          ∙ (rw c.in-Some.ensures.steps at kept.so_far);
      same = try.same ∙ kept.same;
      done = rw (try.believed, few.0) (one_more library start c.loop-premise.live.network.cells
          c.loop-premise.yielded c.next.new.self p c.loop-premise.steps c.in_ok-tried.tried.steps
          (set_of c.loop-premise.trial.believed) (without s p) s refl done part
          (still_left p c.next.new.self done.held) (rw kept.same at try.left) try.steps (rw kept.same at try.falls)
          (rw kept.same at try.called));
      alive = try.alive;
      tried = rw few.0 (stays (problem_of library start) c.args.cell c.args.why.now.value c.loop-premise.yielded s
          p kept.tried (rw (kept.same, problem, kept.claim) at few.1));
      part = rw few.0 kept.part;
    }

pub returns-in-Spent-clause-tries : goal.returns-in-Spent-clause-tries
returns-in-Spent-clause-tries g c =
    let kept = c.loop-premise.invariant in
    let s = set_of c.loop-premise.trial.support in
    let p = c.in-Some.premise in
    let part = less_is_part s (set_of c.args.why.now.support) (without s p) p refl kept.part in
    let done = rw c.in-Some.ensures.steps at kept.done in (
      without s p ∷ done.sets,
      rw c.ended.ensures.steps (tried_on (stored_of g.R.Rule.value_of c.args.live.now.network.library) p
          (set_of c.loop-premise.trial.believed) (without s p) _ _ done.sets refl done.last done.tries done.held part
          (rw kept.same at c.in_ok-tried.ensures.called)),
    )

pub returns-clause-tries : goal.returns-clause-tries
returns-clause-tries g c =
    let done = c.loop-premise.invariant.done in (done.sets, rw c.ended-2.ensures.steps done.tries)
