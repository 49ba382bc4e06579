use Rattle.std.proofs.Common.{◌∙◌, ◌<◌, ◌≤◌, List, [], None, All, ap, arith, get_or, length, take, refl, subst}
use Rattle.std.proofs.lemmas.List.{take_all}
use Rattle.std.proofs.lemmas.List.Elements.{All-nil, All-more}
use Rattle.std.proofs.lemmas.Option.{slice_get-get_or}
use Rattle.prop_lattice.specs.declared.info.Info.TheVariants.{Nothing}
use Rattle.prop_numbers.specs.Sets.{set_of}
use Rattle.prop_cells.specs.declared.instance.Statement.{Statement}
use Rattle.prop_cells.specs.Data.{problem_of}
use Rattle.prop_origins.specs.Parts.{made}
use Rattle.prop_cells.specs.inner.Problems.{Satisfies}
use Rattle.prop_origins.proofs.Proceeding.{proceeds_none, proceeds_then, heard_still}
use Rattle.prop_origins.proofs.making.tell.Goals as goal

pub note-requires-clause-of_kinds : goal.note-requires-clause-of_kinds
note-requires-clause-of_kinds c = (c.loop-number.invariant.proceeds []).of_kinds

pub returns-in_err-note-clause-founded : goal.returns-in_err-note-clause-founded
returns-in_err-note-clause-founded c = λ library f.
    c.note.ensures.founded library (c.loop-number.invariant.founded library f)

pub loop-number-init : goal.loop-number-init
loop-number-init c = record {
  cells = refl;
  line = refl;
  founded = λ library f. f;
  proceeds = λ library. proceeds_none (problem_of library c.args.held.now) c.args.line.now.line
      (made c.args.log.now.parts) c.requires.of_kinds;
  heard = All-nil (Satisfies (set_of c.args.premises.now) (made c.args.log.now.parts));
  calls = refl;
}

pub loop-number-preserved : goal.loop-number-preserved
loop-number-preserved c =
    let d = c.args.held.now in
    let s = set_of c.args.premises.now in
    let was = made c.loop-number.log.parts in
    let now = made c.note.new.log.parts in
    let n = c.loop-number.number in
    let nobody : Statement = record { premise = None; cell = 0; info = Nothing } in
    let end = ap (λ (xs : List Statement). length xs) c.statements-number-end.ensures in
    let within : n < length d.statements = omega (arith, c.loop-number-test.true, end) in
    let step = c.in_ok-note.ensures.proceeds in
    let heard = c.in_ok-note.ensures.heard (get_or d.statements n nobody)
    (slice_get-get_or d.statements n nobody within) in
    record {
      cells = c.note.ensures.cells ∙ c.loop-number.invariant.cells;
      line = c.note.ensures.line ∙ c.loop-number.invariant.line;
      founded = λ library f. c.note.ensures.founded library (c.loop-number.invariant.founded library f);
      proceeds = λ library. proceeds_then (problem_of library d) 0 0 c.args.line.now.line c.loop-number.line.line
          c.note.new.line.line (made c.args.log.now.parts) was now (c.loop-number.invariant.proceeds library)
          (step library);
      heard = All-more (Satisfies s now) d.statements n nobody within
          (heard_still s was now (take n d.statements) (step []).grows c.loop-number.invariant.heard) heard;
      calls = c.in_ok-note.ensures.calls ∙ c.loop-number.invariant.calls;
    }

pub returns-clause-proceeds : goal.returns-clause-proceeds
returns-clause-proceeds c = c.loop-number.invariant.proceeds

pub returns-clause-heard : goal.returns-clause-heard
returns-clause-heard c =
    let d = c.args.held.now in
    let end = ap (λ (xs : List Statement). length xs) c.statements-number-end.ensures in
    let all : length d.statements ≤ c.loop-number.number = omega (arith, c.loop-number-test.false, end) in
    subst (λ (xs : List Statement). All (Satisfies (set_of c.args.premises.now) (made c.loop-number.log.parts)) xs)
    (take_all c.loop-number.number d.statements all) c.loop-number.invariant.heard

pub returns-clause-calls : goal.returns-clause-calls
returns-clause-calls c = c.loop-number.invariant.calls
