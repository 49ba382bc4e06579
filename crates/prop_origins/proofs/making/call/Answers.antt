use Rattle.std.proofs.Common.{◌≡◌, ◌∷◌, length, map, slice_get, Some, ap, subst, sym, arith}
use Rattle.std.specs.List.{list_any}
use Rattle.std.proofs.lemmas.Option.{slice_get_within}
use Rattle.prop_lattice.specs.declared.info.Info.{Info}
use Rattle.prop_lattice.specs.Order.{Below}
use Rattle.prop_lattice.specs.Rank.{IsOf}
use Rattle.prop_numbers.specs.Sets.{set_of, IsSame}
use Rattle.prop_procedures.specs.Kept.{stored_of}
use Rattle.prop_procedures.specs.inner.Kept.{all_lawful}
use Rattle.prop_procedures.specs.Fitting.{kind_at}
use Rattle.prop_procedures.specs.Stored.{IsLawful}
use Rattle.prop_cells.specs.Problems.{value_at}
use Rattle.prop_cells.specs.Data.{problem_of}
use Rattle.prop_cells.specs.Instances.{IsFitting, IsWithin, constraint_of, readers_of}
use Rattle.prop_cells.proofs.Fitted.{value_of_kind}
use Rattle.prop_cells.proofs.Keeping.{All-at, call_fits, unless_true}
use Rattle.prop_cells.proofs.Reading.{readers_are}
use Rattle.prop_scheduler.specs.Agendas.{AllAlerted}
use Rattle.prop_origins.specs.Parts.{Part, made, rests_on, call_of, calls_in}
use Rattle.prop_origins.specs.Founded.{AreFounded}
use Rattle.prop_origins.specs.inner.Logs.{Logged}
use Rattle.prop_origins.specs.inner.Proceeding.{Proceeds}
use Rattle.prop_origins.proofs.Founding.{called_founded}
use Rattle.prop_origins.proofs.Proceeding.{proceeds_idle, called_goes_on}
use Rattle.prop_origins.proofs.making.call.Goals as goal

pub args-requires : goal.args-requires
args-requires g c =
    let d = c.args.network.now.cells in
    let within : IsWithin (length d.kinds) c.instance-x.result.now = rw c.data-held.ensures at
    c.instance-x.ensures.within in
    rw (c.inputs-inputs.ensures, c.requires.cells) within.inputs

pub answer-value-requires-clause-there : goal.answer-value-requires-clause-there
answer-value-requires-clause-there g c =
    let library = stored_of g.R.Rule.value_of c.args.network.now.library in
    let d = c.args.network.now.cells in
    let x = c.instance-x.result.now in
    let at : slice_get d.instances c.args.number ≡ Some x = rw c.data-held.ensures at c.instance-x.ensures.at in
    let f = All-at (IsFitting library d.kinds) d.instances c.args.number x c.requires.kept.fits at in
    rw c.library.ensures (slice_get_within library x.procedure f.procedure f.at)

pub answer-value-requires-clause-call : goal.answer-value-requires-clause-call
answer-value-requires-clause-call g c = λ clear.
    let library = stored_of g.R.Rule.value_of c.args.network.now.library in
    let d = c.args.network.now.cells in
    let x = c.instance-x.result.now in
    let at : slice_get d.instances c.args.number ≡ Some x = rw c.data-held.ensures at c.instance-x.ensures.at in
    let within : IsWithin (length d.kinds) x = rw c.data-held.ensures at c.instance-x.ensures.within in
    let f = All-at (IsFitting library d.kinds) d.instances c.args.number x c.requires.kept.fits at in
    let same : c.deref.result.now ≡ map (made c.args.log.now.parts) x.inputs =
    (let a = c.deref.ensures in let b = c.in_ok-args.ensures in let e = c.inputs-inputs.ensures in cc) in
    rw (same, c.library.ensures) (call_fits library d.kinds x (made c.args.log.now.parts) f within c.requires.of_kinds
    (rw same at clear))

pub made-requires : goal.made-requires
made-requires g c =
    let d = c.args.network.now.cells in
    let within : IsWithin (length d.kinds) c.instance-x.result.now = rw c.data-held.ensures at
    c.instance-x.ensures.within in
    rw (c.output-output.ensures, c.requires.cells) within.output

pub support-requires : goal.support-requires
support-requires g c =
    let d = c.args.network.now.cells in
    let within : IsWithin (length d.kinds) c.instance-x.result.now = rw c.data-held.ensures at
    c.instance-x.ensures.within in
    rw (c.inputs-inputs.ensures, c.requires.cells) within.inputs

pub push-requires : goal.push-requires
push-requires g c =
    let d = c.args.network.now.cells in
    let within : IsWithin (length d.kinds) c.instance-x.result.now = rw c.data-held.ensures at
    c.instance-x.ensures.within in
    rw (c.in_ok-part.ensures, c.requires.cells) (record { cell = within.output; inputs = within.inputs })

pub alert-requires : goal.alert-requires
alert-requires g c =
    rw (c.readers.ensures, c.output-output.ensures, c.data-held.ensures, c.requires.line)
    ((readers_are c.args.network.now.cells.instances c.instance-x.result.now.output).below)

pub returns-clause-founded : goal.returns-clause-founded
returns-clause-founded g c = λ s f.
    let library = stored_of g.R.Rule.value_of c.args.network.now.library in
    let d = c.args.network.now.cells in
    let x = c.instance-x.result.now in
    let parts = c.args.log.now.parts in
    let law = all_lawful g.R.Rule.value_of c.args.network.now.library c.requires.means in
    let at : slice_get d.instances c.args.number ≡ Some x = rw c.data-held.ensures at c.instance-x.ensures.at in
    let args : c.in_ok-args.args.items ≡ map (made parts) x.inputs =
    (let b = c.in_ok-args.ensures in let e = c.inputs-inputs.ensures in cc) in
    let same : c.deref.result.now ≡ map (made parts) x.inputs =
    (let a = c.deref.ensures in let b = c.in_ok-args.ensures in let e = c.inputs-inputs.ensures in cc) in
    let value : c.answer-value.result ≡ value_at (constraint_of library x) (made parts) =
    rw (c.library.ensures, same) at c.answer-value.ensures in
    let more : ¬ (Below c.answer-value.result (made parts x.output)) =
    unless_true (rw (c.made.ensures, c.output-output.ensures) at c.implies.ensures.1) c.if-implies.false in
    let rests : IsSame (set_of c.in_ok-support.support) (λ q. list_any (λ input. rests_on parts input q) x.inputs) =
    rw c.inputs-inputs.ensures at c.in_ok-support.ensures in
    subst (λ (q : Logged). AreFounded library d s q.parts) (sym c.in_ok-push.ensures.ok)
    (called_founded library d s parts c.args.number x c.in_ok-args.args.items c.answer-value.result
    c.in_ok-support.support c.in_ok-part.part law c.requires.kept c.requires.of_kinds at c.in_ok-part.ensures args value
    more rests f)

pub returns-then-implies-clause-proceeds : goal.returns-then-implies-clause-proceeds
returns-then-implies-clause-proceeds g c =
    let library = stored_of g.R.Rule.value_of c.args.network.now.library in
    let d = c.args.network.now.cells in
    let x = c.instance-x.result.now in
    let parts = c.args.log.now.parts in
    let at : slice_get d.instances c.args.number ≡ Some x = rw c.data-held.ensures at c.instance-x.ensures.at in
    let same : c.deref.result.now ≡ map (made parts) x.inputs =
    (let a = c.deref.ensures in let b = c.in_ok-args.ensures in let e = c.inputs-inputs.ensures in cc) in
    let value : c.answer-value.result ≡ value_at (constraint_of library x) (made parts) =
    rw (c.library.ensures, same) at c.answer-value.ensures in
    let known : Below c.answer-value.result (made parts x.output) =
    rw (c.made.ensures, c.output-output.ensures) at c.implies.ensures.0 c.if-implies.true in
    proceeds_idle library d c.args.line.now.line (made parts) c.args.number x c.requires.of_kinds at (rw value at known)

pub returns-clause-proceeds : goal.returns-clause-proceeds
returns-clause-proceeds g c =
    let library = stored_of g.R.Rule.value_of c.args.network.now.library in
    let d = c.args.network.now.cells in
    let x = c.instance-x.result.now in
    let parts = c.args.log.now.parts in
    let law = all_lawful g.R.Rule.value_of c.args.network.now.library c.requires.means in
    let at : slice_get d.instances c.args.number ≡ Some x = rw c.data-held.ensures at c.instance-x.ensures.at in
    let within : IsWithin (length d.kinds) x = rw c.data-held.ensures at c.instance-x.ensures.within in
    let fits = All-at (IsFitting library d.kinds) d.instances c.args.number x c.requires.kept.fits at in
    let same : c.deref.result.now ≡ map (made parts) x.inputs =
    (let a = c.deref.ensures in let b = c.in_ok-args.ensures in let e = c.inputs-inputs.ensures in cc) in
    let value : c.answer-value.result ≡ value_at (constraint_of library x) (made parts) =
    rw (c.library.ensures, same) at c.answer-value.ensures in
    let of_kind : IsOf (kind_at d.kinds x.output).kind (kind_at d.kinds x.output).size c.answer-value.result =
    subst (λ (v : Info). IsOf (kind_at d.kinds x.output).kind (kind_at d.kinds x.output).size v) (sym value)
    (value_of_kind library fits.procedure d.kinds x (made parts) fits.at
    (All-at IsLawful library x.procedure fits.procedure law fits.at) fits.fits within c.requires.of_kinds) in
    let more : ¬ (Below c.answer-value.result (made parts x.output)) =
    unless_true (rw (c.made.ensures, c.output-output.ensures) at c.implies.ensures.1) c.if-implies.false in
    let alerted : AllAlerted c.args.line.now.line c.alert.new.self.line (readers_of d.instances x.output) =
    rw (c.readers.ensures, c.output-output.ensures, c.data-held.ensures) at c.alert.ensures.alerted in
    subst (λ (q : Logged).
    Proceeds (problem_of library d) 1 (c.args.number ∷ c.args.line.now.line) c.alert.new.self.line (made parts)
    (made q.parts))
    (sym c.in_ok-push.ensures.ok)
    (called_goes_on library d c.args.line.now.line c.alert.new.self.line c.in_ok-part.part parts c.args.number x
    c.answer-value.result (ap (λ (p : Part). p.cell) c.in_ok-part.ensures)
    (ap (λ (p : Part). p.value) c.in_ok-part.ensures) within.output c.requires.of_kinds of_kind more alerted at value)

pub returns-clause-more : goal.returns-clause-more
returns-clause-more g c = λ sure.
    let pushed = ap (λ (q : Logged). calls_in q.parts) c.in_ok-push.ensures.ok in
    let called = ap (λ (p : Part). call_of p.origin) c.in_ok-part.ensures in
    omega (arith, pushed, called)
