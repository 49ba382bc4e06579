use Rattle.std.proofs.Common.{◌≡◌, ◌∙◌, ◌∷◌, length, slice_get, Some, IsTrue, refl, ap, subst, sym, arith}
use Rattle.std.proofs.lemmas.Option.{slice_get_read}
use Rattle.prop_lattice.specs.Order.{Below}
use Rattle.prop_numbers.specs.Sets.{set_of}
use Rattle.prop_cells.specs.Problems.{is_member}
use Rattle.prop_cells.specs.declared.instance.Statement.{Statement}
use Rattle.prop_cells.specs.Data.{IsStated, problem_of}
use Rattle.prop_cells.specs.Instances.{readers_of}
use Rattle.prop_cells.proofs.Keeping.{All-at, unless_true}
use Rattle.prop_cells.proofs.Reading.{readers_are}
use Rattle.prop_scheduler.specs.Agendas.{AllAlerted}
use Rattle.prop_origins.specs.Parts.{Part, made, call_of, calls_in}
use Rattle.prop_origins.specs.Founded.{AreFounded}
use Rattle.prop_origins.specs.inner.Logs.{Logged}
use Rattle.prop_origins.specs.inner.Proceeding.{Proceeds}
use Rattle.prop_origins.proofs.Founding.{told_founded}
use Rattle.prop_origins.proofs.Proceeding.{told_goes_on, merged_above, made_merges}
use Rattle.prop_origins.proofs.making.note.Goals as goal

pub alert-requires : goal.alert-requires
alert-requires c =
    rw (c.readers.ensures, c.requires.line)
    ((readers_are c.args.under.now.held.now.instances c.index-statements-number.result.cell).below)

pub returns-clause-founded : goal.returns-clause-founded
returns-clause-founded c = λ library f.
    let d = c.args.under.now.held.now in
    let s = set_of c.args.under.now.premises.now in
    let x = c.index-statements-number.result in
    let at : slice_get d.statements c.args.number ≡ Some x =
    slice_get_read d.statements (length d.statements) c.args.number x refl c.requires.number
    (rw c.statements.ensures at c.index-statements-number.is) in
    let member : IsTrue (is_member s x.premise) = sym c.is_among.ensures ∙ c.if-not-is_among.false in
    let stated = All-at (IsStated d.kinds d.contents) d.statements c.args.number x c.requires.made.stated at in
    let of_kind = stated.of_kind in
    let more : ¬ (Below x.info (made c.args.log.now.parts x.cell)) =
    unless_true (rw c.made.ensures at c.implies.ensures.1) c.if-implies.false in
    subst (λ (q : Logged). AreFounded library d s q.parts) (sym c.in_ok-push.ensures.ok)
    (told_founded library d s c.args.log.now.parts c.args.number x c.in_ok-part.part at member c.in_ok-part.ensures
    of_kind more f)

pub returns-clause-proceeds : goal.returns-clause-proceeds
returns-clause-proceeds c = λ library.
    let d = c.args.under.now.held.now in
    let x = c.index-statements-number.result in
    let parts = c.args.log.now.parts in
    let at : slice_get d.statements c.args.number ≡ Some x =
    slice_get_read d.statements (length d.statements) c.args.number x refl c.requires.number
    (rw c.statements.ensures at c.index-statements-number.is) in
    let stated = All-at (IsStated d.kinds d.contents) d.statements c.args.number x c.requires.made.stated at in
    let of_kind = stated.of_kind in
    let more : ¬ (Below x.info (made parts x.cell)) =
    unless_true (rw c.made.ensures at c.implies.ensures.1) c.if-implies.false in
    let alerted : AllAlerted c.args.line.now.line c.alert.new.self.line (readers_of d.instances x.cell) =
    rw c.readers.ensures at c.alert.ensures.alerted in
    subst (λ (q : Logged).
    Proceeds (problem_of library d) 0 c.args.line.now.line c.alert.new.self.line (made parts) (made q.parts))
    (sym c.in_ok-push.ensures.ok)
    (told_goes_on library d c.args.line.now.line c.alert.new.self.line c.in_ok-part.part parts x
    (ap (λ (p : Part). p.cell) c.in_ok-part.ensures) (ap (λ (p : Part). p.value) c.in_ok-part.ensures)
    (All-at (IsStated d.kinds d.contents) d.statements c.args.number x c.requires.made.stated at).within
    c.requires.of_kinds of_kind more alerted)

pub returns-clause-heard : goal.returns-clause-heard
returns-clause-heard c = λ y at_y member.
    let d = c.args.under.now.held.now in
    let x = c.index-statements-number.result in
    let p = c.in_ok-part.part in
    let parts = c.args.log.now.parts in
    let at : slice_get d.statements c.args.number ≡ Some x =
    slice_get_read d.statements (length d.statements) c.args.number x refl c.requires.number
    (rw c.statements.ensures at c.index-statements-number.is) in
    let same : x ≡ y = cc in
    let cell : p.cell ≡ y.cell = ap (λ (q : Part). q.cell) c.in_ok-part.ensures ∙ ap (λ (z : Statement). z.cell) same in
    let value : p.value ≡ y.info = ap (λ (q : Part). q.value) c.in_ok-part.ensures
    ∙ ap (λ (z : Statement). z.info) same in
    rw (c.in_ok-push.ensures.ok, ← cell, ← value)
    (merged_above (made parts) (made (p ∷ parts)) p.cell p.value (made_merges p parts))

pub returns-clause-calls : goal.returns-clause-calls
returns-clause-calls c =
    let pushed = ap (λ (q : Logged). calls_in q.parts) c.in_ok-push.ensures.ok in
    let told = ap (λ (p : Part). call_of p.origin) c.in_ok-part.ensures in
    omega (arith, pushed, told)
