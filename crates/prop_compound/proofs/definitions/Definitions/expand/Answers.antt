use Rattle.std.proofs.Common.{◌≡◌, ◌∙◌, length, refl, sym, ap, inl, arith}
use Rattle.prop_procedures.specs.Kept.{stored_of}
use Rattle.prop_compound.specs.Definitions.{Definitions}
use Rattle.prop_compound.proofs.Expanded.{size_at_once, none_at_once, size_stops, fit_decides, cells_among, walk_right}
use Rattle.prop_compound.proofs.Expanded.{flat_means, flat_safe, flat_fits, flat_why}
use Rattle.prop_compound.proofs.definitions.Definitions.expand.Goals as goal

pub returns-in-Some-size_refusal-clause-err : goal.returns-in-Some-size_refusal-clause-err
returns-in-Some-size_refusal-clause-err g c =
    let n : c.len-count.result ≡ length c.args.cells.items = omega (arith, c.len-count.ensures, c.args.cells.ok.0) in
    inl (size_stops (stored_of g.R.Rule.value_of c.args.library.now) c.args.words.now c.args.self.now c.args.name.now
    c.args.cells.items c.args.given c.in-Some.used (sym c.used.ensures.used ∙ c.in-Some.is) c.is_miscounted.result
    (rw n at c.is_miscounted.ensures) c.if-is_miscounted.false c.size_refusal.result
    c.in-Some-size_refusal.refusal c.size_refusal.ensures c.in-Some-size_refusal.is)

pub returns-in-Some-size_refusal-clause-at_once : goal.returns-in-Some-size_refusal-clause-at_once
returns-in-Some-size_refusal-clause-at_once g c =
    let n : c.len-count.result ≡ length c.args.cells.items = omega (arith, c.len-count.ensures, c.args.cells.ok.0) in
    size_at_once (stored_of g.R.Rule.value_of c.args.library.now) c.args.words.now c.args.self.now c.args.name.now
    c.args.cells.items c.args.given c.in-Some.used (sym c.used.ensures.used ∙ c.in-Some.is) c.is_miscounted.result
    (rw n at c.is_miscounted.ensures) c.if-is_miscounted.false _ c.size_refusal.result c.in-Some-size_refusal.refusal
    c.size_refusal.ensures c.in-Some-size_refusal.is refl

pub returns-in_default-walk-clause-at_once : goal.returns-in_default-walk-clause-at_once
returns-in_default-walk-clause-at_once g c =
    let n : c.len-count.result ≡ length c.args.cells.items = omega (arith, c.len-count.ensures, c.args.cells.ok.0) in
    none_at_once (stored_of g.R.Rule.value_of c.args.library.now) c.args.words.now c.args.self.now c.args.name.now
    c.args.cells.items c.args.given c.in-Some.used (sym c.used.ensures.used ∙ c.in-Some.is) c.is_miscounted.result
    (rw n at c.is_miscounted.ensures) c.if-is_miscounted.false c.size_refusal.result _ c.size_refusal.ensures
    c.in_default-size_refusal.is

pub fitted-requires-clause-right : goal.fitted-requires-clause-right
fitted-requires-clause-right g c =
    let n : c.len-count.result ≡ length c.args.cells.items = omega (arith, c.len-count.ensures, c.args.cells.ok.0) in
    let ks = c.self.inside.definitions.items in
    walk_right (stored_of g.R.Rule.value_of c.args.library.now) c.args.words.now c.args.self.now c.args.name.now
    c.args.cells.items c.args.given c.in-Some.used (sym c.used.ensures.used ∙ c.in-Some.is) c.in-Ok.walk
    c.in-Ok.ensures.walk ks c.self.invariant.1 (ap (λ (d : Definitions). d.definitions) (sym c.self.view_is))
    c.requires.over c.in-Some.ensures.there c.is_miscounted.result (rw n at c.is_miscounted.ensures)
    c.if-is_miscounted.false

pub fitted-requires-clause-count : goal.fitted-requires-clause-count
fitted-requires-clause-count g c =
    let n : c.len-count.result ≡ length c.args.cells.items = omega (arith, c.len-count.ensures, c.args.cells.ok.0) in
    rw n (cells_among (stored_of g.R.Rule.value_of c.args.library.now) c.args.words.now
    c.args.self.now c.args.name.now c.args.cells.items c.args.given c.in-Some.used
    (sym c.used.ensures.used ∙ c.in-Some.is) c.in-Ok.walk c.in-Ok.ensures.walk)

pub returns-clause-fits : goal.returns-clause-fits
returns-clause-fits g c =
    let n : c.len-count.result ≡ length c.args.cells.items = omega (arith, c.len-count.ensures, c.args.cells.ok.0) in
    flat_fits (stored_of g.R.Rule.value_of c.args.library.now) c.args.words.now c.args.self.now c.args.name.now
    c.args.cells.items c.args.given c.in-Some.used (sym c.used.ensures.used ∙ c.in-Some.is) c.in-Ok.walk
    c.in-Ok.ensures.walk (fit_decides (stored_of g.R.Rule.value_of c.args.library.now) c.args.words.now
    c.args.self.now c.args.name.now c.args.cells.items c.args.given c.in-Some.used
    (sym c.used.ensures.used ∙ c.in-Some.is) c.in-Ok.walk c.in-Ok.ensures.walk c.is_miscounted.result
    (rw n at c.is_miscounted.ensures) c.if-is_miscounted.false c.size_refusal.result c.size_refusal.ensures
    c.in_default-size_refusal.is) c.fitted.result c.fitted.ensures.fits

pub returns-clause-err : goal.returns-clause-err
returns-clause-err g c =
    let n : c.len-count.result ≡ length c.args.cells.items = omega (arith, c.len-count.ensures, c.args.cells.ok.0) in
    flat_why (stored_of g.R.Rule.value_of c.args.library.now) c.args.words.now c.args.self.now c.args.name.now
    c.args.cells.items c.args.given c.in-Some.used (sym c.used.ensures.used ∙ c.in-Some.is) c.in-Ok.walk
    c.in-Ok.ensures.walk (fit_decides (stored_of g.R.Rule.value_of c.args.library.now) c.args.words.now
    c.args.self.now c.args.name.now c.args.cells.items c.args.given c.in-Some.used
    (sym c.used.ensures.used ∙ c.in-Some.is) c.in-Ok.walk c.in-Ok.ensures.walk c.is_miscounted.result
    (rw n at c.is_miscounted.ensures) c.if-is_miscounted.false c.size_refusal.result c.size_refusal.ensures
    c.in_default-size_refusal.is) c.fitted.result c.fitted.ensures.err

pub returns-clause-ok : goal.returns-clause-ok
returns-clause-ok g c =
    let n : c.len-count.result ≡ length c.args.cells.items = omega (arith, c.len-count.ensures, c.args.cells.ok.0) in
    flat_means (stored_of g.R.Rule.value_of c.args.library.now) c.args.words.now c.args.self.now c.args.name.now
    c.args.cells.items c.args.given c.in-Some.used (sym c.used.ensures.used ∙ c.in-Some.is) c.in-Ok.walk
    c.in-Ok.ensures.walk c.fitted.result c.fitted.ensures.fits (rw n at c.fitted.ensures.flat)

pub returns-clause-safe : goal.returns-clause-safe
returns-clause-safe g c =
    let n : c.len-count.result ≡ length c.args.cells.items = omega (arith, c.len-count.ensures, c.args.cells.ok.0) in
    let ks = c.self.inside.definitions.items in
    flat_safe (stored_of g.R.Rule.value_of c.args.library.now) c.args.words.now c.args.self.now c.args.name.now
    c.args.cells.items c.args.given c.in-Some.used (sym c.used.ensures.used ∙ c.in-Some.is) c.in-Ok.walk
    c.in-Ok.ensures.walk c.fitted.result
    (walk_right (stored_of g.R.Rule.value_of c.args.library.now) c.args.words.now c.args.self.now c.args.name.now
    c.args.cells.items c.args.given c.in-Some.used (sym c.used.ensures.used ∙ c.in-Some.is) c.in-Ok.walk
    c.in-Ok.ensures.walk ks c.self.invariant.1 (ap (λ (d : Definitions). d.definitions) (sym c.self.view_is))
    c.requires.over c.in-Some.ensures.there c.is_miscounted.result (rw n at c.is_miscounted.ensures)
    c.if-is_miscounted.false)
    (rw n at c.fitted.ensures.flat)

pub returns-clause-at_once : goal.returns-clause-at_once
returns-clause-at_once g c =
    let n : c.len-count.result ≡ length c.args.cells.items = omega (arith, c.len-count.ensures, c.args.cells.ok.0) in
    none_at_once (stored_of g.R.Rule.value_of c.args.library.now) c.args.words.now c.args.self.now c.args.name.now
    c.args.cells.items c.args.given c.in-Some.used (sym c.used.ensures.used ∙ c.in-Some.is) c.is_miscounted.result
    (rw n at c.is_miscounted.ensures) c.if-is_miscounted.false c.size_refusal.result _ c.size_refusal.ensures
    c.in_default-size_refusal.is
