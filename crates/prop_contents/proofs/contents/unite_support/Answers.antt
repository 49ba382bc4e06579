use Rattle.std.proofs.Common.{Result, Ok, Err, OnOk, List, [], subst}
use Rattle.prop_lattice.specs.declared.info.Info.TheVariants.{Nothing}
use Rattle.prop_lattice.specs.Order.{merge_of}
use Rattle.prop_numbers.specs.Sets.{set_of}
use Rattle.prop_tms.specs.Beliefs.{belief_of, IsLean}
use Rattle.prop_contents.specs.Contents.{Entry}
use Rattle.prop_contents.proofs.Trimming.{read_there}
use Rattle.prop_contents.proofs.contents.unite_support.Goals as goal

on_ok : {T E P Q : Type 0} (r : Result T E) → (P → Q) → OnOk r P → OnOk r Q
on_ok (Ok x) f h = f h
on_ok (Err e) f h = tt

pub returns-in-Some : goal.returns-in-Some
returns-in-Some c =
    let w = set_of c.args.worldview.now in
    let sole = c.in-Some.sole.now in
    let here = read_there c.args.contents.now c.args.cell c.index-contents-cell.result [] c.requires.cell
    c.index-contents-cell.is in
    let lean = subst (λ (es : List Entry). IsLean Nothing merge_of es w (belief_of Nothing merge_of w es) sole) here
    c.in-Some.ensures in
    on_ok c.unite.result (λ same. (sole, lean, same)) c.unite.ensures.ok
