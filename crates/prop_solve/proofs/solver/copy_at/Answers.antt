use Rattle.std.proofs.Common.{Contains, Global, List, Vec, ap, length, map, option_map, refl, subst}
use Rattle.std.proofs.Common.{sym, ◌∙◌}
use Rattle.std.proofs.lemmas.Bool.Decides.{Decides-ltb}
use Rattle.std.proofs.lemmas.Option.{slice_get-map, slice_get_read}
use Rattle.prop_facts.specs.declared.fact.Literal.{Literal}
use Rattle.prop_refuting.proofs.StepLemmas.{contains_get}
use Rattle.prop_solve.proofs.solver.copy_at.Goals as goal

pub returns : goal.returns
returns c =
    let f : Vec Literal Global → List Literal = λ v. v.items in
    let xs = c.args.excuses.now in
    let told = c.in-Some.told.now in
    let seen = c.in-Some.ensures.lookup in
    let within = (Decides-ltb c.args.at (length xs)).0 (sym seen.0) in
    let P : List Literal → Type 0 = λ l. Contains (map f xs) l in
    let there = slice_get_read xs (length xs) c.args.at told refl within seen.1 in
    let at = slice_get-map f xs c.args.at ∙ ap (option_map f) there in
    subst P (sym (c.in_ok-from_slice.ensures.items ∙ c.deref.ensures.value))
    (contains_get (map f xs) c.args.at told.items at)
