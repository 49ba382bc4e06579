use Rattle.std.proofs.Common.{inl, inr, refl}
use Rattle.prop_terms.specs.Terms.{term_of}
use Rattle.prop_requiring.proofs.DefineLemmas.{not_declared}
use Rattle.prop_requiring.proofs.requirer.Requirer.prepare_term.Goals as goal

pub returns-in-Err-clause-err : goal.returns-in-Err-clause-err
returns-in-Err-clause-err g c =
    not_declared c.args.parts.before.now c.args.parts.text.now c.in-Err.refusal c.in-Err.ensures

pub returns-then-mentions-clause-err : goal.returns-then-mentions-clause-err
returns-then-mentions-clause-err g c =
    inl (inr (inr (inr (term_of c.args.term, c.requires.writes, refl))))

pub returns-in-Ok-equation-clause-ok : goal.returns-in-Ok-equation-clause-ok
returns-in-Ok-equation-clause-ok g c =
    let d = c.in-Some.ensures in
    record {
      name = c.in-Ok.name.now;
      term = term_of c.args.term;
      span = c.args.known.span;
      means = record {
        writes = c.requires.writes;
        kind = d.0;
        word = d.1;
        declares = d.2;
        reads = d.3;
        kinded = c.args.known.kinded;
        of_kind = d.4;
        known = c.requires.known;
      };
      fixes = c.fixing-fixing.ensures;
      equation_is = c.in-Ok-equation.ensures;
    }
