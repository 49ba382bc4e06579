use Rattle.std.proofs.Common.{List, ℕ, subst}
use Rattle.std.proofs.lemmas.Result.{IfOk-weaker}
use Rattle.prop_terms.specs.Terms.{term_of}
use Rattle.prop_meaning.specs.Foreseeing.{IsForeseen}
use Rattle.prop_meaning.specs.declared.foreseeing.Foreseen.{Foreseen}
use Rattle.prop_demands.specs.inner.Glossaries.{lexicon_in}
use Rattle.prop_demands.specs.inner.Postings.{IsForeseenIn}
use Rattle.prop_demands.proofs.understanding.foreseen.Goals as goal

pub returns-clause-foreseen : goal.returns-clause-foreseen
returns-clause-foreseen c =
    let names = c.args.names.now in
    let words = c.args.words.now in
    let cells = c.args.cells.now in
    let whole = c.all_numbers.result in
    let domains = c.domains_there.result in
    let t = term_of c.args.term.now in
    let by : List ℕ → Foreseen → Type 0 = λ nobody f. IsForeseen (lexicon_in (record {
      names = names;
      words = words;
      cells = cells;
      nobody = nobody;
      whole = whole;
      domains = domains;
    })) t f.known in
    IfOk-weaker c.foreseen_of.result (by c.empty-nobody.result) (λ f. IsForeseenIn names words cells t f.known)
    (λ f u. (
      whole,
      domains,
      c.all_numbers.ensures,
      subst (λ (n : List ℕ). by n f) c.empty-nobody.ensures u,
    )) c.foreseen_of.ensures.foreseen
