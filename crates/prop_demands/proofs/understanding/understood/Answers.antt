use Rattle.std.proofs.Common.{List, ℕ, subst}
use Rattle.std.proofs.lemmas.Result.{IfOk-weaker}
use Rattle.prop_terms.specs.Terms.{term_of}
use Rattle.prop_workbench.specs.declared.posting.Posting.{Posting}
use Rattle.prop_demands.specs.inner.Glossaries.{lexicon_in}
use Rattle.prop_demands.specs.inner.Postings.{IsUnderstood, IsUnderstoodIn}
use Rattle.prop_demands.proofs.understanding.understood.Goals as goal

pub returns-clause-understood : goal.returns-clause-understood
returns-clause-understood c =
    let names = c.args.names.now in
    let words = c.args.words.now in
    let cells = c.args.cells.now in
    let whole = c.all_numbers.result in
    let domains = c.domains_there.result in
    let t = term_of c.args.term.now in
    let by : List ℕ → Posting → Type 0 = λ nobody p. IsUnderstood (lexicon_in (record {
      names = names;
      words = words;
      cells = cells;
      nobody = nobody;
      whole = whole;
      domains = domains;
    })) words cells.kinds t p in
    IfOk-weaker c.posting.result (by c.empty-nobody.result) (IsUnderstoodIn names words cells t)
    (λ p u. (
      whole,
      domains,
      c.all_numbers.ensures,
      subst (λ (n : List ℕ). by n p) c.empty-nobody.ensures u,
    )) c.posting.ensures.understood
