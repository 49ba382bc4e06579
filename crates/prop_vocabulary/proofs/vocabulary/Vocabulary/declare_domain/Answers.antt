use Rattle.prop_sets.specs.Names.{texts_of}
use Rattle.prop_vocabulary.specs.Vocabulary.{Vocabulary}
use Rattle.prop_vocabulary.proofs.RefusalLemmas.{domains_room}
use Rattle.prop_vocabulary.proofs.WholeLemmas.{domain-whole}
use Rattle.prop_vocabulary.proofs.vocabulary.Vocabulary.declare_domain.Goals as goal

pub invariant_of-self-2 : goal.invariant_of-self-2
invariant_of-self-2 c =
    let old = c.self.inside in
    let v : Vocabulary = record {
      domain_names = old.domain_names;
      domains = old.domains.items;
      relation_names = old.relation_names;
      relations = old.relations.items;
      symbols = old.symbols;
    } in
    let room = domains_room v c.args.name.now (texts_of c.args.elements.now)
    (rw (← c.self.view_is) at c.in_ok-domain.ensures.allowed) in
    rw (c.in_ok-push_named.ensures.names, c.in_ok-push_named.ensures.things, c.in_ok-domain.ensures.ok.0)
    (domain-whole v c.args.name.now (texts_of c.args.elements.now) c.self.invariant c.in_ok-domain.ensures.ok.1
    room)
