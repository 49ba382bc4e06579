use Rattle.prop_vocabulary.specs.Pairs.{texts_of_pairs}
use Rattle.prop_vocabulary.specs.Vocabulary.{Vocabulary, HasSides}
use Rattle.prop_vocabulary.proofs.RefusalLemmas.{relations_room}
use Rattle.prop_vocabulary.proofs.WholeLemmas.{relation-whole}
use Rattle.prop_vocabulary.proofs.vocabulary.Vocabulary.declare_relation.Goals as goal

pub invariant_of-self-2 : goal.invariant_of-self-2
invariant_of-self-2 c =
    let old = c.self.inside in
    let v : Vocabulary = record {
      domain_names = old.domain_names;
      domains = old.domains.items;
      relation_names = old.relation_names;
      relations = old.relations.items;
      symbols = old.symbols;
    } in
    let room = relations_room v c.args.name.now c.args.from.now c.args.to.now (texts_of_pairs c.args.pairs.now)
    (rw (← c.self.view_is) at c.in_ok-relation.ensures.allowed) in
    let sides : HasSides v.domains c.in_ok-relation.relation = rw (← c.self.view_is) at c.in_ok-relation.ensures.ok.1 in
    rw (c.in_ok-push_named.ensures.names, c.in_ok-push_named.ensures.things)
    (relation-whole v c.args.name.now c.in_ok-relation.relation c.self.invariant sides room)
