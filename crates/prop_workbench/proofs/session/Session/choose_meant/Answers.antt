use Rattle.std.proofs.Common.{◌∙◌, map, sym, arith}
use Rattle.prop_procedures.specs.Fitting.{kind_at}
use Rattle.prop_procedures.specs.Stored.{span_kind}
use Rattle.prop_vocabulary.specs.Said.{meant_of}
use Rattle.prop_workbench.specs.Sessions.{state_of, state_from}
use Rattle.prop_compound.specs.Numbered.{compounds_of}
use Rattle.prop_workbench.specs.inner.Effects.{with_meants}
use Rattle.prop_workbench.proofs.DefinedLemmas.{meants_relations}
use Rattle.prop_workbench.proofs.ChoosingLemmas.{infos_may_be, few_elements, infos_count, chosen_state}
use Rattle.prop_workbench.proofs.session.Session.choose_meant.Goals as goal

pub choose_between-requires-clause-may : goal.choose_between-requires-clause-may
choose_between-requires-clause-may g c =
    let s = c.args.self.now in
    let sized = c.requires.sound.sized c.args.cell span_kind c.requires.cell in
    let infos = c.deref.ensures.value ∙ c.in-Ok.ensures.infos in
    rw infos (infos_may_be s.words s.words (kind_at s.live.network.cells.kinds c.args.cell)
    (map meant_of c.args.meants.now) sized.1 (few_elements s.words (kind_at s.live.network.cells.kinds c.args.cell).kind
    c.symbol_count-count.ensures.whole sized.0) c.requires.mean)

pub choose_between-requires-clause-fits : goal.choose_between-requires-clause-fits
choose_between-requires-clause-fits g c =
    let s = c.args.self.now in
    let infos = c.deref.ensures.value ∙ c.in-Ok.ensures.infos in
    rw (infos_count s.words c.args.meants.now c.deref.result.now infos) (sym c.in-None.ensures)

pub choose_between-requires-clause-some : goal.choose_between-requires-clause-some
choose_between-requires-clause-some g c =
    let s = c.args.self.now in
    let infos = c.deref.ensures.value ∙ c.in-Ok.ensures.infos in
    omega (arith, infos_count s.words c.args.meants.now c.deref.result.now infos, c.requires.some)

pub choose_between-requires-clause-few : goal.choose_between-requires-clause-few
choose_between-requires-clause-few g c =
    let s = c.args.self.now in
    let infos = c.deref.ensures.value ∙ c.in-Ok.ensures.infos in
    omega (arith, infos_count s.words c.args.meants.now c.deref.result.now infos, c.requires.few)

pub returns-in-Ok-choose_between-clause-ok : goal.returns-in-Ok-choose_between-clause-ok
returns-in-Ok-choose_between-clause-ok g c =
    let s = c.args.self.now in
    let infos = c.deref.ensures.value ∙ c.in-Ok.ensures.infos in
    chosen_state (state_of s) (state_from s.names c.infos_of.new.words s.definitions s.search.premises
    s.live.network.cells s.limit) _ c.args.choice.now c.args.cell (map meant_of c.args.meants.now) c.deref.result.now
    ((λ i. state_from s.names (c.in-Ok.ensures.words i) s.definitions s.search.premises s.live.network.cells s.limit)
    ∙ (λ i. record (state_of s) {
      words = with_meants s.words (map meant_of c.args.meants.now);
      definitions = compounds_of (meants_relations s.words (map meant_of c.args.meants.now) i) s.definitions;
    }))
    infos c.in-Ok-choose_between.ensures.ok
