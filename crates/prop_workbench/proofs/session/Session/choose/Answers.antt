use Rattle.std.proofs.Common.{◌≡◌, ◌∙◌, ◌⊎◌, All, Some, None, refl, sym, ap, subst, map, arith}
use Rattle.std.specs.Prelude.{OnOk, IfErr}
use Rattle.prop_refusals.specs.declared.refusal.Refusal.TheVariants.{Memory}
use Rattle.prop_premises.specs.Origins.{premise_number, is_choice}
use Rattle.prop_procedures.specs.Fitting.{kind_at}
use Rattle.prop_procedures.specs.Kept.{stored_of}
use Rattle.prop_language.specs.Commands as commands
use Rattle.prop_language.specs.Said.{value_of}
use Rattle.prop_vocabulary.specs.Said.{meant_of}
use Rattle.prop_workbench.specs.inner.Effects.{chosen}
use Rattle.prop_workbench.specs.inner.Refusing.{choosing_limit_of}
use Rattle.prop_workbench.specs.Sessions.{state_of}
use Rattle.prop_workbench.specs.inner.Choosing.{values_refusal, meanings_of, IsMeaning}
use Rattle.prop_workbench.proofs.StepLemmas.{refuses, refuses_or_lacks}
use Rattle.prop_workbench.proofs.ChoiceLemmas.{choice_taken, choice_nowhere, choice_stops, values_mean, chosen_or_not}
use Rattle.prop_workbench.proofs.ChoiceLemmas.{free_name, is_nobodys, meanings_mean, meants_count, some_values}
use Rattle.prop_workbench.proofs.WakingLemmas.{left_where}
use Rattle.prop_workbench.proofs.session.Session.choose.Goals as goal

pub returns-in-None-clause-step : goal.returns-in-None-clause-step
returns-in-None-clause-step g c =
    let s = c.args.self.now in
    let library = stored_of g.R.Rule.value_of s.live.network.library in
    let values = map value_of c.args.values.now in
    refuses library (state_of s) (state_of s) (commands.Command.Choose c.args.choice.now c.args.name.now values) _
    (choice_taken library (state_of s) c.args.choice.now c.args.name.now values (sym c.in-None.ensures.number)
    (some_values c.args.values.now c.requires.some) (sym c.is_taken-is_taken.ensures ∙ c.if-is_taken.true)) refl

pub returns-in-None-2-clause-step : goal.returns-in-None-2-clause-step
returns-in-None-2-clause-step g c =
    let s = c.args.self.now in
    let library = stored_of g.R.Rule.value_of s.live.network.library in
    let values = map value_of c.args.values.now in
    refuses library (state_of s) (state_of s) (commands.Command.Choose c.args.choice.now c.args.name.now values) _
    (choice_nowhere library (state_of s) c.args.choice.now c.args.name.now values (sym c.in-None-2.ensures.number)
    (some_values c.args.values.now c.requires.some) (sym c.is_taken-is_taken.ensures ∙ c.if-is_taken.false)) refl

-- ---- each value means something there, and the name is free

pub choose_meant-requires-clause-mean : goal.choose_meant-requires-clause-mean
choose_meant-requires-clause-mean g c =
    let s = c.args.self.now in
    let values = map value_of c.args.values.now in
    let kind = c.kind-kind.result.kind in
    let same : c.kind-kind.result ≡ kind_at s.live.network.cells.kinds c.in-Some.cell = c.kind-kind.ensures
    ∙ ap (λ d. kind_at d.kinds c.in-Some.cell) (c.data.ensures ∙ ap (λ n. n.cells) c.network.ensures) in
    let meants : map meant_of c.deref.result.now ≡ meanings_of s.words kind values =
    ap (map meant_of) c.deref.ensures.value ∙ c.in-Ok.ensures.ok in
    subst (λ k. All (IsMeaning s.words k) (map meant_of c.deref.result.now)) (ap (λ k. k.kind) same)
    (subst (All (IsMeaning s.words kind)) (sym meants)
    (meanings_mean s.words kind values (values_mean s.words kind c.is_taken-is_taken.result values
    c.in-Ok.ensures.none)))

pub choose_meant-requires-clause-new : goal.choose_meant-requires-clause-new
choose_meant-requires-clause-new g c =
    let s = c.args.self.now in
    let free = free_name s.words c.kind-kind.result.kind c.is_taken-is_taken.result (map value_of c.args.values.now)
    c.in-Ok.ensures.none in
    (is_nobodys (premise_number s.search.premises c.args.choice.now) (is_choice s.search.premises c.args.choice.now)
    (sym c.is_taken-is_taken.ensures ∙ free)).0

pub choose_meant-requires-clause-free : goal.choose_meant-requires-clause-free
choose_meant-requires-clause-free g c =
    let s = c.args.self.now in
    let free = free_name s.words c.kind-kind.result.kind c.is_taken-is_taken.result (map value_of c.args.values.now)
    c.in-Ok.ensures.none in
    (is_nobodys (premise_number s.search.premises c.args.choice.now) (is_choice s.search.premises c.args.choice.now)
    (sym c.is_taken-is_taken.ensures ∙ free)).1

pub choose_meant-requires-clause-some : goal.choose_meant-requires-clause-some
choose_meant-requires-clause-some g c =
    let s = c.args.self.now in
    omega (
      arith,
      c.requires.some,
      meants_count s.words c.kind-kind.result.kind c.args.values.now c.deref.result.now
          (ap (map meant_of) c.deref.ensures.value ∙ c.in-Ok.ensures.ok),
    )

pub choose_meant-requires-clause-few : goal.choose_meant-requires-clause-few
choose_meant-requires-clause-few g c =
    let s = c.args.self.now in
    omega (
      arith,
      c.requires.few,
      meants_count s.words c.kind-kind.result.kind c.args.values.now c.deref.result.now
          (ap (map meant_of) c.deref.ensures.value ∙ c.in-Ok.ensures.ok),
    )

-- ---- a value or the name is refused, or there was no memory

pub returns-in-Err-clause-step : goal.returns-in-Err-clause-step
returns-in-Err-clause-step g c =
    let s = c.args.self.now in
    let library = stored_of g.R.Rule.value_of s.live.network.library in
    let values = map value_of c.args.values.now in
    let kind = c.kind-kind.result.kind in
    let same : c.kind-kind.result ≡ kind_at s.live.network.cells.kinds c.in-Some.cell = c.kind-kind.ensures
    ∙ ap (λ d. kind_at d.kinds c.in-Some.cell) (c.data.ensures ∙ ap (λ n. n.cells) c.network.ensures) in
    refuses_or_lacks library (state_of s) (state_of s)
    (commands.Command.Choose c.args.choice.now c.args.name.now values) c.in-Err.refusal
    (choice_stops library (state_of s) c.args.choice.now c.args.name.now values c.in-Some.cell kind c.in-Err.refusal
    (sym c.in-Some.ensures.number) (ap (λ k. k.kind) same)
    (subst (λ t. (values_refusal s.words kind t values ≡ Some c.in-Err.refusal) ⊎ (c.in-Err.refusal ≡ Memory))
    c.is_taken-is_taken.ensures c.in-Err.ensures.err)) refl

pub returns-in-Ok-clause-step : goal.returns-in-Ok-clause-step
returns-in-Ok-clause-step g c =
    let s = c.args.self.now in
    let new = c.choose_meant.new.self in
    let r = c.choose_meant.result in
    let cell = c.in-Some.cell in
    let choice = c.args.choice.now in
    let library = stored_of g.R.Rule.value_of s.live.network.library in
    let values = map value_of c.args.values.now in
    let kind = c.kind-kind.result.kind in
    let same : c.kind-kind.result ≡ kind_at s.live.network.cells.kinds cell = c.kind-kind.ensures
    ∙ ap (λ d. kind_at d.kinds cell) (c.data.ensures ∙ ap (λ n. n.cells) c.network.ensures) in
    let meants : map meant_of c.deref.result.now ≡ meanings_of s.words kind values =
    ap (map meant_of) c.deref.ensures.value ∙ c.in-Ok.ensures.ok in
    chosen_or_not library (state_of s) (state_of new) choice c.args.name.now values cell kind
    c.is_taken-is_taken.result (sym c.in-Some.ensures.number) (ap (λ k. k.kind) same)
    c.is_taken-is_taken.ensures (some_values c.args.values.now c.requires.some) c.in-Ok.ensures.none r
    (subst (λ ms. OnOk r (choosing_limit_of (state_of s) ms ≡ None)) meants c.choose_meant.ensures.fits)
    (subst (λ ms. OnOk r (state_of new ≡ chosen (state_of s) choice cell ms)) meants c.choose_meant.ensures.ok)
    (subst (λ ms. IfErr r (λ e. (choosing_limit_of (state_of s) ms ≡ Some e) ⊎ (e ≡ Memory))) meants
    c.choose_meant.ensures.err) c.choose_meant.ensures.err_same

pub returns-in-Ok-clause-wakes : goal.returns-in-Ok-clause-wakes
returns-in-Ok-clause-wakes g c =
    let s = c.args.self.now in
    left_where s c.choose_meant.new.self
    (commands.Command.Choose c.args.choice.now c.args.name.now (map value_of c.args.values.now)) _
    c.choose_meant.result c.choose_meant.ensures.chosen (λ h. h) (λ e h. h)
