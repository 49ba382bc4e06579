use Rattle.std.proofs.Common.{◌≡◌, ◌∙◌, ◌<◌, ℕ, suc, ◌-◌, List, [], ◌∷◌, ◌++◌, length, take, get_or, sym, ap, subst}
use Rattle.std.proofs.Common.{arith}
use Rattle.std.proofs.Math.Seq.{take-length, take-suc}
use Rattle.prop_lattice.specs.InformationOrder.{IsInformationOrder}
use Rattle.prop_tms.specs.Beliefs.{merge_of_all}
use Rattle.prop_tms.specs.inner.Gains.{AreGains, entry_of, gained_of}
use Rattle.prop_tms.specs.declared.gain.Gain.{Gain}
use Rattle.prop_tms.proofs.LeanLemmas.{AreGains-last, gained_of-push}
use Rattle.prop_tms.proofs.MergedLemmas.{merge_of_all-push}
use Rattle.prop_tms.proofs.strongest.said_together.Goals as goal

-- the last of them, with what it says of those before, says what all say
whole : {V : Type 0} {below : V → V → Type 0} {bottom top : V} {join : V → V → V}
    (laws : IsInformationOrder below bottom top join) (gains : List (Gain V)) (g : Gain V) (n : ℕ)
    → suc n ≡ length gains → get_or gains n g ≡ g →
    AreGains join bottom gains → join g.before g.entry.value ≡ merge_of_all bottom join (gained_of gains)
whole {V} {bottom = bottom} {join = join} laws gains g n l is h =
    let front = take n gains in
    let all : gains ≡ front ++ g ∷ [] = sym (take-length gains) ∙ ap (λ k. take k gains) (sym l)
    ∙ take-suc gains n g (omega (arith, l)) ∙ ap (λ (x : Gain V). front ++ x ∷ []) is in
    let before = AreGains-last laws front g (subst (λ (gs : List (Gain V)). AreGains join bottom gs) all h) in
    let more = merge_of_all-push laws (gained_of front) (entry_of g.entry) in
    let same = ap (merge_of_all bottom join) (ap gained_of all ∙ gained_of-push front g) in
    cc (before, more, same)

pub returns-in-Some : goal.returns-in-Some
returns-in-Some g c =
    let gains = c.args.gains.now in
    let item = c.in-Some.ensures.item in
    let some : 0 < length gains = item.3.0 in
    c.merge.ensures ∙ whole g.met.V.Partial.laws gains c.in-Some.gain.now (length gains - 1) (omega (arith, some))
    (sym item.1) c.requires
