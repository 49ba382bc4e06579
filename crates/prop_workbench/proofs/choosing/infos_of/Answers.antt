use Rattle.std.proofs.Common.{◌∷◌, [], ◌++◌, ◌+◌, refl, drop, map}
use Rattle.prop_vocabulary.specs.Said.{meant_of}
use Rattle.prop_workbench.proofs.ChoosingLemmas.{IsOnTheWay, at_start, one_on, rest_here}
use Rattle.prop_workbench.proofs.choosing.infos_of.Goals as goal

pub loop-meant-init : goal.loop-meant-init
loop-meant-init c = at_start c.args.words.now c.in-Ok.infos.items (map meant_of c.args.meants.now) c.in-Ok.ensures.items

pub loop-meant-preserved : goal.loop-meant-preserved
loop-meant-preserved c =
    let words = c.args.words.now in
    let now = c.loop-meant.words in
    let all = map meant_of c.args.meants.now in
    one_on words now c.info_of.new.words c.loop-meant.infos.items c.push.new.self.items c.in-Ok-info_of.info all
    (map meant_of (drop (c.loop-meant.meant-index + 1) c.args.meants.now)) (meant_of c.meant-item.result)
    (rest_here (λ rest. IsOnTheWay words now c.loop-meant.infos.items all (map meant_of rest)) c.args.meants.now
    c.loop-meant.meant-index c.meant-item.result c.loop-meant-test.true c.meant-item.is c.loop-meant.invariant)
    c.in-Ok-info_of.ensures.fits c.in-Ok-info_of.ensures.words c.in-Ok-info_of.ensures.info c.in-Ok-push.ensures.items

-- ---- an information more for which there is no memory

pub returns-in-Err-push-clause-domains : goal.returns-in-Err-push-clause-domains
returns-in-Err-push-clause-domains c =
    let words = c.args.words.now in
    let now = c.loop-meant.words in
    let all = map meant_of c.args.meants.now in
    (one_on words now c.info_of.new.words c.loop-meant.infos.items
    (c.loop-meant.infos.items ++ c.in-Ok-info_of.info ∷ []) c.in-Ok-info_of.info all
    (map meant_of (drop (c.loop-meant.meant-index + 1) c.args.meants.now)) (meant_of c.meant-item.result)
    (rest_here (λ rest. IsOnTheWay words now c.loop-meant.infos.items all (map meant_of rest)) c.args.meants.now
    c.loop-meant.meant-index c.meant-item.result c.loop-meant-test.true c.meant-item.is c.loop-meant.invariant)
    c.in-Ok-info_of.ensures.fits c.in-Ok-info_of.ensures.words c.in-Ok-info_of.ensures.info refl).domains

pub returns-in-Err-push-clause-back : goal.returns-in-Err-push-clause-back
returns-in-Err-push-clause-back c =
    let words = c.args.words.now in
    let now = c.loop-meant.words in
    let all = map meant_of c.args.meants.now in
    (one_on words now c.info_of.new.words c.loop-meant.infos.items
    (c.loop-meant.infos.items ++ c.in-Ok-info_of.info ∷ []) c.in-Ok-info_of.info all
    (map meant_of (drop (c.loop-meant.meant-index + 1) c.args.meants.now)) (meant_of c.meant-item.result)
    (rest_here (λ rest. IsOnTheWay words now c.loop-meant.infos.items all (map meant_of rest)) c.args.meants.now
    c.loop-meant.meant-index c.meant-item.result c.loop-meant-test.true c.meant-item.is c.loop-meant.invariant)
    c.in-Ok-info_of.ensures.fits c.in-Ok-info_of.ensures.words c.in-Ok-info_of.ensures.info refl).back
