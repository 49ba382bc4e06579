use Rattle.std.proofs.Common.{◌≡◌, ◌∙◌, ap, inr, length, subst, sym, List, ℕ}
use Rattle.std.specs.List.{range_with_len}
use Rattle.prop_procedures.specs.Kept.{stored_of}
use Rattle.prop_workbench.specs.Points.{attached_in}
use Rattle.prop_workbench.specs.Posting.{MayBePosted}
use Rattle.prop_workbench.specs.Sessions.{state_of}
use Rattle.prop_workbench.specs.inner.Effects.{name_of}
use Rattle.prop_procedures.specs.Stored.{Stored}
use Rattle.prop_telling.specs.Posting.{TellsPosting}
use Rattle.prop_telling.specs.inner.Telling.{told_of}
use Rattle.prop_telling.specs.inner.Posting.{is_without_trace}
use Rattle.prop_seeking.specs.inner.Seekers.{inquiry_of}
use Rattle.prop_terms.specs.Terms.{term_of}
use Rattle.prop_demands.specs.inner.Laws.{IsSolid}
use Rattle.prop_demands.proofs.Demands.{posting_demands}
use Rattle.prop_requiring.proofs.PostLemmas.{ended, sound_ground, sound_solid}
use Rattle.prop_requiring.proofs.requirer.Requirer.put.Goals as goal

pub post-requires-clause-may : goal.post-requires-clause-may
post-requires-clause-may g c =
    let session = c.args.self.now.blamer.seeker.teller.session in
    let library = stored_of g.R.Rule.value_of session.live.network.library in
    let numbers : c.deref.result.now ≡ range_with_len 0 (length session.live.network.cells.kinds) =
    c.deref.ensures.value ∙ c.in-Ok-all_cells.ensures in
    let P : List ℕ → Type 0 = λ cells. MayBePosted library (state_of session) cells c.in-Ok.posting in
    subst P (sym numbers) c.in-Ok.ensures.may

pub returns-clause-ready : goal.returns-clause-ready
returns-clause-ready g c = record {
  blamer = c.post.ensures.ready;
  palette = rw c.post.ensures.same c.requires.ready.palette;
}

pub returns-clause-puts : goal.returns-clause-puts
returns-clause-puts g c =
    let old = c.args.self.now.blamer.seeker in
    let session = old.teller.session in
    let new = c.post.new.self.seeker in
    let value = g.R.Rule.value_of in
    let library = stored_of value session.live.network.library in
    let t = term_of c.args.term.now in
    let premise = name_of c.args.premise in
    let p = c.in-Ok.posting in
    let u = c.in-Ok.ensures.understood in
    let law = c.in-Ok.ensures.words in
    let numbers : c.deref.result.now ≡ range_with_len 0 (length session.live.network.cells.kinds) =
    c.deref.ensures.value ∙ c.in-Ok-all_cells.ensures in
    let P : List ℕ → Type 0 = λ cells.
    TellsPosting library (told_of old.teller) cells p premise c.post.result (told_of new.teller) in
    let tells = subst P numbers c.post.ensures.tells in
    let Q : List Stored → Type 0 = λ l. IsSolid l (attached_in (state_of new.teller.session)) in
    let solid = subst Q (ap (stored_of value) c.post.ensures.same)
    (sound_solid value new.teller.session c.post.ensures.ready.seeker.sound) in
    inr (record {
      posting = p;
      tells = tells;
      ends = ended inquiry_of (is_without_trace c.post.result) old.inquiry new.inquiry c.post.ensures.inquiry;
      demands = posting_demands library session.names session.words session.definitions session.search.premises
          session.live.network.cells session.limit u.0 u.1 t p c.requires.ready.palette
          (sound_ground value session c.requires.ready.blamer.seeker.sound law) u.2 u.3 (state_of new.teller.session)
          premise c.post.result solid tells.posted;
    })
