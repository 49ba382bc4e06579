use Rattle.prop_workbench.proofs.AskLemmas.{believed_known}
use Rattle.prop_seeking.proofs.seeker.Seeker.premises.Goals as goal

pub print_set-requires : goal.print_set-requires
print_set-requires g c =
    rw (c.premises.ensures, c.search.ensures, c.session-session.ensures)
    (believed_known c.args.self.now.teller.session.search.premises c.args.by.now c.requires)
