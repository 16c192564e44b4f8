use Rattle.mercator.proofs.Prelude.{no_identity}
use Rattle.mercator.proofs.PlanTexts.{filter_is}
use Rattle.mercator.proofs.Serves.{made_for}
use Rattle.mercator.proofs.commands.sessions.session_of.Goals as goal

pub returns-clause-suffix : goal.returns-clause-suffix
returns-clause-suffix c = (filter_is c.args.plan.now.within _ c.in_ok-filter.ensures).0

pub returns-clause-settings : goal.returns-clause-settings
returns-clause-settings c =
    let filter = filter_is c.args.plan.now.within _ c.in_ok-filter.ensures in
    let made = c.in_ok-session in
    made_for made.session c.args.plan.now no_identity c.in_ok-filter.filter made.ensures.workers made.ensures.suffixes made.ensures.part filter.1
