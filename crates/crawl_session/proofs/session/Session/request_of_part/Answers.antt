use Rattle.crawl_session.proofs.Prelude.{subst, Gives, Request, placed_if, request_of, SessionView}
use Rattle.crawl_session.specs.declared.request.RequestError.TheVariants as wrong
use Rattle.crawl_session.proofs.Placed.{placed_gives}
use Rattle.crawl_session.proofs.session.Session.request_of_part.Goals as goal

pub returns-in-Ok : goal.returns-in-Ok
returns-in-Ok c =
    subst (λ (s : SessionView). Gives wrong.NoMemory (λ (r : Request). r) c.placed.result (placed_if c.args.part.now (request_of s.settings.workers s.settings.suffixes c.args.line.now)))
    c.self.view_is
    (placed_gives c.args.part.now (request_of c.self.inside.queues c.self.inside.filter c.args.line.now) c.placed.result c.in-Ok.request c.in-Ok.ensures c.placed.ensures)
