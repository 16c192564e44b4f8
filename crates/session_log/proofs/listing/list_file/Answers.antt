use Rattle.std.proofs.lemmas.Result.{IfOk-weaker}
use Rattle.session_log.proofs.Logs.{lists_of_line}
use Rattle.session_log.proofs.listing.list_file.Goals as goal

pub returns-clause-listed : goal.returns-clause-listed
returns-clause-listed g c = IfOk-weaker c.list_lines.result _ _ (λ text lists. lists_of_line c.args.plan.now c.in-Some.line.now _ _ text.items c.in_ok-session.ensures.begun lists) c.list_lines.ensures.listed
