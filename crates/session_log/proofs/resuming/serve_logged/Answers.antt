use Rattle.session_log.proofs.Prelude.{◌≡◌, ap, ◌∙◌, subst, prepend_known-nil, items}
use Rattle.std.specs.Io.KnownBytes.{prepend_known}
use Rattle.crawl_session.specs.Input.{ServesInput}
use Rattle.session_log.proofs.Logs.{is_break}
use Rattle.session_log.proofs.resuming.serve_logged.Goals as goal

pub returns-in-Ok-clause-served : goal.returns-in-Ok-clause-served
returns-in-Ok-clause-served g c =
    let input = g.I.Read.remaining c.args.input.now in
    let logged = c.in_ok-logged.logged in
    let same : prepend_known (items logged.window) (g.I.Read.remaining logged.input.now) ≡ input =
    ap (λ i. prepend_known (items logged.window) (g.I.Read.remaining i)) c.in_ok-logged.ensures.begun ∙ ap (λ b. prepend_known b input) c.in_ok-logged.ensures.empty ∙ prepend_known-nil input in
    subst (λ i. ServesInput c.args.session.now i (g.O.Write.contents c.args.out.now) (g.O.Write.contents c.serve.new.out) c.serve.new.session) same c.in-Ok.ensures

pub returns-clause-error : goal.returns-clause-error
returns-clause-error g c = rw c.error_of.ensures (is_break _ c.in-Err.why)
