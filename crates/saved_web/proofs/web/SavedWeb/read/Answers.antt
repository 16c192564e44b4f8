use Rattle.saved_web.proofs.Prelude.{err_from_is_err_and, lines}
use Rattle.saved_web.proofs.LeastLine.{same_error}
use Rattle.saved_web.proofs.web.SavedWeb.read.Goals as goal

pub returns-in_err-pages-clause-reports : goal.returns-in_err-pages-clause-reports
returns-in_err-pages-clause-reports c = λ error is.
    let p = err_from_is_err_and c.from_residual.result c.from_residual.ensures.1 in
    rw (p.1, p.2) (same_error (lines c.args.bytes.now) c.in_err-pages.field-0.0 error c.in_err-pages.ensures.error is)
