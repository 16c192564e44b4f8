use Rattle.mercator.proofs.Prelude.{err_from_is_err_and}
use Rattle.mercator.proofs.Folders.{list_fails_fix}
use Rattle.mercator.proofs.commands.fix.found_fixes.Goals as goal

pub returns-in_err-list : goal.returns-in_err-list
returns-in_err-list g c =
    let r = c.from_residual in
    let same = err_from_is_err_and r.result r.ensures.1 in
    rw (same.1, same.2) (list_fails_fix c.args.ignores.now c.in_err-list.field-0.0 c.in_err-list.ensures.error)

pub returns : goal.returns
returns g c = c.error_of.ensures c.args.ignores.now
