use Rattle.mercator.proofs.Prelude.{inl, refl, err_from_is_err_and}
use Rattle.mercator.proofs.Folders.{plain_index}
use Rattle.mercator.proofs.commands.folder.run_site.Goals as goal

pub returns-in_err-index-clause-error : goal.returns-in_err-index-clause-error
returns-in_err-index-clause-error g c = λ input.
    let r = c.from_residual in
    let same = err_from_is_err_and r.result r.ensures.1 in
    rw (same.1, same.2) (inl (plain_index c.args.options.now.index c.in_err-index.field-0.0 c.in_err-index.ensures.error, refl))
