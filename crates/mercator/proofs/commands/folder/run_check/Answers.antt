use Rattle.mercator.proofs.Prelude.{ap, refl, inl, err_from_is_err_and}
use Rattle.mercator.specs.Outputs.{is_off}
use Rattle.mercator.proofs.Folders.{ends_diff, fix_fails, gains_diff}
use Rattle.std.proofs.lemmas.Result.{IfErr-weaker, IfOk-weaker}
use Rattle.mercator.proofs.commands.folder.run_check.Goals as goal

pub returns-in-Diff-clause-done : goal.returns-in-Diff-clause-done
returns-in-Diff-clause-done g c = λ input.
    IfOk-weaker c.print_fixes.result _ _ (λ broken d. gains_diff c.args.options.now c.args.ignores.now input broken d.0 _ _ c.in-Diff.is d.1 d.2) c.print_fixes.ensures.done

pub returns-in-Diff-clause-error : goal.returns-in-Diff-clause-error
returns-in-Diff-clause-error g c = λ input.
    IfErr-weaker c.print_fixes.result _ _ (λ error e. ends_diff c.args.options.now c.args.ignores.now input error _ c.in-Diff.is e) c.print_fixes.ensures.error

pub returns-in_err-fix_folder-in-Write-clause-error : goal.returns-in_err-fix_folder-in-Write-clause-error
returns-in_err-fix_folder-in-Write-clause-error g c = λ input.
    let r = c.from_residual in
    let same = err_from_is_err_and r.result r.ensures.1 in
    rw (same.1, same.2) (inl (fix_fails c.args.options.now c.args.ignores.now c.in_err-fix_folder-in-Write.field-0.0 (ap is_off c.in-Write.is) c.in_err-fix_folder-in-Write.ensures, refl))
