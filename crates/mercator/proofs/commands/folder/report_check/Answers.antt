use Rattle.mercator.proofs.Prelude.{inl, inr, refl, subst, rules, List, ℕ, err_from_is_err_and, Appends, IsChecked}
use Rattle.mercator_site.specs.Ends.{IsFolderCheck}
use Rattle.mercator.proofs.Folders.{can_print, gains_as, index_fails, list_fails, site_fails}
use Rattle.mercator.proofs.commands.folder.report_check.Goals as goal

pub returns-in_err-list-clause-error : goal.returns-in_err-list-clause-error
returns-in_err-list-clause-error g c = λ input.
    let r = c.from_residual in
    let same = err_from_is_err_and r.result r.ensures.1 in
    rw (same.1, same.2) (inl (list_fails c.args.options.now c.args.ignores.now c.in_err-list.field-0.0 c.in_err-list.ensures.error, refl))

pub returns-in_err-index-clause-error : goal.returns-in_err-index-clause-error
returns-in_err-index-clause-error g c = λ input.
    let r = c.from_residual-in_err-index in
    let same = err_from_is_err_and r.result r.ensures.1 in
    rw (same.1, same.2) (inl (index_fails c.args.options.now c.args.ignores.now c.in_err-index.field-0.0 c.in_err-index.ensures.error, refl))

pub returns-in_err-print_notes-clause-error : goal.returns-in_err-print_notes-clause-error
returns-in_err-print_notes-clause-error g c = λ input.
    let r = c.from_residual-in_err-print_notes in
    let same = err_from_is_err_and r.result r.ensures.1 in
    rw (same.1, same.2) (inl (tt, refl))

pub returns-in_err-report-clause-error : goal.returns-in_err-report-clause-error
returns-in_err-report-clause-error g c = λ input.
    let r = c.from_residual-in_err-report in
    let same = err_from_is_err_and r.result r.ensures.1 in
    rw (same.1, same.2) (inl (site_fails c.args.options.now c.args.ignores.now c.in_err-report.field-0.0 c.in_err-report.ensures.incomplete, refl))

pub returns-in_err-print_list_notes-clause-error : goal.returns-in_err-print_list_notes-clause-error
returns-in_err-print_list_notes-clause-error g c = λ input.
    let r = c.from_residual-in_err-print_list_notes in
    let same = err_from_is_err_and r.result r.ensures.1 in
    rw (same.1, same.2) (inl (tt, refl))

pub returns-in_err-end-clause-error : goal.returns-in_err-end-clause-error
returns-in_err-end-clause-error g c = λ input.
    let r = c.from_residual-in_err-end in
    let same = err_from_is_err_and r.result r.ensures.1 in
    let report = c.in_ok-report.report in
    let checked : IsChecked c.args.options.now c.args.ignores.now report.is_broken report.text.items = record {
      bytes = c.in_ok-list.list.items;
      read = c.in_ok-list.ensures.whole;
      few = search rules;
      holds = subst (λ (list : List ℕ). IsFolderCheck c.args.options.now list report.is_broken report.text.items) c.as_slice.ensures.value c.in_ok-report.ensures.folder;
    } in
    rw (same.1, same.2) (inr (inl (c.in_err-end.ensures, can_print c.args.options.now c.args.ignores.now input report.is_broken report.text.items c.requires checked)))

pub returns-clause-done : goal.returns-clause-done
returns-clause-done g c = λ input.
    let report = c.in_ok-report.report in
    let old = g.O.Write.contents c.args.out.now in
    let new = g.O.Write.contents c.end.new.out in
    let checked : IsChecked c.args.options.now c.args.ignores.now report.is_broken report.text.items = record {
      bytes = c.in_ok-list.list.items;
      read = c.in_ok-list.ensures.whole;
      few = search rules;
      holds = subst (λ (list : List ℕ). IsFolderCheck c.args.options.now list report.is_broken report.text.items) c.as_slice.ensures.value c.in_ok-report.ensures.folder;
    } in
    gains_as c.args.options.now c.args.ignores.now input report.is_broken report.text.items old new c.requires checked (subst (λ (text : List ℕ). Appends old new text) c.as_slice-3.ensures.value c.in_ok-end.ensures)
