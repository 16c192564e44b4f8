use Rattle.site_check.proofs.Prelude.{◌∙◌, ◌++◌, ap, arith, sym, file_mark}
use Rattle.site_check.proofs.FileEntries.{IsCut, file_there, names_nowhere, names_there, target_there}
use Rattle.site_check.proofs.file_entries.split_file.Goals as goal

pub returns-in-Some : goal.returns-in-Some
returns-in-Some c =
    let entry = c.args.entry.now in
    let target = c.in-Some.target.now in
    let at = c.in-Some.ensures.cases in
    let cut : IsCut entry target at.0 = record { within = omega (arith, at.5, at.7); first = at.2.0; here = at.2.1.split ∙ ap (λ r. file_mark ++ r) (sym at.4) } in
    (names_there entry target at.0 cut, at.3 ∙ file_there entry target at.0 cut, target_there entry target at.0 cut)

pub returns-in-None : goal.returns-in-None
returns-in-None c = names_nowhere c.args.entry.now c.in-None.ensures.cases
