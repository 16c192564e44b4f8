use Rattle.mercator_site.proofs.Prelude.{string_bytes, subst, sym, rules, IsTop}
use Rattle.mercator_site.specs.Rules.{AreCheckRules}
use Rattle.mercator_site.proofs.folder.report_of_names.Goals as goal

pub report_with_files-requires-clause-rules : goal.report_with_files-requires-clause-rules
report_with_files-requires-clause-rules g c = λ κs lives. subst (AreCheckRules c.args.options.now) (sym c.in_ok-files.ensures.by_rules) c.requires.rules

pub report_with_files-requires-clause-top : goal.report_with_files-requires-clause-top
report_with_files-requires-clause-top g c = λ κs lives. subst (λ base. IsTop base (string_bytes c.in_ok-files.files.site.top)) (search rules) c.in_ok-files.ensures.top
