use Rattle.mercator_site.proofs.Prelude.{List, ℕ, Result, IfOk, subst, ◌≡◌, ◌∙◌, ap, map}
use Rattle.mercator_site.specs.Ends.{IsCheckOf}
use Rattle.mercator_site.specs.declared.check.CheckReport.{CheckReport}
use Rattle.mercator_site.specs.declared.error.FolderError.{FolderError}
use Rattle.mercator_site.specs.declared.mapped.MapNames.{MapNames}
use Rattle.mercator_site.specs.declared.maps.FolderMap.{FolderMap}
use Rattle.mercator_site.specs.declared.options.CheckOptions.{CheckOptions}
use Rattle.mercator_site.proofs.folder.report_of_folder.Goals as goal

same_check : (answer : Result CheckReport FolderError) (options : CheckOptions) (maps others : List FolderMap) (entries listed : List (List ℕ)) → maps ≡ others → entries ≡ listed
    → IfOk answer (λ report. IsCheckOf options maps entries report.is_broken report.text.items) → IfOk answer (λ report. IsCheckOf options others listed report.is_broken report.text.items)
same_check answer options maps others entries listed same_maps same_entries is =
    subst (λ ms. IfOk answer (λ report. IsCheckOf options ms listed report.is_broken report.text.items)) same_maps
    (subst (λ es. IfOk answer (λ report. IsCheckOf options maps es report.is_broken report.text.items)) same_entries is)

pub returns-clause-folder : goal.returns-clause-folder
returns-clause-folder g c =
    let of : MapNames → FolderMap = λ one. one.map.now in
    same_check c.report_of_names.result c.args.options.now _ _ _ _ (ap (map of) c.as_slice-2.ensures.value ∙ c.in_ok-maps.ensures.maps ∙ c.as_slice.ensures.value)
    c.in_ok-made.ensures.ignores c.report_of_names.ensures.checked
