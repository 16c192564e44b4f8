use Rattle.mercator_site.proofs.Prelude.{ℕ, List, Result, Ok, Err, IfOk, map, string_bytes, ap, subst, true, ◌≡◌, ◌∙◌, Asks, asks_of, asks_with, seeds_of, IsIncompleteAt, IsSiteCheck, IsTop, is_unfinished}
use Rattle.std.specs.Prelude.{Bool, IfErr}
use Rattle.mercator_site.specs.Checks.{IsAny}
use Rattle.mercator_site.specs.Ends.{IsCheckOf, front_of, name_of}
use Rattle.mercator_site.specs.Errors.{IsSiteIncomplete}
use Rattle.mercator_site.specs.Maps.{AreMapped}
use Rattle.mercator_site.specs.Rules.{AreCheckRules, AreMapRules}
use Rattle.mercator_site.specs.declared.check.CheckReport.{CheckReport}
use Rattle.mercator_site.specs.declared.error.FolderError.{FolderError}
use Rattle.mercator_site.specs.declared.mapped.MappedFolder.{MappedFolder}
use Rattle.mercator_site.specs.declared.maps.FolderMap.{FolderMap}
use Rattle.mercator_site.specs.declared.options.CheckOptions.{CheckOptions}
use Rattle.site_files.specs.declared.files.SiteFiles.{SiteFiles}
use Rattle.site_files.specs.declared.rules.Rules.{Rules}
use Rattle.mercator_site.proofs.folder.report_with_files.Goals as goal

check_of : (answer : Result CheckReport FolderError) (options : CheckOptions) (maps : List FolderMap) (entries : List (List ℕ)) (files : SiteFiles) (name : List ℕ) (asks : Asks) (map_rules : Rules) (folders : List MappedFolder)
    → IsTop (string_bytes options.site.base) (string_bytes files.site.top) → AreCheckRules options files.rules.now → AreMapRules options.site map_rules → AreMapped map_rules maps folders → name ≡ name_of options (string_bytes files.site.top) → asks ≡ asks_of options (front_of options (string_bytes files.site.top)) entries folders
    → IfOk answer (λ report. IsSiteCheck files IsAny name asks report.is_broken report.text.items) → IfOk answer (λ report. IsCheckOf options maps entries report.is_broken report.text.items)
check_of (Ok report) options maps entries files name asks map_rules folders is_top ruled mapped_by mapped named settled is = record {
  files = files;
  is_top = is_top;
  rules = ruled;
  map_rules = map_rules;
  are_map_rules = mapped_by;
  folders = folders;
  are_mapped = mapped;
  site =
      subst (λ (a : Asks). IsSiteCheck files IsAny (name_of options (string_bytes files.site.top)) a report.is_broken report.text.items) settled (subst (λ n. IsSiteCheck files IsAny n asks report.is_broken report.text.items) named is);
}
check_of (Err error) options maps entries files name asks map_rules folders is_top ruled mapped_by mapped named settled is = tt

incomplete_of : (answer : Result CheckReport FolderError) (options : CheckOptions) (top : List ℕ) (reachable : Bool) (links : List (List ℕ)) (workers : ℕ) → IsTop (string_bytes options.site.base) top → reachable ≡ options.reachable
    → links ≡ seeds_of options → workers ≡ options.workers → IfErr answer (λ error. is_unfinished error ≡ true → IsIncompleteAt top reachable links workers) → IfErr answer (λ error. is_unfinished error ≡ true → IsSiteIncomplete options)
incomplete_of (Ok report) options top reachable links workers is_top same_reach same_links same_workers is = tt
incomplete_of (Err error) options top reachable links workers is_top same_reach same_links same_workers is = λ two. record {
  top = top;
  is_top = is_top;
  incomplete =
      subst (λ r. IsIncompleteAt top r (seeds_of options) options.workers) same_reach
      (subst (λ ls. IsIncompleteAt top reachable ls options.workers) same_links (subst (λ n. IsIncompleteAt top reachable links n) same_workers (is two)));
}

pub returns-clause-checked : goal.returns-clause-checked
returns-clause-checked g c =
    let top = string_bytes c.args.files.now.site.top in
    let options = c.args.options.now in
    let settings = c.settings_of-settings in
    let entries = map string_bytes c.args.read.made.now.ignores.items in
    let begun = ap (map string_bytes) c.as_slice.ensures.value ∙ c.requires.seeds in
    let asks =
    settings.ensures.asks ∙ ap (λ ss. asks_with options ss (front_of options c.top.result.now) (map string_bytes c.as_slice-2.result.now) c.as_slice-3.result.now) begun
    ∙ ap (λ t. asks_of options (front_of options t) (map string_bytes c.as_slice-2.result.now) c.as_slice-3.result.now) c.top.ensures
    ∙ ap (λ es. asks_of options (front_of options top) (map string_bytes es) c.as_slice-3.result.now) c.as_slice-2.ensures.value
    ∙ ap (λ fs. asks_of options (front_of options top) entries fs) c.as_slice-3.ensures.value in
    check_of c.report_of_site.result options _ entries c.args.files.now _ _ c.args.read.made.now.map_rules c.in_ok-folders.folders.items c.requires.top c.requires.rules c.requires.map_rules c.in_ok-folders.ensures.mapped
    (settings.ensures.name ∙ ap (name_of options) c.top.ensures) asks c.report_of_site.ensures.checked

pub returns-clause-incomplete : goal.returns-clause-incomplete
returns-clause-incomplete g c =
    let top = string_bytes c.args.files.now.site.top in
    let options = c.args.options.now in
    let settings = c.settings_of-settings in
    let begun = ap (map string_bytes) c.as_slice.ensures.value ∙ c.requires.seeds in
    let asks = settings.ensures.asks ∙ ap (λ ss. asks_with options ss (front_of options c.top.result.now) (map string_bytes c.as_slice-2.result.now) c.as_slice-3.result.now) begun in
    incomplete_of c.report_of_site.result options _ _ _ _ c.requires.top (ap (λ (a : Asks). a.reachable) asks) (ap (λ (a : Asks). a.seeds) asks) settings.ensures.workers
    c.report_of_site.ensures.incomplete
