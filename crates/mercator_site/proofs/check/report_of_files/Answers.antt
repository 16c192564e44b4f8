use Rattle.mercator_site.proofs.Prelude.{ℕ, List, [], Result, Ok, Err, IfOk, Global, Vec, string_bytes, Asks, IsSiteCheck, IsSiteCheckAt, IsTop}
use Rattle.std.specs.Prelude.{String}
use Rattle.mercator_site.specs.Checks.{IsBody}
use Rattle.mercator_site.specs.declared.check.CheckReport.{CheckReport}
use Rattle.mercator_site.specs.declared.error.FolderError.{FolderError}
use Rattle.site_files.specs.Files.{IsOfNames, server_of}
use Rattle.site_files.specs.Serving.{Serves, folder_with}
use Rattle.site_files.specs.declared.files.SiteFiles.{SiteFiles}
use Rattle.site_files.specs.declared.rules.Rules.{Rules}
use Rattle.mercator_site.proofs.check.report_of_files.Goals as goal

site_at : (answer : Result CheckReport FolderError) (names : List (String Global)) (bodies : List (Vec ℕ Global)) (rules : Rules) (files : SiteFiles) (name base : List ℕ) (asks : Asks) → IsOfNames names rules files → Serves (server_of files) (folder_with names []) files.pages files.linked → IsTop base (string_bytes files.site.top)
    → IfOk answer (λ report. IsSiteCheck files (IsBody bodies) name asks report.is_broken report.text.items) → IfOk answer (λ report. IsSiteCheckAt names bodies rules name base asks report.is_broken report.text.items)
site_at (Ok report) names bodies rules files name base asks of_names server is_top is = record { files = files; of_names = of_names; server = server; is_top = is_top; site = is }
site_at (Err error) names bodies rules files name base asks of_names server is_top is = tt

pub returns : goal.returns
returns g c =
    site_at c.report_of_site.result c.args.files.names.now c.args.files.bodies.now c.args.rules.now c.in_ok-pages.pages _ c.args.base.now _ c.in_ok-pages.ensures.names c.in_ok-pages.ensures.server c.in_ok-pages.ensures.top c.report_of_site.ensures.checked
