-- The bytes of a report: those of its rows, in order.
use Rattle.std.specs.Prelude.{◌≡◌, ℕ, Bool, true, List, ◌++◌, flat_map, if◌then◌else◌}
use Rattle.check_report.specs.Annotations.{annotation_line}
use Rattle.check_report.specs.Json.{json_line}
use Rattle.check_report.specs.Junit.{junit}
use Rattle.check_report.specs.Order.{ordered_targets}
use Rattle.check_report.specs.Page.{page_line}
use Rattle.check_report.specs.Rows.{Line, if_listed, rows_of}
use Rattle.check_report.specs.Sarif.{sarif}
use Rattle.check_report.specs.Text.{text_line}
use Rattle.check_report.specs.declared.form.Form.{Form}
use Rattle.check_report.specs.declared.form.Form.TheVariants as form
use Rattle.check_report.specs.declared.value.Findings.{Findings}
use Rattle.check_report.specs.declared.value.Contents.{Contents}
use Rattle.check_report.specs.declared.value.Lists.{Lists}
use Rattle.check_report.specs.declared.view.Order.{Order}
use Rattle.check_report.specs.declared.view.Order.TheVariants as order
use Rattle.check_report.specs.declared.view.View.{View}

abbrev pub bytes_of : Form → Line → List ℕ
bytes_of (form.Text colour) line = text_line colour line
bytes_of form.Json line = json_line line
bytes_of (form.Annotations folder) line = annotation_line folder.now line
bytes_of (form.Page source_url) line = page_line source_url.now line

-- the second bytes are the first followed by these rows
abbrev pub Adds : Form → List ℕ → List ℕ → List Line → Type 0
Adds how out more lines = more ≡ out ++ flat_map (bytes_of how) lines

-- the bytes of a report
abbrev pub printed : Form → View → Contents → Findings → List ℕ
printed how view contents f = flat_map (bytes_of how) (rows_of view contents f)

-- the order of a report as text
abbrev pub text_order : Lists → Order
text_order lists = if lists.by_target then order.Target else order.File

-- as text by target or by file, with three locations of each target or with all, and with or without colour
abbrev pub printed_text : Bool → Contents → Findings → List ℕ
printed_text colour contents f = printed (form.Text colour) (record { order = text_order contents.lists; all = contents.lists.all }) contents f

-- as JSON, with all locations, as they are given
abbrev pub printed_json : Contents → Findings → List ℕ
printed_json contents f = printed form.Json (record { order = order.Given; all = true }) contents f

-- as GitHub annotations, with all locations, as they are given
abbrev pub printed_annotations : Contents → Findings → List ℕ
printed_annotations contents f = printed (form.Annotations contents.folder) (record { order = order.Given; all = true }) contents f

-- as JUnit XML, by file, with all locations
abbrev pub printed_junit : Contents → Findings → List ℕ
printed_junit contents f = junit contents.folder.now f.base_hint (ordered_targets order.File f.broken.now) (if_listed contents.lists.unlisted f.unlisted).now

-- as SARIF, by file, with all locations
abbrev pub printed_sarif : Contents → Findings → List ℕ
printed_sarif contents f = sarif contents f.base_hint (ordered_targets order.File f.broken.now) (if_listed contents.lists.unlisted f.unlisted).now

-- as an HTML page, by target, with all locations
abbrev pub printed_page : Contents → Findings → List ℕ
printed_page contents f = printed (form.Page contents.source_url) (record { order = order.Target; all = true }) contents f
