-- The formats of a check's report.
use Rattle.std.specs.Prelude.{ℕ, Bool, true, false, List, codes, bytes_eq, Option, Some, None, if◌then◌else◌}
use Rattle.mercator_site.specs.declared.options.CheckForm.{CheckForm}
use Rattle.mercator_site.specs.declared.options.CheckForm.TheVariants as form

-- the format, for the value of `--format` and the format of a short form such as `--json`; none if the two differ
abbrev pub format_of : Option (List ℕ) → Option (List ℕ) → Option (List ℕ)
format_of None None = Some (codes "text")
format_of (Some name) None = Some name
format_of None (Some name) = Some name
format_of (Some name) (Some other) = if bytes_eq name other then Some name else None

-- the form of a report with this format, which has colour only as text
abbrev pub form_named : List ℕ → Bool → Option CheckForm
form_named format colour =
    if bytes_eq format (codes "text") then Some (form.Text colour)
    else if bytes_eq format (codes "json") then Some form.Json
    else if bytes_eq format (codes "html") then Some form.Page
    else if bytes_eq format (codes "github") then Some form.Annotations
    else if bytes_eq format (codes "junit") then Some form.Junit
    else if bytes_eq format (codes "sarif") then Some form.Sarif
    else None

-- a report of this form links locations to the source files
abbrev pub has_links : CheckForm → Bool
has_links form.Page = true
has_links form.Sarif = true
has_links other = false
