-- A row as a GitHub annotation.
use Rattle.std.specs.Prelude.{ℕ, ◌-◌, List, [], ◌++◌, codes, length, nat_lt, slice_get, string_bytes, if◌then◌else◌, bytes_eq}
use Rattle.check_report.specs.Escape.{escaped}
use Rattle.check_report.specs.Hints.{base_hint}
use Rattle.check_report.specs.Names.{target_in}
use Rattle.check_report.specs.Paths.{slash_after, without_here}
use Rattle.check_report.specs.Rows as line
use Rattle.check_report.specs.Rows.{Line}
use Rattle.check_report.specs.Text.{advised, counted, link_end, message}
use Rattle.check_report.specs.declared.escape.Escape.TheVariants as escape
use Rattle.check_report.specs.declared.row.Section.{Section}
use Rattle.check_report.specs.declared.row.Section.TheVariants as section
use Rattle.check_report.specs.declared.value.BaseHint.{BaseHint}
use Rattle.check_report.specs.declared.value.Broken.{Broken}
use Rattle.check_report.specs.declared.value.Place.{Place}

-- a hint at BASE, which is no error
abbrev pub hint_annotation : BaseHint → List ℕ
hint_annotation h = codes "::notice::" ++ base_hint escape.Data h ++ codes "\n"

-- the command up to the name of a file: with its folder and a slash, or without them for an empty name and for the current folder
abbrev pub file_start : List ℕ → List ℕ
file_start folder =
    if bytes_eq folder (codes ".") then codes "::error file=" else codes "::error file=" ++ escaped escape.Property folder ++ slash_after (slice_get folder (length folder - 1))

-- the file in its folder, the line and the column of a link, and its target and what is wrong with it
abbrev pub finding_at : Broken → Place → List ℕ
finding_at b p =
    escaped escape.Property (string_bytes p.file) ++ counted (codes ",line=") p.line ++ counted (codes ",col=") p.column ++ codes "::" ++ target_in escape.Data b ++ codes ": " ++ message b.kind

-- and the link as it is written, the note about its scheme, and what is suggested
abbrev pub place_annotation : List ℕ → Broken → Place → List ℕ
place_annotation folder b p = file_start (without_here folder) ++ finding_at b p ++ link_end escape.Data b p

-- a target without locations: what is wrong with it, and what is suggested
abbrev pub broken_annotation : Broken → List ℕ
broken_annotation b =
    if nat_lt 0 (length b.places.items) then [] else advised escape.Data b (codes "::error::" ++ target_in escape.Data b ++ codes ": " ++ message b.kind) ++ codes "\n"

-- a document that no sitemap lists
abbrev pub unlisted_annotation : List ℕ → List ℕ
unlisted_annotation document = codes "::error::" ++ escaped escape.Data document ++ codes ": not in a sitemap\n"

-- the annotation of a name in its section; names in other sections have none
abbrev pub name_annotation : Section → List ℕ → List ℕ
name_annotation section.Broken text = []
name_annotation section.Worst text = []
name_annotation section.Redirects text = []
name_annotation section.Unreached text = []
name_annotation section.Unlisted text = unlisted_annotation text
name_annotation section.External text = []
name_annotation section.Unused text = []

abbrev pub annotation_line : List ℕ → Line → List ℕ
annotation_line folder (line.total base totals counts) = []
annotation_line folder (line.hint h) = hint_annotation h
annotation_line folder (line.begin of_section) = []
annotation_line folder (line.finish of_section) = []
annotation_line folder (line.broken b) = broken_annotation b
annotation_line folder (line.place b p) = place_annotation folder b p
annotation_line folder (line.more count) = []
annotation_line folder (line.rest b count) = []
annotation_line folder (line.worst c) = []
annotation_line folder (line.redirect r) = []
annotation_line folder (line.external e) = []
annotation_line folder (line.name of_section text) = name_annotation of_section text
annotation_line folder line.last = []
