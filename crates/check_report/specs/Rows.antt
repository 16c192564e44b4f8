-- The rows of a report, in order.
use Rattle.std.specs.Prelude.{ℕ, ◌-◌, Bool, true, false, List, [], ◌∷◌, ◌++◌, length, map, nat_lt, String, string_bytes, if◌then◌else◌, Option, None, Some, flat_map, option_map}
use Rattle.std.specs.Borrow.{Bor}
use Rattle.std.specs.declared.alloc.Global.{Global}
use Rattle.check_report.specs.Order.{links_by_file, ordered_places, ordered_targets, places_limit, shown_places}
use Rattle.check_report.specs.declared.value.BaseHint.{BaseHint}
use Rattle.check_report.specs.declared.value.Broken.{Broken}
use Rattle.check_report.specs.declared.value.External.{External}
use Rattle.check_report.specs.declared.value.FileCount.{FileCount}
use Rattle.check_report.specs.declared.value.Findings.{Findings}
use Rattle.check_report.specs.declared.value.Lists.{Lists}
use Rattle.check_report.specs.declared.value.Place.{Place}
use Rattle.check_report.specs.declared.value.Redirect.{Redirect}
use Rattle.check_report.specs.declared.value.Contents.{Contents}
use Rattle.check_report.specs.declared.value.Totals.{Totals}
use Rattle.check_report.specs.declared.row.Counts.{Counts}
use Rattle.check_report.specs.declared.row.Section.{Section}
use Rattle.check_report.specs.declared.row.Section.TheVariants as section
use Rattle.check_report.specs.declared.row.Row.{Row}
use Rattle.check_report.specs.declared.row.Row.TheVariants as row
use Rattle.check_report.specs.declared.view.Order.{Order}
use Rattle.check_report.specs.declared.view.Order.TheVariants as order
use Rattle.check_report.specs.declared.view.View.{View}

-- a row
pub data Line : Type 0 where
  -- the site and the counts
  total : List ℕ → Totals → Counts → Line
  -- a hint at a missing BASE
  hint : BaseHint → Line
  -- the start and the end of a section that has rows
  begin : Section → Line
  finish : Section → Line
  broken : Broken → Line
  -- a broken link: its target and its location
  place : Broken → Place → Line
  -- the number of locations of a target that are not listed, after those that are
  more : ℕ → Line
  -- a target and the number of its locations that are not listed
  rest : Broken → ℕ → Line
  worst : FileCount → Line
  redirect : Redirect → Line
  external : External → Line
  -- a name or an entry in a section
  name : Section → List ℕ → Line
  last : Line

-- the row of a value of the program
abbrev pub line_of : Row → Line
line_of (row.Total base totals counts) = total base.now totals counts
line_of (row.Hint at) = hint at.now
line_of (row.Begin of_section) = begin of_section
line_of (row.Finish of_section) = finish of_section
line_of (row.Broken target) = broken target.now
line_of (row.Place target at) = place target.now at.now
line_of (row.More count) = more count
line_of (row.Rest target count) = rest target.now count
line_of (row.Worst count) = worst count.now
line_of (row.Redirect page) = redirect page.now
line_of (row.External url) = external url.now
line_of (row.Name of_section text) = name of_section text.now
line_of row.Last = last

-- ---- broken links

-- a line for the number of locations that are not listed, if there are any
abbrev pub left_out : Bool → (ℕ → Line) → ℕ → List Line
left_out true line places = []
left_out false line places = if nat_lt places_limit places then line (places - places_limit) ∷ [] else []

-- ---- by target

abbrev pub place_lines : Broken → List Place → List Line
place_lines target places = map (place target) places

abbrev pub target_lines : View → Broken → List Line
target_lines view target =
    broken target ∷ place_lines target (shown_places view.all (ordered_places view.order target.places.items)) ++ left_out view.all more (length target.places.items)

-- ---- by file

abbrev pub link_line : Broken × Place → Line
link_line link = place link.0 link.1

-- a target without locations
abbrev pub bare_lines : Broken → List Line
bare_lines target = if nat_lt 0 (length target.places.items) then [] else broken target ∷ []

-- a target of which not all locations are listed
abbrev pub rest_lines : Bool → Broken → List Line
rest_lines all target = left_out all (rest target) (length target.places.items)

-- the links, then the targets without locations, then those of which not all locations are listed
abbrev pub file_lines : Bool → List Broken → List Line
file_lines all targets = map link_line (links_by_file all targets) ++ flat_map bare_lines targets ++ flat_map (rest_lines all) targets

-- ---- in each order

abbrev pub lines_in : Order → View → List Broken → List Line
lines_in order.Given view targets = flat_map (target_lines view) targets
lines_in order.Target view targets = flat_map (target_lines view) targets
lines_in order.File view targets = file_lines view.all targets

abbrev pub broken_lines : View → List Broken → List Line
broken_lines view targets = lines_in view.order view (ordered_targets view.order targets)

-- ---- the report

-- the line if there are rows, otherwise nothing
abbrev pub edge : ℕ → Line → List Line
edge rows line = if nat_lt 0 rows then line ∷ [] else []

-- the lines of a section, with its start and end if it has rows
abbrev pub in_section : Section → ℕ → List Line → List Line
in_section of_section rows lines = edge rows (begin of_section) ++ lines ++ edge rows (finish of_section)

abbrev pub broken_section : View → List Broken → List Line
broken_section view targets = in_section section.Broken (length targets) (broken_lines view targets)

abbrev pub worst_section : List FileCount → List Line
worst_section counts = in_section section.Worst (length counts) (map worst counts)

abbrev pub redirect_section : List Redirect → List Line
redirect_section pages = in_section section.Redirects (length pages) (map redirect pages)

abbrev pub name_section : Section → List (String Global) → List Line
name_section of_section texts = in_section of_section (length texts) (map (λ text. name of_section (string_bytes text)) texts)

abbrev pub external_section : List External → List Line
external_section urls = in_section section.External (length urls) (map external urls)

-- the rows if they are listed, otherwise none
abbrev pub if_listed : {T : Type 0} → Bool → Bor (List T) → Bor (List T)
if_listed true rows = rows
if_listed false rows = record { ref_ptr = rows.ref_ptr; now = [] }

-- the findings with the lists that a report has; the others are empty
abbrev pub listed : Lists → Findings → Findings
listed lists f = record {
  base = f.base;
  totals = f.totals;
  broken = f.broken;
  worst = f.worst;
  redirects = f.redirects;
  unreached = if_listed lists.unreached f.unreached;
  unlisted = if_listed lists.unlisted f.unlisted;
  unused_ignores = f.unused_ignores;
  base_hint = f.base_hint;
}

abbrev pub count_if : Bool → ℕ → Option ℕ
count_if true count = Some count
count_if false count = None

-- the optional counts: those of the lists that the report has
abbrev pub counts_of : Contents → Findings → Counts
counts_of contents f = record {
  unreached = count_if contents.lists.unreached (length f.unreached.now);
  unlisted = count_if contents.lists.unlisted (length f.unlisted.now);
  external = option_map (λ urls. length urls.now) contents.external;
}

abbrev pub or_none : Option (List External) → List External
or_none None = []
or_none (Some urls) = urls

abbrev pub external_of : Contents → List External
external_of contents = or_none (option_map (λ urls. urls.now) contents.external)

-- the hint, if there is one
abbrev pub hint_lines : Option (Bor BaseHint) → List Line
hint_lines None = []
hint_lines (Some at) = hint at.now ∷ []

-- the lists of other things than broken links, and the end
abbrev pub other_rows : List External → Findings → List Line
other_rows urls f =
    redirect_section f.redirects.now ++ name_section section.Unreached f.unreached.now ++ name_section section.Unlisted f.unlisted.now ++ external_section urls
    ++ name_section section.Unused f.unused_ignores.now ++ last ∷ []

-- the hint, and the sections of these findings and external links
abbrev pub sections_of : View → List External → Findings → List Line
sections_of view urls f = hint_lines f.base_hint ++ broken_section view f.broken.now ++ worst_section f.worst.now ++ other_rows urls f

abbrev pub rows_of : View → Contents → Findings → List Line
rows_of view contents f = total f.base.now f.totals (counts_of contents f) ∷ sections_of view (external_of contents) (listed contents.lists f)
