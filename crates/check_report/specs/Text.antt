-- A row of the text report.
use Rattle.std.specs.Prelude.{ℕ, ◌==◌, Bool, true, false, ◌||◌, List, [], ◌∷◌, ◌++◌, codes, length, nat_lt, decimal, string_bytes, if◌then◌else◌, Option, None, Some, option_map}
use Rattle.shown_text.specs.Shown.{shown}
use Rattle.check_report.specs.Escape.{escaped}
use Rattle.check_report.specs.Hints.{base_hint}
use Rattle.check_report.specs.Names.{ends_with_link, page_in, target_in}
use Rattle.check_report.specs.Rows as line
use Rattle.check_report.specs.Rows.{Line}
use Rattle.check_report.specs.Schemes.{scheme_note}
use Rattle.check_report.specs.declared.escape.Escape.{Escape}
use Rattle.check_report.specs.declared.escape.Escape.TheVariants as escape
use Rattle.check_report.specs.declared.row.Counts.{Counts}
use Rattle.check_report.specs.declared.row.Section.{Section}
use Rattle.check_report.specs.declared.row.Section.TheVariants as section
use Rattle.check_report.specs.declared.value.BaseHint.{BaseHint}
use Rattle.check_report.specs.declared.value.Broken.{Broken}
use Rattle.check_report.specs.declared.value.External.{External}
use Rattle.check_report.specs.declared.value.FileCount.{FileCount}
use Rattle.check_report.specs.declared.value.Kind.{Kind}
use Rattle.check_report.specs.declared.value.Kind.TheVariants.{NoPage, NoAnchor, NotUrl, UnknownScheme, LocalFile, Leaves, OutsideBase, NotInMap}
use Rattle.check_report.specs.declared.value.Place.{Place}
use Rattle.check_report.specs.declared.value.Redirect.{Redirect}
use Rattle.check_report.specs.declared.value.Totals.{Totals}

-- ---- colour

abbrev pub bold : List ℕ
bold = 27 ∷ codes "[1m"

abbrev pub red : List ℕ
red = 27 ∷ codes "[31m"

abbrev pub green : List ℕ
green = 27 ∷ codes "[32m"

abbrev pub plain : List ℕ
plain = 27 ∷ codes "[0m"

-- an escape code, if the report has colour
abbrev pub code : Bool → List ℕ → List ℕ
code true text = text
code false text = []

-- ---- lines

abbrev pub message : Kind → List ℕ
message NoPage = codes "no such page"
message NoAnchor = codes "no such anchor"
message NotUrl = codes "not a URL"
message UnknownScheme = codes "unknown scheme"
message LocalFile = codes "local file"
message Leaves = codes "leaves the folder"
message OutsideBase = codes "outside BASE on the same host, not checked"
message NotInMap = codes "no such page in the mapped folder"

abbrev pub same_name_text : Escape → Option (List ℕ) → List ℕ
same_name_text how None = []
same_name_text how (Some page) = codes " (did you mean " ++ page_in how page ++ codes "?)"

-- a word with the opening parenthesis, a text, and the closing parenthesis
abbrev pub bracketed : Escape → List ℕ → List ℕ → List ℕ
bracketed how word text = word ++ escaped how text ++ codes ")"

abbrev pub hint_text : Escape → Option (List ℕ) → List ℕ
hint_text how None = []
hint_text how (Some hint) = bracketed how (codes " (") hint

-- a text, and then the page that is suggested and the hint
abbrev pub advised : Escape → Broken → List ℕ → List ℕ
advised how b text = text ++ same_name_text how (option_map string_bytes b.same_name) ++ hint_text how (option_map string_bytes b.hint)

-- a word and the link as it is written, unless the name of its target ends with it
abbrev pub written_text : Escape → List ℕ → Broken → Option (List ℕ) → List ℕ
written_text how word b None = []
written_text how word b (Some link) = if ends_with_link how b link then [] else bracketed how word link

-- a blank and a note; nothing if the note is empty
abbrev pub noted : List ℕ → List ℕ → List ℕ
noted blank note = if length note == 0 then [] else blank ++ codes "(" ++ note ++ codes ")"

abbrev pub redirect_target : Escape → Option (List ℕ) → List ℕ
redirect_target how None = codes "-"
redirect_target how (Some page) = page_in how page

-- a word and a count
abbrev pub counted : List ℕ → ℕ → List ℕ
counted word n = word ++ decimal n

-- a word and a count if there is a count, otherwise nothing
abbrev pub counted_if : List ℕ → Option ℕ → List ℕ
counted_if word None = []
counted_if word (Some n) = counted word n

-- a word and a count if the count is not 0, otherwise nothing
abbrev pub counted_some : List ℕ → ℕ → List ℕ
counted_some word n = if n == 0 then [] else counted word n

-- the singular after the count 1, otherwise the plural
abbrev pub noun : ℕ → List ℕ → List ℕ → List ℕ
noun n one many = if n == 1 then one else many

-- a target, and what is wrong with it
abbrev pub target_start : Bool → Broken → List ℕ
target_start colour b = target_in escape.Shown b ++ codes ": " ++ code colour red ++ message b.kind ++ code colour plain

-- and what is suggested
abbrev pub target_text : Bool → Broken → List ℕ
target_text colour b = advised escape.Shown b (target_start colour b) ++ codes "\n"

-- a location, as compilers print it
abbrev pub place_head : Bool → Place → List ℕ
place_head colour p = code colour bold ++ shown (string_bytes p.file) ++ counted (codes ":") p.line ++ counted (codes ":") p.column ++ codes ": " ++ code colour plain

-- the link as it is written, and the note about its scheme
abbrev pub link_text : Escape → Broken → Place → List ℕ
link_text how b p = written_text how (codes " (written as ") b (option_map string_bytes p.written) ++ noted (codes " ") (scheme_note b p)

-- and what is suggested, to the end of the line
abbrev pub link_end : Escape → Broken → Place → List ℕ
link_end how b p = advised how b (link_text how b p) ++ codes "\n"

-- a location, the target of its link, and the link
abbrev pub place_text : Bool → Broken → Place → List ℕ
place_text colour b p = place_head colour p ++ target_start colour b ++ link_end escape.Shown b p

-- a target without locations has its own line
abbrev pub broken_text : Bool → Broken → List ℕ
broken_text colour b = if nat_lt 0 (length b.places.items) then [] else target_text colour b

-- whether something is missing or invalid, or leads out of the site. A page at which the check starts can be missing though no link leads to it
abbrev pub is_broken : Totals → Bool
is_broken t = nat_lt 0 t.broken_links || nat_lt 0 t.broken_urls || nat_lt 0 t.broken_anchors || nat_lt 0 t.invalid_links || nat_lt 0 t.leaving_links

-- red if something is wrong, otherwise green
abbrev pub verdict : Totals → List ℕ
verdict t = if is_broken t then red else green

-- the second line of the totals
abbrev pub broken_total : Bool → Totals → List ℕ
broken_total colour t =
    code colour (verdict t) ++ counted (codes "broken links ") t.broken_links ++ code colour plain
    ++ counted (codes ", missing pages ") t.broken_urls ++ counted (codes ", missing anchors ") t.broken_anchors
    ++ counted_some (codes ", invalid links ") t.invalid_links ++ counted_some (codes ", leaving links ") t.leaving_links ++ codes "\n"

-- the first line of the totals
abbrev pub site_total : Totals → Counts → List ℕ
site_total t c =
    counted (codes "pages ") t.pages ++ counted (codes ", other files ") t.files ++ counted (codes ", links ") t.links ++ counted (codes ", redirects ") t.moved
    ++ counted (codes ", aliases ") t.aliases ++ counted_if (codes ", unreached files ") c.unreached ++ counted_if (codes ", documents that no sitemap lists ") c.unlisted
    ++ counted_if (codes ", external URLs ") c.external ++ codes "\n"

unfoldable pub total_text : Bool → Totals → Counts → List ℕ
total_text colour t c = site_total t c ++ broken_total colour t

abbrev pub title : Section → List ℕ
title section.Broken = []
title section.Worst = codes "files with the most broken, invalid and leaving links:\n"
title section.Redirects = codes "links to redirects (not errors; in documents, --fix --dry-run shows where):\n"
title section.Unreached = codes "unreached files:\n"
title section.Unlisted = codes "documents that no sitemap lists (list them, or leave them out with --ignore):\n"
title section.External = codes "external links (not checked):\n"
title section.Unused = codes "unused --ignore entries:\n"

-- the hint at BASE
abbrev pub base_hint_line : BaseHint → List ℕ
base_hint_line h = base_hint escape.Shown h ++ codes "\n"

-- an empty line and the title
abbrev pub begin_text : Bool → Section → List ℕ
begin_text colour of_section = codes "\n" ++ code colour bold ++ title of_section ++ code colour plain

abbrev pub worst_text : FileCount → List ℕ
worst_text c = counted (codes "  ") c.links ++ codes " " ++ shown (string_bytes c.file) ++ codes "\n"

abbrev pub pages_noun : ℕ → List ℕ
pages_noun n = noun n (codes " page") (codes " pages")

-- a redirect, its target, and the number of pages that link to it
abbrev pub redirect_text : Redirect → List ℕ
redirect_text r =
    codes "  " ++ page_in escape.Shown (string_bytes r.page) ++ codes " -> " ++ redirect_target escape.Shown (option_map string_bytes r.target) ++ counted (codes " (linked from ") r.pages
    ++ pages_noun r.pages ++ codes ")\n"

-- the number of links to an external URL
abbrev pub external_text : External → List ℕ
external_text e = counted (codes "  ") e.links ++ codes " " ++ shown (string_bytes e.url) ++ codes "\n"

-- the text after this number of links that are not listed, with the option that lists them
abbrev pub more_links : ℕ → List ℕ
more_links n = noun n (codes " more link (--all-sources lists it)\n") (codes " more links (--all-sources lists them)\n")

abbrev pub more_text : ℕ → List ℕ
more_text count = counted (codes "  and ") count ++ more_links count

-- a target, what is wrong with it, and the number of its locations that are not listed
abbrev pub rest_text : Bool → Broken → ℕ → List ℕ
rest_text colour b count = target_start colour b ++ counted (codes ": ") count ++ more_links count

-- a name in a section: a page, or an entry of the ignore list as it is
abbrev pub name_in : Escape → Section → List ℕ → List ℕ
name_in how section.Broken text = escaped how text
name_in how section.Worst text = escaped how text
name_in how section.Redirects text = escaped how text
name_in how section.Unreached text = page_in how text
name_in how section.Unlisted text = page_in how text
name_in how section.External text = escaped how text
name_in how section.Unused text = escaped how text

abbrev pub name_text : Section → List ℕ → List ℕ
name_text of_section text = codes "  " ++ name_in escape.Shown of_section text ++ codes "\n"

abbrev pub text_line : Bool → Line → List ℕ
text_line colour (line.total base totals counts) = total_text colour totals counts
text_line colour (line.hint h) = base_hint_line h
text_line colour (line.begin of_section) = begin_text colour of_section
text_line colour (line.finish of_section) = []
text_line colour (line.broken b) = broken_text colour b
text_line colour (line.place b p) = place_text colour b p
text_line colour (line.more count) = more_text count
text_line colour (line.rest b count) = rest_text colour b count
text_line colour (line.worst c) = worst_text c
text_line colour (line.redirect r) = redirect_text r
text_line colour (line.external e) = external_text e
text_line colour (line.name of_section text) = name_text of_section text
text_line colour line.last = []
