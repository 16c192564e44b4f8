-- A row of the HTML page. Untrusted texts are only in elements, and escaped.
use Rattle.std.specs.Prelude.{ℕ, ◌==◌, Bool, ◌&&◌, ◌||◌, List, [], ◌++◌, codes, length, nat_lt, string_bytes, if◌then◌else◌, Option, None, Some, option_map}
use Rattle.check_report.specs.Escape.{escaped}
use Rattle.check_report.specs.Hints.{base_hint}
use Rattle.check_report.specs.Names.{page_in, target_in}
use Rattle.check_report.specs.Rows as line
use Rattle.check_report.specs.Rows.{Line}
use Rattle.check_report.specs.Paths.{base_url, path_uri}
use Rattle.check_report.specs.Schemes.{scheme_note}
use Rattle.check_report.specs.Text.{advised, counted, is_broken, message, name_in, noted, noun, pages_noun, redirect_target, written_text}
use Rattle.check_report.specs.declared.as_page.parts.TheConstants.{HEAD, SCRIPT, STYLE, TAIL, TOOLS}
use Rattle.check_report.specs.declared.escape.Escape.TheVariants as escape
use Rattle.check_report.specs.declared.row.Counts.{Counts}
use Rattle.check_report.specs.declared.row.Section.{Section}
use Rattle.check_report.specs.declared.row.Section.TheVariants as section
use Rattle.check_report.specs.declared.value.BaseHint.{BaseHint}
use Rattle.check_report.specs.declared.value.Broken.{Broken}
use Rattle.check_report.specs.declared.value.External.{External}
use Rattle.check_report.specs.declared.value.FileCount.{FileCount}
use Rattle.check_report.specs.declared.value.Place.{Place}
use Rattle.check_report.specs.declared.value.Redirect.{Redirect}
use Rattle.check_report.specs.declared.value.Totals.{Totals}

-- ---- fixed texts

unfoldable pub head_part : List ℕ
head_part = HEAD.now

unfoldable pub style_part : List ℕ
style_part = STYLE.now

unfoldable pub script_part : List ℕ
script_part = SCRIPT.now

unfoldable pub tools_part : List ℕ
tools_part = TOOLS.now

unfoldable pub tail_part : List ℕ
tail_part = TAIL.now

-- ---- totals

abbrev pub html : List ℕ → List ℕ
html text = escaped escape.Html text

-- the title counts the broken links; if there are none, the missing pages, to which no link leads; if there are none, the invalid
-- links; if there are none, the links that lead out of the site
abbrev pub counts_links : Totals → Bool
counts_links t = nat_lt 0 t.broken_links || ((t.broken_urls == 0) && (t.invalid_links == 0) && (t.leaving_links == 0))

abbrev pub title_count : Totals → ℕ
title_count t =
    if counts_links t then t.broken_links else (if nat_lt 0 t.broken_urls then t.broken_urls else (if nat_lt 0 t.invalid_links then t.invalid_links else t.leaving_links))

-- what it counts
abbrev pub title_noun : Totals → List ℕ
title_noun t =
    if counts_links t then noun t.broken_links (codes " broken link") (codes " broken links")
    else (if nat_lt 0 t.broken_urls then noun t.broken_urls (codes " missing page") (codes " missing pages")
    else (if nat_lt 0 t.invalid_links then noun t.invalid_links (codes " invalid link") (codes " invalid links") else noun t.leaving_links (codes " leaving link") (codes " leaving links")))

abbrev pub verdict_start : Totals → List ℕ
verdict_start t = if is_broken t then codes "</p>\n<h1 class=bad><b>" else codes "</p>\n<h1 class=good><b>"

-- the page up to the list of counts, with the title and the heading
abbrev pub page_start : List ℕ → Totals → List ℕ
page_start base t =
    counted head_part (title_count t) ++ title_noun t ++ codes " - " ++ html base ++ style_part ++ script_part ++ html base ++ counted (verdict_start t) (title_count t) ++ codes "</b>"
    ++ title_noun t ++ codes "</h1>\n<ul>\n"

-- an item in the list of totals
abbrev pub total_item : List ℕ → ℕ → List ℕ
total_item word n = counted word n ++ codes "</b></li>\n"

-- an item if the count is not 0, otherwise nothing
abbrev pub item_some : List ℕ → ℕ → List ℕ
item_some word n = if n == 0 then [] else total_item word n

-- an item if there is a count, otherwise nothing
abbrev pub item_if : List ℕ → Option ℕ → List ℕ
item_if word None = []
item_if word (Some n) = total_item word n

-- the list of counts, and the form after it
abbrev pub count_items : Totals → Counts → List ℕ
count_items t c =
    total_item (codes "<li>pages <b>") t.pages ++ total_item (codes "<li>other files <b>") t.files ++ total_item (codes "<li>links <b>") t.links ++ total_item (codes "<li>redirects <b>") t.moved
    ++ total_item (codes "<li>other URLs of pages <b>") t.aliases ++ total_item (codes "<li>missing pages <b>") t.broken_urls ++ total_item (codes "<li>missing anchors <b>") t.broken_anchors
    ++ item_some (codes "<li>invalid links <b>") t.invalid_links ++ item_some (codes "<li>leaving links <b>") t.leaving_links ++ item_if (codes "<li>unreached files <b>") c.unreached
    ++ item_if (codes "<li>documents that no sitemap lists <b>") c.unlisted ++ item_if (codes "<li>external URLs <b>") c.external ++ tools_part

unfoldable pub page_total : List ℕ → Totals → Counts → List ℕ
page_total base t c = page_start base t ++ count_items t c

-- ---- sections

abbrev pub hint_paragraph : BaseHint → List ℕ
hint_paragraph h = codes "<p>" ++ base_hint escape.Html h ++ codes "</p>\n"

abbrev pub section_start : Section → List ℕ
section_start section.Broken = codes "<section id=broken aria-labelledby=h-broken>\n<h2 id=h-broken>Broken links</h2>\n<pre class=plain>\n"
section_start section.Worst = codes "<section id=worst aria-labelledby=h-worst>\n<h2 id=h-worst>Files with the most broken, invalid and leaving links</h2>\n<pre>\n"
section_start section.Redirects = codes "<section id=redirects aria-labelledby=h-redirects>\n<h2 id=h-redirects>Links to redirects (not errors; in documents, --fix --dry-run shows where)</h2>\n<pre>\n"
section_start section.Unreached = codes "<section id=unreached aria-labelledby=h-unreached>\n<h2 id=h-unreached>Unreached files</h2>\n<pre>\n"
section_start section.Unlisted = codes "<section id=unlisted aria-labelledby=h-unlisted>\n<h2 id=h-unlisted>Documents that no sitemap lists</h2>\n<pre>\n"
section_start section.External = codes "<section id=external aria-labelledby=h-external>\n<h2 id=h-external>External links (not checked)</h2>\n<pre>\n"
section_start section.Unused = codes "<section id=unused aria-labelledby=h-unused>\n<h2 id=h-unused>Unused --ignore entries</h2>\n<pre>\n"

-- ---- rows

abbrev pub broken_row : Broken → List ℕ
broken_row b = advised escape.Html b (codes "<b>" ++ target_in escape.Html b ++ codes "</b>\t" ++ message b.kind) ++ codes "\n"

-- a tab, and the start of a link up to the URL of the sources
abbrev pub source_start : List ℕ → List ℕ
source_start source_url = codes "\t<a href=\"" ++ html (base_url source_url)

-- the path of a file, a line in it, and the end of the start tag
abbrev pub source_line : Place → List ℕ
source_line p = html (path_uri (string_bytes p.file)) ++ counted (codes "#L") p.line ++ codes "\">"

-- a tab, and the start of the link of a location to its sources, if there is one
abbrev pub link_start : List ℕ → Place → List ℕ
link_start source_url p = if length source_url == 0 then codes "\t" else source_start source_url ++ source_line p

-- the end of that link
abbrev pub link_end : List ℕ → List ℕ
link_end source_url = if length source_url == 0 then [] else codes "</a>"

-- a location, the link as it is written, and the note about its scheme
abbrev pub place_row : List ℕ → Broken → Place → List ℕ
place_row source_url b p =
    link_start source_url p ++ html (string_bytes p.file) ++ counted (codes ":") p.line ++ counted (codes ":") p.column ++ link_end source_url
    ++ written_text escape.Html (codes "\t(written as ") b (option_map string_bytes p.written) ++ noted (codes "\t") (scheme_note b p) ++ codes "\n"

abbrev pub worst_row : FileCount → List ℕ
worst_row c = html (string_bytes c.file) ++ counted (codes "\t") c.links ++ codes "\n"

abbrev pub redirect_row : Redirect → List ℕ
redirect_row r =
    page_in escape.Html (string_bytes r.page) ++ codes "\tto " ++ redirect_target escape.Html (option_map string_bytes r.target) ++ counted (codes "\tlinked from ") r.pages ++ pages_noun r.pages ++ codes "\n"

abbrev pub external_row : External → List ℕ
external_row e = html (string_bytes e.url) ++ counted (codes "\t") e.links ++ codes "\n"

abbrev pub page_line : List ℕ → Line → List ℕ
page_line source_url (line.total base totals counts) = page_total base totals counts
page_line source_url (line.hint h) = hint_paragraph h
page_line source_url (line.begin of_section) = section_start of_section
page_line source_url (line.finish of_section) = codes "</pre>\n</section>\n"
page_line source_url (line.broken b) = broken_row b
page_line source_url (line.place b p) = place_row source_url b p
page_line source_url (line.more count) = []
page_line source_url (line.rest b count) = []
page_line source_url (line.worst c) = worst_row c
page_line source_url (line.redirect r) = redirect_row r
page_line source_url (line.external e) = external_row e
page_line source_url (line.name of_section text) = name_in escape.Html of_section text ++ codes "\n"
page_line source_url line.last = tail_part
