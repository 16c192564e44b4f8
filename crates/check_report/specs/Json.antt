-- A row as a JSON object on its own line.
use Rattle.std.specs.Prelude.{ℕ, Bool, true, false, List, [], ◌∷◌, ◌++◌, codes, decimal, string_bytes, if◌then◌else◌, Option, None, Some, option_map}
use Rattle.json.specs.Json.{Json, null, string, number, object, Members, no_members, member}
use Rattle.json.specs.Print.{print}
use Rattle.json.specs.Tree.{json_tokens}
use Rattle.check_report.specs.Rows as line
use Rattle.check_report.specs.Rows.{Line}
use Rattle.check_report.specs.Schemes.{scheme_note}
use Rattle.check_report.specs.declared.row.Counts.{Counts}
use Rattle.check_report.specs.declared.row.Section.{Section}
use Rattle.check_report.specs.declared.row.Section.TheVariants as section
use Rattle.check_report.specs.declared.value.Broken.{Broken}
use Rattle.check_report.specs.declared.value.Kind.{Kind}
use Rattle.check_report.specs.declared.value.Kind.TheVariants.{NoPage, NoAnchor, NotUrl, UnknownScheme, LocalFile, Leaves, OutsideBase, NotInMap}
use Rattle.check_report.specs.declared.value.Place.{Place}
use Rattle.check_report.specs.declared.value.Totals.{Totals}

-- ---- members

abbrev pub text_at : List ℕ → List ℕ → Members → Members
text_at key text rest = member key (string text) rest

abbrev pub count_at : List ℕ → ℕ → Members → Members
count_at key count rest = member key (number (decimal count)) rest

-- a count if there is one, otherwise nothing
abbrev pub count_if_at : List ℕ → Option ℕ → Members → Members
count_if_at key None rest = rest
count_if_at key (Some count) rest = count_at key count rest

-- a text if it is not empty, otherwise nothing
abbrev pub text_if_any_at : List ℕ → List ℕ → Members → Members
text_if_any_at key [] rest = rest
text_if_any_at key (first ∷ text) rest = text_at key (first ∷ text) rest

-- a text, or `null` if there is none
abbrev pub text_or_null : Option (List ℕ) → Json
text_or_null None = null
text_or_null (Some text) = string text

abbrev pub kind : List ℕ → Members → Members
kind word rest = text_at (codes "kind") word rest

-- ---- rows

-- whether a page or an anchor is missing
abbrev pub is_missing : Kind → Bool
is_missing NoPage = true
is_missing NoAnchor = true
is_missing NotUrl = false
is_missing UnknownScheme = false
is_missing LocalFile = false
is_missing Leaves = false
is_missing OutsideBase = false
is_missing NotInMap = false

-- whether the link leads out of the site
abbrev pub is_leaving : Kind → Bool
is_leaving NoPage = false
is_leaving NoAnchor = false
is_leaving NotUrl = false
is_leaving UnknownScheme = false
is_leaving LocalFile = false
is_leaving Leaves = true
is_leaving OutsideBase = true
is_leaving NotInMap = true

-- whether the row of the target has a hint
abbrev pub has_hint : Kind → Bool
has_hint NoPage = true
has_hint NoAnchor = true
has_hint NotUrl = false
has_hint UnknownScheme = false
has_hint LocalFile = false
has_hint Leaves = false
has_hint OutsideBase = false
has_hint NotInMap = true

-- whether a page can be suggested for the target
abbrev pub has_page : Kind → Bool
has_page NoPage = true
has_page NoAnchor = true
has_page NotUrl = false
has_page UnknownScheme = false
has_page LocalFile = false
has_page Leaves = false
has_page OutsideBase = true
has_page NotInMap = false

-- the kind of the row of a target
abbrev pub target_kind : Kind → List ℕ
target_kind k = if is_missing k then codes "broken" else (if is_leaving k then codes "leaving" else codes "invalid")

-- the kind of the row of a location of a link to such a target
abbrev pub place_kind : Kind → List ℕ
place_kind k = if is_missing k then codes "place" else (if is_leaving k then codes "leaving_place" else codes "invalid_place")

-- the name of the member that says what is wrong
abbrev pub wrong_key : Kind → List ℕ
wrong_key k = if is_missing k then codes "missing" else codes "reason"

-- what is wrong, in a word
abbrev pub wrong_word : Kind → List ℕ
wrong_word NoPage = codes "page"
wrong_word NoAnchor = codes "anchor"
wrong_word NotUrl = codes "not_url"
wrong_word UnknownScheme = codes "unknown_scheme"
wrong_word LocalFile = codes "local_file"
wrong_word Leaves = codes "above_folder"
wrong_word OutsideBase = codes "outside_base"
wrong_word NotInMap = codes "not_in_map"

-- the line and the column, and the link as it is written, or `null`
abbrev pub place_counts : Place → Members → Members
place_counts p rest =
    count_at (codes "line") p.line (count_at (codes "column") p.column (member (codes "written") (text_or_null (option_map string_bytes p.written)) rest))

-- the question about the link, if there is one
abbrev pub question_at : Broken → Place → Members → Members
question_at b p rest = text_if_any_at (codes "question") (scheme_note b p) rest

-- the target and what is wrong
abbrev pub target_at : Broken → Members → Members
target_at b rest = text_at (codes "target") (string_bytes b.target) (text_at (wrong_key b.kind) (wrong_word b.kind) rest)

-- the page that is suggested, or `null`; nothing if none can be suggested for such a target
abbrev pub same_name_at : Broken → Members → Members
same_name_at b rest = if has_page b.kind then member (codes "same_name") (text_or_null (option_map string_bytes b.same_name)) rest else rest

-- the hint, or `null`; nothing if the kind of the target has none
abbrev pub hint_at : Broken → Members → Members
hint_at b rest = if has_hint b.kind then member (codes "hint") (text_or_null (option_map string_bytes b.hint)) rest else rest

-- the kind of the rows in a section
abbrev pub row_kind : Section → List ℕ
row_kind section.Broken = codes "broken"
row_kind section.Worst = codes "worst"
row_kind section.Redirects = codes "redirect"
row_kind section.Unreached = codes "unreached"
row_kind section.Unlisted = codes "unlisted"
row_kind section.External = codes "external"
row_kind section.Unused = codes "unused"

-- the counts of broken links, invalid links and links that lead out of the site
abbrev pub broken_counts : Totals → Members
broken_counts t =
    count_at (codes "broken") t.broken_links (count_at (codes "missing_pages") t.broken_urls (count_at (codes "missing_anchors") t.broken_anchors
    (count_at (codes "invalid") t.invalid_links (count_at (codes "leaving") t.leaving_links no_members))))

-- the optional counts, and then the counts of broken links, invalid links and links that lead out of the site
abbrev pub optional_counts : Totals → Counts → Members
optional_counts t c = count_if_at (codes "unreached") c.unreached (count_if_at (codes "unlisted") c.unlisted (count_if_at (codes "external") c.external (broken_counts t)))

-- the counts of the documents, the other files, the aliases, the links and the redirects
abbrev pub site_counts : Totals → Members → Members
site_counts t rest =
    count_at (codes "pages") t.pages (count_at (codes "files") t.files (count_at (codes "aliases") t.aliases (count_at (codes "links") t.links
    (count_at (codes "redirects") t.moved rest))))

abbrev pub total_members : List ℕ → Totals → Counts → Members
total_members base t c =
    kind (codes "total") (text_at (codes "base") base (site_counts t (optional_counts t c)))

abbrev pub members_of : Line → Members
members_of (line.total base totals counts) = total_members base totals counts
members_of (line.hint h) =
    kind (codes "hint") (text_at (codes "base") (string_bytes h.folder) (count_at (codes "paths") h.paths (count_at (codes "of") h.of no_members)))
members_of (line.begin of_section) = no_members
members_of (line.finish of_section) = no_members
members_of (line.broken b) =
    kind (target_kind b.kind) (target_at b (count_at (codes "pages") b.pages (same_name_at b (hint_at b no_members))))
members_of (line.place b p) =
    kind (place_kind b.kind) (target_at b (text_at (codes "file") (string_bytes p.file) (place_counts p (question_at b p no_members))))
members_of (line.rest b count) = no_members
members_of (line.more count) = kind (codes "more") (count_at (codes "places") count no_members)
members_of (line.worst c) = kind (codes "worst") (text_at (codes "file") (string_bytes c.file) (count_at (codes "links") c.links no_members))
members_of (line.redirect r) =
    kind (codes "redirect") (text_at (codes "page") (string_bytes r.page) (member (codes "to") (text_or_null (option_map string_bytes r.target)) (count_at (codes "pages") r.pages no_members)))
members_of (line.external e) = kind (codes "external") (text_at (codes "url") (string_bytes e.url) (count_at (codes "links") e.links no_members))
members_of (line.name of_section text) = kind (row_kind of_section) (text_at (codes "name") text no_members)
members_of line.last = no_members

-- whether the row has an object
abbrev pub is_object : Line → Bool
is_object (line.total base totals counts) = true
is_object (line.hint h) = true
is_object (line.begin of_section) = false
is_object (line.finish of_section) = false
is_object (line.broken b) = true
is_object (line.place b p) = true
is_object (line.more count) = true
is_object (line.rest b count) = false
is_object (line.worst c) = true
is_object (line.redirect r) = true
is_object (line.external e) = true
is_object (line.name of_section text) = true
is_object line.last = false

-- an object without spaces, and LF
unfoldable pub object_line : Members → List ℕ
object_line members = print (json_tokens (object members)) ++ 10 ∷ []

abbrev pub json_line : Line → List ℕ
json_line line = if is_object line then object_line (members_of line) else []
