-- A report as JUnit XML: a test suite for each file with broken links, and a failed test case for each link and for each document that
-- no sitemap lists. A hint at BASE is a test case that was skipped.
use Rattle.std.specs.Prelude.{ℕ, zero, suc, ◌==◌, Bool, true, ◌||◌, List, [], ◌∷◌, ◌++◌, bytes_eq, chars, codes, decimal, flat_map, length, nat_lt, String, string_bytes, if◌then◌else◌, Option, None, Some}
use Rattle.std.specs.Borrow.{Bor}
use Rattle.std.specs.List.{take_while}
use Rattle.std.specs.declared.alloc.Global.{Global}
use Rattle.check_report.specs.Escape.{html_char}
use Rattle.check_report.specs.Hints.{base_hint_text}
use Rattle.check_report.specs.Messages.{link_message, not_in_sitemap, rule_id, target_message, unlisted_message}
use Rattle.check_report.specs.Names.{page_name, target_name}
use Rattle.check_report.specs.Paths.{path_in}
use Rattle.check_report.specs.Order.{bare_targets, links_by_file}
use Rattle.check_report.specs.Text.{counted}
use Rattle.check_report.specs.declared.value.BaseHint.{BaseHint}
use Rattle.check_report.specs.declared.value.Broken.{Broken}
use Rattle.check_report.specs.declared.value.Place.{Place}

-- ---- texts

-- XML 1.0 allows neither U+FFFE nor U+FFFF, and no control characters, which are escaped in HTML too
abbrev pub xml_char : ℕ → List ℕ
xml_char c = if c == 65534 then codes "\\u{fffe}" else (if c == 65535 then codes "\\u{ffff}" else html_char c)

unfoldable pub xml : List ℕ → List ℕ
xml text = flat_map xml_char (chars text)

-- an attribute, with the space before it
unfoldable pub attribute : List ℕ → List ℕ → List ℕ
attribute name text = codes " " ++ name ++ codes "=\"" ++ xml text ++ codes "\""

-- ---- test cases

-- the start of a test case: its name and its class
unfoldable pub case_start : List ℕ → List ℕ → List ℕ
case_start name class = codes "<testcase" ++ attribute (codes "name") name ++ attribute (codes "classname") class

-- what failed, and the end of the test case
unfoldable pub failure : List ℕ → List ℕ → List ℕ
failure rule message =
    codes "><failure" ++ attribute (codes "type") rule ++ attribute (codes "message") message ++ codes ">" ++ xml message ++ codes "</failure></testcase>\n"

-- the line and the column of a link
abbrev pub position : Place → List ℕ
position p = decimal p.line ++ codes ":" ++ decimal p.column ++ codes ": "

-- the name of a link's test case
abbrev pub case_name : Broken → Place → List ℕ
case_name b p = position p ++ target_name b

-- a link, with the path of its file
abbrev pub link_case : List ℕ → Broken × Place → List ℕ
link_case folder link =
    case_start (case_name link.0 link.1) (string_bytes link.1.file) ++ attribute (codes "file") (path_in folder (string_bytes link.1.file))
    ++ failure (rule_id link.0.kind) (link_message link.0 link.1)

-- the class of targets without locations
abbrev pub no_file : List ℕ
no_file = codes "no file"

abbrev pub bare_case : Broken → List ℕ
bare_case b = case_start (target_name b) no_file ++ failure (rule_id b.kind) (target_message b)

-- the class of documents that no sitemap lists
abbrev pub sitemap : List ℕ
sitemap = codes "sitemap"

abbrev pub unlisted_case : List ℕ → List ℕ
unlisted_case document = case_start (page_name document) sitemap ++ failure not_in_sitemap (unlisted_message document)

-- ---- test suites

unfoldable pub suite_start : List ℕ → ℕ → List ℕ
suite_start name count =
    codes "<testsuite" ++ attribute (codes "name") name ++ counted (codes " tests=\"") count ++ counted (codes "\" failures=\"") count ++ codes "\" errors=\"0\">\n"

abbrev pub suite_end : List ℕ
suite_end = codes "</testsuite>\n"

abbrev pub is_in : Place → Broken × Place → Bool
is_in p link = bytes_eq (string_bytes link.1.file) (string_bytes p.file)

-- the suite of links in one file
abbrev pub file_suite : List ℕ → Place → List (Broken × Place) → List ℕ
file_suite folder p links = suite_start (string_bytes p.file) (length links) ++ flat_map (link_case folder) links ++ suite_end

-- the number of links up to the first one in another file than the first
abbrev pub suite_len : List (Broken × Place) → ℕ
suite_len [] = 0
suite_len (link ∷ links) = length (take_while (is_in link.1) (link ∷ links))

-- the suite of these links, which are in one file
abbrev pub first_suite : List ℕ → List (Broken × Place) → List ℕ
first_suite folder [] = []
first_suite folder (link ∷ links) = file_suite folder link.1 (link ∷ links)

-- the suites of the links after this number of them: the first one has all links up to the first in another file
abbrev pub suites_from : List ℕ → ℕ → List (Broken × Place) → List ℕ
suites_from folder skipped [] = []
suites_from folder (suc skipped) (link ∷ links) = suites_from folder skipped links
suites_from folder zero (link ∷ links) =
    file_suite folder link.1 (link ∷ take_while (is_in link.1) links) ++ suites_from folder (length (take_while (is_in link.1) links)) links

abbrev pub bare_suite : List Broken → List ℕ
bare_suite targets = if nat_lt 0 (length targets) then suite_start no_file (length targets) ++ flat_map bare_case targets ++ suite_end else []

-- the test cases of these documents
abbrev pub unlisted_cases : List (String Global) → List ℕ
unlisted_cases documents = flat_map (λ document. unlisted_case (string_bytes document)) documents

abbrev pub unlisted_suite : List (String Global) → List ℕ
unlisted_suite documents = if nat_lt 0 (length documents) then suite_start sitemap (length documents) ++ unlisted_cases documents ++ suite_end else []

-- one suite with a test case that passed, so that a good report is not an empty one
abbrev pub good_suite : List ℕ
good_suite = codes "<testsuite name=\"links\" tests=\"1\" failures=\"0\" errors=\"0\">\n<testcase name=\"no broken links\" classname=\"links\"/>\n</testsuite>\n"

abbrev pub suites : List ℕ → List Broken → List (String Global) → List ℕ
suites folder targets documents =
    if nat_lt 0 (length targets) || nat_lt 0 (length documents)
    then suites_from folder 0 (links_by_file true targets) ++ bare_suite (bare_targets targets) ++ unlisted_suite documents
    else good_suite

-- ---- the hint at BASE

-- the suite of the hint
unfoldable pub skipped_suite : List ℕ → List ℕ
skipped_suite text =
    codes "<testsuite name=\"hint\" tests=\"1\" failures=\"0\" errors=\"0\" skipped=\"1\">\n<testcase name=\"BASE\" classname=\"hint\"><skipped" ++ attribute (codes "message") text
    ++ codes "/></testcase>\n</testsuite>\n"

abbrev pub hint_suite : Option (Bor BaseHint) → List ℕ
hint_suite None = []
hint_suite (Some hint) = skipped_suite (base_hint_text hint.now)

-- ---- the document

-- the start of the document, and the hint if there is one
abbrev pub junit_start : Option (Bor BaseHint) → List ℕ
junit_start hint = codes "<?xml version=\"1.0\" encoding=\"UTF-8\"?>\n<testsuites name=\"mercator check\">\n" ++ hint_suite hint

abbrev pub junit : List ℕ → Option (Bor BaseHint) → List Broken → List (String Global) → List ℕ
junit folder hint targets documents = junit_start hint ++ suites folder targets documents ++ codes "</testsuites>\n"
