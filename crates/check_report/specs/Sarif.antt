-- A report as SARIF 2.1.0: a result for each broken link and for each document that no sitemap lists, and a notification of the hint at
-- BASE.
use Rattle.std.specs.Prelude.{ℕ, ◌==◌, true, List, [], ◌∷◌, ◌++◌, codes, decimal, length, map, String, string_bytes, if◌then◌else◌, Option, None, Some}
use Rattle.std.specs.Borrow.{Bor}
use Rattle.std.specs.declared.alloc.Global.{Global}
use Rattle.json.specs.Json.{Json, Items, Members, array, item, member, no_items, no_members, number, object, string}
use Rattle.json.specs.Print.{print}
use Rattle.json.specs.Token.{Token}
use Rattle.json.specs.Tree.{json_tokens}
use Rattle.shown_text.specs.Shown.{shown}
use Rattle.check_report.specs.Hints.{base_hint_text}
use Rattle.check_report.specs.Messages.{link_message, not_in_sitemap, rule_id, target_message, unlisted_message}
use Rattle.check_report.specs.Order.{bare_targets, links_by_file}
use Rattle.check_report.specs.Paths.{base_url, path_in, path_uri}
use Rattle.check_report.specs.declared.as_sarif.TheConstants.{HEAD}
use Rattle.check_report.specs.declared.value.BaseHint.{BaseHint}
use Rattle.check_report.specs.declared.value.Broken.{Broken}
use Rattle.check_report.specs.declared.value.Contents.{Contents}
use Rattle.check_report.specs.declared.value.Place.{Place}

-- the document up to the names of base URLs and to the results, with the tool and a rule for each kind of finding
unfoldable pub sarif_head : List ℕ
sarif_head = HEAD.now

-- an object with one member, a string
abbrev pub text_object : List ℕ → List ℕ → Json
text_object name text = object (member name (string text) no_members)

-- ---- a location

-- a file in the folder
abbrev pub folder_file : List ℕ → List ℕ → Json
folder_file folder file = text_object (codes "uri") (path_uri (path_in folder file))

-- a file of the sources
abbrev pub source_file : List ℕ → Json
source_file file = object (member (codes "uri") (string (path_uri file)) (member (codes "uriBaseId") (string (codes "SOURCES")) no_members))

-- the file, by the sources if their URL is given
abbrev pub artifact : Contents → List ℕ → Json
artifact contents file = if length contents.source_url.now == 0 then folder_file contents.folder.now file else source_file file

abbrev pub region : Place → Json
region p = object (member (codes "startLine") (number (decimal p.line)) (member (codes "startColumn") (number (decimal p.column)) no_members))

abbrev pub physical : Contents → Place → Json
physical contents p =
    object (member (codes "artifactLocation") (artifact contents (string_bytes p.file)) (member (codes "region") (region p) no_members))

abbrev pub location : Contents → Place → Json
location contents p = object (member (codes "physicalLocation") (physical contents p) no_members)

-- the member of a result with the location of its link
abbrev pub locations : Contents → Place → Members
locations contents p = member (codes "locations") (array (item (location contents p) no_items)) no_members

-- ---- results

-- the tokens of the start of a result: its rule, its level and its message
abbrev pub start_tokens : List ℕ → List ℕ → List Token
start_tokens rule text =
    Token.begin_object ∷ Token.key (codes "ruleId") ∷ Token.string rule ∷ Token.key (codes "level") ∷ Token.string (codes "error") ∷ Token.key (codes "message")
    ∷ json_tokens (text_object (codes "text") text)

abbrev pub result_start : List ℕ → List ℕ → Members → Members
result_start rule text rest =
    member (codes "ruleId") (string rule) (member (codes "level") (string (codes "error")) (member (codes "message") (text_object (codes "text") text) rest))

abbrev pub link_result : Contents → Broken × Place → Json
link_result contents link =
    object (result_start (rule_id link.0.kind) (shown (link_message link.0 link.1)) (locations contents link.1))

-- a target without locations
abbrev pub bare_result : Broken → Json
bare_result b = object (result_start (rule_id b.kind) (shown (target_message b)) no_members)

-- a document that no sitemap lists
abbrev pub unlisted_result : List ℕ → Json
unlisted_result document = object (result_start not_in_sitemap (shown (unlisted_message document)) no_members)

abbrev pub items_of : List Json → Items
items_of [] = no_items
items_of (json ∷ jsons) = item json (items_of jsons)

abbrev pub results : Contents → List Broken → List (String Global) → Json
results contents targets documents =
    array (items_of (map (link_result contents) (links_by_file true targets) ++ map bare_result (bare_targets targets) ++ map (λ document. unlisted_result (string_bytes document)) documents))

-- ---- the document

abbrev pub base_object : List ℕ → Json
base_object url = object (member (codes "SOURCES") (text_object (codes "uri") (base_url url)) no_members)

abbrev pub bases : List ℕ → List ℕ
bases url =
    if length url == 0 then []
    else codes "\"originalUriBaseIds\":" ++ print (json_tokens (base_object url)) ++ codes ","

-- a notification of the hint at BASE
abbrev pub notification : BaseHint → Json
notification h =
    object (member (codes "level") (string (codes "note")) (member (codes "message") (text_object (codes "text") (shown (base_hint_text h))) no_members))

unfoldable pub invocations_start : List ℕ
invocations_start = codes "\"invocations\":[{\"executionSuccessful\":true,\"toolConfigurationNotifications\":["

-- the member with the hint, which is about how the tool was called
abbrev pub hint_member : BaseHint → List ℕ
hint_member h = invocations_start ++ print (json_tokens (notification h)) ++ codes "]}],"

abbrev pub invocations : Option (Bor BaseHint) → List ℕ
invocations None = []
invocations (Some hint) = hint_member hint.now

-- the document up to the results
abbrev pub sarif_start : List ℕ → Option (Bor BaseHint) → List ℕ
sarif_start source_url hint = sarif_head ++ bases source_url ++ invocations hint ++ codes "\"results\":"

abbrev pub sarif : Contents → Option (Bor BaseHint) → List Broken → List (String Global) → List ℕ
sarif contents hint targets documents =
    sarif_start contents.source_url.now hint ++ print (json_tokens (results contents targets documents)) ++ codes "}]}\n"
