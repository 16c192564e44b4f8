-- The messages about findings in JUnit XML and SARIF.
use Rattle.std.specs.Prelude.{List, [], ◌++◌, ℕ, codes, string_bytes, if◌then◌else◌, Option, None, Some, option_map}
use Rattle.check_report.specs.Names.{ends_with_link, page_name, target_name}
use Rattle.check_report.specs.Schemes.{scheme_note}
use Rattle.check_report.specs.Text.{message, noted}
use Rattle.check_report.specs.declared.escape.Escape.TheVariants as escape
use Rattle.check_report.specs.declared.value.Broken.{Broken}
use Rattle.check_report.specs.declared.value.Kind.{Kind}
use Rattle.check_report.specs.declared.value.Kind.TheVariants.{NoPage, NoAnchor, NotUrl, UnknownScheme, LocalFile, Leaves, OutsideBase, NotInMap}
use Rattle.check_report.specs.declared.value.Place.{Place}

-- the name of a kind of finding
abbrev pub rule_id : Kind → List ℕ
rule_id NoPage = codes "missing-page"
rule_id NoAnchor = codes "missing-anchor"
rule_id NotUrl = codes "not-a-url"
rule_id UnknownScheme = codes "unknown-scheme"
rule_id LocalFile = codes "local-file"
rule_id Leaves = codes "leaves-the-folder"
rule_id OutsideBase = codes "outside-base"
rule_id NotInMap = codes "not-in-map"

-- the name of the finding of a document that no sitemap lists
abbrev pub not_in_sitemap : List ℕ
not_in_sitemap = codes "not-in-sitemap"

-- the message about such a document
unfoldable pub unlisted_message : List ℕ → List ℕ
unlisted_message document = page_name document ++ codes ": not in a sitemap"

-- a word with the opening parenthesis, a text, and the closing parenthesis
abbrev pub bracketed : List ℕ → List ℕ → List ℕ
bracketed word text = word ++ text ++ codes ")"

-- the link as it is written, unless the name of its target ends with it, which is that of the text report
abbrev pub written_part : Broken → Option (List ℕ) → List ℕ
written_part b None = []
written_part b (Some link) = if ends_with_link escape.Shown b link then [] else bracketed (codes " (written as ") link

abbrev pub same_name_part : Option (List ℕ) → List ℕ
same_name_part None = []
same_name_part (Some page) = bracketed (codes " (did you mean ") (page_name page ++ codes "?")

abbrev pub hint_part : Option (List ℕ) → List ℕ
hint_part None = []
hint_part (Some hint) = bracketed (codes " (") hint

-- what is suggested
abbrev pub advice_part : Broken → List ℕ
advice_part b = same_name_part (option_map string_bytes b.same_name) ++ hint_part (option_map string_bytes b.hint)

-- a target and what is wrong with it
abbrev pub message_start : Broken → List ℕ
message_start b = target_name b ++ codes ": " ++ message b.kind

-- the message about a target without locations
unfoldable pub target_message : Broken → List ℕ
target_message b = message_start b ++ advice_part b

-- the message about a link
unfoldable pub link_message : Broken → Place → List ℕ
link_message b p = message_start b ++ written_part b (option_map string_bytes p.written) ++ noted (codes " ") (scheme_note b p) ++ advice_part b
