-- Members of the JSON objects of a report.
use Rattle.std.specs.Prelude.{ℕ, List, codes, Option, None, Some, decimal}
use Rattle.json.specs.Json.{Json, null, string, number, Members, member}

abbrev pub kind : List ℕ → Members → Members
kind word rest = member (codes "kind") (string word) rest

abbrev pub text_at : List ℕ → List ℕ → Members → Members
text_at key text rest = member key (string text) rest

abbrev pub count_at : List ℕ → ℕ → Members → Members
count_at key count rest = member key (number (decimal count)) rest

-- a text, or `null` if there is none
abbrev pub text_or_null : Option (List ℕ) → Json
text_or_null None = null
text_or_null (Some text) = string text
