-- The lines of a report as JSON, one object per line.
use Rattle.std.specs.Prelude.{ℕ, Bool, List, [], ◌∷◌, ◌++◌, if◌then◌else◌}
use Rattle.json.specs.Json.{Json, object}
use Rattle.json.specs.Tree.{json_tokens}
use Rattle.json.specs.Print.{print}
use Rattle.crawl_report.specs.Lines.{Line, members_of, text_line}

abbrev pub json_of : Line → Json
json_of line = object (members_of line)

-- the object with no space, and LF
abbrev pub json_line : Line → List ℕ
json_line line = print (json_tokens (json_of line)) ++ 10 ∷ []

-- the bytes of a line, as JSON or as text
abbrev pub printed_line : Bool → Line → List ℕ
printed_line as_json line = if as_json then json_line line else text_line line
