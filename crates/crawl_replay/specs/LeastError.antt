-- The error of a script: that of its first line that has one.
use Rattle.std.specs.Prelude.{◌≡◌, ℕ, ◌+◌, List, [], ◌∷◌, length, Option, Result, Ok, Err}
use Rattle.std.specs.Result.{result_err}
use Rattle.text_lines.specs.LeastError.{IsLeastError}
use Rattle.crawl_replay.specs.Script.{header_in, said_by}
use Rattle.crawl_replay.specs.declared.script.header.Header.{Header}
use Rattle.crawl_replay.specs.declared.script.error.ScriptError.{ScriptError}
use Rattle.crawl_replay.specs.declared.script.error.ScriptError.TheVariants as wrong

-- the number of workers in a header; if the header is bad, its own line has the error
abbrev pub workers_in : Result Header ScriptError → ℕ
workers_in (Ok header) = header.workers
workers_in (Err _) = 1

-- the first check that a line fails after these earlier lines, if it fails one; the first line is the header
abbrev pub error_after : List (List ℕ) → List ℕ → Option ScriptError
error_after [] line = result_err (header_in line)
error_after (header ∷ earlier) line = result_err (said_by (workers_in (header_in header)) (length earlier + 2) line)

-- the error of lines that are not a script; if there is no line, it is a bad header
abbrev pub IsScriptError : List (List ℕ) → ScriptError → Type 0
IsScriptError [] error = error ≡ wrong.BadHeader
IsScriptError (line ∷ more) error = IsLeastError error_after (line ∷ more) error
