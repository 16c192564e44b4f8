-- Which lines are a saved web, and the error of lines that are not: the first error of the first line that fails a check.
use Rattle.std.specs.Prelude.{◌≡◌, ◌⊎◌, ℕ, ◌+◌, ◌<◌, Bool, false, List, [], ◌∷◌, length, codes, if◌then◌else◌, Option, bytes_eq}
use Rattle.std.specs.List.{list_any}
use Rattle.text_lines.specs.LeastError.{SoundAfter, IsLeastError}
use Rattle.saved_pages.specs.WebChecks.{Before, line_error}
use Rattle.saved_pages.specs.WebLines.{is_page, is_link, is_moved_line, is_page_at}
use Rattle.saved_pages.specs.declared.error.WebError.{WebError}
use Rattle.saved_pages.specs.declared.error.WebError.TheVariants as wrong

-- ---- one line after the lines before it

-- the first of the lines is the header of version 2
abbrev pub is_second : List (List ℕ) → Bool
is_second [] = false
is_second (first ∷ more) = bytes_eq first (codes "savedweb 2")

-- the lines under the last page; all of them if there is no page
abbrev pub under_last_page : List (List ℕ) → List (List ℕ)
under_last_page [] = []
under_last_page (line ∷ more) = if list_any is_page (line ∷ more) then under_last_page more else line ∷ more

-- what the checks of the next line need to know about these lines
abbrev pub before : List (List ℕ) → Before
before earlier = record {
  number = length earlier + 1;
  second = is_second earlier;
  some_page = list_any is_page earlier;
  link = list_any is_link (under_last_page earlier);
  moved = list_any is_moved_line (under_last_page earlier);
  known = λ url. list_any (is_page_at url) earlier;
}

-- the first check that a line fails after these earlier lines
abbrev pub error_after : List (List ℕ) → List ℕ → Option WebError
error_after earlier line = line_error (before earlier) line

-- ---- all lines

-- there is a line, and no line fails a check
pub record IsSound (lines : List (List ℕ)) : Type 0 where
  pub some : 0 < length lines
  pub sound : SoundAfter error_after [] lines

-- the error of lines that are not a saved web; if there is no line, it is a bad header
abbrev pub IsWebError : List (List ℕ) → WebError → Type 0
IsWebError [] error = error ≡ wrong.BadHeader
IsWebError (line ∷ more) error = IsLeastError error_after (line ∷ more) error

-- an error that may be returned for these lines: the one above, or out of memory
abbrev pub IsWebRefusal : List (List ℕ) → WebError → Type 0
IsWebRefusal lines error = IsWebError lines error ⊎ (error ≡ wrong.NoMemory)
