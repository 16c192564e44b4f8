-- The first check that a line of a saved web fails, from what is known of the lines before it.
use Rattle.std.specs.Prelude.{ℕ, ◌==◌, Bool, true, false, ◌||◌, List, codes, if◌then◌else◌, Option, Some, None, Result, Ok, Err, bytes_eq}
use Rattle.crawl_keys.specs.CanonicalText.{canonical}
use Rattle.crawl_keys.specs.Outcome.{Gives}
use Rattle.crawl_keys.specs.declared.error.KeyError.{KeyError}
use Rattle.text_lines.specs.Lines.{text_of}
use Rattle.saved_pages.specs.WebLines.{line_of_text}
use Rattle.text_lines.specs.declared.lines.LineError.{LineError}
use Rattle.text_lines.specs.declared.lines.LineError.TheVariants.{TooLong, NotText}
use Rattle.saved_pages.specs.declared.error.WebError.{WebError}
use Rattle.saved_pages.specs.declared.error.WebError.TheVariants as wrong
use Rattle.saved_pages.specs.declared.line.Line.{Line}
use Rattle.saved_pages.specs.declared.line.Line.TheVariants as says

-- what the checks of a line need to know about the lines before it
pub record Before : Type 0 where
  -- the number of the line itself, from 1
  pub number : ℕ
  -- the first line says version 2
  pub second : Bool
  -- there is a page
  pub some_page : Bool
  -- a link, or a moved line, is under the last page
  pub link : Bool
  pub moved : Bool
  -- whether a page has this URL
  pub known : List ℕ → Bool

-- the error of a saved web with a line that has no text
abbrev pub error_of : LineError → WebError
error_of (TooLong number) = wrong.LineTooLong number
error_of (NotText number) = wrong.NotText number

-- the first line: whether it says version 2
abbrev pub header_of : List ℕ → Result Bool WebError
header_of text =
    if bytes_eq text (codes "savedweb 1") then Ok false
    else if bytes_eq text (codes "savedweb 2") then Ok true
    else Err wrong.BadHeader

abbrev pub header_error : Result Bool WebError → Option WebError
header_error (Ok second) = None
header_error (Err error) = Some error

-- a page line, by its URL and the URLs of the pages before it
abbrev pub page_error : ℕ → (List ℕ → Bool) → Result (List ℕ) KeyError → Option WebError
page_error number known (Ok url) = if known url then Some (wrong.PageTwice number) else None
page_error number known (Err _) = Some (wrong.BadPageUrl number)

-- a line that needs a page above it, by whether there is one, and whether the lines under that page exclude this line
abbrev pub under_error : ℕ → Bool → Bool → Option WebError
under_error number some_page mixed =
    if some_page then (if mixed then Some (wrong.MovedMixed number) else None)
    else Some (wrong.LinkBeforePage number)

-- a line after the first, by its content; version 1 has no moved lines
abbrev pub content_error : Before → Line (List ℕ) → Option WebError
content_error b (says.Page text) = page_error b.number b.known (canonical text)
content_error b (says.Link text) = under_error b.number b.some_page b.moved
content_error b (says.Moved text) =
    if b.second then under_error b.number b.some_page (b.link || b.moved) else Some (wrong.BadLine b.number)
content_error b says.Empty = None
content_error b says.Other = Some (wrong.BadLine b.number)

abbrev pub text_error : Before → Result (List ℕ) LineError → Option WebError
text_error b (Err error) = Some (error_of error)
text_error b (Ok text) = if b.number == 1 then header_error (header_of text) else content_error b (line_of_text text)

-- the first check that a line fails: its length, whether it is UTF-8, then its content
abbrev pub line_error : Before → List ℕ → Option WebError
line_error b line = text_error b (text_of b.number line)

-- ---- results

-- the check that a line fails, if any, as a result
abbrev pub checked : Option WebError → Result (Unit {0}) WebError
checked None = Ok tt
checked (Some error) = Err error

-- the result is the expected error, or a success if none is expected; or it is out of memory
abbrev pub Reports : {T : Type 0} → Result T WebError → Option WebError → Type 0
Reports result expected = Gives wrong.NoMemory (λ _. tt) result (checked expected)
