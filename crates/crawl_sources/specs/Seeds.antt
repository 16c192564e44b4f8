-- The seeds on the lines of a file, and the error of other files: the first error of the first line that fails a check.
use Rattle.std.specs.Prelude.{ℕ, ◌+◌, ◌==◌, List, [], ◌∷◌, length, if◌then◌else◌, Option, Some, None, Result, Ok, Err, filter_map}
use Rattle.std.specs.Option.{option_or}
use Rattle.std.specs.Result.{result_ok}
use Rattle.crawl_keys.specs.CanonicalText.{canonical}
use Rattle.crawl_keys.specs.declared.error.KeyError.{KeyError}
use Rattle.crawl_keys.specs.declared.error.KeyError.TheVariants as key
use Rattle.text_lines.specs.Lines.{text_of}
use Rattle.text_lines.specs.declared.lines.LineError.{LineError}
use Rattle.text_lines.specs.declared.lines.LineError.TheVariants.{TooLong, NotText}
use Rattle.crawl_sources.specs.declared.seeds.SeedsError.{SeedsError}
use Rattle.crawl_sources.specs.declared.seeds.SeedsError.TheVariants as wrong

-- ---- the checks of a line

-- the error of a file with a line that has no text
abbrev pub error_of : LineError → SeedsError
error_of (TooLong number) = wrong.LineTooLong number
error_of (NotText number) = wrong.NotText number

-- the error of a text that has no canonical URL
abbrev pub key_error : ℕ → KeyError → SeedsError
key_error number key.NotUrl = wrong.NotUrl number
key_error number key.NotHttp = wrong.NotHttp number
key_error number key.NoMemory = wrong.NoMemory

abbrev pub url_error : ℕ → Result (List ℕ) KeyError → Option SeedsError
url_error number (Ok url) = None
url_error number (Err e) = Some (key_error number e)

-- the error of a line's text; an empty line is neither a seed nor an error
abbrev pub text_error : ℕ → Result (List ℕ) LineError → Option SeedsError
text_error number (Err e) = Some (error_of e)
text_error number (Ok text) = if length text == 0 then None else url_error number (canonical text)

-- the first check that a line fails: its length, whether it is UTF-8, then its URL
abbrev pub line_error : ℕ → List ℕ → Option SeedsError
line_error number line = text_error number (text_of number line)

-- the first error of lines, of which the first has this number
abbrev pub first_error : ℕ → List (List ℕ) → Option SeedsError
first_error number [] = None
first_error number (line ∷ more) = option_or (line_error number line) (first_error (number + 1) more)

-- ---- the seeds

-- the canonical URL of a line that is not empty
abbrev pub seed_url : List ℕ → Option (List ℕ)
seed_url line = if length line == 0 then None else result_ok (canonical line)

abbrev pub unless_error : Option SeedsError → List (List ℕ) → Result (List (List ℕ)) SeedsError
unless_error None urls = Ok urls
unless_error (Some error) urls = Err error

-- the URLs of the lines that are not empty, in order; or the first error, if a line has one
abbrev pub seeds_in : List (List ℕ) → Result (List (List ℕ)) SeedsError
seeds_in lines = unless_error (first_error 1 lines) (filter_map seed_url lines)

-- the check that a line fails, if any, as a result
abbrev pub checked : Option SeedsError → Result (Unit {0}) SeedsError
checked None = Ok tt
checked (Some error) = Err error
