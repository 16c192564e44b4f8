-- The text of a line. `lines` of std's `specs.Str.Lines` defines how bytes are cut into lines.
use Rattle.std.specs.Prelude.{ℕ, List, length, nat_lt, if◌then◌else◌, Result, Ok, Err}
use Rattle.std.specs.Borrow.{Bor}
use Rattle.std.specs.Str.{is_utf8}
use Rattle.crawl_limits.specs.Limits.{line_limit}
use Rattle.text_lines.specs.declared.lines.LineError.{LineError}
use Rattle.text_lines.specs.declared.lines.LineError.TheVariants.{TooLong, NotText}

-- the text of a line, or the first check that it fails
abbrev pub text_of : ℕ → List ℕ → Result (List ℕ) LineError
text_of number line =
    if nat_lt line_limit (length line) then Err (TooLong number)
    else if is_utf8 line then Ok line
    else Err (NotText number)

-- the bytes to which a result refers
abbrev pub bytes_at : {E : Type 0} → Result (Bor (List ℕ)) E → Result (List ℕ) E
bytes_at (Ok x) = Ok x.now
bytes_at (Err e) = Err e
