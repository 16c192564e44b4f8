-- A script's error is that of its first line that has one.
use Rattle.crawl_replay.proofs.Prelude.{◌≡◌, ℕ, ◌+◌, List, [], ◌∷◌, ◌++◌, length, Option, Some, Result, Ok, Err, refl, ap, subst, ◌∙◌, arith, append-nil, append_assoc, length-append, result_err, lines, Event, Header, ScriptError, script_in, header_in, said_by, said_from, least_error, events_in, unless_error, with_events, with_header}
use Rattle.text_lines.specs.LeastError.{SoundAfter, IsLeastError}
use Rattle.crawl_replay.specs.declared.script.error.ScriptError.TheVariants as wrong
use Rattle.crawl_replay.specs.LeastError.{error_after, IsScriptError}

-- the error of lines that follow a header and these earlier lines
record FoundAfter (header : List ℕ) (earlier more : List (List ℕ)) (error : ScriptError) : Type 0 where
  front : List (List ℕ)
  line : List ℕ
  rest : List (List ℕ)
  split : more ≡ front ++ line ∷ rest
  sound : SoundAfter error_after (header ∷ earlier) front
  fails : error_after (header ∷ (earlier ++ front)) line ≡ Some error

-- a line after a good header, by its content
said_after : (header : List ℕ) (read : Header) (earlier : List (List ℕ)) (number : ℕ) (line : List ℕ) (said : Result (Option Event) ScriptError) → header_in header ≡ Ok read → number ≡ length earlier + 2 → said_by read.workers number line ≡ said → error_after (header ∷ earlier) line ≡ result_err said
said_after header read earlier number line said is_header place says = rw (is_header, ← place, says) refl

at_line : (header : List ℕ) (read : Header) (earlier : List (List ℕ)) (number : ℕ) (line : List ℕ) (more : List (List ℕ)) (error : ScriptError) (said : Result (Option Event) ScriptError) → header_in header ≡ Ok read → number ≡ length earlier + 2 → said_by read.workers number line ≡ said → least_error (said ∷ said_from read.workers (number + 1) more) ≡ Some error → (least_error (said_from read.workers (number + 1) more) ≡ Some error → FoundAfter header (earlier ++ line ∷ []) more error) → FoundAfter header earlier (line ∷ more) error
at_line header read earlier number line more error (Err found) is_header place says fails later = record {
  front = [];
  line = line;
  rest = more;
  split = refl;
  sound = tt;
  fails = rw (append-nil earlier) (said_after header read earlier number line (Err found) is_header place says ∙ fails);
}
at_line header read earlier number line more error (Ok said) is_header place says fails later = let found = later fails in record {
  front = line ∷ found.front;
  line = found.line;
  rest = found.rest;
  split = ap (λ xs. line ∷ xs) found.split;
  sound = (said_after header read earlier number line (Ok said) is_header place says, found.sound);
  fails = subst (λ xs. error_after (header ∷ xs) found.line ≡ Some error) (append_assoc earlier (line ∷ []) found.front) found.fails;
}

found_after : (header : List ℕ) (read : Header) (earlier : List (List ℕ)) (number : ℕ) (more : List (List ℕ)) (error : ScriptError) → header_in header ≡ Ok read → number ≡ length earlier + 2 → least_error (said_from read.workers number more) ≡ Some error → FoundAfter header earlier more error
found_after header read earlier number [] error is_header place fails = absurd (cc)
found_after header read earlier number (line ∷ more) error is_header place fails =
    at_line header read earlier number line more error (said_by read.workers number line) is_header place refl fails
    (found_after header read (earlier ++ line ∷ []) (number + 1) more error is_header (omega (arith, place, length-append earlier (line ∷ []))))

found_in : (o : Option ScriptError) (events : List Event) (header : Header) (error : ScriptError) → with_events header (unless_error o events) ≡ Err error → o ≡ Some error
found_in o events header error e = grind arith

at_header : (line : List ℕ) (more : List (List ℕ)) (error : ScriptError) (read : Result Header ScriptError) → header_in line ≡ read → with_header read more ≡ Err error → IsLeastError error_after (line ∷ more) error
at_header line more error (Err found) e fails = record {
  front = [];
  line = line;
  rest = more;
  split = refl;
  sound = tt;
  fails = rw e (cc);
}
at_header line more error (Ok header) e fails =
    let found = found_after line header [] 2 more error e refl (found_in (least_error (said_from header.workers 2 more)) (events_in (said_from header.workers 2 more)) header error fails) in record {
      front = line ∷ found.front;
      line = found.line;
      rest = found.rest;
      split = ap (λ xs. line ∷ xs) found.split;
      sound = (rw e refl, found.sound);
      fails = found.fails;
    }

pub least : (lines : List (List ℕ)) (error : ScriptError) → script_in lines ≡ Err error → IsScriptError lines error
least lines error fails = grind (arith, at_header)
