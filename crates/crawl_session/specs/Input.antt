-- How bytes are served as they come: whole lines are answered, and of a line whose end was not read the beginning is held.
use Rattle.std.specs.Prelude.{◌≡◌, ◌⊎◌, ℕ, ◌+◌, false, List, [], ◌∷◌, ◌++◌, ◌==◌, take, Option, IfSome, All}
use Rattle.std.specs.Io.KnownBytes.{Appends, Consumes, IsAtEnd}
use Rattle.std.specs.Str.Lines.{lines}
use Rattle.crawl_limits.specs.Limits.{line_limit}
use Rattle.crawl_session.specs.Settings.{SessionView}
use Rattle.crawl_session.specs.Serving.{ServesAll}

-- the most bytes that are held: they show whether the line is too long, with or without a CR before its end
abbrev pub held_limit : ℕ
held_limit = line_limit + 2

-- a line whose end was not read
abbrev pub IsUnfinished : List ℕ → Type 0
IsUnfinished bytes = All (λ b. (b == 10) ≡ false) bytes

-- whole lines: nothing, or bytes that end in LF
abbrev pub AreWhole : List ℕ → Type 0
AreWhole bytes = (bytes ≡ []) ⊎ ((front : List ℕ) × (bytes ≡ front ++ 10 ∷ []))

-- the bytes held are those of this unfinished line
pub record Holds (held tail : List ℕ) : Type 0 where
  pub beginning : held ≡ take held_limit tail
  pub unfinished : IsUnfinished tail

-- bytes came after an unfinished line: the text has the answers to all lines that end in them, and what follows is held
pub record AnswersWhole (old : SessionView) (tail bytes text : List ℕ) (held : List ℕ) (new : SessionView) : Type 0 where
  pub front : List ℕ
  pub rest : List ℕ
  pub split : tail ++ bytes ≡ front ++ rest
  pub whole : AreWhole front
  pub holds : Holds held rest
  pub serves : ServesAll old (lines front) text new

-- one read after an unfinished line, of these bytes: the writer has gained the answers to all lines that end in them
pub record Turns (old : SessionView) (tail : List ℕ) (input_old input_new out_old out_new : Option (List ℕ)) (held : List ℕ) (new : SessionView) : Type 0 where
  pub bytes : List ℕ
  pub text : List ℕ
  pub read : Consumes input_old input_new bytes
  pub answers_whole : AnswersWhole old tail bytes text held new
  pub written : Appends out_old out_new text

-- the end of the input after an unfinished line, which is answered if it is not empty
pub record Ends (old : SessionView) (tail : List ℕ) (input_old input_new out_old out_new : Option (List ℕ)) (new : SessionView) : Type 0 where
  pub text : List ℕ
  pub at_end : Consumes input_old input_new [] × IsAtEnd input_new
  pub serves : ServesAll old (lines tail) text new
  pub written : Appends out_old out_new text

-- a whole input was served: these bytes, which are all that the input had if that is known; and the writer has gained the
-- answer lines of their lines
pub record ServesInput (old : SessionView) (input_old out_old out_new : Option (List ℕ)) (new : SessionView) : Type 0 where
  pub bytes : List ℕ
  pub text : List ℕ
  pub read : IfSome input_old (λ known. bytes ≡ known)
  pub serves : ServesAll old (lines bytes) text new
  pub written : Appends out_old out_new text
