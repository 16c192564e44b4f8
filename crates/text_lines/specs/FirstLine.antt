-- The first line of a text and the rest.
use Rattle.std.specs.Prelude.{ℕ, ◌==◌, List, [], ◌∷◌}
use Rattle.std.specs.List.{after_first}
use Rattle.std.specs.Str.Lines.{lines}

-- the first of these lines, or an empty line if there are none
abbrev pub first_of : List (List ℕ) → List ℕ
first_of [] = []
first_of (line ∷ more) = line

-- the text's first line
abbrev pub line_in : List ℕ → List ℕ
line_in text = first_of (lines text)

-- the text after its first LF
abbrev pub after_line : List ℕ → List ℕ
after_line text = after_first (λ b. b == 10) text
