-- The start of a file, and texts in any case.
use Rattle.std.specs.Prelude.{ℕ, Bool, List, [], ◌∷◌, length, take, drop, Option, None, Some, if◌then◌else◌}
use Rattle.std.specs.Str.{str_eq_ignore_ascii_case}
use Rattle.document_links.specs.Markup.{begins}

-- the first bytes of a file
abbrev pub start_of : List ℕ → List ℕ
start_of body = take 1024 body

-- the bytes after the first occurrence of a word
abbrev pub after_word : List ℕ → List ℕ → Option (List ℕ)
after_word word [] = None
after_word word (b ∷ bytes) = if begins word (b ∷ bytes) then Some (drop (length word) (b ∷ bytes)) else after_word word bytes

-- the text begins with these bytes, in any case
abbrev pub begins_in_any_case : List ℕ → List ℕ → Bool
begins_in_any_case word text = str_eq_ignore_ascii_case (take (length word) text) word
