-- The target of a refresh, by the HTML Standard's shared declarative refresh steps. An empty target names the document itself, and
-- counts as none.
use Rattle.std.specs.Prelude.{ℕ, ◌==◌, ◌||◌, ◌&&◌, nat_le, not, Bool, if◌then◌else◌, List, [], ◌∷◌, Option, None, Some}
use Rattle.std.specs.Char.{to_ascii_lowercase}
use Rattle.html_links.specs.Shown.{front, following, is_space}

-- a digit or a full stop
abbrev pub in_time : ℕ → Bool
in_time c = (nat_le 48 c && nat_le c 57) || c == 46

-- the bytes after this letter in any case, if the bytes begin with it
abbrev pub after_letter : ℕ → List ℕ → Option (List ℕ)
after_letter letter [] = None
after_letter letter (c ∷ rest) = if to_ascii_lowercase c == letter then Some rest else None

abbrev pub and_then : Option (List ℕ) → (List ℕ → Option (List ℕ)) → Option (List ℕ)
and_then None next = None
and_then (Some rest) next = next rest

abbrev pub is_separator : ℕ → Bool
is_separator c = c == 59 || c == 44

-- the bytes after the white space at the start, or after one `;` or `,` with white space around it
abbrev pub after_mark : List ℕ → List ℕ
after_mark [] = []
after_mark (c ∷ rest) = if is_separator c then following is_space rest else c ∷ rest

-- the bytes after the end of a time: `;`, `,` or white space
abbrev pub after_end : List ℕ → Option (List ℕ)
after_end [] = None
after_end (c ∷ rest) = if is_separator c || is_space c then Some (after_mark (following is_space (c ∷ rest))) else None

abbrev pub after_number : List ℕ → Option (List ℕ)
after_number [] = None
after_number (c ∷ rest) = if in_time c then after_end (following in_time rest) else None

abbrev pub after_time : List ℕ → Option (List ℕ)
after_time content = after_number (following is_space content)

abbrev pub or_text : List ℕ → Option (List ℕ) → List ℕ
or_text text None = text
or_text text (Some rest) = rest

-- the bytes after an `=` with white space around it, if the text begins with these
abbrev pub after_equals : List ℕ → Option (List ℕ)
after_equals [] = None
after_equals (c ∷ rest) = if c == 61 then Some (following is_space rest) else None

abbrev pub after_url : List ℕ → List ℕ
after_url text =
    or_text text (and_then (after_letter 117 text) (λ text. and_then (after_letter 114 text) (λ text. and_then (after_letter 108 text) (λ text. after_equals (following is_space text)))))

abbrev pub is_quote : ℕ → Bool
is_quote c = c == 34 || c == 39

-- the text up to its closing quote, if it begins with a quote
abbrev pub unquoted : List ℕ → List ℕ
unquoted [] = []
unquoted (c ∷ rest) = if is_quote c then front (λ x. not (x == c)) rest else c ∷ rest

abbrev pub some_bytes : List ℕ → Option (List ℕ)
some_bytes [] = None
some_bytes (c ∷ rest) = Some (c ∷ rest)

abbrev pub target_of : List ℕ → Option (List ℕ)
target_of content = and_then (after_time content) (λ text. some_bytes (unquoted (after_url text)))
