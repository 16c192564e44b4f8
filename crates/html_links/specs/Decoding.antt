-- What contracts state of the code that reads character references.
use Rattle.std.specs.Prelude.{◌≡◌, ℕ, ◌==◌, ◌||◌, not, Bool, List, ◌∷◌, ◌++◌}
use Rattle.std.specs.Char.{is_digit, encode_utf8}
use Rattle.html_links.specs.declared.references.Decoded.{Decoded}
use Rattle.html_links.specs.declared.references.Decoded.TheVariants as decoded
use Rattle.html_links.specs.References.{State, Text, read}

-- an `&` or a NUL
abbrev pub is_mark : ℕ → Bool
is_mark c = c == 38 || c == 0

-- neither an `&` nor a NUL
abbrev pub is_plain : ℕ → Bool
is_plain c = not (c == 38 || c == 0)

-- the byte is a digit in this base
abbrev pub in_base : ℕ → ℕ → Bool
in_base radix c = is_digit c radix

abbrev pub decoded_text : Decoded → List ℕ
decoded_text (decoded.Itself bytes) = 38 ∷ bytes.now
decoded_text (decoded.Character c) = encode_utf8 c
decoded_text (decoded.Named text) = text.now

-- the text of the bytes in a state, after what was decoded so far
abbrev pub Decodes : State → List ℕ → Decoded → List ℕ → Type 0
Decodes state bytes found rest = read state bytes ≡ decoded_text found ++ read Text rest
