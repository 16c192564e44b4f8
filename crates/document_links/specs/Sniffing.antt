-- Whether a file without a known suffix is a document, by its first bytes: after blanks, an XML declaration and a comment it begins with
-- `<html` or `<!doctype html`.
use Rattle.std.specs.Prelude.{ℕ, ◌==◌, ◌&&◌, ◌||◌, nat_le, Bool, false, not, List, [], ◌∷◌, codes, length, take, drop, if◌then◌else◌}
use Rattle.std.specs.Char.{is_ascii_alphanumeric}
use Rattle.std.specs.List.{list_any}
use Rattle.html_links.specs.Shown.{following}
use Rattle.document_links.specs.Encoding.{without_mark}
use Rattle.document_links.specs.Markup.{begins}
use Rattle.document_links.specs.Starts.{begins_in_any_case, start_of}

-- tab, line feed, vertical tab, form feed, carriage return or space
abbrev pub is_blank : ℕ → Bool
is_blank b = (nat_le 9 b && nat_le b 13) || b == 32

abbrev pub after_blanks : List ℕ → List ℕ
after_blanks text = following is_blank text

abbrev pub in_word : ℕ → Bool
in_word b = is_ascii_alphanumeric b || b == 95

-- the text begins with these bytes, and no letter, digit or `_` comes next
abbrev pub begins_word : List ℕ → List ℕ → Bool
begins_word word text = begins_in_any_case word text && not (list_any in_word (take 1 (drop (length word) text)))

-- the text begins with `<!doctype`, blanks and the word `html`
abbrev pub begins_doctype : List ℕ → Bool
begins_doctype text =
    begins_in_any_case (codes "<!doctype") text && (list_any is_blank (take 1 (drop 9 text)) && begins_word (codes "html") (after_blanks (drop 9 text)))

abbrev pub begins_document : List ℕ → Bool
begins_document text = begins_word (codes "<html") text || begins_doctype text

-- some `-->` in the text is followed by blanks and the start of a document
abbrev pub ends_before_document : List ℕ → Bool
ends_before_document [] = false
ends_before_document (b ∷ bytes) =
    (begins (codes "-->") (b ∷ bytes) && begins_document (after_blanks (drop 2 bytes))) || ends_before_document bytes

-- the text after an XML declaration and blanks, if it begins with one
abbrev pub after_declaration : List ℕ → List ℕ
after_declaration text =
    if begins_in_any_case (codes "<?xml") text then after_blanks (drop 1 (following (λ b. not (b == 62)) text)) else text

abbrev pub begins_late : List ℕ → Bool
begins_late text = begins_document text || (begins (codes "<!--") text && ends_before_document (drop 4 text))

-- a file with these bytes is a document
abbrev pub is_document : List ℕ → Bool
is_document body = begins_late (after_declaration (after_blanks (without_mark (start_of body))))
