-- The encoding of a file without a byte order mark.
use Rattle.std.specs.Prelude.{ℕ, ◌==◌, not, Bool, List, [], ◌∷◌, ◌++◌, codes, drop, Option, None, Some, if◌then◌else◌}
use Rattle.std.specs.Option.{option_map_or}
use Rattle.std.specs.Str.{is_utf8, str_eq_ignore_ascii_case}
use Rattle.html_links.specs.Shown.{following, front}
use Rattle.document_links.specs.Markup.{begins}
use Rattle.document_links.specs.Prescan.{declared, bare_label}
use Rattle.document_links.specs.Schemes.{is_among}
use Rattle.document_links.specs.Starts.{start_of}
use Rattle.document_links.specs.declared.charset.Charset.{Charset}
use Rattle.document_links.specs.declared.charset.Charset.TheVariants.{Utf8, Windows1252, Other}
use Rattle.document_links.specs.declared.text_kind.TextKind.{TextKind}
use Rattle.document_links.specs.declared.text_kind.TextKind.TheVariants.{Document, StyleSheet, Feed, UrlList}

-- the names of UTF-8, and those of UTF-16, which mean UTF-8 in a file whose ASCII can be read
unfoldable pub utf8_names : List ℕ
utf8_names = codes "utf-8 utf8 unicode-1-1-utf-8 unicode11utf8 unicode20utf8 x-unicode20utf8 utf_8 u8 utf-16 utf-16le utf-16be csunicode iso-10646-ucs-2 ucs-2 unicode unicodefeff unicodefffe"

unfoldable pub windows_names : List ℕ
windows_names = codes "windows-1252 iso-8859-1 latin1 us-ascii ascii ansi_x3.4-1968 cp1252 1252 cp819 csisolatin1 ibm819 iso-ir-100 iso8859-1 iso88591 iso_8859-1 iso_8859-1:1987 l1 x-cp1252"

-- UTF-8 if the file is valid UTF-8, and otherwise another encoding
abbrev pub utf8_or : Charset → List ℕ → Charset
utf8_or other body = if is_utf8 body then Utf8 else other

-- the encoding with a name, which may be unknown
abbrev pub charset_named : List ℕ → List ℕ → Charset
charset_named name body =
    if is_among name utf8_names then Utf8
    else if is_among name windows_names then Windows1252
    else utf8_or Other body

-- In a document, `x-user-defined` means windows-1252.
abbrev pub charset_declared : List ℕ → List ℕ → Charset
charset_declared body name = if str_eq_ignore_ascii_case name (codes "x-user-defined") then Windows1252 else charset_named name body

abbrev pub document_charset : List ℕ → Charset
document_charset body = option_map_or (charset_declared body) (declared (start_of body)) (utf8_or Windows1252 body)

-- the bytes with which a style sheet begins if it names its encoding
abbrev pub charset_rule : List ℕ
charset_rule = codes "@charset " ++ 34 ∷ []

abbrev pub before_quote : ℕ → Bool
before_quote b = not (b == 34)

-- a name before `";`
abbrev pub closed_label : List ℕ → Option (List ℕ)
closed_label text = if begins (codes ";") (drop 1 (following before_quote text)) then Some (front before_quote text) else None

-- the name in the `@charset "NAME";` with which a style sheet begins
abbrev pub sheet_label : List ℕ → Option (List ℕ)
sheet_label start = if begins charset_rule start then closed_label (drop 10 start) else None

abbrev pub sheet_charset : List ℕ → Charset
sheet_charset body = option_map_or (λ name. charset_named (bare_label name) body) (sheet_label (start_of body)) Utf8

abbrev pub charset_unmarked : TextKind → List ℕ → Charset
charset_unmarked (Document syntax styles) body = document_charset body
charset_unmarked StyleSheet body = sheet_charset body
charset_unmarked Feed body = Utf8
charset_unmarked UrlList body = Utf8
