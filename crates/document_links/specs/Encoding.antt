-- The text of a document in UTF-8, and its links.
use Rattle.std.specs.Prelude.{◌≡◌, ℕ, ◌-◌, ◌%◌, nat_lt, Bool, true, false, ◌||◌, List, [], ◌∷◌, drop, take, slice_index, Option, None, Some, Vec, if◌then◌else◌, bytes_eq}
use Rattle.std.specs.Char.{encode_utf8}
use Rattle.std.specs.Int.{is_in_range}
use Rattle.std.specs.List.{flat_map}
use Rattle.std.specs.Str.{is_utf8, IsAscii}
use Rattle.std.specs.Str.Lossy.{utf8_lossy}
use Rattle.std.specs.declared.alloc.Global.{Global}
use Rattle.html_links.specs.Links.{base_of, links_of}
use Rattle.html_links.specs.Styles.{style_links_of}
use Rattle.document_links.specs.Charsets.{charset_rule, charset_unmarked}
use Rattle.document_links.specs.Feeds.{feed_links_of}
use Rattle.document_links.specs.UrlLists.{url_lines_of}
use Rattle.document_links.specs.declared.charset.Charset.{Charset}
use Rattle.document_links.specs.declared.charset.TheConstants.{LIKELY, WINDOWS}
use Rattle.document_links.specs.declared.document.ReadOptions.{ReadOptions}
use Rattle.document_links.specs.declared.charset.Charset.TheVariants.{Utf8, Utf16Le, Utf16Be, Windows1252, Other}
use Rattle.document_links.specs.declared.text_kind.TextKind.{TextKind}
use Rattle.document_links.specs.declared.text_kind.TextKind.TheVariants.{Document, StyleSheet, Feed, UrlList}
use Rattle.document_links.specs.Rooted.{all_rooted}
use Rattle.document_links.specs.Written.{AreWritten}

-- the byte order mark of UTF-8
abbrev pub mark : List ℕ
mark = 239 ∷ 187 ∷ 191 ∷ []

abbrev pub has_mark : List ℕ → Bool
has_mark body = bytes_eq (take 3 body) mark

abbrev pub without_mark : List ℕ → List ℕ
without_mark body = if has_mark body then drop 3 body else body

-- the encoding of a file of a kind: that of its byte order mark, or that which its text names
abbrev pub charset_of : TextKind → List ℕ → Charset
charset_of kind body =
    if has_mark body then Utf8
    else if bytes_eq (take 2 body) (255 ∷ 254 ∷ []) then Utf16Le
    else if bytes_eq (take 2 body) (254 ∷ 255 ∷ []) then Utf16Be
    else charset_unmarked kind body

-- the character that a byte means
abbrev pub character_of : ℕ → ℕ
character_of byte = if is_in_range 128 159 byte then slice_index WINDOWS (byte - 128) else byte

-- the one byte that may mean a character
abbrev pub likely_byte : ℕ → ℕ
likely_byte number = if nat_lt number 256 then number else slice_index LIKELY (number % 79)

-- the text of a document in windows-1252
abbrev pub windows_text : List ℕ → List ℕ
windows_text body = flat_map (λ byte. encode_utf8 (character_of byte)) body

-- the text is that of a document in this encoding. Nothing is stated about the text in UTF-16, or in another encoding
abbrev pub IsTextIn : Charset → List ℕ → List ℕ → Type 0
IsTextIn Utf8 body text = text ≡ utf8_lossy (without_mark body)
IsTextIn Utf16Le body text = Unit {0}
IsTextIn Utf16Be body text = Unit {0}
IsTextIn Windows1252 body text = text ≡ windows_text body
IsTextIn Other body text = Unit {0}

-- the encoding is a known one, so that all bytes are read
abbrev pub is_known : Charset → Bool
is_known Utf8 = true
is_known Utf16Le = true
is_known Utf16Be = true
is_known Windows1252 = true
is_known Other = false

-- the converted text, or the document without its byte order mark
abbrev pub text_in : List ℕ → Option (Vec ℕ Global) → List ℕ
text_in body None = without_mark body
text_in body (Some text) = text.items

-- the links of a document with this text: with those of its styles if the options ask for them, and below the path of the top if
-- the options have one
abbrev pub read_links_of : ReadOptions → List ℕ → List (List ℕ)
read_links_of options text = all_rooted options.root (links_of options.styles options.syntax text)

-- a document with this text has these link texts, if it has no `base` and its encoding is a known one
abbrev pub HasTexts : ReadOptions → Charset → List ℕ → List (List ℕ) → Type 0
HasTexts options charset text links = is_known charset ≡ true → base_of options.syntax text ≡ None → AreWritten charset [] (read_links_of options text) links options.byte_limit

-- a document in this encoding has these link texts. If all of it is ASCII, its text is the document itself
pub record HasLinks (options : ReadOptions) (charset : Charset) (body : List ℕ) (links : List (List ℕ)) : Type 0 where
  pub text : List ℕ
  pub decoded : IsTextIn charset body text
  pub ascii : IsAscii body → text ≡ body
  pub texts : HasTexts options charset text links

-- a document has these link texts, in the encoding that `charset_of` says. That is UTF-8 if the document begins with the byte order mark
-- of UTF-8, and a known one if it is valid UTF-8
pub record HasLinkTexts (options : ReadOptions) (body : List ℕ) (links : List (List ℕ)) : Type 0 where
  pub charset : Charset
  pub defined : charset ≡ charset_of (Document options.syntax options.styles) body
  pub marked : has_mark body ≡ true → charset ≡ Utf8
  pub valid : is_utf8 body ≡ true → is_known charset ≡ true
  pub has : HasLinks options charset body links

-- ---- files without a `base`: style sheets, feeds and lists of URLs

-- a file begins with a byte order mark of UTF-16
abbrev pub is_wide : List ℕ → Bool
is_wide file = bytes_eq (take 2 file) (255 ∷ 254 ∷ []) || bytes_eq (take 2 file) (254 ∷ 255 ∷ [])

-- a file of this kind has that mark or, if it is a style sheet, names its encoding. A document may name its encoding later
abbrev pub names_encoding : TextKind → List ℕ → Bool
names_encoding (Document syntax styles) file = true
names_encoding StyleSheet file = is_wide file || bytes_eq (take 10 file) charset_rule
names_encoding Feed file = is_wide file
names_encoding UrlList file = is_wide file

-- files of this kind are always in a Unicode encoding
abbrev pub is_in_unicode : TextKind → Bool
is_in_unicode (Document syntax styles) = false
is_in_unicode StyleSheet = false
is_in_unicode Feed = true
is_in_unicode UrlList = true

-- the links in a text of this kind
abbrev pub links_in : TextKind → List ℕ → List (List ℕ)
links_in (Document syntax styles) text = links_of styles syntax text
links_in StyleSheet text = style_links_of text
links_in Feed text = feed_links_of text
links_in UrlList text = url_lines_of text

-- a file with this text has these link texts
abbrev pub HasFileTexts : TextKind → ReadOptions → Charset → List ℕ → List (List ℕ) → Type 0
HasFileTexts kind options charset text links = is_known charset ≡ true → AreWritten Utf8 [] (all_rooted options.root (links_in kind text)) links options.byte_limit

-- a file in this encoding has these link texts. If all of it is ASCII, its text is the file itself
pub record HasFileLinks (kind : TextKind) (options : ReadOptions) (charset : Charset) (file : List ℕ) (links : List (List ℕ)) : Type 0 where
  pub text : List ℕ
  pub decoded : IsTextIn charset file text
  pub ascii : IsAscii file → text ≡ file
  pub texts : HasFileTexts kind options charset text links

-- a file has these link texts, in the encoding that `charset_of` says. That is UTF-8 unless the file names another, and a known one if
-- the file is valid UTF-8
pub record HasFile (kind : TextKind) (options : ReadOptions) (file : List ℕ) (links : List (List ℕ)) : Type 0 where
  pub charset : Charset
  pub defined : charset ≡ charset_of kind file
  pub marked : has_mark file ≡ true → charset ≡ Utf8
  pub unnamed : names_encoding kind file ≡ false → charset ≡ Utf8
  pub known : is_in_unicode kind ≡ true → is_known charset ≡ true
  pub valid : is_utf8 file ≡ true → is_known charset ≡ true
  pub has : HasFileLinks kind options charset file links

abbrev pub HasSheet : ReadOptions → List ℕ → List (List ℕ) → Type 0
HasSheet options sheet links = HasFile StyleSheet options sheet links

abbrev pub HasFeed : ReadOptions → List ℕ → List (List ℕ) → Type 0
HasFeed options feed links = HasFile Feed options feed links

abbrev pub HasUrlList : ReadOptions → List ℕ → List (List ℕ) → Type 0
HasUrlList options list links = HasFile UrlList options list links
