-- Points in a text, by the line and the character in it, each from 1; and the locations of links in a file.
use Rattle.std.specs.Prelude.{◌≡◌, ◌<◌, ◌≤◌, map, ℕ, ◌+◌, ◌==◌, Bool, true, false, not, if◌then◌else◌, List, [], ◌∷◌, ◌++◌, take, count_by, bit_and, length, slice_index_or, string_bytes, Option, None, Some, IsAscii}
use Rattle.std.specs.List.{list_any}
use Rattle.std.specs.Str.Lossy.{utf8_lossy}
use Rattle.document_links.specs.declared.charset.Charset.{Charset}
use Rattle.document_links.specs.declared.charset.Charset.TheVariants.{Utf8, Utf16Le, Utf16Be, Windows1252, Other}
use Rattle.document_links.specs.declared.places.TextPlace.{TextPlace}
use Rattle.document_links.specs.declared.points.KnownPoint.{KnownPoint}
use Rattle.document_links.specs.declared.points.Point.{Point}
use Rattle.document_links.specs.declared.text_kind.TextKind.{TextKind}
use Rattle.document_links.specs.declared.text_kind.TextKind.TheVariants.{Document, StyleSheet, Feed, UrlList}
use Rattle.html_links.specs.Positions.{needed_positions, positions_of, url_positions}
use Rattle.document_links.specs.Encoding.{IsTextIn, charset_of, has_mark, is_in_unicode, is_known, links_in, names_encoding}
use Rattle.document_links.specs.Feeds.{feed_positions_of}
use Rattle.document_links.specs.UrlLists.{url_line_positions}
use Rattle.document_links.specs.Written.{clean}

abbrev pub is_lf : ℕ → Bool
is_lf b = b == 10

-- a character of UTF-8 begins
abbrev pub begins_character : ℕ → Bool
begins_character b = not (bit_and b 192 == 128)

-- the bytes after the last line feed
abbrev pub last_line : List ℕ → List ℕ
last_line [] = []
last_line (b ∷ bs) = if list_any is_lf (b ∷ bs) then last_line bs else b ∷ bs

-- the point after a text
abbrev pub point_of : List ℕ → Point
point_of front = record { line = count_by is_lf front + 1; column = count_by begins_character (last_line front) + 1 }

abbrev pub point_at : List ℕ → ℕ → Point
point_at text index = point_of (take index text)

-- the point at this position of a text is known
pub record IsKnown (text : List ℕ) (known : KnownPoint) : Type 0 where
  pub within : known.index ≤ length text
  pub point : known.point ≡ point_at text known.index

-- ---- encodings

-- the encoding has each ASCII character as the same byte
abbrev pub keeps_ascii : Charset → Bool
keeps_ascii Utf8 = true
keeps_ascii Utf16Le = false
keeps_ascii Utf16Be = false
keeps_ascii Windows1252 = true
keeps_ascii Other = true

-- ---- links

-- a link with this index is one of the first `count` links, or of all links if no number is given
abbrev pub IsAmong : Option ℕ → ℕ → Type 0
IsAmong None index = Unit {0}
IsAmong (Some count) index = index < count

abbrev pub point_of_place : TextPlace → Point
point_of_place place = record { line = place.line; column = place.column }

-- the link with this index among those of a text, as written
abbrev pub written_in : TextKind → List ℕ → ℕ → List ℕ
written_in kind text index = utf8_lossy (clean (slice_index_or (links_in kind text) index []))

-- the position of each link of a text
abbrev pub positions_in : TextKind → List ℕ → List ℕ
positions_in (Document syntax styles) text = positions_of styles syntax text
positions_in StyleSheet text = url_positions (length text) text
positions_in Feed text = feed_positions_of text
positions_in UrlList text = url_line_positions text

-- what contracts state of the code: these are the old positions and those of the links of a text, or the first ones of them up to a
-- number
abbrev pub Positions : TextKind → Option ℕ → List ℕ → List ℕ → List ℕ → Type 0
Positions kind needed text old new = needed_positions needed new ≡ needed_positions needed (old ++ positions_in kind text)

-- these are the locations of the links with these indices: each link has a position in the text. In a known encoding, the position is
-- that of the link, and the links as written are those of the text
pub record ArePlacesIn (kind : TextKind) (charset : Charset) (text indices : List ℕ) (places : List TextPlace) : Type 0 where
  pub position : ℕ → ℕ
  pub placed : map point_of_place places ≡ map (λ index. point_at text (position index)) indices
  pub positioned : is_known charset ≡ true → map position indices ≡ map (λ index. slice_index_or (positions_in kind text) index 0) indices
  pub written : is_known charset ≡ true → map (λ place. string_bytes place.written) places ≡ map (written_in kind text) indices

-- these are the locations in a file, by its text in the encoding that `charset_of` says. If all of it is ASCII, the text is the file
-- itself
pub record ArePlaces (kind : TextKind) (file indices : List ℕ) (places : List TextPlace) : Type 0 where
  pub charset : Charset
  pub defined : charset ≡ charset_of kind file
  pub marked : has_mark file ≡ true → charset ≡ Utf8
  pub unnamed : names_encoding kind file ≡ false → charset ≡ Utf8
  pub known : is_in_unicode kind ≡ true → is_known charset ≡ true
  pub text : List ℕ
  pub decoded : IsTextIn charset file text
  pub ascii : IsAscii file → text ≡ file
  pub has : ArePlacesIn kind charset text indices places
