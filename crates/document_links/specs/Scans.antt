-- What the code's values mean in the terms of `Prescan`.
use Rattle.std.specs.Prelude.{◌≡◌, ℕ, ◌≤◌, ◌<◌, not, ◌||◌, ◌==◌, Bool, false, List, [], ◌∷◌, Option, None, Some, length}
use Rattle.std.specs.Char.{is_ascii_whitespace}
use Rattle.std.specs.Option.{option_map}
use Rattle.html_links.specs.Shown.{following, front}
use Rattle.document_links.specs.Prescan.{Meta, BeforeName, Content, ended, follow, is_gap, noted, prescan}
use Rattle.document_links.specs.declared.prescan.Piece.{Piece}
use Rattle.document_links.specs.declared.prescan.Piece.TheVariants as piece
use Rattle.document_links.specs.declared.prescan.Scan.{Scan}
use Rattle.document_links.specs.declared.prescan.Scan.TheVariants as scan
use Rattle.document_links.specs.declared.prescan.MetaTag.{MetaTag}

abbrev pub meta_of : MetaTag → Meta
meta_of tag = record {
  is_meta = tag.is_meta;
  charset = option_map (λ value. value.now) tag.charset;
  header = option_map (λ value. value.now) tag.header;
  content = option_map (λ value. value.now) tag.content;
}

-- bytes that are not white space, a `/`, the end of a tag or a `=`
abbrev pub is_inner : ℕ → Bool
is_inner b = not (is_gap b || (b == 61 || b == 62))

abbrev pub is_unquoted : ℕ → Bool
is_unquoted b = not (is_ascii_whitespace b || b == 62)

-- the first byte can begin the name of an attribute
abbrev pub BeginsName : List ℕ → Type 0
BeginsName [] = ⊥
BeginsName (b ∷ bytes) = (is_gap b ≡ false) × (b == 62 ≡ false)

-- the name of an attribute, and the bytes after it
abbrev pub name_front : List ℕ → List ℕ
name_front [] = []
name_front (b ∷ bytes) = b ∷ front is_inner bytes

abbrev pub following_name : List ℕ → List ℕ
following_name [] = []
following_name (b ∷ bytes) = following is_inner bytes

-- what the prescan returns after this
abbrev pub outcome : Scan → Option (List ℕ)
outcome (scan.Name name) = Some name.now
outcome (scan.Text more) = prescan Content more.now
outcome scan.Unfinished = None

abbrev pub Leaves : Scan → ℕ → Type 0
Leaves (scan.Name name) n = Unit {0}
Leaves (scan.Text more) n = length more.now ≤ n
Leaves scan.Unfinished n = Unit {0}

abbrev pub after_piece : Piece → Meta → Option (List ℕ)
after_piece (piece.Attribute a) tag = prescan (BeforeName (noted tag a.name.now a.value.now)) a.following.now
after_piece (piece.End more) tag = follow (ended tag) (λ state. prescan state more.now)
after_piece piece.Unfinished tag = None

abbrev pub LeavesPiece : Piece → ℕ → Type 0
LeavesPiece (piece.Attribute a) n = length a.following.now < n
LeavesPiece (piece.End more) n = length more.now < n
LeavesPiece piece.Unfinished n = Unit {0}
