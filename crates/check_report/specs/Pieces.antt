-- The text of a piece, and of several pieces.
use Rattle.std.specs.Prelude.{ℕ, List, [], ◌∷◌, ◌++◌, option_map, string_bytes}
use Rattle.shown_text.specs.Shown.{shown}
use Rattle.check_report.specs.Escape.{escaped}
use Rattle.check_report.specs.Junit.{attribute, xml}
use Rattle.check_report.specs.Names.{page_in, target_in}
use Rattle.check_report.specs.Page.{item_if, item_some, total_item}
use Rattle.check_report.specs.Text.{code, counted, counted_if, counted_some, hint_text, name_in, noted, redirect_target, same_name_text, written_text}
use Rattle.check_report.specs.declared.piece.Piece.{Piece}
use Rattle.check_report.specs.declared.piece.Piece.TheVariants as piece

abbrev pub piece_text : Piece → List ℕ
piece_text (piece.Text text) = text.now
piece_text (piece.Counted word count) = counted word.now count
piece_text (piece.CountedIf word count) = counted_if word.now count
piece_text (piece.CountedSome word count) = counted_some word.now count
piece_text (piece.Code colour text) = code colour text.now
piece_text (piece.Shown text) = shown text.now
piece_text (piece.Escaped how text) = escaped how text.now
piece_text (piece.Page how text) = page_in how text.now
piece_text (piece.Target how b) = target_in how b.now
piece_text (piece.Name how of_section text) = name_in how of_section text.now
piece_text (piece.Moved how page) = redirect_target how (option_map string_bytes page.now)
piece_text (piece.SameName how page) = same_name_text how (option_map string_bytes page.now)
piece_text (piece.Hint how hint) = hint_text how (option_map string_bytes hint.now)
piece_text (piece.Written how word b link) = written_text how word.now b.now (option_map string_bytes link.now)
piece_text (piece.Note blank note) = noted blank.now note.now
piece_text (piece.Item word count) = total_item word.now count
piece_text (piece.ItemIf word count) = item_if word.now count
piece_text (piece.ItemSome word count) = item_some word.now count
piece_text (piece.Attribute name text) = attribute name.now text.now
piece_text (piece.Xml text) = xml text.now

-- a text followed by these pieces
abbrev pub text_from : List ℕ → List Piece → List ℕ
text_from text [] = text
text_from text (p ∷ ps) = text_from (text ++ piece_text p) ps

-- the text of these pieces, one after the other
abbrev pub text_of : List Piece → List ℕ
text_of [] = []
text_of (p ∷ ps) = text_from (piece_text p) ps
