-- The names that most proofs cite, passed on from one place. Declares nothing.
pub use Rattle.shown_text.specs.Shown.{escape_of, is_escaped, is_hidden, is_plain, is_printed, is_visible, is_visible_or_lf, shown_char, shown_char_in, shown_in}
pub use Rattle.shown_text.specs.declared.escape.Lines.{Lines}
pub use Rattle.std.proofs.Common.{Bool, IsAscii, IsCharBoundary, IsUtf8, List, [], ap, append-nil, arith, chars, false, if◌then◌else◌, length, nat_lt, not, refl, subst, sym, take, true, ℕ, ◌%◌, ◌&&◌, ◌++◌, ◌+◌, ◌/◌, ◌<◌, ◌==◌, ◌||◌, ◌∙◌, ◌∷◌, ◌≡◌, ◌≤◌}
pub use Rattle.std.proofs.lemmas.Bool.{and_from, and_parts, cond_both, eqb-true, false≢true, le-leb, lt-ltb, ltb-false, ltb-true, ne_eqb, not-true, not_from_false, or_left}
pub use Rattle.std.proofs.lemmas.Grind.{common_steps}
pub use Rattle.std.proofs.lemmas.List.Folds.{length-prefix_len, list_all-append}
pub use Rattle.std.proofs.lemmas.List.Sums.{prefix_len-le-length, prefix_len_stops, take_while-cons}
pub use Rattle.std.proofs.lemmas.Str.{IsUtf8-append, IsUtf8-encode, IsUtf8-from_ascii, IsUtf8-nil, IsUtf8-take, chars-IsAscii, chars-append, chars-encodes, chars-nil, chars_past_char, encodes-chars, scalars-chars}
pub use Rattle.std.specs.List.{flat_map, list_all, prefix_len, take_while}
pub use Rattle.std.specs.Str.{encode_utf8_all}
