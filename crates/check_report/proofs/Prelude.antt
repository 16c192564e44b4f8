-- The names that most proofs cite, passed on from one place. Declares nothing.
pub use Rattle.check_report.specs.Escape.{data_char, escaped, escaped_char, has_no_c1, html_char, is_c1, is_in_property, is_inert, is_markup, is_ordinary, property_char}
pub use Rattle.check_report.specs.Printing.{Adds, bytes_of}
pub use Rattle.check_report.specs.Rows.{Line, bare_lines, begin, broken_lines, broken_section, counts_of, edge, external, external_of, external_section, file_lines, finish, hint_lines, in_section, last, link_line, listed, name, name_section, other_rows, place, place_lines, redirect, redirect_section, rest_lines, rows_of, sections_of, target_lines, total, worst, worst_section}
pub use Rattle.check_report.specs.Text.{code, counted, counted_some, plain, same_name_text, verdict}
pub use Rattle.check_report.specs.declared.escape.Escape.{Escape}
pub use Rattle.shown_text.specs.Shown.{escape_of, is_hidden, is_printed, is_visible, shown, shown_char}
pub use Rattle.std.proofs.Common.{Bool, Bor, Global, IfOk, IsCharBoundary, IsUtf8, List, None, OnOk, Option, Result, Some, String, Vec, [], ap, append-nil, arith, chars, codes, drop, false, get_or, if◌then◌else◌, inl, inr, length, map, max, nat_le, nat_lt, not, option_map, refl, slice_get, slice_index, string_bytes, subst, suc, sym, take, true, zero, ℕ, ◌%◌, ◌&&◌, ◌*◌, ◌++◌, ◌+◌, ◌-◌, ◌/◌, ◌<◌, ◌==◌, ◌||◌, ◌∙◌, ◌∷◌, ◌≡◌, ◌≤◌}
pub use Rattle.std.proofs.lemmas.Bool.{and_from, and_parts, both_ways, cases_Bool, cases_lt, cases_order, cond-false, cond-true, cond_both, eqb-false, eqb-true, false_from_ne_true, leb-true, ltb-true, ne_eqb, not-true, not_from_false}
pub use Rattle.std.proofs.lemmas.Bool.Decides.{nat_tests}
pub use Rattle.std.proofs.lemmas.Grind.{common_steps}
pub use Rattle.std.proofs.lemmas.List.{append_assoc, length-drop, map_more, take-append-drop, take-map, take_all, take_more}
pub use Rattle.std.proofs.lemmas.Simd.{map-map}
pub use Rattle.std.proofs.lemmas.List.Concat.{flat_map-append}
pub use Rattle.std.proofs.lemmas.List.Folds.{flat_map-map, length-prefix_len, list_all-append}
pub use Rattle.std.proofs.lemmas.Str.{IsUtf8-take, chars-append, chars-nil, chars_past_char, encodes-chars}
pub use Rattle.std.specs.List.{flat_map, list_all, prefix_len}
