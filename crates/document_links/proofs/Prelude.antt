-- The names that most proofs cite, passed on from one place. Declares nothing.
pub use Rattle.document_links.specs.Encoding.{HasFileLinks, HasFileTexts, HasLinks, HasTexts, IsTextIn, character_of, likely_byte, text_in}
pub use Rattle.document_links.specs.Places.{begins_character, is_lf, last_line, point_at, point_of}
pub use Rattle.document_links.specs.Rooted.{begins_path, below_after, depth_after, in_segment, is_slash, kept, path_below, rooted}
pub use Rattle.document_links.specs.Texts.{fits, is_inner, is_plain}
pub use Rattle.document_links.specs.Written.{clean, shortened, without_fragment, written}
pub use Rattle.memchr.specs.Find.{IsFirstByte, NoneAfter, Nowhere, Passes, is_byte}
pub use Rattle.std.proofs.Common.{Bool, IfOk, List, None, Option, Result, Some, [], ap, arith, cond, count_by, drop, false, filter, get_or, length, length-drop, length-take, map, not, refl, reverse, rules, subst, sym, take, take-append-drop, tests, true, true≢false, ℕ, ◌++◌, ◌+◌, ◌-◌, ◌<◌, ◌==◌, ◌||◌, ◌∙◌, ◌∷◌, ◌≡◌, ◌≤◌, ◌⊎◌}
pub use Rattle.std.proofs.lemmas.Bool.{agree_below_at, and_from, and_parts, cases_Bool, cond-false, cond-true, eqb-true, false_from_ne_true, le-leb, or_parts}
pub use Rattle.std.proofs.lemmas.Iterator.Consumers.{count_from_yields_List}
pub use Rattle.std.proofs.lemmas.Iterator.Search.{YieldsList-from_take_while}
pub use Rattle.std.proofs.lemmas.List.{get_or_default, length-reverse, reverse-append, reverse-reverse, take_all, take_rest}
pub use Rattle.std.proofs.lemmas.List.Folds.{length-prefix_len, list_any-append, list_any_at, list_any_none}
pub use Rattle.std.proofs.lemmas.List.Sums.{AllPass-from_list_all, count_by-le-length, suffix_len_is, sum_by-append, sum_by-cons}
pub use Rattle.std.proofs.lemmas.Str.{IsUtf8-from_ascii, IsUtf8-from_is_utf8, is_utf8-from_IsUtf8, utf8_lossy-IsUtf8}
pub use Rattle.std.specs.List.{AllPass, list_all, list_any, position_or_len, prefix_len, suffix_len}
pub use Rattle.std.specs.Prelude.{is_some, nat_le}
pub use Rattle.std.specs.Str.{IsUtf8, is_utf8}
pub use Rattle.url.proofs.InputLemmas.{StopsAt, StopsAt-drop-prefix_len, prefix_len_is}
pub use Rattle.url.specs.Input.{is_c0_control_or_space, is_tab_or_new_line}
