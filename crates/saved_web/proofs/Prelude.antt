-- The names that most proofs cite, passed on from one place. Declares nothing.
pub use Rattle.crawl_keys.specs.Outcome.{IsRefusal}
pub use Rattle.crawl_pages.specs.declared.page.Page.{Page}
pub use Rattle.hash_index.proofs.Listed.{found_at, push_cases}
pub use Rattle.hash_index.specs.Lists.{index_of}
pub use Rattle.saved_pages.proofs.PageIndex.{no_page, page_there, with_url}
pub use Rattle.saved_pages.proofs.UrlIndices.{get_front, lead_still}
pub use Rattle.saved_pages.proofs.WebLines.{under_more}
pub use Rattle.saved_pages.specs.PageLists.{PageRead, has, page_with, urls}
pub use Rattle.saved_pages.specs.SavedWeb.{found_page, link_texts, link_url, moved_text, page_after, page_of, page_urls, put_link}
pub use Rattle.saved_pages.specs.UrlIndices.{KeepIndices, LeadTo}
pub use Rattle.saved_pages.specs.WebChecks.{Before, checked, line_error, page_error, content_error, text_error, under_error}
pub use Rattle.saved_pages.specs.WebErrors.{IsSound, IsWebError, IsWebRefusal, before, error_after, is_second, under_last_page}
pub use Rattle.saved_pages.specs.WebLines.{is_link, is_moved_line, is_page, is_page_at, line_of, line_of_text, page_url, says_link, says_moved, says_page, url_said}
pub use Rattle.saved_pages.specs.declared.error.WebError.{WebError}
pub use Rattle.saved_pages.specs.declared.line.Line.{Line}
pub use Rattle.saved_web.specs.Ahead.{AreAhead, IsAhead, shown_page}
pub use Rattle.saved_web.specs.KnownLinks.{AreLinks, AreOfFolder, TextLink}
pub use Rattle.saved_web.specs.KnownPages.{KnownPages, known_after, known_page}
pub use Rattle.saved_web.specs.LongPages.{AreFound}
pub use Rattle.saved_web.specs.Reading.{AllFound, AreRead, AreReadAfter, FoundTo, IsHeader, ReadTo}
pub use Rattle.saved_web.specs.declared.ahead.chunk.PageAhead.{PageAhead}
pub use Rattle.std.proofs.Common.{Bool, Err, IfErr, IfOk, IfSome, List, None, Ok, Option, Result, Some, SomeIff, [], ap, append-nil, append_assoc, arith, codes, cond, drop, false, get_or, inl, inr, is_some, length, length-append, map, nat_lt, ne_eqb, not, refl, rules, slice_get, subst, suc, sym, take, true, ℕ, ◌++◌, ◌+◌, ◌<◌, ◌==◌, ◌||◌, ◌∙◌, ◌∷◌, ◌≡◌, ◌≤◌}
pub use Rattle.std.proofs.lemmas.Bool.{cases_Bool, cond-false, cond-true, or_parts, or_right}
pub use Rattle.std.proofs.lemmas.Bool.Decides.{nat_tests}
pub use Rattle.std.proofs.lemmas.Grind.{common_steps}
pub use Rattle.std.proofs.lemmas.List.{drop_more, length-map, map-append, map_more, map_push, take_more}
pub use Rattle.std.proofs.lemmas.List.Elements.{All-contains, All-push, Contains-get_or, filter_map-append}
pub use Rattle.std.proofs.lemmas.List.Folds.{list_any-append}
pub use Rattle.std.proofs.lemmas.List.Sums.{sum_by-append, take_while-cons}
pub use Rattle.std.proofs.lemmas.Option.{get_or_from_slice_get, slice_get-get_or, slice_get_within}
pub use Rattle.std.proofs.lemmas.Result.{err_from_is_err_and}
pub use Rattle.std.proofs.lemmas.Slice.Eq.{bytes_eq-Decides}
pub use Rattle.std.specs.Bool.{if◌then◌else◌}
pub use Rattle.std.specs.List.{All, Contains, cons_option, count_by, filter_map, flat_map, list_any, position}
pub use Rattle.std.specs.Option.{is_none, option_map, option_map_or, option_or}
pub use Rattle.std.specs.Str.{IsUtf8, bytes_eq, is_utf8}
pub use Rattle.std.specs.Str.Lines.{lines}
pub use Rattle.text_lines.specs.FirstLine.{after_line}
pub use Rattle.text_lines.specs.LeastError.{IsLeastError, SoundAfter}
pub use Rattle.text_lines.specs.declared.lines.LineError.TheVariants.{NotText, TooLong}
pub use denote.Shadow.{shadow}
pub use denote.Text.{Utf8}
