-- The names that most proofs cite, passed on from one place. Declares nothing.
pub use Rattle.crawl_pages.specs.declared.page.Page.{Page}
pub use Rattle.crawl_pages.specs.declared.page.PageResult.{PageResult}
pub use Rattle.crawl_sources.specs.Tallies.{Count, IsTally, count_of, pointed}
pub use Rattle.site_check.specs.Aliases.{is_alias, is_alias_page, is_document, is_document_page, is_file_page, is_in, is_own_page}
pub use Rattle.site_check.specs.Base.{Counts, count_at, first_in, has_folder, hint_at, is_in_folder, is_often, often_first, one_if, path_count, place_path, row_paths}
pub use Rattle.site_check.specs.Broken.{Linked, after_byte, any_end, begins, broken_of, file_in, file_mark, fits, is_ignored, is_last, is_place_ignored, is_star, is_unfound, linked, linked_at, matches, matches_place, matches_target, names_file, redirects_of, result_at, rows_at, rows_with, shown, target_in, ways_at, ways_with}
pub use Rattle.site_check.specs.Hints.{folder_in, hint_of, hints_at, hints_in, hints_of, hints_of_page}
pub use Rattle.site_check.specs.Ignored.{anchors_in, entries_in, entry_in, is_used, matches_row, missing_texts, not_ignored, text_at, unused}
pub use Rattle.site_check.specs.Invalid.{AreInvalid, AreTexts, ascends, ascends_after, invalid_at, invalid_in, invalid_rows_in, invalid_with, link_text, link_texts, next_text, once, once_after, once_next, rises, rises_after, row_of, text_of, texts_if, texts_in}
pub use Rattle.site_check.specs.Leads.{HasNoLink, Indices, Numbers, Target, indices_at, indices_in, indices_with, lead_to, leads_at, leads_from, leads_of, missing_from, moved_target, number_at, number_in, number_with, own_number, target_at, targets_of, to_number}
pub use Rattle.site_check.specs.Leaving.{is_outside, leaving_in, leaving_of, leaving_row_in, outside_at, outside_linked, outside_number, outside_of, outside_row, outside_targets, outside_text, outside_texts, path_after, path_from, row_at, shown_at, step_up, steps_up}
pub use Rattle.site_check.specs.Names.{AreNamed, IsKnown, Names, after_slashes, has_name, is_slash, known_at, known_with, named_at, only_name, has_place_in}
pub use Rattle.site_check.specs.Anchors.{anchor_text}
pub use Rattle.site_check.specs.Reported.{TargetRow, is_gone, places_left, rows_left, target_row, with_left}
pub use Rattle.site_check.specs.RowMeanings.{rows_in, way_of}
pub use Rattle.site_check.specs.Totals.{capped, is_invalid, is_leaving, is_missing, is_page, is_anchor, links_if, own_links, place_count, places_if, row_links, totals_by, totals_of, url_count}
pub use Rattle.site_check.specs.Unlisted.{is_missed, is_other_of}
pub use Rattle.site_check.specs.declared.invalid.PageLink.{PageLink}
pub use Rattle.site_check.specs.declared.leads.Lead.{Lead}
pub use Rattle.site_files.specs.Files.{PageFile, pages_of}
pub use Rattle.site_files.specs.declared.files.SiteFiles.{SiteFiles}
pub use Rattle.std.proofs.Common.{Bool, Global, IfOk, List, None, Option, Some, Vec, [], ap, append_assoc, arith, cond, count_by, drop, false, filter, fold, get_or, inl, inr, length, length-append, length-take-le, map, not, refl, slice_get, string_bytes, subst, suc, sum_by, sym, take, true, zero, ℕ, ◌++◌, ◌+◌, ◌<◌, ◌^◌, ◌||◌, ◌&&◌, ◌∙◌, ◌∷◌, ◌≡◌, ◌≤◌}
pub use Rattle.std.proofs.lemmas.Bool.{cases_Bool, cond-false, cond-true, ltb-false}
pub use Rattle.std.proofs.lemmas.Grind.{common_steps}
pub use Rattle.std.proofs.lemmas.List.{length-map, map_more, take-append-drop, take_more}
pub use Rattle.std.proofs.lemmas.List.Elements.{filter-append, filter_more}
pub use Rattle.std.proofs.lemmas.List.Sums.{count_by-le-length, fold-append, fold_more, fold_push, length-filter}
pub use Rattle.std.proofs.lemmas.Option.{get_or_from_slice_get, slice_get-map, slice_get_read, slice_get_within}
pub use Rattle.std.proofs.lemmas.Result.{IfOk-at_ok, IfOk-weaker}
pub use Rattle.std.proofs.lemmas.Slice.Eq.{bytes_eq-Decides}
pub use Rattle.std.specs.Borrow.{Bor}
pub use Rattle.std.specs.List.{flat_map, list_any}
pub use Rattle.std.specs.Option.{option_map, option_map_or}
pub use Rattle.std.specs.Str.{bytes_eq}
