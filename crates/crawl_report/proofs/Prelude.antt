-- The names that most proofs cite, passed on from one place. Declares nothing.
pub use Rattle.crawl_keys.specs.HostFilter.{allows}
pub use Rattle.crawl_pages.proofs.OrderLaws.{before_ranks, results_at-results_by_url, results_by_url-only}
pub use Rattle.crawl_pages.proofs.StableSort.{IsPermutation-stable_sort, filter-dropped, filter-kept, sorted-stable_sort}
pub use Rattle.crawl_pages.specs.Pages.{is_found, is_missing, is_moved}
pub use Rattle.crawl_pages.specs.ResultOrder.{HasEachUrlOnce, is_before, results_at, results_by_url}
pub use Rattle.crawl_pages.specs.declared.page.Page.TheVariants.{Missing}
pub use Rattle.crawl_pages.specs.declared.page.PageResult.{PageResult}
pub use Rattle.crawl_report.specs.Lines.{Line, text_line}
pub use Rattle.crawl_report.specs.Printing.{Adds, bytes_of, is_json, joined}
pub use Rattle.crawl_report.specs.ReportText.{report, result_line, total_line}
pub use Rattle.crawl_report.specs.Rows.{from_line, is_listed, lines_at, lines_of_all, moved_lines, printed, result_lines, rows_after, lists_sources, total_of}
pub use Rattle.crawl_report.specs.Unreached.{has_result, is_in, is_unreached, unseen_of}
pub use Rattle.crawl_report.specs.declared.out.Out.{Out}
pub use Rattle.crawl_sources.proofs.Counts.{any_push, length_pointed, pointed_more, set_put, url_among}
pub use Rattle.crawl_sources.specs.Sources.{line_of, sources, sources_of}
pub use Rattle.crawl_sources.specs.Tallies.{Count, IsCount, IsTally, count_of, pointed}
pub use Rattle.std.proofs.Common.{AllPairs, Bool, Contains, Global, IfOk, List, Option, Result, Some, Vec, [], ap, append-nil, arith, cond, decimal, drop, false, filter, get_or, if◌then◌else◌, inl, inr, length, length-append, map, not, option_and_then, refl, rules, subst, suc, suc-le-suc, sym, take, true, zero, zero-le, ℕ, ◌%◌, ◌&&◌, ◌++◌, ◌+◌, ◌<◌, ◌==◌, ◌^◌, ◌||◌, ◌↔◌, ◌∙◌, ◌∷◌, ◌≡◌, ◌≢◌, ◌≤◌}
pub use Rattle.std.proofs.lemmas.Bool.{and_from, cases_Bool, le-leb, ne_eqb}
pub use Rattle.std.proofs.lemmas.Grind.{common_steps}
pub use Rattle.std.proofs.lemmas.List.{append_assoc, drop_all, get_or-map, length-map, length-take-le, map-append, map_more, take-append-drop, take_all, take_more}
pub use Rattle.std.proofs.lemmas.List.Concat.{flat_map-append}
pub use Rattle.std.proofs.lemmas.List.Sorted.{Contains-permutation, IsPermutation-map, IsPermutation-sym, answers_always, length_permutation, ranks_by, sum_by-IsPermutation}
pub use Rattle.std.proofs.lemmas.Slice.Eq.{bytes_eq-Decides}
pub use Rattle.std.specs.Borrow.{Bor}
pub use Rattle.std.specs.Cmp.Lexicographic.{nat_list_cmp_total, nat_list_eq_equiv, slice_cmp}
pub use Rattle.std.specs.List.{enumerate_from, flat_map, prefix_len, sum_by}
pub use Rattle.std.specs.List.Sorted.{IsPermutation, IsSortedBy, IsSortedByKey}
pub use Rattle.std.specs.Ordering.{is_lt, nat_cmp}
pub use Rattle.std.specs.Str.{bytes_eq}
