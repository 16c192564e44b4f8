-- The names that most proofs cite, passed on from one place. Declares nothing.
pub use Rattle.check_report.specs.declared.value.External.{External}
pub use Rattle.crawl_certificate.specs.Certificate.{IsAscending, IsCrawl, result_urls}
pub use Rattle.crawl_keys.specs.CanonicalText.{canonical, resolve}
pub use Rattle.crawl_keys.specs.HostFilter.{allows}
pub use Rattle.crawl_keys.specs.HostKey.{host_key}
pub use Rattle.crawl_pages.specs.declared.page.PageResult.{PageResult}
pub use Rattle.crawl_sources.specs.Tallies.{pointed}
pub use Rattle.mercator_site.specs.Asks.{Asks, asks_in, asks_of, asks_with, seeds_of}
pub use Rattle.mercator_site.specs.Checks.{AreAliasesIn, AreOthersListed, AreResults, IsCheck, IsFindings, IsSiteCheck, IsSiteCheckAt, IsTopCrawl}
pub use Rattle.mercator_site.specs.External.{AreExternal, host_root, outside, outside_links, row_of, runs, runs_from}
pub use Rattle.mercator_site.specs.Errors.{IsIncompleteAt, IsTopIncomplete, IsUnfinished, is_unfinished, of_crawl, of_crawl_by}
pub use Rattle.mercator_site.specs.Own.{AreOwn, from_own, own_of, while_own}
pub use Rattle.mercator_site.specs.Seeds.{seed_link}
pub use Rattle.mercator_site.specs.Starts.{AreStarts, is_left_out, starts}
pub use Rattle.saved_site.specs.Linked.{IsSiteSource, PageFound, page_at}
pub use Rattle.site_files.specs.Below.{IsTop, begins}
pub use Rattle.site_files.specs.declared.alias.Alias.{Alias}
pub use Rattle.std.proofs.Common.{Err, Global, IfOk, List, Ok, Result, Vec, [], ap, arith, drop, false, get_or, length, map, not, refl, rules, string_bytes, subst, suc, sym, take, true, ℕ, ◌&&◌, ◌||◌, ◌++◌, ◌+◌, ◌==◌, ◌∙◌, ◌∷◌, ◌≡◌, ◌≤◌}
pub use Rattle.std.proofs.lemmas.Grind.{common_steps}
pub use Rattle.std.proofs.lemmas.List.Elements.{All-append, All-cons, All-nil, recursion_from_All}
pub use Rattle.std.proofs.lemmas.Result.{err_from_is_err_and}
pub use Rattle.std.specs.Cmp.Lexicographic.{nat_list_cmp_total, slice_cmp}
pub use Rattle.std.specs.List.Sorted.{IsPermutation, IsSortedByKey}
pub use Rattle.std.specs.Ordering.{is_lt, nat_cmp}
