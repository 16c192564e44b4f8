-- The names that most proofs cite, passed on from one place. Declares nothing.
pub use Rattle.crawl_certificate.specs.AccountEntries.{DifferByUrl, entries_in, entries_of}
pub use Rattle.crawl_certificate.specs.CertErrors.{first_error, first_of, has_result, is_accepted, is_one_hop_after, is_founded, is_linked, link_missing, not_fetched, seed_missing, some_missing, contains_url, twice, unfounded}
pub use Rattle.crawl_certificate.specs.Certificate.{AllowedAreIn, ArePages, AreReachable, CountsOf, IsAscending, IsCrawl, NothingLost, entry_urls, result_urls, unless_error}
pub use Rattle.crawl_certificate.specs.Culprits.{HasNoneAt, IsCulprit, Names, NamesCulprit, NamesFirst, first_named, is_a_link, is_a_stray, shows_error, is_lost, is_twice, is_unfounded}
pub use Rattle.crawl_certificate.specs.Least.{IsLeast, is_below, lesser, url_if, url_of}
pub use Rattle.crawl_certificate.specs.Lookups.{Finds, Urls, at_this, is_in, pointed, has_url_at}
pub use Rattle.crawl_certificate.specs.Marks.{AreMarks, AreTogether, MarksOnly, in_one}
pub use Rattle.crawl_certificate.specs.Queues.{AreFirsts, AreLaidOut, AreQueues}
pub use Rattle.crawl_certificate.specs.Reachable.{WalkOf}
pub use Rattle.crawl_certificate.specs.ResultPages.{page_in}
pub use Rattle.crawl_certificate.specs.Walks.{AreFrom, IsWalk}
pub use Rattle.crawl_certificate.specs.declared.marks.Marks.{Marks}
pub use Rattle.crawl_frontier.proofs.Gets.{get_before, get_last, same_at}
pub use Rattle.crawl_frontier.specs.Accounts.{AccountId, At}
pub use Rattle.crawl_keys.specs.Assignment.{subqueue_of}
pub use Rattle.crawl_keys.specs.HostFilter.{allows}
pub use Rattle.crawl_pages.specs.Pages.{links_of}
pub use Rattle.crawl_pages.specs.declared.page.Page.{Page}
pub use Rattle.crawl_pages.specs.declared.page.PageResult.{PageResult}
pub use Rattle.crawl_queues.specs.declared.entry.Entry.{Entry}
pub use Rattle.std.proofs.Common.{Bool, Err, Global, IfSome, IsSomeAnd, IsTrue, List, None, Ok, Option, Result, Some, Vec, [], ap, arith, cond, false, get_or, if◌then◌else◌, inl, inr, is_some, length, length-append, map, not, refl, replicate, rules, set, slice_get, subst, suc, suc-le-suc, sym, take, true, zero, zero-le, ℕ, ◌%◌, ◌&&◌, ◌++◌, ◌+◌, ◌<◌, ◌==◌, ◌^◌, ◌||◌, ◌↔◌, ◌∙◌, ◌∷◌, ◌≡◌, ◌≢◌, ◌≤◌, ◌⊎◌}
pub use Rattle.std.proofs.Math.Bool.{or-false}
pub use Rattle.std.proofs.lemmas.Bool.{and_from, and_left, and_parts, and_right, both_ways, cases_Bool, cases_lt, cond-false, cond-true, eq-eqb, eqb-true, false_from_ne_true, lt-ltb, ltb-true, ne_eqb, not-false, not_from_true, or_cases, or_from, or_left, or_parts, or_right, true_from_ne_false}
pub use Rattle.std.proofs.lemmas.Bool.Decides.{nat_tests}
pub use Rattle.std.proofs.lemmas.Grind.{common_steps, flat_map-append}
pub use Rattle.std.proofs.lemmas.List.{append-nil, get_or-map, length-map, length-take-le, length_push, map-append, map_more, take_all, take_more}
pub use Rattle.std.proofs.lemmas.List.Elements.{All-append, All-contains, All-contains_itself, All-from_recursion, All-weaker, Contains-append_cases, recursion_from_All}
pub use Rattle.std.proofs.lemmas.List.Folds.{list_any-append, list_any_none}
pub use Rattle.std.proofs.lemmas.List.Sorted.{All-permutation, Contains-permutation, IsPermutation-cons, IsPermutation-map, IsPermutation-middle, IsPermutation-refl, IsPermutation-sym, IsPermutation-trans, ranks_by, sorted_far, sum_by-IsPermutation}
pub use Rattle.std.proofs.lemmas.List.Sums.{sum_by-append, sum_by-cons}
pub use Rattle.std.proofs.lemmas.Map.Text.{is_eq-slice_cmp}
pub use Rattle.std.proofs.lemmas.Option.{get_or_from_slice_get, slice_get-get_or, slice_get_read, slice_get_within}
pub use Rattle.std.proofs.lemmas.Result.{IfOk-at_ok}
pub use Rattle.std.specs.Borrow.{Bor}
pub use Rattle.std.specs.Cmp.Lexicographic.{nat_list_cmp_total, slice_cmp}
pub use Rattle.std.specs.List.{All, AllByRecursion, Contains, count_by, list_any}
pub use Rattle.std.specs.List.Sorted.{IsPermutation, IsSortedByKey}
pub use Rattle.std.specs.Ordering.{is_eq, is_lt, nat_cmp, ordering_reverse}
pub use Rattle.std.specs.Str.{bytes_eq}
pub use Rattle.std.specs.declared.cmp.Ordering.{Ordering}
pub use Rattle.std.specs.declared.cmp.Ordering.TheVariants.{Equal, Greater, Less}
