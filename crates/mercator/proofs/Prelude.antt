-- The names that most proofs cite, passed on from one place. Declares nothing.
pub use Rattle.crawl_certificate.specs.Certificate.{IsAscending, IsCrawl, result_urls}
pub use Rattle.crawl_keys.specs.HostFilter.{allows, filter_of, is_good}
pub use Rattle.crawl_keys.specs.declared.error.KeyError.{KeyError}
pub use Rattle.crawl_pages.specs.declared.page.PageResult.{PageResult}
pub use Rattle.crawl_report.specs.Printing.{joined}
pub use Rattle.crawl_report.specs.Unreached.{unreached_of}
pub use Rattle.crawl_run.specs.Crawls.{AreCounts, ComesIn, CrawlFails, IsJudgedAt, is_incomplete}
pub use Rattle.crawl_run.specs.declared.crawled.Crawled.{Crawled}
pub use Rattle.crawl_run.specs.declared.error.CrawlError.{CrawlError}
pub use Rattle.crawl_run.specs.declared.failure.CrawlFailure.{CrawlFailure}
pub use Rattle.mercator.specs.Ending.{Begins, EndsByText}
pub use Rattle.mercator.specs.Errors.{of_crawl, of_crawl_by, of_log, of_logged, of_seed, of_session, of_site, status_of_error}
pub use Rattle.mercator.specs.Plans.{IsVisible, IsWithinLimits, crawl_of, has_notices, is_bad_suffix, is_input, known_bytes, known_seeds, lists_input, plan_of, suffixes_of}
pub use Rattle.mercator.specs.Outputs.{AreFiles, AskForOneCrawl, AskForOneReport, AskForOneText, HasNoOutput, EndsBy, FailsCrawl, FailsList, FailsLog, Gains, GainsAs, HasLog, IsBroken, IsCheckText, IsChecked, IsDiff, IsDoneWithNote, IsOutput, IsCrawlOutput, MayNote, OfFile, OfFiles, Resumes, ReportsError, ReportsInUse, no_identity, reports, settings_of, error_lines}
pub use Rattle.mercator.specs.WebCrawl.{AreAllSeeds, AreSeeds, AreUnreached, ComesOf, CrawlPlan, IsBegun, IsCrawlReport, IsCrawlText, IsFirstBadSeed, IsFound, IsPlain, IsBasicText, IsRefused, IsSeedError, IsSiteCrawl, IsSiteFailure, IsTextOf, IsUnbegun, IsUnread, pages_to_list, printed_with}
pub use Rattle.mercator.specs.declared.commands.error.CommandError.{CommandError}
pub use Rattle.mercator.specs.declared.commands.planned.Plan.{Plan}
pub use Rattle.saved_pages.specs.SavedWeb.{page_of, page_urls}
pub use Rattle.saved_web.specs.KnownPages.{page_at}
pub use Rattle.std.proofs.Common.{Bool, Bor, Err, Global, IfErr, IfOk, IfSome, IsErr, IsSomeAnd, List, None, Ok, Option, Result, Some, String, Vec, [], add-one, ap, append-nil, arith, drop, drop-cons, false, get_or, if◌then◌else◌, inl, inr, length, map, not, refl, rules, string_bytes, subst, sym, take, take-append-drop, true, true≢false, vec_len, ℕ, ◌&&◌, ◌++◌, ◌+◌, ◌-◌, ◌<◌, ◌∙◌, ◌∷◌, ◌≡◌, ◌≤◌, ◌⊎◌}
pub use Rattle.std.proofs.KnownBytes.{Appends-nil, Appends-trans}
pub use Rattle.std.proofs.lemmas.Grind.{common_steps, same_number_lists}
pub use Rattle.std.proofs.lemmas.List.{get_or-map, length-map, take_all, take_more, take_rest}
pub use Rattle.std.proofs.lemmas.Result.{err_from_is_err_and}
pub use Rattle.std.specs.Cmp.Lexicographic.{nat_list_cmp_total, slice_cmp}
pub use Rattle.std.specs.Io.KnownBytes.{Appends, Consumes}
pub use Rattle.std.specs.List.{flat_map, list_all}
pub use Rattle.std.specs.List.Sorted.{IsPermutation, IsSortedByKey}
pub use Rattle.std.specs.Ordering.{is_lt, nat_cmp, ordering_reverse}
pub use Rattle.std.specs.Str.Lines.{lines}
