-- The report of a crawl that has no other optional sections than queues and sources.
use Rattle.mercator.proofs.Prelude.{common_steps, ◌≡◌, ℕ, ◌+◌, ◌<◌, Bool, false, List, [], length, get_or, sym, ap, subst, ◌∙◌, arith, if◌then◌else◌, get_or-map, length-map, slice_cmp, nat_list_cmp_total, IsPermutation, IsSortedByKey, is_lt, nat_cmp, ordering_reverse, lines, IsAscending, result_urls, allows, unreached_of, page_urls, PageResult, AreUnreached, CrawlPlan, pages_to_list, IsCrawlText, IsPlain, IsBasicText, printed_with}
use Rattle.std.proofs.lemmas.List.Sorted.{length_permutation}
use Rattle.std.specs.declared.cmp.Ordering.TheVariants.{Less}
use Rattle.crawl_report.proofs.Format.{text_same}
use Rattle.crawl_report.specs.Today.{text_with}
use Rattle.crawl_report.specs.declared.sections.Sections.{Sections}

-- results that ascend are in order
in_order : (pages : List PageResult) → IsAscending (result_urls pages) → IsSortedByKey (λ r. r.url) (slice_cmp nat_cmp) pages
in_order pages ascends k d low below =
    let url : PageResult → List ℕ = λ r. r.url in
    let within : k + 1 < length (result_urls pages) = subst (λ n. k + 1 < n) (sym (length-map pages url)) below in
    let first : get_or (result_urls pages) k d.url ≡ (get_or pages k d).url = get_or-map url pages k d d.url (omega (arith, below)) in
    let second : get_or (result_urls pages) (k + 1) d.url ≡ (get_or pages (k + 1) d).url = get_or-map url pages (k + 1) d d.url below in
    let less : slice_cmp nat_cmp (get_or pages k d).url (get_or pages (k + 1) d).url ≡ Less =
    (λ i. slice_cmp nat_cmp (sym first i) (sym second i)) ∙ ascends k (k + 1) d.url (omega arith) within in
    ap is_lt (nat_list_cmp_total.antisymm (get_or pages (k + 1) d).url (get_or pages k d).url ∙ ap ordering_reverse less)

none_left : (urls : List (List ℕ)) → length urls ≡ 0 → urls ≡ []
none_left urls none = grind (arith, common_steps)

-- no unreached pages if the report does not list them
none_requested : (sections : Sections) (bytes : List ℕ) (suffixes : List (List ℕ)) (pages : List PageResult) (urls : List (List ℕ)) → sections.unreached ≡ false → AreUnreached (pages_to_list sections (lines bytes)) suffixes pages urls → urls ≡ []
none_requested sections bytes suffixes pages urls none unseen =
    none_left urls (length_permutation [] urls (subst (λ a. IsPermutation (unreached_of (allows suffixes) pages (if a then page_urls (lines bytes) else [])) urls) none unseen.same))

plain_print : (with_sources : Bool) (plan : CrawlPlan) (pages : List PageResult) (counts : List ℕ) (urls : List (List ℕ)) → IsPlain with_sources plan → urls ≡ [] → printed_with plan pages counts urls ≡ text_with plan.queues with_sources pages counts
plain_print with_sources plan pages counts urls plain none = grind arith

pub basic_text : (workers : ℕ) (with_sources : Bool) (plan : CrawlPlan) (bytes listed : List ℕ) (seeds suffixes : List (List ℕ)) (text : List ℕ) → IsPlain with_sources plan → IsCrawlText workers plan bytes listed seeds suffixes text
    → IsBasicText workers plan.queues with_sources bytes listed seeds suffixes text
basic_text workers with_sources plan bytes listed seeds suffixes text plain own = record {
  pages = own.pages;
  crawl = own.crawl;
  counts = own.counts;
  counted = own.counted;
  written =
      own.output.written
      ∙ plain_print with_sources plan own.pages own.counts own.output.unreached plain (none_requested plan.options.sections bytes suffixes own.pages own.output.unreached (ap (λ (p : Sections). p.unreached) plain.sections) own.output.unseen)
      ∙ text_same plan.queues with_sources own.pages own.counts (in_order own.pages own.crawl.found.ascends);
}
