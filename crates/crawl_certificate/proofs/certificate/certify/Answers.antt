use Rattle.crawl_certificate.proofs.Prelude.{ap, subst, sym, slice_cmp, IsPermutation, IsSortedByKey, nat_cmp, allows, PageResult, DifferByUrl, unless_error}
use Rattle.crawl_pages.specs.ResultOrder.{is_before}
use Rattle.crawl_pages.proofs.OrderLaws.{results_by_url-in_order}
use Rattle.crawl_pages.proofs.StableSort.{IsPermutation-stable_sort}
use Rattle.crawl_certificate.proofs.Certificates.{certified}
use Rattle.crawl_certificate.proofs.certificate.certify.Goals as goal
use Rattle.crawl_certificate.proofs.Crawls.{one_each}

pub returns : goal.returns
returns c =
    let accepted = c.in_ok-accepted in
    let results = c.args.results.now in
    let pages = c.in_ok-pages in
    let same = subst (IsPermutation results) (sym pages.ensures) (IsPermutation-stable_sort is_before results) in
    let sorted = subst (IsSortedByKey (λ (r : PageResult). r.url) (slice_cmp nat_cmp)) (sym pages.ensures) (results_by_url-in_order results).ascends in
    let all =
    certified c.args.account.now (allows c.args.filter.now) c.args.seeds.now accepted.accepted results pages.pages.items
    accepted.ensures.all (subst DifferByUrl accepted.ensures.all accepted.ensures.apart) accepted.ensures.queues
    (c.in_ok-error_by_marks.ensures results c.in_ok-marks.ensures) same sorted in
    record {
      error = ap unless_error all.error;
      same = same;
      ascends = all.ascends;
      one_each = all.one_each;
      counts = all.counts;
      reached = all.reached;
      hops = all.hops;
    }
