use Rattle.crawl_certificate.proofs.Prelude.{◌≡◌, None, subst, ◌∙◌, allows, DifferByUrl, first_error}
use Rattle.crawl_certificate.proofs.Certificates.{certified}
use Rattle.crawl_certificate.proofs.certificate.certify_with.Goals as goal
use Rattle.crawl_certificate.proofs.Crawls.{one_each}

pub returns : goal.returns
returns g c =
    let allowed = allows c.args.filter.now in
    let seeds = c.args.seeds.now in
    let results = c.args.results.items in
    let accepted = c.in_ok-accepted in
    let pages = c.in_ok-pages in
    let verdict : first_error allowed seeds accepted.accepted results ≡ None =
    subst (λ rs. first_error allowed seeds accepted.accepted rs ≡ None) (c.whole-all.ensures.results ∙ c.deref.ensures.value)
    (subst (λ es. first_error allowed seeds es c.whole-all.result.results.now ≡ None) c.whole-all.ensures.accepted c.in_ok-find_error.ensures) in
    let all =
    certified c.args.account.now allowed seeds accepted.accepted results pages.pages.items
    accepted.ensures.all (subst DifferByUrl accepted.ensures.all accepted.ensures.apart) accepted.ensures.queues verdict pages.ensures.same pages.ensures.sorted in
    record {
      error = all.error;
      same = pages.ensures.same;
      ascends = all.ascends;
      one_each = all.one_each;
      counts = all.counts;
      reached = all.reached;
      hops = all.hops;
    }
