use Rattle.crawl_run.proofs.Prelude.{entries_of, allows}
use native.Mathlib.Omega.{arith}
use Rattle.crawl_certificate.proofs.Crawls.{whole_crawl}
use Rattle.crawl_certificate.proofs.NothingLost.{nothing_lost}
use Rattle.crawl_run.proofs.EndedRuns.{culprit_lost}
use Rattle.crawl_run.proofs.JudgedRuns.{culprit_counted}
use Rattle.crawl_run.proofs.RunResults.{cause_comes, cause_of_run, culprit_judged, urls_counted}
use Rattle.crawl_run.proofs.certificate.crawled_of.Goals as goal

pub returns-in_ok-counts-in-Ok-clause-pages : goal.returns-in_ok-counts-in-Ok-clause-pages
returns-in_ok-counts-in-Ok-clause-pages g c = λ meaning found.
    whole_crawl meaning (allows c.args.settings.now.filter.now) c.args.seeds.now (entries_of c.args.ran.account) _ _ c.in-Ok.ensures.error found c.in-Ok.ensures.same c.in-Ok.ensures.ascends

pub returns-in_ok-counts-in-Ok-clause-counts : goal.returns-in_ok-counts-in-Ok-clause-counts
returns-in_ok-counts-in-Ok-clause-counts g c = urls_counted c.args.ran.account _ _ c.in_ok-counts-in-Ok.ensures c.in-Ok.ensures.counts

pub returns-in-Err-clause-errors : goal.returns-in-Err-clause-errors
returns-in-Err-clause-errors g c = rw c.of_culprit.ensures (cause_of_run c.in-Err.culprit.cause)

pub returns-in-Err-clause-mode : goal.returns-in-Err-clause-mode
returns-in-Err-clause-mode g c = λ mode. rw c.of_culprit.ensures (cause_comes mode c.in-Err.culprit.cause)

pub returns-in-Err-clause-judged : goal.returns-in-Err-clause-judged
returns-in-Err-clause-judged g c = grind (arith, culprit_judged)

pub returns-in-Err-clause-lost : goal.returns-in-Err-clause-lost
returns-in-Err-clause-lost g c =
    rw c.of_culprit.ensures (culprit_lost (allows c.args.settings.now.filter.now) c.args.seeds.now (entries_of c.args.ran.account) _ c.in-Err.culprit c.args.ran.losses (λ none. nothing_lost (allows c.args.settings.now.filter.now) c.args.seeds.now (entries_of c.args.ran.account) _ (c.requires.lost none)) c.in-Err.ensures.error)

pub returns-in-Err-clause-counted : goal.returns-in-Err-clause-counted
returns-in-Err-clause-counted g c = λ workers meaning run.
    rw c.of_culprit.ensures (culprit_counted workers (allows c.args.settings.now.filter.now) meaning c.args.seeds.now (entries_of c.args.ran.account) _ c.args.ran.losses c.in-Err.culprit run c.in-Err.ensures.error)
