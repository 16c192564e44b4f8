use Rattle.crawl_workers.proofs.Prelude.{arith, ◌∙◌, allows, RanTo}
use Rattle.crawl_workers.proofs.Turning.{all_ran_push, all_ran_length}
use Rattle.crawl_workers.proofs.threads.+fn-run_all-scope+run_all.Goals as goal

pub scope-push_reserved-requires : goal.scope-push_reserved-requires
scope-push_reserved-requires g t c =
    let len = all_ran_length _ _ _ c.captures.workers.items c.in_ok-ends.ends.items c.in_ok-ends.ensures.ran in
    omega (arith, len, c.requires.room, c.in_ok-ends.ensures.room, c.in_ok-ends.ends.ok.0)

pub scope-returns : goal.scope-returns
scope-returns g t c =
    let kept = c.in-Some.ensures in
    let ran : RanTo g.K.Name.workers (allows g.K.Name.filter) (g.F.SessionFetch.meaning c.captures.fetcher.now) c.captures.worker c.in-Some.end = rw (c.in-Ok.ensures.ok, c.of.ensures) at kept in
    record {
      ran = rw c.push_reserved.ensures.items (all_ran_push _ _ _ c.captures.workers.items c.in_ok-ends.ends.items c.captures.worker c.in-Some.end c.in_ok-ends.ensures.ran ran);
      error = tt;
      room = c.push_reserved.ensures.capacity ∙ c.in_ok-ends.ensures.room;
    }
