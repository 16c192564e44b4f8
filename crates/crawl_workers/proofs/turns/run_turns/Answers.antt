use Rattle.crawl_workers.proofs.Prelude.{arith, allows}
use Rattle.crawl_workers.proofs.Turning.{take_front}
use Rattle.crawl_workers.proofs.turns.run_turns.Goals as goal

pub ends_of-requires-clause-ended : goal.ends_of-requires-clause-ended
ends_of-requires-clause-ended g c =
    let go = c.runners_of-runners.ensures.ran (allows g.K.Name.filter) (g.F.SessionFetch.meaning c.args.fetcher.now) in
    let done = c.rounds.ensures.ran c.args.workers.items (rw c.as_mut_slice.ensures.value go) in
    rw (take_front c.runners_of-runners.result.len c.rounds.new.runners _ (omega (arith, c.rounds.ensures.len, c.runners_of-runners.result.ok.0))) done.1
