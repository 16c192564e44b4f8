use Rattle.std.proofs.Common.{◌≡◌}
use Rattle.crawl_session.specs.Frontiers as kept
use Rattle.crawl_session.specs.Stats.{stats_below}
use Rattle.crawl_session.proofs.frontier.Frontier.all_stats.Given as goal

abbrev pub invariant-loop-queue : goal.invariant-loop-queue
invariant-loop-queue l = (state : kept.Frontier) → kept.Shows l.self state → l.all ≡ stats_below state l.queue
