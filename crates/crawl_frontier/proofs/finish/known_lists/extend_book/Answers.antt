use Rattle.crawl_frontier.proofs.Prelude.{List, subst, Logged, LogIsOf}
use Rattle.crawl_frontier.proofs.Logging.{raised_log, raised_known, lines_are_of}
use Rattle.crawl_frontier.proofs.finish.known_lists.extend_book.Goals as goal

pub returns-clause-book : goal.returns-clause-book
returns-clause-book g c =
    let b = c.args.book.now in
    λ i. record { id = b.id; counts = b.counts.items; log = raised_log b.learned.items c.extend_all.new.learned.items b.lines.items c.extend_all.ensures.raised c.requires.known.there i }

pub returns-clause-log : goal.returns-clause-log
returns-clause-log g c =
    let b = c.args.book.now in
    let learned = c.extend_all.new.learned.items in
    let raised = c.extend_all.ensures.raised in
    let known = raised_known g.K.Name.queues g.K.Name.workers b.learned.items learned b.lines.items raised c.requires.known in
    subst (λ (log : List Logged). LogIsOf c.args.shards.now.items log) (raised_log b.learned.items learned b.lines.items raised c.requires.known.there)
    (lines_are_of c.args.shards.now.items learned b.lines.items c.extend_all.ensures.learned known.there)
