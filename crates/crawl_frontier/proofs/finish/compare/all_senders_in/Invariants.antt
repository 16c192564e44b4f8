use Rattle.crawl_frontier.proofs.Prelude.{◌<◌, ℕ, List, Entry, At, SendersIn}
use Rattle.crawl_frontier.proofs.finish.compare.all_senders_in.Given as goal

abbrev pub invariant-loop-list : goal.invariant-loop-list
invariant-loop-list l = (k : ℕ) (es : List Entry) → k < l.list-index → At l.lists k es → SendersIn l.ids es
