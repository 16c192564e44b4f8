use Rattle.crawl_frontier.proofs.Prelude.{◌≡◌, ◌<◌, ℕ, true, nat_cmp, contains, Entry, At}
use Rattle.crawl_frontier.proofs.finish.compare.senders_in.Given as goal

abbrev pub invariant-loop-entry : goal.invariant-loop-entry
invariant-loop-entry l = (k : ℕ) (e : Entry) → k < l.entry-index → At l.entries k e → contains nat_cmp l.ids e.sender ≡ true
