-- The entries of an account.
use Rattle.std.specs.Prelude.{◌≢◌, List, take, AllPairs, flat_map}
use Rattle.crawl_queues.specs.declared.entry.Entry.{Entry}
use Rattle.crawl_frontier.specs.Accounts.{AccountId}

-- the entries of these subqueues, one subqueue after the other
abbrev pub entries_in : List (List Entry) → List Entry
entries_in queues = flat_map (λ queue. queue) queues

-- the entries of an account: those of each worker's subqueue
abbrev pub entries_of : AccountId → List Entry
entries_of account = entries_in (take account.workers account.queues)

-- no two entries have the same URL
abbrev pub DifferByUrl : List Entry → Type 0
DifferByUrl entries = AllPairs (λ a b. a.url ≢ b.url) entries
