-- Entries in the subqueues of their URLs.
use Rattle.std.specs.Prelude.{◌≡◌, ◌<◌, ℕ, List, length, take, slice_get, Some, All}
use Rattle.crawl_keys.specs.Assignment.{subqueue_of}
use Rattle.crawl_queues.specs.declared.entry.Entry.{Entry}
use Rattle.crawl_frontier.specs.Accounts.{AccountId}
use Rattle.crawl_certificate.specs.AccountEntries.{entries_in, entries_of, DifferByUrl}

-- the URL of each entry belongs to its queue, and no two entries of a queue have the same URL
pub record AreQueues (subqueue : List ℕ → ℕ) (queues : List (List Entry)) : Type 0 where
  pub placed : (queue : ℕ) (entries : List Entry) → slice_get queues queue ≡ Some entries → All (λ e. subqueue e.url ≡ queue) entries
  pub apart : (queue : ℕ) (entries : List Entry) → slice_get queues queue ≡ Some entries → DifferByUrl entries

-- for each of the first n queues, the number of entries that come before its own
abbrev pub AreFirsts : ℕ → List (List Entry) → List ℕ → Type 0
AreFirsts count queues firsts =
    (queue : ℕ) → queue < count → (entries : List Entry) × (slice_get queues queue ≡ Some entries) × (slice_get firsts queue ≡ Some (length (entries_in (take queue queues))))

-- all entries of an account, and for each subqueue the number of entries that come before its own
pub record AreLaidOut (account : AccountId) (all : List Entry) (firsts : List ℕ) : Type 0 where
  pub whole : all ≡ entries_of account
  pub queues : AreQueues (λ url. subqueue_of url account.workers) (take account.workers account.queues)
  pub first : AreFirsts account.workers account.queues firsts
