-- The books of a sender: its id, its count for each subqueue, and its log.
use Rattle.std.specs.Prelude.{◌≡◌, ℕ, ◌+◌, ◌<◌, ◌==◌, List, [], ◌∷◌, ◌++◌, length, Some, slice_get, slice_set, replicate, if◌then◌else◌, vec_len, vec_capacity}
use Rattle.crawl_queues.specs.declared.entry.Entry.{Entry}
use Rattle.crawl_queues.specs.declared.book.Logged.{Logged}
use Rattle.crawl_queues.specs.declared.book.Logged.TheVariants.{Accepted, Seen}
use Rattle.crawl_queues.specs.declared.book.Book.{Book}
use Rattle.crawl_queues.specs.QueueId.{QueueId}
use Rattle.crawl_queues.specs.Logs.{AreKnown, lists_of, log_of}

pub record BookId : Type 0 where
  pub id : ℕ
  pub counts : List ℕ
  pub log : List Logged

-- what contracts see of the books
abbrev pub book_of : Book → BookId
book_of b = record { id = b.id; counts = b.counts.items; log = log_of (lists_of b.learned.items) b.lines.items }

-- the lines are about entries of the lists that are known of these queues
abbrev pub Knows : List QueueId → ℕ → Book → Type 0
Knows queues workers b = AreKnown queues workers b.learned.items b.lines.items

-- there is room for one more line in the log
abbrev pub HasRoom : Book → Type 0
HasRoom b = vec_len b.lines < vec_capacity b.lines

-- the entries of the log that subqueue q accepted
abbrev pub sent_to : ℕ → List Logged → List Entry
sent_to q [] = []
sent_to q (Accepted e p ∷ ls) = if p == q then e ∷ sent_to q ls else sent_to q ls
sent_to q (Seen u p ∷ ls) = sent_to q ls

-- the entries have this id, and the numbers from n on
abbrev pub Numbered : ℕ → ℕ → List Entry → Type 0
Numbered id n [] = Unit {0}
Numbered id n (e ∷ es) = (e.sender ≡ id) × (e.number ≡ n) × Numbered id (n + 1) es

-- the count for each subqueue is the number of entries of the log for it, and these are numbered in order
pub record IsBook (workers : ℕ) (b : BookId) : Type 0 where
  pub len : length b.counts ≡ workers
  pub counted : (q : ℕ) → q < workers → slice_get b.counts q ≡ Some (length (sent_to q b.log))
  pub numbered : (q : ℕ) → Numbered b.id 0 (sent_to q b.log)

-- the books after subqueue q accepted an entry, which is the n-th there, from 0
abbrev pub book_accepting : BookId → ℕ → ℕ → Entry → BookId
book_accepting b q n e = record { id = b.id; counts = slice_set b.counts q (n + 1); log = b.log ++ Accepted e q ∷ [] }

-- the books after a URL of subqueue q was found there
abbrev pub book_seeing : BookId → List ℕ → ℕ → BookId
book_seeing b url q = record { id = b.id; counts = b.counts; log = b.log ++ Seen url q ∷ [] }

-- the books of a sender that has sent nothing
abbrev pub fresh_book : ℕ → ℕ → BookId
fresh_book id workers = record { id = id; counts = replicate workers 0; log = [] }

-- the subqueue of a line of a log
abbrev pub queue_of : Logged → ℕ
queue_of (Accepted e q) = q
queue_of (Seen u q) = q
