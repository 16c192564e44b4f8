-- What an account lists, how it agrees with the senders of a run, and why a run has no account.
use Rattle.std.specs.Prelude.{◌≡◌, ◌≢◌, ◌⊎◌, ℕ, ◌<◌, Bool, true, List, [], length, Some, slice_get}
use Rattle.crawl_queues.specs.declared.entry.Entry.{Entry}
use Rattle.crawl_queues.specs.declared.book.Logged.TheVariants.{Seen}
use Rattle.crawl_frontier.specs.declared.error.FinishError.{FinishError}
use Rattle.crawl_frontier.specs.declared.error.FinishError.TheVariants.{MissingPart, Unsettled, Disagree, NoMemory}
use Rattle.crawl_queues.specs.Entries.{has_url, entries_of, KeepsRule}
use Rattle.crawl_queues.specs.Books.{BookId, sent_to}
use Rattle.crawl_frontier.specs.Parts.{WorkerId, SenderId}

-- x is at index k
abbrev pub At : {X : Type 0} → List X → ℕ → X → Type 0
At xs k x = slice_get xs k ≡ Some x

-- the books are those of one of the workers or senders
abbrev pub IsPart : List WorkerId → List SenderId → BookId → Type 0
IsPart closed senders b = ((k : ℕ) × (w : WorkerId) × At closed k w × (w.book ≡ b)) ⊎ ((k : ℕ) × (s : SenderId) × At senders k s × (s.book ≡ b))

-- each queue has its worker among these
abbrev pub HasWorkers : ℕ → List WorkerId → Type 0
HasWorkers workers closed = (q : ℕ) → q < workers → (k : ℕ) × (w : WorkerId) × At closed k w × (w.queue ≡ q)

-- the books agree with the entries of subqueue q: the entries that they have as accepted are those with their id, in order, and
-- each URL that they have as seen is at its index there
pub record Agrees (q : ℕ) (es : List Entry) (b : BookId) : Type 0 where
  pub sent : sent_to q b.log ≡ entries_of b.id es
  pub seen : (k : ℕ) (url : List ℕ) → At b.log k (Seen url q) → has_url url es ≡ true

-- the sender of each entry is a worker or sender of the run; and the sender of some entry is not
abbrev pub HasSenders : List WorkerId → List SenderId → List Entry → Type 0
HasSenders closed senders es = (k : ℕ) (e : Entry) → At es k e → (b : BookId) × IsPart closed senders b × (b.id ≡ e.sender)

abbrev pub HasUnknownSender : List WorkerId → List SenderId → List Entry → Type 0
HasUnknownSender closed senders es = (k : ℕ) × (e : Entry) × At es k e × ((b : BookId) → IsPart closed senders b → b.id ≢ e.sender)

-- an account agrees with the closed workers and the senders of a run
pub record Accounts (workers : ℕ) (closed : List WorkerId) (senders : List SenderId) (queues : List (List Entry)) : Type 0 where
  pub len : length queues ≡ workers
  -- each queue has its worker, each worker its own queue, and what it took is what the account lists there
  pub worked : HasWorkers workers closed
  pub once : (j k : ℕ) (v w : WorkerId) → At closed j v → At closed k w → v.queue ≡ w.queue → j ≡ k
  pub taken : (k : ℕ) (w : WorkerId) → At closed k w → At queues w.queue w.taken
  -- the books of each sender agree, and the sender of each entry is one of them
  pub agrees : (q : ℕ) (es : List Entry) → At queues q es → (b : BookId) → IsPart closed senders b → Agrees q es b
  pub parts : (q : ℕ) (es : List Entry) → At queues q es → HasSenders closed senders es

-- each list keeps the rule of its subqueue
abbrev pub AllKeepRule : ℕ → List (List Entry) → Type 0
AllKeepRule workers queues = (q : ℕ) (es : List Entry) → At queues q es → KeepsRule workers q [] es

-- what contracts see of an account
pub record AccountId : Type 0 where
  pub workers : ℕ
  pub queues : List (List Entry)

-- what was found under a queue's lock: the queue of the shard, the list sent, and whether the worker was seen to have taken all of it
pub record Found : Type 0 where
  pub queue : ℕ
  pub sent : List Entry
  pub is_taken : Bool

-- The list keeps the rule of its shard's subqueue. If it was seen to be taken, it is what a closed worker of the queue took.
pub record IsFound (workers : ℕ) (closed : List WorkerId) (q : ℕ) (f : Found) : Type 0 where
  pub rule : KeepsRule workers f.queue [] f.sent
  pub taken : f.is_taken ≡ true → (k : ℕ) × (w : WorkerId) × At closed k w × (w.queue ≡ q) × (w.taken ≡ f.sent)

-- what can be found for each queue
pub record AreFound (workers : ℕ) (closed : List WorkerId) (found : List Found) : Type 0 where
  pub len : length found ≡ workers
  pub each : (q : ℕ) (f : Found) → At found q f → IsFound workers closed q f

-- The lock of the queue has its own shard, one worker took all that was sent, and the books of each sender agree with that.
pub record IsSettled (closed : List WorkerId) (senders : List SenderId) (q : ℕ) (f : Found) : Type 0 where
  pub here : f.queue ≡ q
  pub taken : f.is_taken ≡ true
  pub once : (j k : ℕ) (v w : WorkerId) → At closed j v → At closed k w → v.queue ≡ q → w.queue ≡ q → j ≡ k
  pub agrees : (b : BookId) → IsPart closed senders b → Agrees q f.sent b

-- q is the least queue that is not settled
pub record IsFirstUnsettled (closed : List WorkerId) (senders : List SenderId) (found : List Found) (q : ℕ) : Type 0 where
  pub there : (f : Found) × At found q f × (¬ IsSettled closed senders q f)
  pub below : (p : ℕ) (f : Found) → p < q → At found p f → IsSettled closed senders p f

-- The error: a worker is missing; or else the sender of an entry that was found; or else some queue disagrees, and this is the
-- least such queue. No clause of an earlier call has the lists that were found. The error is never that the gate is unsettled.
abbrev pub FinishFails : ℕ → List WorkerId → List SenderId → FinishError → Type 0
FinishFails workers closed senders MissingPart =
    (¬ HasWorkers workers closed)
    ⊎ (HasWorkers workers closed × ((found : List Found) × AreFound workers closed found × ((q : ℕ) × (f : Found) × At found q f × HasUnknownSender closed senders f.sent)))
FinishFails workers closed senders (Unsettled word) = ⊥
FinishFails workers closed senders (Disagree q) =
    HasWorkers workers closed
    × ((found : List Found) × AreFound workers closed found
    × ((p : ℕ) (f : Found) → At found p f → HasSenders closed senders f.sent)
    × IsFirstUnsettled closed senders found q)
FinishFails workers closed senders NoMemory = Unit {0}
