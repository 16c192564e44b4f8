-- The steps of `finish`: how far the workers and senders were taken apart, and the queues settled and compared.
use Rattle.std.specs.Prelude.{◌≡◌, ◌≢◌, ◌⊎◌, ℕ, ◌+◌, ◌<◌, ◌≤◌, true, false, List, [], ◌∷◌, ◌++◌, length, map, Option, None, Some, slice_get, is_some}
use Rattle.std.specs.Ordering.{nat_cmp}
use Rattle.std.specs.BTreeMap.{BTreeMap, get}
use Rattle.std.specs.BTreeSet.{BTreeSet, contains}
use Rattle.crawl_gate.specs.Seat.{GateId}
use Rattle.crawl_queues.specs.declared.entry.Entry.{Entry}
use Rattle.crawl_queues.specs.declared.book.Logged.{Logged}
use Rattle.crawl_queues.specs.declared.book.Logged.TheVariants.{Accepted, Seen}
use Rattle.crawl_frontier.specs.declared.finish.settle.Doubt.{Doubt}
use Rattle.crawl_frontier.specs.declared.finish.settle.Doubt.TheVariants.{Elsewhere, Holds}
use Rattle.crawl_queues.specs.QueueId.{QueueId}
use Rattle.crawl_queues.specs.PassId.{PassId}
use Rattle.crawl_queues.specs.Rule.{popping, home}
use Rattle.crawl_queues.specs.Entries.{has_url, count_of, KeepsRule}
use Rattle.crawl_queues.specs.Growing.{Stays}
use Rattle.crawl_queues.specs.Known.{KnownList}
use Rattle.crawl_frontier.specs.declared.finish.settled.Settled.{Settled}
use Rattle.crawl_frontier.specs.declared.error.FinishError.TheVariants.{Disagree}
use Rattle.crawl_queues.specs.Books.{BookId, IsBook, book_of, queue_of}
use Rattle.crawl_frontier.specs.Parts.{WorkerId, SenderId, ShardId}
use Rattle.crawl_frontier.specs.Accounts.{At, IsPart, Agrees, Accounts, FinishFails}

-- the first list is the rest of one that is used up from its end
abbrev pub Begins : {X : Type 0} → List X → List X → Type 0
Begins xs all = (k : ℕ) (x : _) → At xs k x → At all k x

abbrev pub HasBook : List BookId → BookId → Type 0
HasBook books b = (j : ℕ) × At books j b

-- each worker and sender is left, or its books are here; and all books are those of one of them
pub record Gathered (workers : ℕ) (closed : List WorkerId) (senders : List SenderId) (left : List WorkerId) (lefts : List SenderId) (books : List BookId) : Type 0 where
  pub begin : Begins left closed
  pub begins : Begins lefts senders
  pub closed_in : (k : ℕ) (w : WorkerId) → At closed k w → (k < length left) ⊎ HasBook books w.book
  pub senders_in : (k : ℕ) (s : SenderId) → At senders k s → (k < length lefts) ⊎ HasBook books s.book
  pub parts : (j : ℕ) (b : BookId) → At books j b → IsPart closed senders b
  pub are_books : (j : ℕ) (b : BookId) → At books j b → IsBook workers b

-- the right to pop from each queue is that of a closed worker of this queue
abbrev pub Slots : GateId → ℕ → List QueueId → List WorkerId → BTreeMap ℕ PassId → Type 0
Slots gate workers queues closed rights =
    (q : ℕ) (p : PassId) → get nat_cmp rights q ≡ Some p
    → (k : ℕ) × (w : WorkerId) × At closed k w × (w.queue ≡ q) × (p.view ≡ popping (home gate workers q) w.taken w.empty_pops) × (slice_get queues q ≡ Some p.subqueue)

-- the worker's own right to pop is that of its queue
abbrev pub OwnRight : GateId → ℕ → BTreeMap ℕ PassId → WorkerId → Type 0
OwnRight gate workers rights w =
    (p : PassId) × (get nat_cmp rights w.queue ≡ Some p) × (p.view ≡ popping (home gate workers w.queue) w.taken w.empty_pops)

-- two closed workers have the same queue q
abbrev pub IsShared : List WorkerId → ℕ → Type 0
IsShared closed q = (j k : ℕ) × (v w : WorkerId) × At closed j v × At closed k w × (v.queue ≡ q) × (w.queue ≡ q) × (j ≢ k)

-- for the closed workers from index `from` on: each has a queue, and the right of that queue is here; at a queue below `unshared`,
-- that right is its own, and no other of them has the queue
pub record Placed (gate : GateId) (workers : ℕ) (closed : List WorkerId) (from : ℕ) (rights : BTreeMap ℕ PassId) (unshared : ℕ) : Type 0 where
  pub within : (k : ℕ) (w : WorkerId) → At closed k w → from ≤ k → w.queue < workers
  pub there : (k : ℕ) (w : WorkerId) → At closed k w → from ≤ k → is_some (get nat_cmp rights w.queue) ≡ true
  pub own : (k : ℕ) (w : WorkerId) → At closed k w → from ≤ k → w.queue < unshared → OwnRight gate workers rights w
  pub once : (j k : ℕ) (v w : WorkerId) → At closed j v → At closed k w → from ≤ j → from ≤ k → v.queue ≡ w.queue → w.queue < unshared → j ≡ k
  -- each right that is here is one of theirs
  pub whose : (q : ℕ) → is_some (get nat_cmp rights q) ≡ true → (k : ℕ) × (w : WorkerId) × At closed k w × (from ≤ k) × (w.queue ≡ q)

-- each right is that of one of these queues
abbrev pub RightsOf : List QueueId → BTreeMap ℕ PassId → Type 0
RightsOf queues rights = (q : ℕ) (p : PassId) → get nat_cmp rights q ≡ Some p → slice_get queues q ≡ Some p.subqueue

-- the shard under the lock of queue q, and the right to pop from q: either the shard is this queue's, and what was sent is what was
-- taken; or it is another queue's; or it is this queue's, and the subqueue was not seen to be empty
abbrev pub Shows : List QueueId → ℕ → ShardId → PassId → Option Doubt → Type 0
Shows queues q s right None = (s.queue ≡ q) × (s.sent ≡ right.view.taken)
Shows queues q s right (Some (Elsewhere p)) = (p ≡ s.queue) × (p ≢ q)
Shows queues q s right (Some (Holds held)) =
    (s.queue ≡ q) × (slice_get queues q ≡ Some held.subqueue) × (held.view.sent ≡ s.sent) × (held.view.taken ≡ right.view.taken)

-- the list is the shard's
abbrev pub Settles : ℕ → List QueueId → ℕ → ShardId → PassId → List Entry → Option Doubt → Type 0
Settles workers queues q s right es doubt = (es ≡ s.sent) × KeepsRule workers s.queue [] es × Shows queues q s right doubt

-- the last shard is settled with the right to pop from queue q, and removed
abbrev pub SettlesLast : ℕ → List QueueId → ℕ → List ShardId → List ShardId → BTreeMap ℕ PassId → List Entry → Option Doubt → Type 0
SettlesLast workers queues q shards left rights es doubt =
    (s : ShardId) × (right : PassId) × (shards ≡ left ++ s ∷ []) × (get nat_cmp rights q ≡ Some right) × Settles workers queues q s right es doubt

-- queue q is settled with its shard, the last of the list, and its right to pop
abbrev pub SettlesAt : ℕ → List QueueId → List ShardId → BTreeMap ℕ PassId → ℕ → List Entry → Option Doubt → Type 0
SettlesAt workers queues shards rights q es doubt =
    (j : ℕ) × (s : ShardId) × (right : PassId) × At shards j s × (j + q + 1 ≡ length shards) × (get nat_cmp rights q ≡ Some right)
    × Settles workers queues q s right es doubt

abbrev pub AllSettle : ℕ → List QueueId → List ShardId → BTreeMap ℕ PassId → List (List Entry) → List (Option Doubt) → Type 0
AllSettle workers queues shards rights lists doubts =
    (q : ℕ) (es : List Entry) (doubt : Option Doubt) → At lists q es → At doubts q doubt → SettlesAt workers queues shards rights q es doubt

-- the line of a log is true of these entries
abbrev pub HoldsIn : List Entry → Logged → Type 0
HoldsIn es (Accepted e q) = (k : ℕ) × At es k e
HoldsIn es (Seen u q) = has_url u es ≡ true

abbrev pub HoldsAt : List (List Entry) → Logged → Type 0
HoldsAt lists l = (es : List Entry) → At lists (queue_of l) es → HoldsIn es l

-- more is known of each list, and what was known is still true
abbrev pub AreRaised : List KnownList → List KnownList → Type 0
AreRaised before after = (length after ≡ length before)
    × ((q : ℕ) (t : KnownList) → At before q t → (u : KnownList) × At after q u × (u.list ≡ t.list) × Stays t.items u.items)

-- the list of shards, last first, has the shard of queue q in its place
abbrev pub IsHome : List ShardId → ℕ → ShardId → Type 0
IsHome shards q s = (s.queue ≡ q) × ((j : ℕ) × At shards j s × (j + q + 1 ≡ length shards))

-- what is known of each list is true of its shard, if that is in its place
abbrev pub AreTrueOf : List ShardId → List KnownList → Type 0
AreTrueOf shards learned = (q : ℕ) (s : ShardId) (t : KnownList) → IsHome shards q s → At learned q t → Stays t.items s.sent

-- each line of a log is true of its queue's shard, if that is in its place
abbrev pub LogIsOf : List ShardId → List Logged → Type 0
LogIsOf shards log = (k : ℕ) (l : Logged) (s : ShardId) → At log k l → IsHome shards (queue_of l) s → HoldsIn s.sent l

abbrev pub LogsAreOf : List ShardId → List BookId → Type 0
LogsAreOf shards books = (j : ℕ) (b : BookId) → At books j b → LogIsOf shards b.log

-- the count for subqueue q differs from that of the list
abbrev pub CountFails : ℕ → List (List Entry) → BookId → Type 0
CountFails q lists b = (es : List Entry) × (n : ℕ) × At lists q es × At b.counts q n × (n ≢ count_of b.id es)

-- the books do not agree with the list
abbrev pub DisagreesAt : ℕ → List (List Entry) → BookId → Type 0
DisagreesAt q lists b = (es : List Entry) × At lists q es × (¬ Agrees q es b)

abbrev pub OneDisagrees : ℕ → List (List Entry) → List BookId → Type 0
OneDisagrees q lists books = (j : ℕ) × (b : BookId) × At books j b × DisagreesAt q lists b

-- for each subqueue below `least`, each line of the log is true of its list
abbrev pub LogHolds : ℕ → List (List Entry) → List Logged → Type 0
LogHolds least lists log = (k : ℕ) (l : Logged) → At log k l → queue_of l < least → HoldsAt lists l

abbrev pub LogsHold : ℕ → List (List Entry) → List BookId → Type 0
LogsHold least lists books = (j : ℕ) (b : BookId) → At books j b → LogHolds least lists b.log

-- for each subqueue below `least`, the count is that of the list
abbrev pub CountsHold : ℕ → List (List Entry) → BookId → Type 0
CountsHold least lists b = (q : ℕ) (es : List Entry) → q < least → At lists q es → slice_get b.counts q ≡ Some (count_of b.id es)

-- for each subqueue below `least`, the books agree with its list
abbrev pub AgreesBelow : ℕ → List (List Entry) → BookId → Type 0
AgreesBelow least lists b = (q : ℕ) (es : List Entry) → q < least → At lists q es → Agrees q es b

-- for each subqueue below `least`, its list keeps its rule
abbrev pub KeepRuleBelow : ℕ → ℕ → List (List Entry) → Type 0
KeepRuleBelow workers least lists = (q : ℕ) (es : List Entry) → q < least → At lists q es → KeepsRule workers q [] es

abbrev pub AllAre : {X : Type 0} → (X → Type 0) → List X → Type 0
AllAre P xs = (j : ℕ) (x : _) → At xs j x → P x

-- of the queues below `settled`, `least` is the first at which some books disagree; if there is none, the two are equal
abbrev pub AgreeTo : ℕ → ℕ → List (List Entry) → List BookId → Type 0
AgreeTo least settled lists books = (least ≤ settled) × AllAre (AgreesBelow least lists) books × (least < settled → OneDisagrees least lists books)

-- After the books are compared with the lists, the run has its account, or the least queue that is not settled is known.
pub record CanCompare (workers : ℕ) (closed : List WorkerId) (senders : List SenderId) (s : Settled) : Type 0 where
  pub workers_are : s.workers ≡ workers
  pub len : length s.lists.items ≡ workers
  pub within : s.least ≤ length s.lists.items
  pub books : AllAre (IsBook (length s.lists.items)) (map book_of s.books.items)
  pub logs : LogsHold s.least s.lists.items (map book_of s.books.items)
  pub rule : KeepRuleBelow (length s.lists.items) s.least s.lists.items
  pub account : (least : ℕ) → workers ≤ least → AgreeTo least s.least s.lists.items (map book_of s.books.items) → Accounts workers closed senders s.lists.items
  pub error : (least : ℕ) → least < workers → AgreeTo least s.least s.lists.items (map book_of s.books.items) → FinishFails workers closed senders (Disagree least)

-- the set has exactly the ids of the books
pub record IdsOf (books : List BookId) (ids : BTreeSet ℕ) : Type 0 where
  pub of_books : (s : ℕ) → contains nat_cmp ids s ≡ true → (j : ℕ) × (b : BookId) × At books j b × (b.id ≡ s)
  pub all : (j : ℕ) (b : BookId) → At books j b → contains nat_cmp ids b.id ≡ true

-- the sender of each entry is in the set
abbrev pub SendersIn : BTreeSet ℕ → List Entry → Type 0
SendersIn ids es = (k : ℕ) (e : Entry) → At es k e → contains nat_cmp ids e.sender ≡ true

-- the sender of some entry is not in the set
abbrev pub HasOtherSender : BTreeSet ℕ → List Entry → Type 0
HasOtherSender ids es = (k : ℕ) × (e : Entry) × At es k e × (contains nat_cmp ids e.sender ≡ false)
