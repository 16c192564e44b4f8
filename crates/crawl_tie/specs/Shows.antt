-- The events of the machine for each atomic step, and the states that represent a moment.
use Rattle.std.specs.Prelude.{◌≡◌, ℕ, suc, ◌≤◌, Bool, true, take, List, [], ◌∷◌, ◌++◌, length, map, Some, slice_get, if◌then◌else◌}
use Rattle.crawl_core.specs.declared.event.Event.{Event}
use Rattle.crawl_core.specs.declared.event.Event.TheVariants.{Look, Enter, Admit, Back, EndSeeds, Take, Done, Close}
use Rattle.crawl_core.specs.declared.reply.Reply.{Reply}
use Rattle.crawl_core.specs.declared.reply.Reply.TheVariants as says
use Rattle.crawl_core.specs.declared.reply.Refusal.TheVariants as why
use Rattle.crawl_core.specs.Messages as core
use Rattle.crawl_core.specs.Subqueue.{Subqueue, waiting}
use Rattle.crawl_core.specs.State.{State, count_of}
use Rattle.crawl_keys.specs.Assignment.{subqueue_of}
use Rattle.crawl_gate.specs.Word.{bits}
use Rattle.crawl_gate.specs.View.{units_held}
use Rattle.crawl_gate.specs.GateInvariant as gates
use Rattle.crawl_gate.specs.Seat.{GateId}
use Rattle.crawl_queues.specs.declared.entry.Entry.{Entry}
use Rattle.crawl_queues.specs.declared.entry.Message.{Message}
use Rattle.crawl_queues.specs.Entries.{KeepsRule}
use Rattle.crawl_queues.specs.Rule.{SubqueueInvariant, home, plain}
use Rattle.crawl_queues.specs.History as subqueues
use Rattle.crawl_tie.specs.Whole.{Lane, Whole}
use Rattle.crawl_tie.specs.Acts.{Act, Splits, Looks, LooksAway, Enters, Loses, LeavesOffer, LeavesSeen, LeavesFetch, LeavesSeeds, Closes, NotClosesClosed, NotClosesPending, Pushes, Pops, PopsNone, FindsNothing, TakesIn}

-- the row of the table: the events of a step, and their replies
abbrev pub events_of : Act → List (Event × Reply)
events_of Splits = []
events_of (Looks s x) = (Look s, says.Word x.0 x.1) ∷ []
events_of (LooksAway s x) = (Look s, says.Word x.0 x.1) ∷ (Enter s, says.Refused (if x.1 then why.Closed else why.Full)) ∷ []
events_of (Enters s n) = (Enter s, says.Entered (suc n)) ∷ []
events_of (Loses s x) = (Enter s, says.Lost) ∷ []
events_of (LeavesOffer s n) = (Back s, says.Count n) ∷ []
events_of (LeavesSeen s q url n) = (Admit s url q, says.Seen) ∷ (Back s, says.Count n) ∷ []
events_of (LeavesFetch q n) = (Done q, says.Count n) ∷ []
events_of (LeavesSeeds n) = (EndSeeds, says.Count n) ∷ []
events_of Closes = (Close, says.Closed) ∷ []
events_of NotClosesClosed = (Close, says.Closed) ∷ []
events_of (NotClosesPending n) = (Close, says.Pending n) ∷ []
events_of (Pushes q e) = (Admit e.sender e.url q, says.Accepted q e.number) ∷ []
events_of (Pops q e) = (Take q, says.Taken e.url) ∷ []
events_of (PopsNone q) = (Take q, says.Empty) ∷ []
events_of (FindsNothing q) = []
events_of (TakesIn q) = []

abbrev pub events : List Act → List (Event × Reply)
events [] = []
events (act ∷ acts) = events_of act ++ events acts

-- the machine's messages have no hops
abbrev pub message_of : Entry → core.Message
message_of e = record { url = e.url; sender = e.sender; number = e.number }

-- the list of what was sent to a subqueue, and the list of what was taken from it
pub record HasLists (gate : GateId) (workers q : ℕ) (m : subqueues.Moment) (sent taken : List Entry) : Type 0 where
  pub kept : SubqueueInvariant m.items m.views
  pub here : kept.home ≡ home gate workers q
  pub sent_is : kept.sent ≡ sent
  pub taken_is : kept.taken ≡ taken

-- a subqueue of the machine represents this one: what was sent, how much of it was taken, and whether a fetch is in progress
pub record ShowsLane (gate : GateId) (workers q : ℕ) (queue : Subqueue) (lane : Lane) : Type 0 where
  pub sent : List Entry
  pub taken : List Entry
  pub lists : HasLists gate workers q lane.moment sent taken
  pub accepts : map message_of sent ≡ queue.accepted
  pub takes : length taken ≡ queue.taken
  pub busy : queue.busy ≡ lane.fetching

-- a state of the machine represents this moment
pub record ShowsWhole (gate : GateId) (workers : ℕ) (state : State) (w : Whole) : Type 0 where
  pub word : w.gate.words ≡ bits (count_of state, state.gate.closed) ∷ []
  pub holders : state.gate.holders ≡ w.offering
  pub remembered : state.gate.remembered ≡ w.loaded
  pub opening : state.gate.opening ≡ w.seeding
  pub max : state.gate.max ≡ w.max
  pub lanes : (q : ℕ) (l : Lane) → slice_get w.lanes q ≡ Some l → (queue : Subqueue) × (slice_get state.subqueues q ≡ Some queue) × ShowsLane gate workers q queue l

-- ## The invariants, for what is represented

-- the word and the number of units of a state
pub record ShowsGate (state : State) (gate : gates.Moment) : Type 0 where
  pub word : gate.words ≡ bits (count_of state, state.gate.closed) ∷ []
  pub units : units_held gate.views ≡ count_of state

-- the lists of a subqueue: sent, taken, waiting
pub record ShowsLists (queue : Subqueue) (sent taken : List Entry) (waits : List Message) : Type 0 where
  pub sends : map message_of sent ≡ queue.accepted
  pub takes : map message_of taken ≡ take queue.taken queue.accepted
  pub leaves : map message_of (map plain waits) ≡ waiting queue

-- each URL was admitted to the subqueue to which its host is assigned
abbrev pub IsPlaced : ℕ → ℕ → Subqueue → Type 0
IsPlaced workers q queue = (k : ℕ) (m : core.Message) → slice_get queue.accepted k ≡ Some m → subqueue_of m.url workers ≡ q

-- the count is the number of units held, at most the maximum, and 0 if the gate is closed
pub record CountsUnits (max : ℕ) (gate : gates.Moment) : Type 0 where
  pub closed : Bool
  pub word : gate.words ≡ bits (units_held gate.views, closed) ∷ []
  pub within : units_held gate.views ≤ max
  pub empty : closed ≡ true → units_held gate.views ≡ 0

-- what was sent is what was taken, followed by what waits; and each entry may come after those before it
pub record ListsKeep (workers q : ℕ) (sent taken : List Entry) (waits : List Message) : Type 0 where
  pub split : map message_of sent ≡ map message_of taken ++ map message_of (map plain waits)
  pub rule : KeepsRule workers q [] sent
