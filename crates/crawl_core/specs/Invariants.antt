-- What is true of every state of a run.
use Rattle.std.specs.Prelude.{◌≡◌, ℕ, ◌+◌, ◌≤◌, true, false, not, List, [], ◌++◌, length, map, slice_get, Some}
use Rattle.std.specs.List.{list_all}
use Rattle.crawl_core.specs.declared.event.Event.{Event}
use Rattle.crawl_core.specs.declared.reply.Reply.{Reply}
use Rattle.crawl_core.specs.Flags.{one_if}
use Rattle.crawl_core.specs.Messages.{UrlsDiffer, NumbersInOrder}
use Rattle.crawl_core.specs.Subqueue.{Subqueue, waiting}
use Rattle.crawl_core.specs.GateSide.{GateSide, holds, remembers}
use Rattle.crawl_core.specs.State.{State, count_of}
use Rattle.crawl_core.specs.History.{accepted_in, accepted_urls, taken_urls, done_in, AreOut, was_closed, was_ended, has_unit, last_word}

-- the maximum has room for the opening unit, which is held from the start. With a maximum of 0 it would be exceeded before any
-- event, so no frontier is made with 0
abbrev pub HasRoom : ℕ → Type 0
HasRoom max = 1 ≤ max

abbrev pub AreDifferent : List ℕ → Type 0
AreDifferent numbers = (i j n : ℕ) → slice_get numbers i ≡ Some n → slice_get numbers j ≡ Some n → i ≡ j

-- if this number of units is held: it is at most the maximum, and 0 after the gate was closed; while the gate is open, no sender
-- remembers a closed word; and no sender holds two units
pub record GateInvariant (gate : GateSide) (count : ℕ) : Type 0 where
  pub within : count ≤ gate.max
  pub empty : gate.closed ≡ true → count ≡ 0
  pub met : gate.closed ≡ false → list_all (λ entry. not entry.1.closed) gate.remembered ≡ true
  pub holders : AreDifferent gate.holders

-- no more URLs were taken than were accepted; no URL was accepted twice; the messages of each sender are numbered 0, 1, 2, .. in
-- order; and if the subqueue is busy, a URL was taken from it
pub record SubqueueInvariant (queue : Subqueue) : Type 0 where
  pub within : queue.taken ≤ length queue.accepted
  pub distinct : UrlsDiffer queue.accepted
  pub numbered : NumbersInOrder queue.accepted
  pub begun : one_if queue.busy ≤ queue.taken

abbrev pub EachSubqueue : (Subqueue → Type 0) → State → Type 0
EachSubqueue P state = (place : ℕ) (queue : Subqueue) → slice_get state.subqueues place ≡ Some queue → P queue

-- a subqueue is as the history states: it accepted these messages; the URLs of the first of them were taken, in order, and those of
-- the others wait; and each fetch of a taken URL is done, except the last one if the subqueue is busy
pub record IsAfter (history : List (Event × Reply)) (place : ℕ) (queue : Subqueue) : Type 0 where
  pub accepted : queue.accepted ≡ accepted_in place history
  pub taken : queue.taken ≡ length (taken_urls place history)
  pub waits : accepted_urls place history ≡ taken_urls place history ++ map (λ m. m.url) (waiting queue)
  pub done : done_in place history + one_if queue.busy ≡ length (taken_urls place history)

-- a state is one of a frontier with these numbers, as the history states
pub record IsState (workers max : ℕ) (history : List (Event × Reply)) (state : State) : Type 0 where
  pub maximum : state.gate.max ≡ max
  pub right_length : length state.subqueues ≡ workers
  pub queues : (place : ℕ) (queue : Subqueue) → slice_get state.subqueues place ≡ Some queue → IsAfter history place queue
  pub no_others : (place : ℕ) → workers ≤ place → (accepted_in place history ≡ []) × (taken_urls place history ≡ [])
  pub units : AreOut (count_of state) history
  pub closed : state.gate.closed ≡ was_closed history
  pub opening : state.gate.opening ≡ not (was_ended history)
  pub holders : (sender : ℕ) → holds state.gate sender ≡ has_unit history sender
  pub remembered : (sender : ℕ) → remembers state.gate sender ≡ last_word history sender

-- the opening unit was given back, no sender holds one, and every accepted message was taken and is done
pub record IsFinished (state : State) : Type 0 where
  pub opened : state.gate.opening ≡ false
  pub nobody : state.gate.holders ≡ []
  pub done : EachSubqueue (λ queue. (queue.taken ≡ length queue.accepted) × (queue.busy ≡ false)) state
