-- Which states the machine's stored values may represent.
use Rattle.std.specs.Prelude.{◌≡◌, ℕ, ◌≤◌, map, length}
use Rattle.std.specs.List.{AllZip}
use Rattle.crawl_core.specs.declared.event.Event.{Event}
use Rattle.crawl_core.specs.declared.reply.Reply.{Reply}
use Rattle.crawl_core.specs.Flags.{one_if}
use Rattle.crawl_core.specs.Messages.{count_from}
use Rattle.crawl_core.specs.Subqueue.{Subqueue, waiting}
use Rattle.crawl_core.specs.State.{State}
use Rattle.crawl_core.specs.Step.{Step}
use Rattle.crawl_core.specs.Kept.{Kept, KeptQueue, number_at}

-- what is kept of a subqueue represents this one: the URLs after those taken wait, all accepted URLs are kept, and the number that
-- is kept for each sender is that of its URLs
pub record ShowsQueue (kept : KeptQueue) (queue : Subqueue) : Type 0 where
  pub waits : kept.waiting ≡ map (λ m. m.url) (waiting queue)
  pub seen : kept.seen ≡ map (λ m. m.url) queue.accepted
  pub numbers : (sender : ℕ) → number_at kept.numbers sender ≡ count_from queue.accepted sender
  pub busy : kept.busy ≡ queue.busy
  pub begun : one_if queue.busy ≤ queue.taken
  pub within : queue.taken ≤ length queue.accepted

-- what is kept represents this state
pub record Shows (kept : Kept) (state : State) : Type 0 where
  pub gate : kept.gate ≡ state.gate
  pub queues : AllZip ShowsQueue kept.queues state.subqueues

-- for each state that was kept, the event has the reply of its step, and what is kept after it is the state after that step
pub record Makes (old : Kept) (event : Event) (reply : Reply) (new : Kept) : Type 0 where
  pub step : (state : State) → Shows old state → (next : State) × Step state event reply next × Shows new next
