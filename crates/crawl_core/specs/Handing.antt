-- Handing the unit of the URL that a subqueue is busy with to a sender: `Done`, `Look` and `Enter` in one call. And the progress of
-- a subqueue.
use Rattle.std.specs.Prelude.{◌≡◌, ℕ, suc, ◌-◌, Bool, false, nat_eq, not, ◌&&◌, length, slice_get, if◌then◌else◌, Option, None, Some, option_map}
use Rattle.crawl_core.specs.declared.event.Event.TheVariants.{Look, Enter, Done}
use Rattle.crawl_core.specs.declared.progress.Progress.{Progress}
use Rattle.crawl_core.specs.GateSide.{GateSide, holds}
use Rattle.crawl_core.specs.Kept.{Kept, KeptQueue}
use Rattle.crawl_core.specs.Shows.{Shows}
use Rattle.crawl_core.specs.State.{State, count_of}
use Rattle.crawl_core.specs.Step.{turn}
use Rattle.crawl_core.specs.Subqueue.{Subqueue}

-- the gate is open, and the sender holds no unit
abbrev pub lets_in : GateSide → ℕ → Bool
lets_in gate sender = not gate.closed && not (holds gate sender)

abbrev pub is_fetching : Option Subqueue → Bool
is_fetching None = false
is_fetching (Some queue) = queue.busy

-- after the URL is done, a unit is left for the sender
abbrev pub has_room : State → Bool
has_room state = not (nat_eq (count_of state) (suc state.gate.max))

abbrev pub can_hand_over : State → ℕ → ℕ → Bool
can_hand_over state queue sender = is_fetching (slice_get state.subqueues queue) && (lets_in state.gate sender && has_room state)

-- the state after these three events
abbrev pub handed_over : State → ℕ → ℕ → State
handed_over state queue sender = (turn (turn (turn state (Done queue)).state (Look sender)).state (Enter sender)).state

-- for each state that was kept: if the unit can be handed over, the new state is the one after that, and otherwise the old one
abbrev pub Hands : Kept → ℕ → ℕ → Bool → Kept → Type 0
Hands old queue sender handed new =
    (state : State) → Shows old state → (handed ≡ can_hand_over state queue sender) × Shows new (if handed then handed_over state queue sender else state)

-- the progress of a subqueue, by what is kept, and by a state
abbrev pub kept_progress : KeptQueue → Progress
kept_progress queue = record { accepted = length queue.seen; taken = length queue.seen - length queue.waiting; busy = queue.busy }

abbrev pub progress : Subqueue → Progress
progress queue = record { accepted = length queue.accepted; taken = queue.taken; busy = queue.busy }

-- likewise for the subqueue with this number, if there is one
abbrev pub progress_of : State → ℕ → Option Progress
progress_of state queue = option_map progress (slice_get state.subqueues queue)
