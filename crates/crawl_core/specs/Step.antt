-- One step of the frontier, composed of the gate's half and those of the subqueues: the reply to an event in a state, and the state
-- after it.
use Rattle.std.specs.Prelude.{◌≡◌, ℕ, List, not, slice_get, slice_set, if◌then◌else◌, Option, Some, None}
use Rattle.crawl_core.specs.declared.event.Event.{Event}
use Rattle.crawl_core.specs.declared.event.Event.TheVariants.{Look, Enter, Admit, Back, EndSeeds, Take, Done, Close}
use Rattle.crawl_core.specs.declared.reply.Reply.{Reply}
use Rattle.crawl_core.specs.declared.reply.Reply.TheVariants as says
use Rattle.crawl_core.specs.declared.reply.Refusal.{Refusal}
use Rattle.crawl_core.specs.declared.reply.Refusal.TheVariants as why
use Rattle.crawl_core.specs.Messages.{Message, has_url}
use Rattle.crawl_core.specs.Subqueue.{Subqueue, oldest, next_message, after_accepting, after_taking, after_finishing}
use Rattle.crawl_core.specs.GateSide.{GateTurn, holds, let_go, look, enter, back, end_seeds, close}
use Rattle.crawl_core.specs.State.{State, unfinished_in, count_of}

-- a reply, and the state after it
pub record Turn : Type 0 where
  pub reply : Reply
  pub state : State

-- a refused event changes nothing
abbrev pub refused : State → Refusal → Turn
refused state reason = record { reply = says.Refused reason; state = state }

-- a unit was given back: the reply is the number that is left
abbrev pub counted : State → Turn
counted state = record { reply = says.Count (count_of state); state = state }

-- a step that changes only the gate
abbrev pub by_gate : State → GateTurn → Turn
by_gate state done = record { reply = done.reply; state = record state { gate = done.gate } }

abbrev pub with_subqueue : State → ℕ → Subqueue → State
with_subqueue state place queue = record state { subqueues = slice_set state.subqueues place queue }

-- `Admit`: if the subqueue accepted the URL before, the reply is `Seen`; otherwise it is added at the end, with the sender's unit
abbrev pub put : State → ℕ → List ℕ → ℕ → Subqueue → Turn
put state sender url place queue = let message = next_message queue sender url in record {
  reply = says.Accepted place message.number;
  state = record {
    gate = let_go state.gate sender;
    subqueues = slice_set state.subqueues place (after_accepting queue message);
  };
}

abbrev pub admit_to : State → ℕ → List ℕ → ℕ → Option Subqueue → Turn
admit_to state sender url place None = refused state why.NoSuch
admit_to state sender url place (Some queue) =
    if not (holds state.gate sender) then refused state why.Nothing
    else if has_url queue.accepted url then record { reply = says.Seen; state = state }
    else put state sender url place queue

-- `Take`: the oldest message that waits, if there is one; its subqueue is then busy
abbrev pub take_oldest : State → ℕ → Subqueue → Option Message → Turn
take_oldest state place queue None = record { reply = says.Empty; state = state }
take_oldest state place queue (Some message) = record {
  reply = says.Taken message.url;
  state = with_subqueue state place (after_taking queue);
}

abbrev pub take_from : State → ℕ → Option Subqueue → Turn
take_from state place None = refused state why.NoSuch
take_from state place (Some queue) =
    if queue.busy then refused state why.Busy
    else take_oldest state place queue (oldest queue)

-- `Done`: the subqueue is no longer busy
abbrev pub done_with : State → ℕ → Option Subqueue → Turn
done_with state place None = refused state why.NoSuch
done_with state place (Some queue) =
    if queue.busy then counted (with_subqueue state place (after_finishing queue))
    else refused state why.Nothing

-- the effect of each event, after the checks for which it may be refused
abbrev pub turn : State → Event → Turn
turn state (Look sender) = by_gate state (look state.gate (unfinished_in state) sender)
turn state (Enter sender) = by_gate state (enter state.gate (unfinished_in state) sender)
turn state (Admit sender url place) = admit_to state sender url place (slice_get state.subqueues place)
turn state (Back sender) = by_gate state (back state.gate (unfinished_in state) sender)
turn state EndSeeds = by_gate state (end_seeds state.gate (unfinished_in state))
turn state (Take place) = take_from state place (slice_get state.subqueues place)
turn state (Done place) = done_with state place (slice_get state.subqueues place)
turn state Close = by_gate state (close state.gate (unfinished_in state))

-- from the old state, the event has this reply and leads to the new state
pub record Step (old : State) (event : Event) (reply : Reply) (new : State) : Type 0 where
  pub reply_is : reply ≡ (turn old event).reply
  pub state_is : new ≡ (turn old event).state
