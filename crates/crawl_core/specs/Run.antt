-- Runs of the frontier: events with their replies; each event is a step from the state before.
use Rattle.std.specs.Prelude.{◌≡◌, ℕ, List, [], ◌∷◌, length, zip}
use Rattle.crawl_core.specs.declared.event.Event.{Event}
use Rattle.crawl_core.specs.declared.reply.Reply.{Reply}
use Rattle.crawl_core.specs.State.{State, start}
use Rattle.crawl_core.specs.Step.{Step}

-- from the old state, these events have these replies, one after the other, and lead to the new state
abbrev pub Run : State → List (Event × Reply) → State → Type 0
Run old [] new = new ≡ old
Run old (x ∷ xs) new = (next : State) × Step old x.0 x.1 next × Run next xs new

-- a new frontier has these replies to these events, one for each
pub record IsRun (workers max : ℕ) (events : List Event) (replies : List Reply) : Type 0 where
  pub right_length : length replies ≡ length events
  pub end : State
  pub run : Run (start workers max) (zip events replies) end
