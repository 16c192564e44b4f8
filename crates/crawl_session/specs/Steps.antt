-- What steps of the machine do, whatever state of the frontier it keeps.
use Rattle.std.specs.Prelude.{◌≡◌, ◌⊎◌, ℕ, true, List, [], ◌∷◌, map}
use Rattle.crawl_core.specs.declared.event.Event.{Event}
use Rattle.crawl_core.specs.declared.event.Event.TheVariants as event
use Rattle.crawl_core.specs.declared.reply.Reply.{Reply}
use Rattle.crawl_core.specs.declared.word.Word.{Word}
use Rattle.crawl_core.specs.Kept.{Kept}
use Rattle.crawl_core.specs.Run.{Run}
use Rattle.crawl_core.specs.Shows.{Shows}
use Rattle.crawl_core.specs.State.{State}
use Rattle.crawl_core.specs.Step.{turn}
use Rattle.crawl_session.specs.declared.answer.Answer.{Answer}
use Rattle.crawl_session.specs.Exchanges.{Exchange, client, is_entered}

-- whatever state was kept: the answer is the exchange's, and what is kept afterwards is its state
abbrev pub Comes : (State → Exchange) → Kept → Answer → Kept → Type 0
Comes exchange old answer new = (state : State) → Shows old state → ((exchange state).answer ≡ answer) × Shows new (exchange state).state

-- whatever state was kept, what is kept now is the state after this event
abbrev pub Leads : Kept → Event → Kept → Type 0
Leads old event new = (state : State) → Shows old state → Shows new (turn state event).state

-- the client enters and gives its unit back
abbrev pub returned : State → State
returned state = (turn (turn state (event.Enter client)).state (event.Back client)).state

-- the client has not entered, or it has and gave its unit back
abbrev pub GoesBack : Kept → Kept → Type 0
GoesBack old new =
    (state : State) → Shows old state → Shows new state ⊎ ((is_entered (turn state (event.Enter client)).reply ≡ true) × Shows new (returned state))

-- no event, or a look, or a look, an entry and the return
abbrev pub AreGivenUp : List Event → Type 0
AreGivenUp events =
    (events ≡ []) ⊎ ((events ≡ event.Look client ∷ []) ⊎ (events ≡ event.Look client ∷ event.Enter client ∷ event.Back client ∷ []))

-- the same state, but for the words that senders remember
abbrev pub with_words : State → List (ℕ × Word) → State
with_words state words = record state { gate = record state.gate { remembered = words } }

-- memory was out: the events made so far have led to the state as it was, but for the words that senders remember
pub record GivenUp (state : State) (kept : Kept) : Type 0 where
  pub history : List (Event × Reply)
  pub next : State
  pub run : Run state history next
  pub events : AreGivenUp (map (λ x. x.0) history)
  pub words : List (ℕ × Word)
  pub same : next ≡ with_words state words
  pub shows : Shows kept next

-- the same whatever state was kept
abbrev pub GivesUp : Kept → Kept → Type 0
GivesUp old new = (state : State) → Shows old state → GivenUp state new
