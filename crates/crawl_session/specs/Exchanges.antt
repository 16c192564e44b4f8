-- Which events of the machine a request means, and its answer.
use Rattle.std.specs.Prelude.{ℕ, suc, Bool, true, false, not, ◌&&◌, List, [], ◌∷◌, length, nat_lt, slice_get, if◌then◌else◌, Option, Some, None}
use Rattle.crawl_core.specs.declared.event.Event.{Event}
use Rattle.crawl_core.specs.declared.event.Event.TheVariants as event
use Rattle.crawl_core.specs.declared.reply.Reply.{Reply}
use Rattle.crawl_core.specs.declared.reply.Reply.TheVariants as says
use Rattle.crawl_core.specs.declared.reply.Refusal.TheVariants as why
use Rattle.crawl_core.specs.Fetching.{in_fetch}
use Rattle.crawl_core.specs.Handing.{can_hand_over}
use Rattle.crawl_core.specs.State.{State, count_of}
use Rattle.crawl_core.specs.Step.{turn}
use Rattle.crawl_core.specs.Subqueue.{Subqueue}
use Rattle.crawl_session.specs.declared.answer.Answer.{Answer}
use Rattle.crawl_session.specs.declared.answer.Answer.TheVariants.{Replied, Counted}
use Rattle.crawl_session.specs.declared.request.Request.{Request}
use Rattle.crawl_session.specs.declared.request.Request.TheVariants.{Offer, Next, Again, Later, Done, EndSeeds, Stats, Seen}
use Rattle.crawl_session.specs.declared.deferrals.Deferred.{Deferred}
use Rattle.crawl_session.specs.declared.stats.Stats as counts
use Rattle.crawl_session.specs.Stats.{stats_for}
use Rattle.crawl_session.specs.Frontiers.{Frontier, deferrals_at, waits_again, with_deferrals}
use Rattle.crawl_session.specs.Seen.{add_seen, seen_with}

-- the one sender of a session's offers: its client
abbrev pub client : ℕ
client = 0

-- what comes of a request in a state of the machine: the events that it means, with their replies; its answer; and the state
-- after them
pub record Exchange : Type 0 where
  pub history : List (Event × Reply)
  pub answer : Answer
  pub state : State

-- no event more: this reply is the answer
abbrev pub ends : Reply → State → Exchange
ends reply state = record { history = []; answer = Replied reply; state = state }

-- an event, and then what comes by its reply
abbrev pub after : State → Event → (Reply → State → Exchange) → Exchange
after state event more =
    let done = turn state event in
    let rest = more done.reply done.state in
    record rest { history = (event, done.reply) ∷ rest.history }

abbrev pub is_entered : Reply → Bool
is_entered (says.Entered count) = true
is_entered _ = false

abbrev pub is_seen : Reply → Bool
is_seen says.Seen = true
is_seen _ = false

abbrev pub is_count : Reply → Bool
is_count (says.Count left) = true
is_count _ = false

abbrev pub is_empty : Reply → Bool
is_empty says.Empty = true
is_empty _ = false

-- the client holds a unit: it goes with the URL, or back if the URL was seen
abbrev pub admitting : State → List ℕ → ℕ → Exchange
admitting state url queue =
    after state (event.Admit client url queue) (λ reply admitted.
    if is_seen reply then after admitted (event.Back client) (λ _ left. ends says.Seen left) else ends reply admitted)

abbrev pub entering : State → List ℕ → ℕ → Exchange
entering state url queue =
    after state (event.Enter client) (λ reply entered. if is_entered reply then admitting entered url queue else ends reply entered)

abbrev pub offering : State → List ℕ → ℕ → Exchange
offering state url queue = after state (event.Look client) (λ _ looked. entering looked url queue)

-- if nothing waits, the gate is closed, if nothing is out
abbrev pub taking : State → ℕ → Exchange
taking state queue =
    after state (event.Take queue) (λ reply taken. if is_empty reply then after taken event.Close ends else ends reply taken)

-- no event: the URL that the subqueue is busy with
abbrev pub taken_again : Option (Option (List ℕ)) → Reply
taken_again None = says.Refused why.NoSuch
taken_again (Some None) = says.Refused why.Nothing
taken_again (Some (Some url)) = says.Taken url

abbrev pub again : State → ℕ → Exchange
again state queue = ends (taken_again (in_fetch state queue)) state

-- a fetch is done, and the seeds end
abbrev pub done_with : State → ℕ → Exchange
done_with state queue = after state (event.Done queue) ends

abbrev pub seeds_ended : State → Exchange
seeds_ended state = after state event.EndSeeds ends

-- the same in a state of a session
pub record Outcome : Type 0 where
  pub history : List (Event × Reply)
  pub answer : Answer
  pub state : Frontier

-- what comes of only the machine
abbrev pub by_machine : Frontier → Exchange → Outcome
by_machine frontier x = record { history = x.history; answer = x.answer; state = record frontier { machine = x.state } }

-- no event
abbrev pub replies : Reply → Frontier → Outcome
replies reply frontier = record { history = []; answer = Replied reply; state = frontier }

-- ---- `offer`

-- an offer that is answered `seen` is counted
abbrev pub noted : ℕ → Outcome → Outcome
noted queue x = record x { state = record x.state { seen = seen_with queue x.answer x.state.seen } }

-- ---- `next`

-- the queue is free, and all that it had accepted when the first of these URLs was put back were taken
abbrev pub is_due : Option Subqueue → List Deferred → Bool
is_due (Some queue) (first ∷ more) = not queue.busy && not (nat_lt queue.taken first.after)
is_due _ _ = false

-- a URL that was put back is taken again: no event
abbrev pub retaking : Frontier → ℕ → List Deferred → Outcome
retaking frontier queue [] = replies (says.Refused why.Busy) frontier
retaking frontier queue (first ∷ more) = replies (says.Taken first.url) (with_deferrals frontier queue (record { waiting = more; fetched = Some first }))

-- the first of those that were put back, if it is due; else the first of those that are waiting
abbrev pub taking_first : Frontier → ℕ → List Deferred → Outcome
taking_first frontier queue waiting =
    if is_due (slice_get frontier.machine.subqueues queue) waiting then retaking frontier queue waiting
    else by_machine frontier (taking frontier.machine queue)

abbrev pub taking_next : Frontier → ℕ → List Deferred → Option Deferred → Outcome
taking_next frontier queue waiting None = taking_first frontier queue waiting
taking_next frontier queue waiting (Some url) = replies (says.Refused why.Busy) frontier

-- ---- `again`, `done`

abbrev pub taking_again : Frontier → ℕ → Option Deferred → Outcome
taking_again frontier queue None = by_machine frontier (again frontier.machine queue)
taking_again frontier queue (Some url) = replies (says.Taken url.url) frontier

-- a URL that was put back gives its sender's unit back
abbrev pub finishing_again : Frontier → ℕ → ℕ → Outcome
finishing_again frontier queue sender =
    let done = turn frontier.machine (event.Back sender) in
    let left : Frontier = record frontier { machine = done.state } in
    record {
      history = (event.Back sender, done.reply) ∷ [];
      answer = Replied done.reply;
      state = if is_count done.reply then with_deferrals left queue (record { waiting = (deferrals_at frontier queue).waiting; fetched = None }) else left;
    }

abbrev pub finishing : Frontier → ℕ → Option Deferred → Outcome
finishing frontier queue None = by_machine frontier (done_with frontier.machine queue)
finishing frontier queue (Some url) = finishing_again frontier queue url.sender

-- ---- `later`

abbrev pub accepted_at : Option Subqueue → ℕ
accepted_at None = 0
accepted_at (Some queue) = length queue.accepted

abbrev pub accepted_in : State → ℕ → ℕ
accepted_in state queue = accepted_at (slice_get state.subqueues queue)

-- the URL waits after all that its queue has accepted
abbrev pub put_back : Frontier → ℕ → List ℕ → ℕ → Frontier
put_back frontier queue url sender =
    with_deferrals frontier queue (waits_again (deferrals_at frontier queue) (record { url = url; sender = sender; after = accepted_in frontier.machine queue }))

-- the unit of the URL that the queue is busy with goes to this sender
abbrev pub handing : State → ℕ → ℕ → Exchange
handing state queue sender =
    after state (event.Done queue) (λ _ freed. after freed (event.Look sender) (λ _ looked. after looked (event.Enter sender) (λ _ entered. ends (says.Count (count_of state)) entered)))

-- a URL that was not put back before gets a sender of its own
abbrev pub deferring_first : Frontier → ℕ → List ℕ → Outcome
deferring_first frontier queue url =
    let sender = suc frontier.senders in
    if can_hand_over frontier.machine queue sender then by_machine (record (put_back frontier queue url sender) { senders = sender }) (handing frontier.machine queue sender)
    else replies (says.Refused why.Nothing) frontier

abbrev pub deferring_taken : Frontier → ℕ → Option (Option (List ℕ)) → Outcome
deferring_taken frontier queue None = replies (says.Refused why.NoSuch) frontier
deferring_taken frontier queue (Some None) = replies (says.Refused why.Nothing) frontier
deferring_taken frontier queue (Some (Some url)) = deferring_first frontier queue url

-- one that was keeps its sender: no event
abbrev pub deferring : Frontier → ℕ → Option Deferred → Outcome
deferring frontier queue None = deferring_taken frontier queue (in_fetch frontier.machine queue)
deferring frontier queue (Some url) = replies (says.Count (count_of frontier.machine)) (put_back frontier queue url.url url.sender)

-- ---- `stats`: no event

abbrev pub stats_answer : Option counts.Stats → Answer
stats_answer None = Replied (says.Refused why.NoSuch)
stats_answer (Some stats) = Counted stats

abbrev pub counting : Frontier → Option ℕ → Outcome
counting frontier queue = record { history = []; answer = stats_answer (stats_for frontier queue); state = frontier }

-- ---- `seen`: no event

abbrev pub seen_reply : Option ℕ → Reply
seen_reply None = says.Refused why.NoSuch
seen_reply (Some before) = says.Seen

-- this many offers to the queue were answered `seen` before
abbrev pub counting_seen : Frontier → ℕ → ℕ → Outcome
counting_seen frontier queue count =
    record { history = []; answer = Replied (seen_reply (slice_get frontier.seen queue)); state = record frontier { seen = add_seen queue count frontier.seen } }

-- what comes of a request
abbrev pub exchange : Frontier → Request → Outcome
exchange frontier (Offer url queue) = noted queue (by_machine frontier (offering frontier.machine url queue))
exchange frontier (Next queue) = taking_next frontier queue (deferrals_at frontier queue).waiting (deferrals_at frontier queue).fetched
exchange frontier (Again queue) = taking_again frontier queue (deferrals_at frontier queue).fetched
exchange frontier (Later queue) = deferring frontier queue (deferrals_at frontier queue).fetched
exchange frontier (Done queue) = finishing frontier queue (deferrals_at frontier queue).fetched
exchange frontier EndSeeds = by_machine frontier (seeds_ended frontier.machine)
exchange frontier (Stats queue) = counting frontier queue
exchange frontier (Seen queue count) = counting_seen frontier queue count
