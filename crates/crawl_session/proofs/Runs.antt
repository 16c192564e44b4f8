-- The events of a session are a run.
use Rattle.crawl_session.proofs.Prelude.{◌≡◌, ℕ, length, List, [], ◌∷◌, ◌++◌, map, Result, refl, sym, ap, subst, arith, common_steps, zip, Event, Reply, Run, IsRun, turn, Request, Offer, Next, Again, Later, Done, EndSeeds, Seen, Stats, RequestError, Exchange, Outcome, after, entering, exchange, Frontier, request_for, answered, line_exchange, history_of, state_after, Settings}
use Rattle.crawl_core.specs.State.{State, start}

-- the events of an exchange lead from the state to its state
abbrev RunsFrom : State → Exchange → Type 0
RunsFrom state x = Run state x.history x.state

runs_after : (state : State) (e : Event) (more : Reply → State → Exchange) → ((reply : Reply) (next : State) → RunsFrom next (more reply next)) → RunsFrom state (after state e more)
runs_after state e more rest = ((turn state e).state, record { reply_is = refl; state_is = refl }, rest (turn state e).reply (turn state e).state)

entering_runs : (state : State) (url : List ℕ) (queue : ℕ) → RunsFrom state (entering state url queue)
entering_runs state url queue = grind arith

-- likewise for what comes of a request
abbrev RunsTo : Frontier → Outcome → Type 0
RunsTo frontier x = Run frontier.machine x.history x.state.machine

pub exchange_runs : (frontier : Frontier) (request : Request) → RunsTo frontier (exchange frontier request)
exchange_runs frontier (Offer url queue) = grind (arith, runs_after, entering_runs)
exchange_runs frontier (Next queue) = grind arith
exchange_runs frontier (Again queue) = grind arith
exchange_runs frontier (Later queue) = grind arith
exchange_runs frontier (Done queue) = grind arith
exchange_runs frontier (Stats queue) = refl
exchange_runs frontier (Seen queue count) = refl
exchange_runs frontier EndSeeds = grind arith

pub answered_runs : (frontier : Frontier) (line_answers : Result Request RequestError) → RunsTo frontier (answered frontier line_answers)
answered_runs frontier line_answers = grind (arith, exchange_runs)

-- a run, and another from where it ended
pub run_join : (old : State) (front : List (Event × Reply)) (mid : State) (back : List (Event × Reply)) (new : State) → Run old front mid → Run mid back new → Run old (front ++ back) new
run_join old [] mid back new first second = subst (λ s. Run s back new) first second
run_join old (x ∷ xs) mid back new first second = (first.0, first.1, run_join first.0 xs mid back new first.2 second)

pub session_runs : (settings : Settings) (state : Frontier) (lines : List (List ℕ)) → Run state.machine (history_of settings state lines) (state_after settings state lines).machine
session_runs settings state [] = refl
session_runs settings state (line ∷ more) =
    let here = line_exchange settings state line in
    run_join state.machine here.history here.state.machine (history_of settings here.state more) (state_after settings here.state more).machine
    (answered_runs state (request_for settings line)) (session_runs settings here.state more)

-- ---- as events and replies

pub zipped : (history : List (Event × Reply)) → zip (map (λ x. x.0) history) (map (λ x. x.1) history) ≡ history
zipped [] = refl
zipped (x ∷ xs) = ap (λ l. x ∷ l) (zipped xs)

as_long : (history : List (Event × Reply)) → length (map (λ x. x.1) history) ≡ length (map (λ x. x.0) history)
as_long history = grind (arith, common_steps)

pub as_run : (workers max : ℕ) (history : List (Event × Reply)) (end : State) → Run (start workers max) history end → IsRun workers max (map (λ x. x.0) history) (map (λ x. x.1) history)
as_run workers max history end run = record {
  right_length = as_long history;
  end = end;
  run = subst (λ h. Run (start workers max) h end) (sym (zipped history)) run;
}
