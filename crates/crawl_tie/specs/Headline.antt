-- The main theorem, stated about the atomic steps.
use Rattle.std.specs.Prelude.{◌≡◌, ℕ, ◌<◌, ◌≤◌, Bool, true, false, List, [], ◌++◌, length, nat_eq, Option, Some, None, if◌then◌else◌, filter_map}
use Rattle.crawl_queues.specs.declared.entry.Entry.{Entry}
use Rattle.crawl_queues.specs.History.{IsAcceptedList}
use Rattle.crawl_tie.specs.Whole.{Whole}
use Rattle.crawl_tie.specs.Acts.{Act, Enters, Pushes, Pops, LeavesFetch, Closes, NotClosesClosed}

abbrev pub pushed_to : ℕ → Act → Option Entry
pushed_to q (Pushes there e) = if nat_eq there q then Some e else None
pushed_to q _ = None

abbrev pub popped_from : ℕ → Act → Option Entry
popped_from q (Pops there e) = if nat_eq there q then Some e else None
popped_from q _ = None

abbrev pub fetched_at : ℕ → Act → Option ℕ
fetched_at q (LeavesFetch there n) = if nat_eq there q then Some n else None
fetched_at q _ = None

-- the entries that subqueue q accepted, and those that its worker took, in order; and the number of fetches that are done
abbrev pub accepted : ℕ → List Act → List Entry
accepted q acts = filter_map (pushed_to q) acts

abbrev pub delivered : ℕ → List Act → List Entry
delivered q acts = filter_map (popped_from q) acts

abbrev pub fetches_done : ℕ → List Act → ℕ
fetches_done q acts = length (filter_map (fetched_at q) acts)

-- the step closes the gate, or finds it closed
abbrev pub is_closing : Act → Bool
is_closing Closes = true
is_closing NotClosesClosed = true
is_closing _ = false

-- the step neither enters the gate, nor accepts nor delivers an entry
abbrev pub is_quiet : Act → Bool
is_quiet (Enters s n) = false
is_quiet (Pushes q e) = false
is_quiet (Pops q e) = false
is_quiet _ = true

-- The delivered entries are the first of the accepted ones: so each is delivered once, in order, and only by this subqueue's
-- worker. The accepted URLs differ, each belongs to the subqueue, and the numbers of each sender are 0, 1, 2, ..
-- (`IsAcceptedList`).
pub record Delivers (workers : ℕ) (acts : List Act) : Type 0 where
  pub in_order : (q : ℕ) → q < workers → (waiting : List Entry) × (accepted q acts ≡ delivered q acts ++ waiting)
  pub rule : (q : ℕ) → q < workers → IsAcceptedList workers q (accepted q acts)
  pub nowhere_else : (q : ℕ) → workers ≤ q → (accepted q acts ≡ []) × (delivered q acts ≡ [])

-- no offer has a unit, the seeds have ended, each subqueue has delivered all that it accepted, and each fetch is done
pub record Finished (workers : ℕ) (acts : List Act) (w : Whole) : Type 0 where
  pub nobody : w.offering ≡ []
  pub seeded : w.seeding ≡ false
  pub drained : (q : ℕ) → q < workers → delivered q acts ≡ accepted q acts
  pub fetched : (q : ℕ) → q < workers → fetches_done q acts ≡ length (delivered q acts)
