-- The kinds of a frontier's atomic steps, what each does, and histories of such steps.
use Rattle.std.specs.Prelude.{◌≡◌, ◌≢◌, ◌⊎◌, ℕ, ◌+◌, ◌<◌, Bool, true, false, List, [], ◌∷◌, ◌++◌, Option, Some, None, slice_get, slice_set}
use Rattle.std.specs.List.{list_any}
use Rattle.std.specs.Ordering.{nat_cmp}
use Rattle.std.specs.BTreeMap.{is_at, insert_entry}
use Rattle.std.specs.BTreeSet.{insert_key}
use Rattle.std.specs.Map.{lookup, remove_entry}
use Rattle.std.specs.Set.{remove_key}
use mathlib.Core.Option.{some}
use lib.ListN.{get_elem?}
use Rattle.crawl_core.specs.declared.word.Word as core
use Rattle.crawl_gate.specs.declared.rule.View.{View}
use Rattle.crawl_gate.specs.Word.{Word, open_at, closed_at}
use Rattle.crawl_gate.specs.View.{fresh_view, view_looking, view_entering, view_losing, view_leaving, view_closing, view_not_closing}
use Rattle.crawl_gate.specs.GateInvariant as gates
use Rattle.crawl_gate.specs.History.{SeatSteps}
use Rattle.crawl_gate.specs.Seat.{IsSeatOf}
use Rattle.crawl_queues.specs.declared.entry.Entry.{Entry}
use Rattle.crawl_queues.specs.declared.entry.Message.{Message}
use Rattle.crawl_queues.specs.declared.rule.Home.{Home}
use Rattle.crawl_queues.specs.Entries.{MayFollow, has_url}
use Rattle.crawl_queues.specs.Rule.{pushing, popping, reunited, spent, plain}
use Rattle.crawl_queues.specs.History as subqueues
use Rattle.crawl_queues.specs.History.{ViewAt}
use Rattle.crawl_tie.specs.Whole.{Lane, Whole, Owner, Seeds, Offer, Sent}

-- A step: a kind of step of the gate or of a subqueue, and for whom. A count is the one that the step leaves, or the one that it
-- finds if it changes nothing.
pub data Act : Type 0 where
  -- `splits`: a pass of the gate is split off
  Splits : Act
  -- `looks`: the sender loads this word, in an offer that continues, or as the worker that has just popped a URL; or its offer ends
  -- with this load, because the gate is closed or full
  Looks : ℕ → Word → Act
  LooksAway : ℕ → Word → Act
  -- `enters`, `loses`: the exchange of an offer of this sender succeeds at this count, or finds this word
  Enters : ℕ → ℕ → Act
  Loses : ℕ → Word → Act
  -- `leaves`: an offer gives its unit back, or does so because this URL is in this subqueue; the fetch of a subqueue's worker is
  -- done; the seeds end
  LeavesOffer : ℕ → ℕ → Act
  LeavesSeen : ℕ → ℕ → List ℕ → ℕ → Act
  LeavesFetch : ℕ → ℕ → Act
  LeavesSeeds : ℕ → Act
  -- `closes`; `not_closes`: the exchange finds the gate closed, or finds this number of units
  Closes : Act
  NotClosesClosed : Act
  NotClosesPending : ℕ → Act
  -- `pushes`, `pops`: an entry is pushed to this subqueue, or popped from it
  Pushes : ℕ → Entry → Act
  Pops : ℕ → Entry → Act
  -- a pop that finds nothing, which is not a step of a subqueue; and `finds_nothing`, the step that counts it
  PopsNone : ℕ → Act
  FindsNothing : ℕ → Act
  -- `takes_in`: at the end of the run, the pass that may pop and the one that may push become one
  TakesIn : ℕ → Act

-- ## The steps of the gate and the subqueues, each as the arguments of its kind

-- `splits`
pub record Splitting (gate gate' : gates.Moment) : Type 0 where
  pub view : View
  pub seat : ℕ
  pub at : get_elem? gate.views seat ≡ some view
  pub next : gate' ≡ record { words = gate.words; homes = gate.homes; views = gate.views ++ fresh_view view.max_pending ∷ [] }

-- `looks`
pub record Looking (gate gate' : gates.Moment) (x : Word) : Type 0 where
  pub view : View
  pub steps : SeatSteps gate gate' view (view_looking view x) x x

-- `enters`
pub record Entering (gate gate' : gates.Moment) (n : ℕ) : Type 0 where
  pub view : View
  pub holds_none : view.holds_unit ≡ false
  pub room : n < view.max_pending
  pub steps : SeatSteps gate gate' view (view_entering view (open_at n)) (open_at n) (open_at (n + 1))

-- `loses`: it expected count n
pub record Losing (gate gate' : gates.Moment) (n : ℕ) (x : Word) : Type 0 where
  pub view : View
  pub holds_none : view.holds_unit ≡ false
  pub room : n < view.max_pending
  pub other : x ≢ open_at n
  pub steps : SeatSteps gate gate' view (view_losing view x) x x

-- `leaves`
pub record Leaving (gate gate' : gates.Moment) (n : ℕ) : Type 0 where
  pub view : View
  pub holds : view.holds_unit ≡ true
  pub steps : SeatSteps gate gate' view (view_leaving view (open_at (n + 1))) (open_at (n + 1)) (open_at n)

-- `closes`
pub record Closing (gate gate' : gates.Moment) : Type 0 where
  pub view : View
  pub holds_none : view.holds_unit ≡ false
  pub steps : SeatSteps gate gate' view (view_closing view (open_at 0)) (open_at 0) (closed_at 0)

-- `not_closes`
pub record NotClosing (gate gate' : gates.Moment) (x : Word) : Type 0 where
  pub view : View
  pub holds_none : view.holds_unit ≡ false
  pub other : x ≢ open_at 0
  pub steps : SeatSteps gate gate' view (view_not_closing view x) x x

-- `pushes`: an entry, with its unit
pub record Pushing (m m' : subqueues.Moment) (e : Entry) : Type 0 where
  pub pass : ℕ
  pub home : Home
  pub sent : List Entry
  pub message : Message
  pub view : ViewAt m pass (pushing home sent)
  pub unit : IsSeatOf home.gate message.unit
  pub may : MayFollow home.workers home.queue sent (plain message)
  pub entry_is : plain message ≡ e
  pub next : m' ≡ record { items = m.items ++ message ∷ []; views = slice_set m.views pass (pushing home (sent ++ plain message ∷ [])) }

-- `pops`
pub record Popping (m m' : subqueues.Moment) (e : Entry) : Type 0 where
  pub pass : ℕ
  pub home : Home
  pub taken : List Entry
  pub empty_pops : ℕ
  pub message : Message
  pub rest : List Message
  pub view : ViewAt m pass (popping home taken empty_pops)
  pub items : m.items ≡ message ∷ rest
  pub entry_is : plain message ≡ e
  pub next : m' ≡ record { items = rest; views = slice_set m.views pass (popping home (taken ++ plain message ∷ []) empty_pops) }

-- `finds_nothing`
pub record Counting (m m' : subqueues.Moment) : Type 0 where
  pub pass : ℕ
  pub home : Home
  pub taken : List Entry
  pub empty_pops : ℕ
  pub view : ViewAt m pass (popping home taken empty_pops)
  pub next : m' ≡ record { items = m.items; views = slice_set m.views pass (popping home taken (empty_pops + 1)) ++ spent ∷ [] }

-- `takes_in`
pub record TakingIn (m m' : subqueues.Moment) : Type 0 where
  pub pass : ℕ
  pub home : Home
  pub sent : List Entry
  pub other : ℕ
  pub home' : Home
  pub taken : List Entry
  pub empty_pops : ℕ
  pub apart : pass ≢ other
  pub view : ViewAt m pass (pushing home sent)
  pub view' : ViewAt m other (popping home' taken empty_pops)
  pub next : m' ≡ record { items = m.items; views = slice_set (slice_set m.views pass (reunited (pushing home sent) (popping home' taken empty_pops))) other spent }

-- the URL is in the list of what was sent
pub record IsSent (m : subqueues.Moment) (url : List ℕ) : Type 0 where
  pub pass : ℕ
  pub home : Home
  pub sent : List Entry
  pub view : ViewAt m pass (pushing home sent)
  pub listed : has_url url sent ≡ true

-- ## What else is known at each step, and the moment after it

abbrev pub core_word : Word → core.Word
core_word x = record { count = x.0; closed = x.1 }

-- whether an offer of this sender has entered, and has neither given its unit back nor passed it to an entry
abbrev pub is_offering : Whole → ℕ → Bool
is_offering w s = list_any (is_at (nat_cmp s)) w.offering

-- the word that the sender loaded last, unless it has entered since
abbrev pub loaded_by : Whole → ℕ → Option core.Word
loaded_by w s = lookup (is_at (nat_cmp s)) w.loaded

-- the unit of the seat belongs to this owner
abbrev pub IsOwner : Whole → ℕ → Owner → Type 0
IsOwner w seat owner = slice_get w.owners seat ≡ Some (Some owner)

-- a step of the gate that changes nothing else
abbrev pub with_gate : Whole → gates.Moment → Whole
with_gate w gate = record w { gate = gate }

abbrev pub with_lane : Whole → ℕ → Lane → Whole
with_lane w q l = record w { lanes = slice_set w.lanes q l }

-- a new pass holds no unit
abbrev pub after_splitting : Whole → gates.Moment → Whole
after_splitting w gate = record w { gate = gate; owners = w.owners ++ None ∷ [] }

abbrev pub after_looking : Whole → gates.Moment → ℕ → Word → Whole
after_looking w gate s x = record w { gate = gate; loaded = insert_entry nat_cmp w.loaded s (core_word x) }

abbrev pub after_entering : Whole → gates.Moment → ℕ → ℕ → Whole
after_entering w gate seat s = record w {
  gate = gate;
  owners = slice_set w.owners seat (Some (Offer s));
  offering = insert_key nat_cmp w.offering s;
  loaded = remove_entry (is_at (nat_cmp s)) w.loaded;
}

abbrev pub after_leaving : Whole → gates.Moment → ℕ → ℕ → Whole
after_leaving w gate seat s = record w {
  gate = gate;
  owners = slice_set w.owners seat None;
  offering = remove_key (is_at (nat_cmp s)) w.offering;
}

abbrev pub after_fetching : Whole → gates.Moment → ℕ → ℕ → Lane → Whole
after_fetching w gate seat q l = record w {
  gate = gate;
  lanes = slice_set w.lanes q (record { moment = l.moment; fetching = false });
  owners = slice_set w.owners seat None;
}

abbrev pub after_seeding : Whole → gates.Moment → ℕ → Whole
after_seeding w gate seat = record w { gate = gate; owners = slice_set w.owners seat None; seeding = false }

-- the entry is pushed to the subqueue, with the unit of its sender's offer
abbrev pub after_pushing : Whole → ℕ → Lane → subqueues.Moment → ℕ → ℕ → Whole
after_pushing w q l m seat s = record w {
  lanes = slice_set w.lanes q (record { moment = m; fetching = l.fetching });
  owners = slice_set w.owners seat (Some (Sent q));
  offering = remove_key (is_at (nat_cmp s)) w.offering;
}

-- the unit of the message is the seat with which its sender entered, with the view that the seat has now
pub record IsUnitOf (w : Whole) (s : ℕ) (m : Message) : Type 0 where
  pub owner : IsOwner w m.unit.number (Offer s)
  pub view : get_elem? w.gate.views m.unit.number ≡ some m.unit.view

-- the step leads from one moment to the next
abbrev pub Atomic : Whole → Act → Whole → Type 0
Atomic w Splits w' = (gate : gates.Moment) × Splitting w.gate gate × (w' ≡ after_splitting w gate)
Atomic w (Looks s x) w' = (gate : gates.Moment) × Looking w.gate gate x × (w' ≡ after_looking w gate s x)
Atomic w (LooksAway s x) w' =
    (gate : gates.Moment) × Looking w.gate gate x × (is_offering w s ≡ false) × ((x.1 ≡ true) ⊎ (x.0 ≡ w.max)) × (w' ≡ after_looking w gate s x)
Atomic w (Enters s n) w' =
    (gate : gates.Moment) × (step : Entering w.gate gate n) × (is_offering w s ≡ false) × (loaded_by w s ≡ Some (core_word (open_at n)))
    × (w' ≡ after_entering w gate step.steps.seat s)
Atomic w (Loses s x) w' =
    (gate : gates.Moment) × (n : ℕ) × Losing w.gate gate n x × (is_offering w s ≡ false) × (loaded_by w s ≡ Some (core_word (open_at n)))
    × (w' ≡ with_gate w gate)
Atomic w (LeavesOffer s n) w' =
    (gate : gates.Moment) × (step : Leaving w.gate gate n) × IsOwner w step.steps.seat (Offer s) × (w' ≡ after_leaving w gate step.steps.seat s)
Atomic w (LeavesSeen s q url n) w' =
    (gate : gates.Moment) × (l : Lane) × (step : Leaving w.gate gate n) × IsOwner w step.steps.seat (Offer s)
    × (slice_get w.lanes q ≡ Some l) × IsSent l.moment url × (w' ≡ after_leaving w gate step.steps.seat s)
Atomic w (LeavesFetch q n) w' =
    (gate : gates.Moment) × (l : Lane) × (step : Leaving w.gate gate n) × IsOwner w step.steps.seat (Sent q)
    × (slice_get w.lanes q ≡ Some l) × (l.fetching ≡ true) × (w' ≡ after_fetching w gate step.steps.seat q l)
Atomic w (LeavesSeeds n) w' =
    (gate : gates.Moment) × (step : Leaving w.gate gate n) × IsOwner w step.steps.seat Seeds × (w' ≡ after_seeding w gate step.steps.seat)
Atomic w Closes w' = (gate : gates.Moment) × Closing w.gate gate × (w' ≡ with_gate w gate)
Atomic w NotClosesClosed w' = (gate : gates.Moment) × NotClosing w.gate gate (closed_at 0) × (w' ≡ with_gate w gate)
Atomic w (NotClosesPending n) w' = (gate : gates.Moment) × NotClosing w.gate gate (open_at n) × (w' ≡ with_gate w gate)
Atomic w (Pushes q e) w' =
    (l : Lane) × (m : subqueues.Moment) × (step : Pushing l.moment m e) × (slice_get w.lanes q ≡ Some l) × IsUnitOf w e.sender step.message
    × (w' ≡ after_pushing w q l m step.message.unit.number e.sender)
Atomic w (Pops q e) w' =
    (l : Lane) × (m : subqueues.Moment) × Popping l.moment m e × (slice_get w.lanes q ≡ Some l) × (l.fetching ≡ false)
    × (w' ≡ with_lane w q (record { moment = m; fetching = true }))
Atomic w (PopsNone q) w' = (l : Lane) × (slice_get w.lanes q ≡ Some l) × (l.moment.items ≡ []) × (l.fetching ≡ false) × (w' ≡ w)
Atomic w (FindsNothing q) w' =
    (l : Lane) × (m : subqueues.Moment) × Counting l.moment m × (slice_get w.lanes q ≡ Some l) × (w' ≡ with_lane w q (record { moment = m; fetching = l.fetching }))
Atomic w (TakesIn q) w' =
    (l : Lane) × (m : subqueues.Moment) × TakingIn l.moment m × (slice_get w.lanes q ≡ Some l) × (w' ≡ with_lane w q (record { moment = m; fetching = l.fetching }))

-- these steps, one after the other, lead from one moment to another
abbrev pub History : Whole → List Act → Whole → Type 0
History w [] v = v ≡ w
History w (act ∷ acts) v = (next : Whole) × Atomic w act next × History next acts v
