-- The kinds of a subqueue's steps, histories of such steps, and what follows from the rule of a subqueue.
use Rattle.std.specs.Prelude.{◌≡◌, ◌≢◌, ℕ, ◌+◌, List, [], ◌∷◌, ◌++◌, Some, slice_get, slice_set}
use mathlib.Core.Option.{some}
use lib.ListN.{get_elem?}
use Rattle.crawl_keys.specs.Assignment.{subqueue_of}
use Rattle.crawl_gate.specs.Seat.{IsSeatOf}
use Rattle.crawl_queues.specs.declared.entry.Entry.{Entry}
use Rattle.crawl_queues.specs.declared.entry.Message.{Message}
use Rattle.crawl_queues.specs.declared.rule.Home.{Home}
use Rattle.crawl_queues.specs.declared.rule.PassView.{PassView}
use Rattle.crawl_queues.specs.Entries.{MayFollow, entries_of}
use Rattle.crawl_queues.specs.Books.{Numbered}
use Rattle.crawl_queues.specs.Rule.{SubqueueInvariant, pushing, popping, undivided, spent, no_home, reunited, plain}

-- the URLs differ, each belongs to subqueue q, and the entries of each sender are numbered from 0 in order
pub record IsAcceptedList (workers q : ℕ) (es : List Entry) : Type 0 where
  pub differ : (j k : ℕ) (a b : Entry) → slice_get es j ≡ Some a → slice_get es k ≡ Some b → a.url ≡ b.url → j ≡ k
  pub belong : (k : ℕ) (e : Entry) → slice_get es k ≡ Some e → subqueue_of e.url workers ≡ q
  pub numbered : (id : ℕ) → Numbered id 0 (entries_of id es)

-- a subqueue at one moment: the messages in it, and the views of all its passes
pub record Moment : Type 0 where
  pub items : List Message
  pub views : List PassView

-- the moment at which a subqueue is made: it has one pass, with both rights
abbrev pub first_moment : Moment
first_moment = record { items = []; views = undivided no_home ∷ [] }

abbrev pub ViewAt : Moment → ℕ → PassView → Type 0
ViewAt m pass v = get_elem? m.views pass ≡ some v

-- Settling, dividing and counting an empty pop are splits, which add a view. A push and a pop change the view of the pass that
-- makes them. If a pass is reunited with another, its view is spent, and its list goes to the other.
pub data SubqueueStep (m m' : Moment) : Type 0 where
  settles : (pass : ℕ) (h old : Home) → ViewAt m pass (undivided old)
      → m' ≡ record { items = m.items; views = slice_set m.views pass (undivided h) ++ spent ∷ [] } → SubqueueStep m m'
  divides : (pass : ℕ) (h : Home) → ViewAt m pass (undivided h)
      → m' ≡ record { items = m.items; views = slice_set m.views pass (pushing h []) ++ popping h [] 0 ∷ [] } → SubqueueStep m m'
  pushes : (pass : ℕ) (h : Home) (sent : List Entry) (x : Message) → ViewAt m pass (pushing h sent) → IsSeatOf h.gate x.unit → MayFollow h.workers h.queue sent (plain x)
      → m' ≡ record { items = m.items ++ x ∷ []; views = slice_set m.views pass (pushing h (sent ++ plain x ∷ [])) } → SubqueueStep m m'
  pops : (pass : ℕ) (h : Home) (taken : List Entry) (n : ℕ) (x : Message) (rest : List Message) → ViewAt m pass (popping h taken n) → m.items ≡ x ∷ rest
      → m' ≡ record { items = rest; views = slice_set m.views pass (popping h (taken ++ plain x ∷ []) n) } → SubqueueStep m m'
  finds_nothing : (pass : ℕ) (h : Home) (taken : List Entry) (n : ℕ) → ViewAt m pass (popping h taken n)
      → m' ≡ record { items = m.items; views = slice_set m.views pass (popping h taken (n + 1)) ++ spent ∷ [] } → SubqueueStep m m'
  takes_in : (pass : ℕ) (h : Home) (sent : List Entry) (other : ℕ) (home : Home) (taken : List Entry) (n : ℕ) → pass ≢ other
      → ViewAt m pass (pushing h sent) → ViewAt m other (popping home taken n)
      → m' ≡ record { items = m.items; views = slice_set (slice_set m.views pass (reunited (pushing h sent) (popping home taken n))) other spent }
      → SubqueueStep m m'

-- How a step changes the list of what was sent, s, and the list of what was taken, t: a push adds to s, a pop adds to t, and no
-- other step changes them.
abbrev pub ListsMove : {m m' : Moment} → SubqueueStep m m' → List Entry → List Entry → List Entry → List Entry → Type 0
ListsMove (settles pass h old at is) s t s' t' = (s' ≡ s) × (t' ≡ t)
ListsMove (divides pass h at is) s t s' t' = (s' ≡ s) × (t' ≡ t)
ListsMove (pushes pass h sent x at unit may is) s t s' t' = (s' ≡ s ++ plain x ∷ []) × (t' ≡ t)
ListsMove (pops pass h taken n x rest at items is) s t s' t' = (s' ≡ s) × (t' ≡ t ++ plain x ∷ [])
ListsMove (finds_nothing pass h taken n at is) s t s' t' = (s' ≡ s) × (t' ≡ t)
ListsMove (takes_in pass h sent other home taken n apart at there is) s t s' t' = (s' ≡ s) × (t' ≡ t)

-- each of these moments comes from the one before it by one step, beginning with this moment
abbrev pub IsHistory : Moment → List Moment → Type 0
IsHistory m [] = Unit {0}
IsHistory m (next ∷ later) = SubqueueStep m next × IsHistory next later

-- the invariant is true at each of these moments
abbrev pub AllKept : List Moment → Type 0
AllKept [] = Unit {0}
AllKept (m ∷ ms) = SubqueueInvariant m.items m.views × AllKept ms
