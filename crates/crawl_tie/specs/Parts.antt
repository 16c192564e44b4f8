-- The steps that the gate and the subqueues can make: each is one of the atomic steps.
use Rattle.std.specs.Prelude.{◌≡◌, ℕ, Bool, true, false, map, Option, Some, None}
use Rattle.crawl_gate.specs.declared.rule.View.{View}
use Rattle.crawl_gate.specs.Word.{Word}
use Rattle.crawl_gate.specs.GateInvariant as gates
use Rattle.crawl_queues.specs.declared.entry.Entry.{Entry}
use Rattle.crawl_queues.specs.declared.rule.PassView.{PassView}
use Rattle.crawl_queues.specs.History as subqueues
use Rattle.crawl_queues.specs.History.{ViewAt, SubqueueStep, settles, divides, pushes, pops, finds_nothing, takes_in}
use Rattle.crawl_tie.specs.Whole.{Whole, Owner, Seeds, Offer}
use Rattle.crawl_tie.specs.Acts.{Splitting, Looking, Entering, Losing, Leaving, Closing, NotClosing, Pushing, Popping, Counting, TakingIn, IsOwner, is_offering}

-- the step that a gate made
pub data GateMoves (gate gate' : gates.Moment) : Type 0 where
  splitting_one : Splitting gate gate' → GateMoves gate gate'
  looking_one : (x : Word) → Looking gate gate' x → GateMoves gate gate'
  entering_one : (n : ℕ) → Entering gate gate' n → GateMoves gate gate'
  losing_one : (n : ℕ) (x : Word) → Losing gate gate' n x → GateMoves gate gate'
  leaving_one : (n : ℕ) → Leaving gate gate' n → GateMoves gate gate'
  closing_one : Closing gate gate' → GateMoves gate gate'
  not_closing_one : (x : Word) → NotClosing gate gate' x → GateMoves gate gate'

-- no pass may both push and pop, as in every subqueue of a frontier that is complete
abbrev pub IsDivided : subqueues.Moment → Type 0
IsDivided m = (pass : ℕ) (v : PassView) → ViewAt m pass v → v.sends ≡ true → v.takes ≡ true → ⊥

-- a pass that may push or pop may do both, as after two passes became one
abbrev pub IsUnited : subqueues.Moment → Type 0
IsUnited m = (pass : ℕ) (v : PassView) → ViewAt m pass v → v.sends ≡ v.takes

-- the step that a divided subqueue made, and whether it is still divided
pub data LaneMoves (m m' : subqueues.Moment) : Type 0 where
  pushing_one : (e : Entry) → Pushing m m' e → IsDivided m' → LaneMoves m m'
  popping_one : (e : Entry) → Popping m m' e → IsDivided m' → LaneMoves m m'
  counting_one : Counting m m' → IsDivided m' → LaneMoves m m'
  taking_in_one : TakingIn m m' → IsUnited m' → LaneMoves m m'

-- the step is one of those with which a subqueue is made
abbrev pub IsMaking : {m m' : subqueues.Moment} → SubqueueStep m m' → Bool
IsMaking (settles pass h old at is) = true
IsMaking (divides pass h at is) = true
IsMaking (pushes pass h sent x at unit may is) = false
IsMaking (pops pass h taken n x rest at items is) = false
IsMaking (finds_nothing pass h taken n at is) = false
IsMaking (takes_in pass h sent other home taken n apart at there is) = false

-- ## The owner of each unit

abbrev pub is_owned : Option Owner → Bool
is_owned None = false
is_owned (Some owner) = true

-- A seat holds a unit if and only if it has an owner. The seeds own at most one seat's unit, and only until they end. Each sender
-- owns at most one, and only in an offer.
pub record UnitsAreOwned (w : Whole) : Type 0 where
  pub held : map (λ (v : View). v.holds_unit) w.gate.views ≡ map is_owned w.owners
  pub seeds : (seat : ℕ) → IsOwner w seat Seeds → w.seeding ≡ true
  pub seeds_once : (seat other : ℕ) → IsOwner w seat Seeds → IsOwner w other Seeds → seat ≡ other
  pub offers : (seat s : ℕ) → IsOwner w seat (Offer s) → is_offering w s ≡ true
  pub offers_once : (seat other s : ℕ) → IsOwner w seat (Offer s) → IsOwner w other (Offer s) → seat ≡ other
