-- The state of a session: its machine, the URLs that were put back and are not done, and how many offers were answered `seen`.
use Rattle.std.specs.Prelude.{◌≡◌, ℕ, ◌++◌, List, [], ◌∷◌, get_or, replicate, slice_set, Option, None}
use Rattle.crawl_core.specs.Kept.{Kept}
use Rattle.crawl_core.specs.Shows as machine
use Rattle.crawl_core.specs.State.{State}
use Rattle.crawl_core.specs.State as machine_state
use Rattle.crawl_session.specs.declared.deferrals.Deferred.{Deferred}
use Rattle.crawl_session.specs.Seen.{none_seen}

-- of a queue: the URLs that were put back and wait, in this order; and the one that it is busy with, if that was put back before
pub record Deferrals : Type 0 where
  pub waiting : List Deferred
  pub fetched : Option Deferred

abbrev pub no_deferrals : Deferrals
no_deferrals = record { waiting = []; fetched = None }

-- the machine; what was put back to each queue; how many senders there were for such URLs, from 1 on; and how many offers to each
-- queue were answered `seen`
pub record Frontier : Type 0 where
  pub machine : State
  pub deferrals : List Deferrals
  pub senders : ℕ
  pub seen : List ℕ

-- nothing was accepted, and nothing put back
abbrev pub start : ℕ → ℕ → Frontier
start workers max = record { machine = machine_state.start workers max; deferrals = replicate workers no_deferrals; senders = 0; seen = none_seen workers }

-- what was put back to a queue
abbrev pub deferrals_at : Frontier → ℕ → Deferrals
deferrals_at frontier queue = get_or frontier.deferrals queue no_deferrals

abbrev pub with_deferrals : Frontier → ℕ → Deferrals → Frontier
with_deferrals frontier queue deferrals = record frontier { deferrals = slice_set frontier.deferrals queue deferrals }

-- one URL more waits
abbrev pub waits_again : Deferrals → Deferred → Deferrals
waits_again deferrals url = record { waiting = deferrals.waiting ++ url ∷ []; fetched = None }

-- nothing that was put back waits or is fetched
abbrev pub NoneDeferred : Frontier → Type 0
NoneDeferred frontier = (queue : ℕ) → deferrals_at frontier queue ≡ no_deferrals

-- what a session keeps of such a state
pub record KeptFrontier : Type 0 where
  pub machine : Kept
  pub deferrals : List Deferrals
  pub senders : ℕ
  pub seen : List ℕ

-- what is kept is this state's
pub record Shows (kept : KeptFrontier) (frontier : Frontier) : Type 0 where
  pub machine : machine.Shows kept.machine frontier.machine
  pub deferrals : kept.deferrals ≡ frontier.deferrals
  pub senders : kept.senders ≡ frontier.senders
  pub seen : kept.seen ≡ frontier.seen
