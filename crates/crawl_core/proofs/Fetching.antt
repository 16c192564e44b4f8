-- The URL that a subqueue is busy with, in the kept state and in a state that it shows.
use Rattle.crawl_core.proofs.Prelude.{◌≡◌, ℕ, slice_get, Option, arith, option_map, length-map, length-drop, slice_get-map, Kept, KeptQueue, Shows, ShowsQueue, State, Subqueue}
use Rattle.crawl_core.specs.Fetching.{kept_fetch, fetch_of, in_fetch}
use Rattle.crawl_core.proofs.Simulation.{Both, AllZip-slice_get}

both_fetch : (kept : Option KeptQueue) (queue : Option Subqueue) → Both ShowsQueue kept queue → option_map kept_fetch kept ≡ option_map fetch_of queue
both_fetch kept queue both = grind (arith, length-map, length-drop, slice_get-map)

-- it is the same URL in each state that the kept state shows
pub kept_in_fetch : (kept : Kept) (state : State) (queue : ℕ) → Shows kept state → option_map kept_fetch (slice_get kept.queues queue) ≡ in_fetch state queue
kept_in_fetch kept state queue shows =
    both_fetch (slice_get kept.queues queue) (slice_get state.subqueues queue) (AllZip-slice_get ShowsQueue kept.queues state.subqueues queue shows.queues)
