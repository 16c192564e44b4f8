-- The URL that a subqueue is busy with.
use Rattle.std.specs.Prelude.{ℕ, ◌-◌, List, length, slice_get, if◌then◌else◌, Option, None, option_map}
use Rattle.crawl_core.specs.Kept.{KeptQueue}
use Rattle.crawl_core.specs.State.{State}
use Rattle.crawl_core.specs.Subqueue.{Subqueue}

-- by what is kept: of the URLs that were accepted, the last one that no longer waits
abbrev pub kept_fetch : KeptQueue → Option (List ℕ)
kept_fetch queue =
    if queue.busy then slice_get queue.seen (length queue.seen - length queue.waiting - 1)
    else None

-- the URL that was taken last, if its fetch is not done
abbrev pub fetch_of : Subqueue → Option (List ℕ)
fetch_of queue =
    if queue.busy then option_map (λ m. m.url) (slice_get queue.accepted (queue.taken - 1))
    else None

-- likewise for the subqueue with this number; the outer `None` if there is no such subqueue
abbrev pub in_fetch : State → ℕ → Option (Option (List ℕ))
in_fetch state queue = option_map fetch_of (slice_get state.subqueues queue)
