-- What a line asks of a frontier that may be one part of a crawl.
use Rattle.std.specs.Prelude.{ℕ, ◌/◌, Bool, List, codes, nat_eq, if◌then◌else◌, Option, Some, None, Result, Ok, Err, bytes_eq}
use Rattle.crawl_session.specs.declared.part.Part.{Part}
use Rattle.crawl_session.specs.declared.request.Request.{Request}
use Rattle.crawl_session.specs.declared.request.Request.TheVariants.{Offer, Next, Again, Later, Done, EndSeeds, Stats, Seen}
use Rattle.crawl_session.specs.declared.request.RequestError.{RequestError}
use Rattle.crawl_session.specs.declared.request.RequestError.TheVariants as wrong
use Rattle.crawl_session.specs.Requests.{request_of}
use Rattle.crawl_session.specs.Settings.{Settings}

-- the number of the part that has a queue: all parts have the same number of queues
abbrev pub part_with : Part → ℕ → ℕ
part_with part queue = queue / part.queues

-- whether the queue is this part's
abbrev pub is_own : Part → ℕ → Bool
is_own part queue = nat_eq (part_with part queue) part.number

-- a URL of another part is for that one, and another part's queue is none of this one
abbrev pub placed : Part → Request → Result Request RequestError
placed part (Offer url queue) = if is_own part queue then Ok (Offer url queue) else Err (wrong.Elsewhere (part_with part queue) url)
placed part (Next queue) = if is_own part queue then Ok (Next queue) else Err wrong.OtherQueue
placed part (Again queue) = if is_own part queue then Ok (Again queue) else Err wrong.OtherQueue
placed part (Later queue) = if is_own part queue then Ok (Later queue) else Err wrong.OtherQueue
placed part (Done queue) = if is_own part queue then Ok (Done queue) else Err wrong.OtherQueue
placed part EndSeeds = Ok EndSeeds
placed part (Stats None) = Ok (Stats None)
placed part (Stats (Some queue)) = if is_own part queue then Ok (Stats (Some queue)) else Err wrong.OtherQueue
placed part (Seen queue count) = Ok (Seen queue count)

abbrev pub placed_if : Part → Result Request RequestError → Result Request RequestError
placed_if part (Ok request) = placed part request
placed_if part (Err why) = Err why

-- `sync` and `identity` ask nothing of the frontier
abbrev pub part_request : Part → List ℕ → Result Request RequestError → Result Request RequestError
part_request part line requested =
    if bytes_eq line (codes "sync") then Err wrong.Sync
    else if bytes_eq line (codes "identity") then Err (wrong.Identity part.identity)
    else placed_if part requested

-- without a part, what a line asks is what it asks
abbrev pub own_request : Option Part → List ℕ → Result Request RequestError → Result Request RequestError
own_request None line requested = requested
own_request (Some part) line requested = part_request part line requested

abbrev pub request_for : Settings → List ℕ → Result Request RequestError
request_for settings line = own_request settings.part line (request_of settings.workers settings.suffixes line)
