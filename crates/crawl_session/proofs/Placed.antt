-- What a line requests of a frontier that may be a part: what it requests of any frontier, or nothing.
use Rattle.crawl_session.proofs.Prelude.{◌≡◌, ℕ, List, Option, Result, Ok, IfOk, arith, Gives, Part, Request, Offer, RequestError, part_request, own_request, placed, placed_if, request_for, request_of, Settings}
use Rattle.crawl_session.specs.declared.request.RequestError.TheVariants as wrong

abbrev LineAnswer : Type 0
LineAnswer = Result Request RequestError

-- what holds of the requests to a part still holds once `sync` and `identity`, which only parts read, are set aside
pub by_words : (P : Request → Type 0) (part : Part) (line : List ℕ) (line_answers : LineAnswer) → IfOk (placed_if part line_answers) P → IfOk (part_request part line line_answers) P
by_words P part line line_answers holds = grind arith

requested_keeps : (P : Request → Type 0) (part : Option Part) (line : List ℕ) (line_answers : LineAnswer) → IfOk line_answers P → IfOk (own_request part line line_answers) P
requested_keeps P part line line_answers holds = grind arith

-- what holds of the request that a line is to any frontier holds of the request that it is to this one
pub for_keeps : (P : Request → Type 0) (settings : Settings) (line : List ℕ) → IfOk (request_of settings.workers settings.suffixes line) P → IfOk (request_for settings line) P
for_keeps P settings line holds = requested_keeps P settings.part line (request_of settings.workers settings.suffixes line) holds

-- ---- a part

-- if the request is an offer, P holds of its queue and its URL
abbrev pub OffersWhere : (ℕ → List ℕ → Type 0) → Request → Type 0
OffersWhere P (Offer url queue) = P queue url
OffersWhere P _ = Unit {0}

-- ---- what a part makes of a request

pub placed_gives : (part : Part) (asks own : LineAnswer) (request : Request) → asks ≡ Ok request → own ≡ placed part request → Gives wrong.NoMemory (λ (r : Request). r) own (placed_if part asks)
placed_gives part asks own request is same = grind arith
