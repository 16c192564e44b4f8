-- Parts of one crawl: each accepts only URLs whose hosts belong to its queues, and reports to which part every other URL belongs.
use Rattle.crawl_session.proofs.Prelude.{◌≡◌, ◌≢◌, ℕ, ◌/◌, Bool, false, nat_lt, if◌then◌else◌, List, [], length, codes, slice_get, Some, None, Result, Ok, Err, IfOk, refl, sym, ap, ◌∙◌, arith, bytes_eq, bytes_eq-Decides, eqb_same, subqueue_of, line_limit, at_space, Unasked, Part, Request, Offer, RequestError, line_answers, accepted_of, exchange, Frontier, own_request, part_with, placed, placed_if, request_for, plain_request, request_of, answered, line_exchange, Settings}
use Rattle.crawl_session.specs.declared.request.RequestError.TheVariants as wrong
use Rattle.crawl_session.proofs.Assigned.{accepted_as_assigned, accepted_where}
use Rattle.crawl_session.proofs.Placed.{OffersWhere, by_words}

-- ---- what is accepted is the part's own

abbrev Owns : Part → ℕ → List ℕ → Type 0
Owns part queue url = part_with part queue ≡ part.number

if_owns : (part : Part) (r : Result Request RequestError) → IfOk (placed_if part r) (OffersWhere (Owns part))
if_owns part r = grind arith

line_owns : (settings : Settings) (part : Part) → settings.part ≡ Some part → (line : List ℕ) → IfOk (request_for settings line) (OffersWhere (Owns part))
line_owns settings part is line = grind (arith, by_words, if_owns)

pub accepts_its_own : (settings : Settings) (part : Part) (state : Frontier) (lines : List (List ℕ)) (queue k : ℕ) (url : List ℕ) → settings.part ≡ Some part → slice_get (accepted_of queue (line_answers settings state lines)) k ≡ Some url
    → (queue ≡ subqueue_of url settings.workers) × (part_with part queue ≡ part.number)
accepts_its_own settings part state lines queue k url is at =
    (accepted_as_assigned settings state lines queue k url at, accepted_where (Owns part) settings (line_owns settings part is) state lines queue k url at)

pub shares_no_url : (first second : Settings) (own other : Part) (old older : Frontier) (lines others : List (List ℕ)) (queue there k l : ℕ) (url : List ℕ) → first.part ≡ Some own → second.part ≡ Some other → first.workers ≡ second.workers → own.queues ≡ other.queues
    → slice_get (accepted_of queue (line_answers first old lines)) k ≡ Some url → slice_get (accepted_of there (line_answers second older others)) l ≡ Some url → (queue ≡ there) × (own.number ≡ other.number)
shares_no_url first second own other old older lines others queue there k l url is are workers queues at_k at_l =
    let one = accepts_its_own first own old lines queue k url is at_k in
    let two = accepts_its_own second other older others there l url are at_l in
    let same : queue ≡ there = one.0 ∙ ap (subqueue_of url) workers ∙ sym two.0 in
    (same, sym one.1 ∙ ap (λ q. q / own.queues) same ∙ ap (λ n. there / n) queues ∙ two.1)

-- ---- elsewhere

-- a line that is a request is no such word
no_word : (workers : ℕ) (suffixes : List (List ℕ)) (line word : List ℕ) (request : Request) → nat_lt line_limit (length word) ≡ false → at_space word ≡ None → plain_request word ≡ None → request_of workers suffixes line ≡ Ok request → bytes_eq line word ≡ false
no_word workers suffixes line word request short single plain asks = grind (arith, bytes_eq-Decides)

-- a part reads an offer by the queue that the offer names
offer_placed : (settings : Settings) (part : Part) (line url : List ℕ) (queue : ℕ) → settings.part ≡ Some part → request_of settings.workers settings.suffixes line ≡ Ok (Offer url queue) → request_for settings line ≡ placed part (Offer url queue)
offer_placed settings part line url queue is asks =
    let asked_it = request_of settings.workers settings.suffixes line in
    ap (λ p. own_request p line asked_it) is
    ∙ ap (λ b. if b then Err wrong.Sync else if bytes_eq line (codes "identity") then Err (wrong.Identity part.identity) else placed_if part asked_it) (no_word settings.workers settings.suffixes line (codes "sync") (Offer url queue) refl refl refl asks)
    ∙ ap (λ b. if b then Err (wrong.Identity part.identity) else placed_if part asked_it) (no_word settings.workers settings.suffixes line (codes "identity") (Offer url queue) refl refl refl asks)
    ∙ ap (placed_if part) asks

placed_by : Part → List ℕ → ℕ → Bool → Result Request RequestError
placed_by part url queue b = if b then Ok (Offer url queue) else Err (wrong.Elsewhere (part_with part queue) url)

pub answers_elsewhere : (settings : Settings) (part : Part) (state : Frontier) (line url : List ℕ) (queue : ℕ) → settings.part ≡ Some part → request_of settings.workers settings.suffixes line ≡ Ok (Offer url queue) → part_with part queue ≢ part.number
    → line_exchange settings state line ≡ record { history = []; answer = Unasked (wrong.Elsewhere (part_with part queue) url); state = state }
unfolding placed_by
answers_elsewhere settings part state line url queue is asks other = grind (arith, offer_placed)

pub offers_its_own : (settings : Settings) (part : Part) (state : Frontier) (line url : List ℕ) (queue : ℕ) → settings.part ≡ Some part → request_of settings.workers settings.suffixes line ≡ Ok (Offer url queue) → part_with part queue ≡ part.number
    → line_exchange settings state line ≡ exchange state (Offer url queue)
unfolding placed_by
offers_its_own settings part state line url queue is asks own = grind (arith, offer_placed, eqb_same)

-- ---- no part

pub whole_requests : (settings : Settings) (state : Frontier) (line : List ℕ) → settings.part ≡ None → line_exchange settings state line ≡ answered state (request_of settings.workers settings.suffixes line)
whole_requests settings state line none = ap (λ p. answered state (own_request p line (request_of settings.workers settings.suffixes line))) none
