-- A URL is accepted into the subqueue that its host key is assigned to.
use Rattle.crawl_session.proofs.Prelude.{◌≡◌, ℕ, zero, suc, ◌<◌, ◌≤◌, arith, List, [], ◌∷◌, slice_get, Option, Some, None, Result, Ok, IfOk, refl, ◌∙◌, cons_option, holds, subqueue_of, Request, Offer, RequestError, line_answers, accepts, accepted_of, Frontier, request_for, request_of, request_in, answered, line_exchange, Settings}
use Rattle.text_lines.specs.Lines.{text_of}
use Rattle.text_lines.specs.declared.lines.LineError.{LineError}
use Rattle.crawl_session.proofs.Placed.{OffersWhere, for_keeps}

-- ---- what a request names

-- an offer names its URL's subqueue
abbrev pub IsAssigned : ℕ → Request → Type 0
IsAssigned workers (Offer url queue) = queue ≡ subqueue_of url workers
IsAssigned workers _ = Unit {0}

AssignsUrl : ℕ → Result Request RequestError → Type 0
AssignsUrl workers r = IfOk r (IsAssigned workers)

assigns_in : (workers : ℕ) (suffixes : List (List ℕ)) (text : Result (List ℕ) LineError) → AssignsUrl workers (request_in workers suffixes text)
unfolding AssignsUrl
assigns_in workers suffixes text = grind arith

-- what a line asks names its URL's subqueue, which is one of the workers'
pub assigns_of : (workers : ℕ) (suffixes : List (List ℕ)) (line : List ℕ) → IfOk (request_of workers suffixes line) (IsAssigned workers)
unfolding AssignsUrl
assigns_of workers suffixes line = assigns_in workers suffixes (text_of 1 line)

abbrev pub as_requested : Request → Result Request RequestError
as_requested request = Ok request

pub assigned_below : (workers : ℕ) (url : List ℕ) (named : ℕ) → 1 ≤ workers → named ≡ subqueue_of url workers → named < workers
assigned_below workers url named some is = omega (arith, is)

-- ---- lines

accepted_here : (P : ℕ → List ℕ → Type 0) (queue : ℕ) (state : Frontier) (url : List ℕ) (r : Result Request RequestError) → IfOk r (OffersWhere P) → accepts queue r (answered state r).answer ≡ Some url → P queue url
accepted_here P queue state url r holds is = grind arith

-- what holds of each offer's URL and queue, holds of what was accepted
pub accepted_where : (P : ℕ → List ℕ → Type 0) (settings : Settings) → ((line : List ℕ) → IfOk (request_for settings line) (OffersWhere P)) → (state : Frontier) (lines : List (List ℕ)) (queue k : ℕ) (url : List ℕ)
    → slice_get (accepted_of queue (line_answers settings state lines)) k ≡ Some url → P queue url
accepted_where P settings each state [] queue k url at = absurd (cc)
accepted_where P settings each state (line ∷ more) queue k url at =
    let r = request_for settings line in
    by_first (accepts queue r (answered state r).answer) refl k (accepted_where P settings each (line_exchange settings state line).state more queue) at
  where
    by_first : (o : Option (List ℕ)) → accepts queue (request_for settings line) (answered state (request_for settings line)).answer ≡ o → (k : ℕ)
        → ((k : ℕ) (url : List ℕ) → slice_get (accepted_of queue (line_answers settings (line_exchange settings state line).state more)) k ≡ Some url → P queue url)
        → slice_get (cons_option o (accepted_of queue (line_answers settings (line_exchange settings state line).state more))) k ≡ Some url → P queue url
    by_first None e k later at = later k url at
    by_first (Some z) e zero later at = accepted_here P queue state url (request_for settings line) (each line) (e ∙ at)
    by_first (Some z) e (suc k) later at = later k url at

-- what a line asks names its URL's subqueue
pub assigns_for : (settings : Settings) (line : List ℕ) → IfOk (request_for settings line) (IsAssigned settings.workers)
assigns_for settings line = for_keeps (IsAssigned settings.workers) settings line (assigns_of settings.workers settings.suffixes line)

offers_assigned : (workers : ℕ) (r : Result Request RequestError) → IfOk r (IsAssigned workers) → IfOk r (OffersWhere (λ queue url. queue ≡ subqueue_of url workers))
offers_assigned workers r assigned = grind arith

pub accepted_as_assigned : (settings : Settings) (state : Frontier) (lines : List (List ℕ)) (queue k : ℕ) (url : List ℕ) → slice_get (accepted_of queue (line_answers settings state lines)) k ≡ Some url → queue ≡ subqueue_of url settings.workers
accepted_as_assigned settings = accepted_where (λ queue url. queue ≡ subqueue_of url settings.workers) settings (λ line. offers_assigned settings.workers (request_for settings line) (assigns_for settings line))
