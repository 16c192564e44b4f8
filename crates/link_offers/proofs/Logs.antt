-- How a log grows, and what it then contains about links.
use Rattle.link_offers.proofs.Prelude.{common_steps, ◌≡◌, ℕ, ◌+◌, Bool, List, [], ◌∷◌, ◌++◌, map, Option, Result, Ok, refl, sym, ap, ◌∙◌, IsTrue, IfSome, arith, append-nil, append_assoc, map-append, All-push, All-weaker, Contains-append_left, Contains-push, Logged, Offer, OfferError, RecentUrls, line_of, HasLine, AllLogged, Grows, Knows, url_in}
use Rattle.crawl_frontier.specs.Offers.{OfferBooks}
use Rattle.crawl_keys.specs.Assignment.{subqueue_of}
use Rattle.crawl_queues.specs.declared.book.Logged.TheVariants as logged
use Rattle.crawl_frontier.specs.declared.offer.Offer.TheVariants.{Accepted, Seen}
use Rattle.crawl_frontier.specs.declared.error.OfferError.TheVariants as refused
use Rattle.crawl_queues.specs.Entries.{entry}
use Rattle.crawl_queues.specs.Books.{BookId}

pub grows_same : (b b' : BookId) → b' ≡ b → Grows b b'
grows_same b b' same = record { more = []; id = ap (λ (x : BookId). x.id) same; log = ap (λ (x : BookId). x.log) same ∙ sym (append-nil b.log) }

pub grows_on : (a b c : BookId) → Grows a b → Grows b c → Grows a c
grows_on a b c first next = grind (arith, append_assoc)

-- an offer only adds to the books
pub offer_grows : (workers : ℕ) (b b' : BookId) (url : List ℕ) (hops : ℕ) (r : Result Offer OfferError) → OfferBooks workers b b' url hops r → Grows b b'
offer_grows workers b b' url hops r books = grind (arith, grows_same)

has_last : (workers : ℕ) (log : List Logged) (l : Logged) (url : List ℕ) → line_of l ≡ (url, subqueue_of url workers) → HasLine workers (log ++ l ∷ []) url
has_last workers log l url is = rw (map-append line_of log (l ∷ []), ← is) (Contains-push (map line_of log) (line_of l))

-- if the offer is Ok, the log has a line for the URL
pub offer_line : (workers : ℕ) (b b' : BookId) (url : List ℕ) (hops : ℕ) (o : Offer) → OfferBooks workers b b' url hops (Ok o) → HasLine workers b'.log url
offer_line workers b b' url hops (Accepted q n) books =
    rw books.3 (has_last workers b.log (logged.Accepted (entry url b.id n hops) q) url (ap (λ p. (url, p)) books.0))
offer_line workers b b' url hops Seen books =
    rw books (has_last workers b.log (logged.Seen url (subqueue_of url workers)) url refl)

pub has_line_on : (workers : ℕ) (b b' : BookId) (url : List ℕ) → Grows b b' → HasLine workers b.log url → HasLine workers b'.log url
has_line_on workers b b' url grows has = rw (grows.log, map-append line_of b.log grows.more) (Contains-append_left (map line_of b.log) (map line_of grows.more) (url, subqueue_of url workers) has)

pub all_logged_on : (workers : ℕ) (allowed : List ℕ → Bool) (b b' : BookId) (urls : List (List ℕ)) → Grows b b' → AllLogged workers allowed b.log urls → AllLogged workers allowed b'.log urls
all_logged_on workers allowed b b' urls grows all = grind (arith, common_steps, has_line_on)

pub all_logged_more : (workers : ℕ) (allowed : List ℕ → Bool) (b b' : BookId) (urls : List (List ℕ)) (url : List ℕ) → Grows b b' → AllLogged workers allowed b.log urls → (IsTrue (allowed url) → HasLine workers b'.log url) → AllLogged workers allowed b'.log (urls ++ url ∷ [])
all_logged_more workers allowed b b' urls url grows all has =
    All-push (λ u. IsTrue (allowed u) → HasLine workers b'.log u) urls url (all_logged_on workers allowed b b' urls grows all) has

slot_on : (workers : ℕ) (b b' : BookId) (slot : Option (List ℕ)) → Grows b b' → IfSome slot (HasLine workers b.log) → IfSome slot (HasLine workers b'.log)
slot_on workers b b' slot grows has = grind (arith, common_steps, has_line_on)

-- what is remembered is still known
pub knows_on : (workers : ℕ) (b b' : BookId) (recent : RecentUrls) → Grows b b' → Knows workers b.log recent → Knows workers b'.log recent
knows_on workers b b' recent grows all =
    All-weaker (λ slot. IfSome (url_in slot) (HasLine workers b.log)) (λ slot. IfSome (url_in slot) (HasLine workers b'.log)) (λ slot has. slot_on workers b b' (url_in slot) grows has) recent.slots.items all
