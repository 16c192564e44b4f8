-- The results for the links that a busy worker offers.
use Rattle.link_offers.proofs.Prelude.{common_steps, flat_map-append, ◌≡◌, ℕ, ◌+◌, ◌≤◌, Bool, cond, List, [], ◌∷◌, ◌++◌, length, Option, Some, Result, Err, refl, sym, ap, subst, ◌∙◌, arith, IsTrue, slice_set, slice_index_or, length-append, set-get_or, All-nil, All-cons, Offer, OfferError, RecentUrls, HasLine, AllLogged, Grows, LinkResult, IsOffer, HasResult, HaveResults, LinkResults, listed, losses_by, with_losses, Knows}
use Rattle.std.specs.List.{count_by, flat_map}
use Rattle.std.proofs.lemmas.List.Sums.{sum_by-cons}
use Rattle.crawl_frontier.specs.declared.error.OfferError.TheVariants as refused
use Rattle.crawl_frontier.specs.Parts.{BusyId, worker}
use Rattle.link_offers.specs.declared.losses.Loss.{Loss}
use Rattle.link_offers.specs.declared.losses.Losses.{Losses}
use Rattle.link_offers.specs.declared.offers.LinkOffers.{LinkOffers}
use Rattle.link_offers.specs.Losses.{loss_of, with_loss}
use Rattle.link_offers.proofs.Logs.{grows_same, grows_on, offer_grows, offer_line, has_line_on, knows_on}

-- a list in which an element is written again, unchanged
pub unchanged_at : {X : Type 0} (xs : List X) (i : ℕ) (x y : X) → y ≡ slice_index_or xs i x → slice_set xs i y ≡ xs
unchanged_at xs i x y same = ap (slice_set xs i) same ∙ set-get_or xs i x

-- ## Losses one after another

with_losses_append : (first next : List Loss) (losses : Losses) → with_losses (first ++ next) losses ≡ with_losses next (with_losses first losses)
with_losses_append [] next losses = refl
with_losses_append (why ∷ first) next losses = with_losses_append first next (with_loss why losses)

-- what was counted before, and then more
pub losses_on : (first next : List Loss) (a b c : Losses) → b ≡ with_losses first a → c ≡ with_losses next b → c ≡ with_losses (first ++ next) a
losses_on first next a b c one two = two ∙ ap (λ (l : Losses). with_losses next l) one ∙ sym (with_losses_append first next a)

-- ## The worker stays the same

-- the same worker and entry; the pass may differ, and the log may have grown
pub record SameBusy (b b' : BusyId) : Type 0 where
  pub entry : b'.message.entry ≡ b.message.entry
  pub worker : b'.worker ≡ worker b.worker.queue b'.worker.seat b.worker.taken b.worker.empty_pops b'.worker.book
  pub grows : Grows b.worker.book b'.worker.book

pub busy_same : (b b' : BusyId) → b' ≡ b → SameBusy b b'
busy_same b b' is = subst (λ (x : BusyId). SameBusy b x) (sym is) (record { entry = refl; worker = refl; grows = grows_same b.worker.book b.worker.book refl })

busy_on : (a b c : BusyId) → SameBusy a b → SameBusy b c → SameBusy a c
busy_on a b c first next = grind (arith, grows_on)

answer_same : (workers : ℕ) (allowed : List ℕ → Bool) (b b' : BusyId) (url : List ℕ) (offer_result : LinkResult) → HasResult workers allowed b b' url offer_result → SameBusy b b'
answer_same workers allowed b b' url offer_result is = grind (arith, busy_same, offer_grows)

pub answers_same : (workers : ℕ) (allowed : List ℕ → Bool) (b b' : BusyId) (urls : List (List ℕ)) (link_results : List LinkResult) → HaveResults workers allowed b b' urls link_results → SameBusy b b'
answers_same workers allowed b b' [] [] all = busy_same b b' all
answers_same workers allowed b b' [] (a ∷ link_results) all = absurd all
answers_same workers allowed b b' (url ∷ urls) [] all = absurd all
answers_same workers allowed b b' (url ∷ urls) (a ∷ link_results) all = grind (arith, busy_on, answer_same, answers_same workers allowed all.0 b' urls link_results all.2)

-- ## Results one after another

answered_on : (workers : ℕ) (allowed : List ℕ → Bool) (urls more : List (List ℕ)) (link_results others : List LinkResult) (b m c : BusyId)
    → HaveResults workers allowed b m urls link_results → HaveResults workers allowed m c more others → HaveResults workers allowed b c (urls ++ more) (link_results ++ others)
answered_on workers allowed [] more [] others b m c first next = subst (λ (x : BusyId). HaveResults workers allowed x c more others) first next
answered_on workers allowed [] more (a ∷ link_results) others b m c first next = absurd first
answered_on workers allowed (url ∷ urls) more [] others b m c first next = absurd first
answered_on workers allowed (url ∷ urls) more (a ∷ link_results) others b m c first next = grind (arith, answered_on workers allowed urls more link_results others first.0 m c first.2 next)

-- links, and those after them
pub link_answers_on : (workers : ℕ) (allowed : List ℕ → Bool) (urls more : List (List ℕ)) (b m c : BusyId) (old mid new : LinkOffers)
    → LinkResults workers allowed urls b m old mid → LinkResults workers allowed more m c mid new → LinkResults workers allowed (urls ++ more) b c old new
link_answers_on workers allowed urls more b m c old mid new first next = grind (arith, answered_on, losses_on, flat_map-append)

-- a link that is offered, by the URL that was looked up
pub link_offered : (workers : ℕ) (allowed : List ℕ → Bool) (b b' : BusyId) (other url : List ℕ) (offer_result : Result Offer OfferError) (old new : LinkOffers)
    → other ≡ url → IsOffer workers allowed b b' other offer_result → new.losses ≡ with_losses (losses_by (Some offer_result) ++ []) old.losses → Knows workers b'.worker.book.log new.recent
    → LinkResults workers allowed (url ∷ []) b b' old new
link_offered workers allowed b b' other url offer_result old new is offer losses known = record {
  link_results = Some offer_result ∷ [];
  each = (b', subst (λ (u : List ℕ). IsOffer workers allowed b b' u offer_result) is offer, refl);
  losses = losses;
  known = known;
}

-- what is remembered is still known after an offer
pub known_after : (workers : ℕ) (allowed : List ℕ → Bool) (b b' : BusyId) (url : List ℕ) (offer_result : Result Offer OfferError) (recent : RecentUrls)
    → IsOffer workers allowed b b' url offer_result → Knows workers b.worker.book.log recent → Knows workers b'.worker.book.log recent
known_after workers allowed b b' url offer_result recent offer known = grind (arith, knows_on, offer_grows)

-- a refusal is counted by its cause
pub lost_as : (error : OfferError) (why : Loss) (old new : Losses) → Some why ≡ loss_of error → new ≡ with_loss why old → new ≡ with_losses (losses_by (Some (Err error)) ++ []) old
lost_as error why old new is losses = subst (λ (o : Option Loss). new ≡ with_losses (listed o ++ []) old) is losses

-- ## The losses for links

answer_few : (workers : ℕ) (allowed : List ℕ → Bool) (b b' : BusyId) (url : List ℕ) (offer_result : LinkResult) → HasResult workers allowed b b' url offer_result → length (losses_by offer_result) ≤ cond (allowed url) 1 0
answer_few workers allowed b b' url offer_result is = grind arith

-- only links that are allowed are lost
pub answers_few : (workers : ℕ) (allowed : List ℕ → Bool) (b b' : BusyId) (urls : List (List ℕ)) (link_results : List LinkResult) → HaveResults workers allowed b b' urls link_results
    → length (flat_map losses_by link_results) ≤ count_by allowed urls
answers_few workers allowed b b' [] [] all = omega arith
answers_few workers allowed b b' [] (a ∷ link_results) all = absurd all
answers_few workers allowed b b' (url ∷ urls) [] all = absurd all
answers_few workers allowed b b' (url ∷ urls) (a ∷ link_results) all = grind (arith, common_steps, answer_few, length-append, sum_by-cons, answers_few workers allowed all.0 b' urls link_results all.2)

-- ## Lines of links

answer_line : (workers : ℕ) (allowed : List ℕ → Bool) (b b' : BusyId) (url : List ℕ) (offer_result : LinkResult) → HasResult workers allowed b b' url offer_result → length (losses_by offer_result) ≡ 0
    → IsTrue (allowed url) → HasLine workers b'.worker.book.log url
answer_line workers allowed b b' url offer_result is none may = grind (arith, offer_line)

-- if nothing is lost, each link that is allowed has a line
pub answers_logged : (workers : ℕ) (allowed : List ℕ → Bool) (b b' : BusyId) (urls : List (List ℕ)) (link_results : List LinkResult) → HaveResults workers allowed b b' urls link_results
    → length (flat_map losses_by link_results) ≡ 0 → AllLogged workers allowed b'.worker.book.log urls
answers_logged workers allowed b b' [] [] all none = All-nil (λ (url : List ℕ). IsTrue (allowed url) → HasLine workers b'.worker.book.log url)
answers_logged workers allowed b b' [] (a ∷ link_results) all none = absurd all
answers_logged workers allowed b b' (url ∷ urls) [] all none = absurd all
answers_logged workers allowed b b' (url ∷ urls) (a ∷ link_results) all none =
    let both : length (losses_by a) + length (flat_map losses_by link_results) ≡ 0 = sym (length-append (losses_by a) (flat_map losses_by link_results)) ∙ none in
    let grows = (answers_same workers allowed all.0 b' urls link_results all.2).grows in
    All-cons (λ (u : List ℕ). IsTrue (allowed u) → HasLine workers b'.worker.book.log u) url urls
    (λ may. has_line_on workers all.0.worker.book b'.worker.book url grows (answer_line workers allowed b all.0 url a all.1 (omega (arith, both)) may))
    (answers_logged workers allowed all.0 b' urls link_results all.2 (omega (arith, both)))
