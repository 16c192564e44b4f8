-- The losses of the seeds and the workers of a run together, and the run in which they occurred.
use Rattle.crawl_run.proofs.Prelude.{◌≡◌, ◌⊎◌, ℕ, ◌+◌, ◌-◌, ◌^◌, min, Bool, List, [], ◌∷◌, ◌++◌, map, append-nil, append_assoc, refl, sym, ap, subst, ◌∙◌, arith, Result, Ok, Err, IfOk, map-append, take_all, sum_by_push, sum_by, entries_in, entries_of, first_error, IsCulprit, shows_error, no_memory, Culprit, Accounts, AllFresh, SeederId, SenderId, WorkerId, Entry, OfferError, Offer, GateId, Page, PageResult, both_losses, no_losses, with_refusal, AllRan, Losses, WorkerEnd, losses_at, of_cert, AllOffered, AreOffered, CountsLosses, IsRun, IsSeedOffer, losses_with, lost_seed, together, all_closed, all_found, all_lost}
use Rattle.crawl_certificate.specs.declared.error.CertError.TheVariants as cert
use Rattle.crawl_queues.specs.Books.{fresh_book}
use Rattle.crawl_frontier.specs.declared.error.OfferError.TheVariants as refused
use Rattle.crawl_run.specs.declared.run_output.RunOutput as left

-- ---- one more

-- losses added to those of all before are those of all together
together_more : (all : List Losses) (l : Losses) → both_losses (together all) l ≡ together (all ++ l ∷ [])
together_more all l = grind (arith, sum_by_push)

-- likewise for the ends of workers
with_ends : {K : _} (all : List Losses) (ends : List (WorkerEnd K)) → losses_with (together all) ends ≡ together (all ++ all_lost ends)
with_ends {K} all [] = ap together (sym (append-nil all))
with_ends {K} all (e ∷ es) = ap (λ (l : Losses). losses_with l es) (together_more all e.losses) ∙ with_ends (all ++ e.losses ∷ []) es ∙ ap together (append_assoc all (e.losses ∷ []) (all_lost es))

-- ---- one more seed

-- the result of the offer of a seed
abbrev pub Outcome : Type 0
Outcome = Result Offer OfferError

-- the losses so far, and what an offer of a seed with this result loses
abbrev with_offer : Outcome → Losses → Losses
with_offer (Ok offer) losses = losses
with_offer (Err refusal) losses = with_refusal refusal losses

-- a count, which stops at its maximum, to which a seed adds nothing
unchanged : (kind : Losses → ℕ) (all : List Losses) → min (sum_by kind all) (2 ^ 64 - 1) ≡ min (min (sum_by kind all) (2 ^ 64 - 1) + 0) (2 ^ 64 - 1)
unchanged kind all = grind arith

none_lost : (all : List Losses) → together all ≡ both_losses (together all) no_losses
none_lost all = grind (arith, unchanged)

both_offer : (all : List Losses) (offer : Outcome) → with_offer offer (together all) ≡ both_losses (together all) (lost_seed offer)
both_offer all offer = grind (arith, none_lost, unchanged)

offer_more : (offers : List Outcome) (offer : Outcome) → with_offer offer (together (map lost_seed offers)) ≡ together (map lost_seed (offers ++ offer ∷ []))
offer_more offers offer = both_offer (map lost_seed offers) offer ∙ together_more (map lost_seed offers) (lost_seed offer) ∙ ap together (sym (map-append lost_seed offers (offer ∷ [])))

-- the seeder has offered one more seed
all_more : (workers : ℕ) (allowed : List ℕ → Bool) (s m s' : SeederId) (seeds : List (List ℕ)) (outcomes : List Outcome) (seed : List ℕ) (outcome : Outcome)
    → AllOffered workers allowed s m seeds outcomes → IsSeedOffer workers allowed m s' seed outcome → AllOffered workers allowed s s' (seeds ++ seed ∷ []) (outcomes ++ outcome ∷ [])
all_more workers allowed s m s' [] [] seed outcome each own = (s', subst (λ (x : SeederId). IsSeedOffer workers allowed x s' seed outcome) each own, refl)
all_more workers allowed s m s' (u ∷ seeds) (a ∷ outcomes) seed outcome each own = (each.0, each.1, all_more workers allowed each.0 m s' seeds outcomes seed outcome each.2 own)
all_more workers allowed s m s' seeds outcomes seed outcome each own = absurd each

pub offered_more : (workers : ℕ) (allowed : List ℕ → Bool) (s m s' : SeederId) (seeds : List (List ℕ)) (seed : List ℕ) (outcome : Outcome) (before after : Losses) → IsSeedOffer workers allowed m s' seed outcome → after ≡ with_offer outcome before
    → AreOffered workers allowed s m seeds before → AreOffered workers allowed s s' (seeds ++ seed ∷ []) after
offered_more workers allowed s m s' seeds seed outcome before after own counted so_far = grind (arith, all_more, offer_more)

-- ---- the ends of a run, whatever identifies its frontier

abbrev renamed : {K : _} → WorkerEnd K → WorkerEnd (Unit {0})
renamed e = record { closed = e.closed; results = e.results; lost = e.lost; losses = e.losses }

abbrev all_renamed : {K : _} → List (WorkerEnd K) → List (WorkerEnd (Unit {0}))
all_renamed [] = []
all_renamed (e ∷ es) = renamed e ∷ all_renamed es

same_closed : {K : _} (ends : List (WorkerEnd K)) → all_closed ends ≡ all_closed (all_renamed ends)
same_closed {K} [] = refl
same_closed {K} (e ∷ es) = ap (λ (cs : List WorkerId). e.closed ∷ cs) (same_closed es)

same_found : {K : _} (ends : List (WorkerEnd K)) → all_found ends ≡ all_found (all_renamed ends)
same_found {K} [] = refl
same_found {K} (e ∷ es) = ap (λ (rs : List PageResult). e.results.items ++ rs) (same_found es)

same_lost : {K : _} (ends : List (WorkerEnd K)) → all_lost ends ≡ all_lost (all_renamed ends)
same_lost {K} [] = refl
same_lost {K} (e ∷ es) = ap (λ (ls : List Losses). e.losses ∷ ls) (same_lost es)

same_ran : {K : _} (workers : ℕ) (allowed : List ℕ → Bool) (meaning : List ℕ → Page) (starts : List WorkerId) (ends : List (WorkerEnd K)) → AllRan workers allowed meaning starts ends → AllRan workers allowed meaning starts (all_renamed ends)
same_ran {K} workers allowed meaning [] [] ran = tt
same_ran {K} workers allowed meaning (w ∷ ws) (e ∷ es) ran = (ran.0, same_ran workers allowed meaning ws es ran.1)
same_ran {K} workers allowed meaning starts ends ran = absurd ran

-- ---- what a run returns

pub run_of : {K : _} {E : Type 0} (result : Result left.RunOutput E) (gate : GateId) (workers : ℕ) (allowed : List ℕ → Bool) (meaning : List ℕ → Page) (seeds : List (List ℕ)) (starts : List WorkerId) (ends : List (WorkerEnd K)) (seeder seeded : SeederId) (sender : SenderId) (before : Losses)
    → AllFresh gate workers 0 starts → AllRan workers allowed meaning starts ends → seeder.book ≡ fresh_book workers workers → AreOffered workers allowed seeder seeded seeds before → sender.book ≡ seeded.book
    → IfOk result (λ ran. ran.account.workers ≡ workers) → IfOk result (λ ran. Accounts workers (all_closed ends) (sender ∷ []) ran.account.queues) → IfOk result (λ ran. ran.results.items ≡ all_found ends) → IfOk result (λ ran. ran.losses ≡ losses_with before ends)
    → IfOk result (λ ran. IsRun workers allowed meaning seeds (entries_of ran.account) ran.results.items ran.losses)
run_of {K} (Ok ran) gate workers allowed meaning seeds starts ends seeder seeded sender before fresh did first offered last many own results lost = record {
  gate = gate;
  starts = starts;
  ends = all_renamed ends;
  seeder = seeder;
  seeded = seeded;
  sender = sender;
  outcomes = offered.outcomes;
  queues = ran.account.queues;
  fresh = fresh;
  ran = same_ran workers allowed meaning starts ends did;
  first = first;
  offered = offered.each;
  last = last;
  account = subst (λ (c : List WorkerId). Accounts workers c (sender ∷ []) ran.account.queues) (same_closed ends) own;
  accepted = ap entries_in (take_all ran.account.workers ran.account.queues (omega (arith, own.len, many)));
  found = results ∙ same_found ends;
  lost =
      lost ∙ ap (λ (l : Losses). losses_with l ends) offered.lost ∙ with_ends (map lost_seed offered.outcomes) ends
      ∙ ap (λ (ls : List Losses). together (map lost_seed offered.outcomes ++ ls)) (same_lost ends);
}
run_of {K} (Err e) gate workers allowed meaning seeds starts ends seeder seeded sender before fresh did first offered last many own results lost = tt

-- ---- what is reported of a run

-- a culprit of such a run is reported with its losses, and with none if memory ran out
pub culprit_counted : (workers : ℕ) (allowed : List ℕ → Bool) (meaning : List ℕ → Page) (seeds : List (List ℕ)) (entries : List Entry) (results : List PageResult) (losses : Losses) (culprit : Culprit) → IsRun workers allowed meaning seeds entries results losses
    → IsCulprit (first_error allowed seeds entries results) (shows_error allowed seeds entries results) culprit ⊎ (culprit ≡ no_memory) → CountsLosses workers allowed meaning seeds (of_cert culprit.cause) culprit.url (losses_at culprit.url losses)
culprit_counted workers allowed meaning seeds entries results losses culprit run reported = grind arith
