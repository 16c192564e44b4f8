-- From the ends of a run's workers to what the run left: its workers, its results and its losses.
use Rattle.crawl_run.proofs.Prelude.{◌≡◌, ◌⊎◌, ℕ, ◌+◌, ◌-◌, ◌^◌, ◌<◌, ◌≤◌, min, Bool, true, false, List, [], ◌∷◌, ◌++◌, map, refl, sym, ap, subst, ◌∙◌, arith, Option, Some, Result, Ok, Err, IfOk, cases_lt, All-nil, All-cons, All-head, All-tail, All, flat_map, here, NothingLost, first_error, link_missing, not_fetched, seed_missing, IsCulprit, shows_error, no_memory, Culprit, CertError, entries_in, entries_of, Accounts, AccountId, AllFresh, WorkerId, SenderId, Entry, GateId, Page, PageResult, AllLogged, all_losses, both_losses, AllRan, Losses, WorkerEnd, losses_at, of_cert, IsLost, losses_with, IsWithoutLoss, Share, all_closed, all_found, take_all}
use Rattle.crawl_certificate.specs.declared.error.CertError.TheVariants as cert
use Rattle.crawl_frontier.specs.declared.error.OfferError.TheVariants as refused
use Rattle.crawl_workers.specs.Ran.{Ran}
use Rattle.crawl_run.specs.declared.run_output.RunOutput as left
use Rattle.crawl_run.specs.declared.error.CrawlError.TheVariants as wrong
use Rattle.crawl_run.proofs.WithoutLoss.{run_without_loss}

-- ---- one more end

-- ---- no losses

both_none : (a b : Losses) → all_losses (both_losses a b) ≡ 0 → (all_losses a ≡ 0) × (all_losses b ≡ 0)
both_none a b none = grind arith

none_with : {K : _} (before : Losses) (ends : List (WorkerEnd K)) → all_losses (losses_with before ends) ≡ 0 → (all_losses before ≡ 0) × All (λ (e : WorkerEnd K). all_losses e.losses ≡ 0) ends
none_with {K} before [] none = (none, All-nil (λ (e : WorkerEnd K). all_losses e.losses ≡ 0))
none_with {K} before (e ∷ es) none =
    let rest = none_with (both_losses before e.losses) es none in
    let own = both_none before e.losses rest.0 in
    (own.0, All-cons (λ (x : WorkerEnd K). all_losses x.losses ≡ 0) e es own.1 rest.1)

lost_none : (most lost all : ℕ) → all ≡ 0 → lost ≡ min all most → lost ≡ 0
lost_none most lost all none is = omega (arith, none, is)

-- ---- a run in which nothing is lost

abbrev shares_of : {K : _} → List WorkerId → List (WorkerEnd K) → List Share
shares_of [] ends = []
shares_of (w ∷ ws) [] = []
shares_of (w ∷ ws) (e ∷ es) = record { start = w; now = e.closed; found = e.results.items } ∷ shares_of ws es

shares_closed : {K : _} (workers : ℕ) (allowed : List ℕ → Bool) (meaning : List ℕ → Page) (starts : List WorkerId) (ends : List (WorkerEnd K)) → AllRan workers allowed meaning starts ends → map (λ (share : Share). share.now) (shares_of starts ends) ≡ all_closed ends
shares_closed {K} workers allowed meaning [] [] ran = refl
shares_closed {K} workers allowed meaning (w ∷ ws) (e ∷ es) ran = ap (λ (cs : List WorkerId). e.closed ∷ cs) (shares_closed workers allowed meaning ws es ran.1)
shares_closed {K} workers allowed meaning starts ends ran = absurd ran

shares_found : {K : _} (workers : ℕ) (allowed : List ℕ → Bool) (meaning : List ℕ → Page) (starts : List WorkerId) (ends : List (WorkerEnd K)) → AllRan workers allowed meaning starts ends → flat_map (λ (share : Share). share.found) (shares_of starts ends) ≡ all_found ends
shares_found {K} workers allowed meaning [] [] ran = refl
shares_found {K} workers allowed meaning (w ∷ ws) (e ∷ es) ran = ap (λ (rs : List PageResult). e.results.items ++ rs) (shares_found workers allowed meaning ws es ran.1)
shares_found {K} workers allowed meaning starts ends ran = absurd ran

shares_whole : {K : _} (gate : GateId) (workers n : ℕ) (allowed : List ℕ → Bool) (meaning : List ℕ → Page) (starts : List WorkerId) (ends : List (WorkerEnd K)) → AllFresh gate workers n starts → AllRan workers allowed meaning starts ends → All (λ (e : WorkerEnd K). all_losses e.losses ≡ 0) ends → All (IsWithoutLoss workers allowed meaning) (shares_of starts ends)
shares_whole {K} gate workers n allowed meaning [] [] fresh ran none = All-nil (IsWithoutLoss workers allowed meaning)
shares_whole {K} gate workers n allowed meaning [] (e ∷ es) fresh ran none = absurd ran
shares_whole {K} gate workers n allowed meaning (w ∷ ws) [] fresh ran none = absurd ran
shares_whole {K} gate workers n allowed meaning (w ∷ ws) (e ∷ es) fresh ran none =
    let own = All-head (λ (x : WorkerEnd K). all_losses x.losses ≡ 0) e es none in
    let zero : e.lost ≡ 0 = lost_none (2 ^ 64 - 1) e.lost (all_losses e.losses) own ran.0.1.all in
    let whole = subst (λ lost. Ran workers allowed meaning w e.closed e.results.items lost) zero ran.0.0 in
    All-cons (IsWithoutLoss workers allowed meaning) (record { start = w; now = e.closed; found = e.results.items }) (shares_of ws es) (fresh.2, whole)
    (shares_whole gate workers (n + 1) allowed meaning ws es fresh.5 ran.1 (All-tail (λ (x : WorkerEnd K). all_losses x.losses ≡ 0) e es none))

-- if nothing was lost, all allowed seeds and links are entries of the account, and all entries have results
pub nothing_lost : {K : _} (gate : GateId) (workers : ℕ) (allowed : List ℕ → Bool) (meaning : List ℕ → Page) (seeds : List (List ℕ)) (starts : List WorkerId) (ends : List (WorkerEnd K)) (sender : SenderId) (before losses : Losses) (account : AccountId) (results : List PageResult)
    → 0 < workers → account.workers ≡ workers → AllFresh gate workers 0 starts → AllRan workers allowed meaning starts ends → Accounts workers (all_closed ends) (sender ∷ []) account.queues → results ≡ all_found ends → losses ≡ losses_with before ends
    → (all_losses before ≡ 0 → AllLogged workers allowed sender.book.log seeds) → all_losses losses ≡ 0 → NothingLost allowed seeds (entries_of account) results
nothing_lost {K} gate workers allowed meaning seeds starts ends sender before losses account results some many fresh ran own found lost logged none =
    let shares = shares_of starts ends in
    let of_none = none_with before ends (subst (λ (l : Losses). all_losses l ≡ 0) lost none) in
    let accounts : Accounts workers (map (λ (share : Share). share.now) shares) (sender ∷ []) account.queues =
    subst (λ closed. Accounts workers closed (sender ∷ []) account.queues) (sym (shares_closed workers allowed meaning starts ends ran)) own in
    let whole = run_without_loss workers allowed meaning seeds shares (sender ∷ []) account.queues some accounts (shares_whole gate workers 0 allowed meaning starts ends fresh ran of_none.1) sender (here sender []) (logged of_none.0) in
    let entries : entries_of account ≡ entries_in account.queues = ap entries_in (take_all account.workers account.queues (omega (arith, own.len, many))) in
    let given : results ≡ flat_map (λ (share : Share). share.found) shares = found ∙ sym (shares_found workers allowed meaning starts ends ran) in
    subst (λ es. NothingLost allowed seeds es results) (sym entries) (subst (λ rs. NothingLost allowed seeds (entries_in account.queues) rs) (sym given) whole)

-- ---- errors that report something missing

abbrev reports_missing : Option CertError → Bool
reports_missing (Some cert.SeedMissing) = true
reports_missing (Some cert.NotFetched) = true
reports_missing (Some cert.LinkMissing) = true
reports_missing _ = false

-- if nothing was lost, nothing is missing
abbrev pub LacksNothing : (List ℕ → Bool) → List (List ℕ) → List Entry → List PageResult → Losses → Type 0
LacksNothing allowed seeds entries results losses =
    all_losses losses ≡ 0 → (seed_missing allowed seeds entries ≡ false) × (not_fetched entries results ≡ false) × (link_missing allowed entries results ≡ false)

missing_lost : (allowed : List ℕ → Bool) (seeds : List (List ℕ)) (entries : List Entry) (results : List PageResult) (cause : CertError) (losses : Losses) → reports_missing (Some cause) ≡ true → LacksNothing allowed seeds entries results losses
    → first_error allowed seeds entries results ≡ Some cause → 1 ≤ all_losses losses
missing_lost allowed seeds entries results cause losses tells lacks first = grind (arith, cases_lt)

cause_lost : (allowed : List ℕ → Bool) (seeds : List (List ℕ)) (entries : List Entry) (results : List PageResult) (cause : CertError) (losses : Losses) → LacksNothing allowed seeds entries results losses → first_error allowed seeds entries results ≡ Some cause → IsLost (of_cert cause) losses
cause_lost allowed seeds entries results cause losses lacks first = grind (arith, missing_lost)

-- so if nothing was lost, the culprit of the run reports nothing missing
pub culprit_lost : (allowed : List ℕ → Bool) (seeds : List (List ℕ)) (entries : List Entry) (results : List PageResult) (culprit : Culprit) (losses : Losses) → LacksNothing allowed seeds entries results losses
    → IsCulprit (first_error allowed seeds entries results) (shows_error allowed seeds entries results) culprit ⊎ (culprit ≡ no_memory) → IsLost (of_cert culprit.cause) (losses_at culprit.url losses)
culprit_lost allowed seeds entries results culprit losses lacks reported = grind (arith, cause_lost)

-- ---- a seed whose offer failed

-- ---- what a run returns

pub nothing_lost_of : {K : _} {E : Type 0} (result : Result left.RunOutput E) (gate : GateId) (workers : ℕ) (allowed : List ℕ → Bool) (meaning : List ℕ → Page) (seeds : List (List ℕ)) (starts : List WorkerId) (ends : List (WorkerEnd K)) (sender : SenderId) (before : Losses)
    → 0 < workers → AllFresh gate workers 0 starts → AllRan workers allowed meaning starts ends → (all_losses before ≡ 0 → AllLogged workers allowed sender.book.log seeds)
    → IfOk result (λ ran. ran.account.workers ≡ workers) → IfOk result (λ ran. Accounts workers (all_closed ends) (sender ∷ []) ran.account.queues) → IfOk result (λ ran. ran.results.items ≡ all_found ends) → IfOk result (λ ran. ran.losses ≡ losses_with before ends)
    → IfOk result (λ ran. all_losses ran.losses ≡ 0 → NothingLost allowed seeds (entries_of ran.account) ran.results.items)
nothing_lost_of {K} (Ok ran) gate workers allowed meaning seeds starts ends sender before some fresh did logged many own results lost =
    nothing_lost gate workers allowed meaning seeds starts ends sender before ran.losses ran.account ran.results.items some many fresh did own results lost logged
nothing_lost_of {K} (Err e) gate workers allowed meaning seeds starts ends sender before some fresh did logged many own results lost = tt
