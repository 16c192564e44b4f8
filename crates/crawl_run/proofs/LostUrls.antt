-- In a run, each URL that was taken has a result, or is counted as lost.
use Rattle.crawl_run.proofs.Prelude.{◌≡◌, inl, inr, ℕ, zero, suc, ◌+◌, ◌-◌, ◌^◌, ◌<◌, ◌≤◌, min, Bool, List, [], ◌∷◌, ◌++◌, length, map, slice_get, length-append, zero-add, refl, sym, ap, subst, ◌∙◌, arith, Result, sum_by-append, sum_by-cons, slice_get_cases, slice_get_within, sum_by, entries_in, At, HasWorkers, AllFresh, WorkerId, Entry, OfferError, Offer, GateId, Page, PageResult, AllRan, Losses, WorkerEnd, IsRun, lost_seed, all_closed, all_found, all_lost}
use Rattle.crawl_frontier.specs.declared.error.OfferError.TheVariants as refused

abbrev Outcome : Type 0
Outcome = Result Offer OfferError

abbrev End : Type 0
End = WorkerEnd (Unit {0})

abbrev failed_of : Losses → ℕ
failed_of losses = losses.failed

abbrev unkept_of : Losses → ℕ
unkept_of losses = losses.unkept

-- the lists that the workers took, in order
abbrev all_taken : List End → List (List Entry)
all_taken [] = []
all_taken (e ∷ es) = e.closed.taken ∷ all_taken es

-- ---- the counts of all workers

worker_more : (most f u fs us sum_f sum_u before own taken results rest : ℕ) → sum_f ≡ f + fs → sum_u ≡ u + us → sum_f + sum_u < most → before ≡ 0 → (f + u < most → before + own + f + u ≡ taken) → (fs + us < most → rest ≡ results + fs + us)
    → taken + rest ≡ own + results + sum_f + sum_u
worker_more most f u fs us sum_f sum_u before own taken results rest more_f more_u few none here others = grind arith

all_counted : (gate : GateId) (workers n : ℕ) (allowed : List ℕ → Bool) (meaning : List ℕ → Page) (starts : List WorkerId) (ends : List End) → AllFresh gate workers n starts → AllRan workers allowed meaning starts ends
    → sum_by failed_of (all_lost ends) + sum_by unkept_of (all_lost ends) < 2 ^ 64 - 1 → length (entries_in (all_taken ends)) ≡ length (all_found ends) + sum_by failed_of (all_lost ends) + sum_by unkept_of (all_lost ends)
all_counted gate workers n allowed meaning [] [] fresh ran few = refl
all_counted gate workers n allowed meaning (w ∷ ws) (e ∷ es) fresh ran few =
    let results = length-append e.results.items (all_found es) in
    length-append e.closed.taken (entries_in (all_taken es))
    ∙ worker_more (2 ^ 64 - 1) e.losses.failed e.losses.unkept (sum_by failed_of (all_lost es)) (sum_by unkept_of (all_lost es)) (sum_by failed_of (all_lost (e ∷ es))) (sum_by unkept_of (all_lost (e ∷ es))) (length w.taken) (length e.results.items) (length e.closed.taken)
    (length (all_found es)) (length (entries_in (all_taken es))) (sum_by-cons failed_of e.losses (all_lost es)) (sum_by-cons unkept_of e.losses (all_lost es)) few (ap length fresh.2) ran.0.1.urls (all_counted gate workers (n + 1) allowed meaning ws es fresh.5 ran.1)
    ∙ ap (λ n. n + sum_by failed_of (all_lost (e ∷ es)) + sum_by unkept_of (all_lost (e ∷ es))) (sym results)
all_counted gate workers n allowed meaning starts ends fresh ran few = absurd ran

-- ---- the workers' lists are the account's

own_queue : (gate : GateId) (workers n : ℕ) (allowed : List ℕ → Bool) (meaning : List ℕ → Page) (starts : List WorkerId) (ends : List End) → AllFresh gate workers n starts → AllRan workers allowed meaning starts ends → (k : ℕ) (w : WorkerId) → At (all_closed ends) k w → w.queue ≡ n + k
own_queue gate workers n allowed meaning [] [] fresh ran k w at = absurd (cc)
own_queue gate workers n allowed meaning (s ∷ ss) (e ∷ es) fresh ran zero w at =
    let same : e.closed ≡ w = cc in
    let first : n ≡ n + zero = omega arith in
    sym (ap (λ (x : WorkerId). x.queue) same) ∙ ran.0.0.queue ∙ fresh.0 ∙ first
own_queue gate workers n allowed meaning (s ∷ ss) (e ∷ es) fresh ran (suc k) w at =
    let next : n + 1 + k ≡ n + suc k = omega arith in
    own_queue gate workers (n + 1) allowed meaning ss es fresh.5 ran.1 k w at ∙ next
own_queue gate workers n allowed meaning starts ends fresh ran k w at = absurd ran

enough : (workers : ℕ) (closed : List WorkerId) → HasWorkers workers closed → ((k : ℕ) (w : WorkerId) → At closed k w → w.queue ≡ k) → workers ≤ length closed
enough workers closed has own = grind (arith, slice_get_within)

few_enough : (workers : ℕ) (closed : List WorkerId) (queues : List (List Entry)) → length queues ≡ workers → ((k : ℕ) (w : WorkerId) → At closed k w → At queues w.queue w.taken) → ((k : ℕ) (w : WorkerId) → At closed k w → w.queue ≡ k) → length closed ≤ workers
few_enough workers closed queues len taken own = elim ((slice_get_cases closed workers).1) [
  | inl more ↦
      let w = more.0 in
      let there : w.queue < length queues = slice_get_within queues w.queue w.taken (taken workers w more.2) in
      absurd (omega (arith, len, own workers w more.2, there))
  | inr none ↦ none.0
]

same_lists : (queues : List (List Entry)) (ends : List End) → length queues ≡ length (all_closed ends) → ((k : ℕ) (w : WorkerId) → At (all_closed ends) k w → At queues k w.taken) → queues ≡ all_taken ends
same_lists [] [] len each = refl
same_lists [] (e ∷ es) len each =
    let none : At [] zero e.closed.taken = each zero e.closed refl in
    absurd (cc)
same_lists (q ∷ qs) [] len each = absurd (omega (arith, len))
same_lists (q ∷ qs) (e ∷ es) len each =
    let here : At (q ∷ qs) zero e.closed.taken = each zero e.closed refl in
    let first : q ≡ e.closed.taken = cc in
    let others : qs ≡ all_taken es = same_lists qs es (omega (arith, len)) (λ k w at. each (suc k) w at) in
    ap (λ (x : List Entry). x ∷ qs) first ∙ ap (λ (xs : List (List Entry)). e.closed.taken ∷ xs) others

-- ---- seeds lose only links

no_url : (outcome : Outcome) → ((lost_seed outcome).failed ≡ 0) × ((lost_seed outcome).unkept ≡ 0)
no_url outcome = grind arith

no_urls : (kind : Losses → ℕ) (outcomes : List Outcome) → ((outcome : Outcome) → kind (lost_seed outcome) ≡ 0) → sum_by kind (map lost_seed outcomes) ≡ 0
no_urls kind [] none = refl
no_urls kind (a ∷ outcomes) none = sum_by-cons kind (lost_seed a) (map lost_seed outcomes) ∙ ap (λ n. n + sum_by kind (map lost_seed outcomes)) (none a) ∙ (λ i. 0 + no_urls kind outcomes none i)

-- ---- a run

of_ends : (kind : Losses → ℕ) (reported : ℕ) (outcomes : List Outcome) (ends : List End) → ((outcome : Outcome) → kind (lost_seed outcome) ≡ 0) → reported ≡ min (sum_by kind (map lost_seed outcomes ++ all_lost ends)) (2 ^ 64 - 1) → reported < 2 ^ 64 - 1
    → reported ≡ sum_by kind (all_lost ends)
of_ends kind reported outcomes ends none is few = grind (arith, sum_by-append, no_urls)

pub lost_urls : (workers : ℕ) (allowed : List ℕ → Bool) (meaning : List ℕ → Page) (seeds : List (List ℕ)) (entries : List Entry) (results : List PageResult) (losses : Losses) → IsRun workers allowed meaning seeds entries results losses → losses.failed + losses.unkept < 2 ^ 64 - 1
    → length entries ≡ length results + losses.failed + losses.unkept
lost_urls workers allowed meaning seeds entries results losses run few =
    let own = λ (k : ℕ) (w : WorkerId) (at : At (all_closed run.ends) k w). own_queue run.gate workers 0 allowed meaning run.starts run.ends run.fresh run.ran k w at ∙ zero-add k in
    let taken = λ (k : ℕ) (w : WorkerId) (at : At (all_closed run.ends) k w). run.account.taken k w at in
    let many : length (all_closed run.ends) ≤ workers = few_enough workers (all_closed run.ends) run.queues run.account.len taken own in
    let all : workers ≤ length (all_closed run.ends) = enough workers (all_closed run.ends) run.account.worked own in
    let same : run.queues ≡ all_taken run.ends =
    same_lists run.queues run.ends (omega (arith, run.account.len, many, all)) (λ k w at. ap (slice_get run.queues) (sym (own k w at)) ∙ taken k w at) in
    let failed : losses.failed ≡ sum_by failed_of (all_lost run.ends) = of_ends failed_of losses.failed run.outcomes run.ends (λ a. (no_url a).0) (ap failed_of run.lost) (omega (arith, few)) in
    let unkept : losses.unkept ≡ sum_by unkept_of (all_lost run.ends) = of_ends unkept_of losses.unkept run.outcomes run.ends (λ a. (no_url a).1) (ap unkept_of run.lost) (omega (arith, few)) in
    let few_ends : sum_by failed_of (all_lost run.ends) + sum_by unkept_of (all_lost run.ends) < 2 ^ 64 - 1 =
    subst (λ n. n + sum_by unkept_of (all_lost run.ends) < 2 ^ 64 - 1) failed (subst (λ n. losses.failed + n < 2 ^ 64 - 1) unkept few) in
    ap length run.accepted ∙ ap (λ qs. length (entries_in qs)) same
    ∙ all_counted run.gate workers 0 allowed meaning run.starts run.ends run.fresh run.ran few_ends
    ∙ (λ i. length (sym run.found i) + sym failed i + sym unkept i)
