-- The lists of an account are queues: by the rule that they keep, no list has a URL twice, and each URL belongs to its list.
use Rattle.crawl_certificate.proofs.Prelude.{◌≡◌, ℕ, zero, suc, ◌+◌, ◌<◌, false, List, [], ◌∷◌, ◌++◌, take, refl, arith, nat_tests, IsPermutation, bytes_eq, or_parts, or_from, All-from_recursion, subqueue_of, Entry, At, AccountId, DifferByUrl, entries_of, entry_urls, CountsOf, AreQueues}
use Rattle.std.specs.List.{AllByRecursion, IsDistinct}
use Rattle.crawl_queues.specs.Entries.{has_url, KeepsRule}
use Rattle.crawl_certificate.proofs.Order.{Distinct}
use Rattle.crawl_certificate.proofs.Queues.{differ_from, queues_differ, queue_counts}

-- a URL that is not in the whole list is not in its front
not_in_front : (url : List ℕ) (xs ys : List Entry) → has_url url (xs ++ ys) ≡ false → has_url url xs ≡ false
not_in_front url [] ys none = refl
not_in_front url (x ∷ xs) ys none = grind (arith, nat_tests, not_in_front url xs, or_parts, or_from)

not_the_last : (url : List ℕ) (xs : List Entry) (e : Entry) → has_url url (xs ++ e ∷ []) ≡ false → bytes_eq e.url url ≡ false
not_the_last url [] e none = let parts = or_parts (bytes_eq e.url url) false none in parts.0
not_the_last url (x ∷ xs) e none = grind (arith, nat_tests, not_the_last url xs, or_parts)

-- an entry that is in `before`, as `knows` states, has another URL than each of these entries
earlier_differs : (workers place : ℕ) (before es : List Entry) (x : Entry) → ((url : List ℕ) → has_url url before ≡ false → bytes_eq x.url url ≡ false) → KeepsRule workers place before es → AllByRecursion (λ url. bytes_eq x.url url ≡ false) (entry_urls es)
earlier_differs workers place before [] x knows keeps = tt
earlier_differs workers place before (e ∷ es) x knows keeps = grind (arith, not_in_front, earlier_differs workers place (before ++ e ∷ []) es x)

kept_distinct : (workers place : ℕ) (before es : List Entry) → KeepsRule workers place before es → Distinct (entry_urls es)
unfolding IsDistinct
kept_distinct workers place before [] keeps = tt
kept_distinct workers place before (e ∷ es) keeps = (
  earlier_differs workers place (before ++ e ∷ []) es e (λ url none. not_the_last url before e none) keeps.1,
  kept_distinct workers place (before ++ e ∷ []) es keeps.1,
)

kept_placed : (workers place : ℕ) (before es : List Entry) → KeepsRule workers place before es → AllByRecursion (λ e. subqueue_of e.url workers ≡ place) es
kept_placed workers place before [] keeps = tt
kept_placed workers place before (e ∷ es) keeps = (keeps.0.here, kept_placed workers place (before ++ e ∷ []) es keeps.1)

pub kept_queues : (workers : ℕ) (queues : List (List Entry)) → ((queue : ℕ) (es : List Entry) → At queues queue es → KeepsRule workers queue [] es) → AreQueues (λ url. subqueue_of url workers) queues
kept_queues workers queues keeps = record {
  placed = λ queue es at. All-from_recursion (λ (e : Entry). subqueue_of e.url workers ≡ queue) es (kept_placed workers queue [] es (keeps queue es at));
  apart = λ queue es at. differ_from es (kept_distinct workers queue [] es (keeps queue es at));
}

-- what is among the first n elements is at the same index of the whole list
pub at_front : {X : Type 0} (n : ℕ) (xs : List X) (k : ℕ) (x : X) → At (take n xs) k x → (k < n) × At xs k x
at_front zero xs k x at = absurd (cc)
at_front (suc n) [] k x at = absurd (cc)
at_front (suc n) (y ∷ ys) zero x at = (omega arith, at)
at_front (suc n) (y ∷ ys) (suc k) x at = let rest = at_front n ys k x at in (omega (arith, rest.0), rest.1)

-- the lists of the first n queues keep their rule
abbrev pub KeptBelow : ℕ → AccountId → Type 0
KeptBelow n account = (queue : ℕ) (es : List Entry) → queue < n → At account.queues queue es → KeepsRule account.workers queue [] es

pub one_more_kept : (n : ℕ) (account : AccountId) (own : List Entry) → KeptBelow n account → At account.queues n own → KeepsRule account.workers n [] own → KeptBelow (n + 1) account
one_more_kept n account own kept here keeps = grind arith

-- if the lists of all queues keep their rule, each has only URLs that belong to its queue, and none of them twice
pub account_queues : (account : AccountId) → KeptBelow account.workers account → AreQueues (λ url. subqueue_of url account.workers) (take account.workers account.queues)
account_queues account kept =
    kept_queues account.workers (take account.workers account.queues)
    (λ queue es at. let there = at_front account.workers account.queues queue es at in kept queue es there.0 there.1)

pub account_differs : (account : AccountId) → AreQueues (λ url. subqueue_of url account.workers) (take account.workers account.queues) → DifferByUrl (entries_of account)
account_differs account are = queues_differ (λ url. subqueue_of url account.workers) (take account.workers account.queues) are

-- ---- counts

pub at_whole : {X : Type 0} (n : ℕ) (xs : List X) (k : ℕ) (x : X) → k < n → At xs k x → At (take n xs) k x
at_whole zero xs k x below at = grind (arith, nat_tests)
at_whole (suc n) [] k x below at = absurd (cc)
at_whole (suc n) (y ∷ ys) zero x below at = at
at_whole (suc n) (y ∷ ys) (suc k) x below at = at_whole n ys k x (omega (arith, below)) at

-- if these URLs are those of the entries, the number of a queue's entries is the number of URLs that belong to it
pub account_counts : (account : AccountId) (urls : List (List ℕ)) → AreQueues (λ url. subqueue_of url account.workers) (take account.workers account.queues) → IsPermutation (entry_urls (entries_of account)) urls → CountsOf account urls
account_counts account urls are same = λ queue es below at.
    queue_counts (λ url. subqueue_of url account.workers) (take account.workers account.queues) urls are same queue es
    (at_whole account.workers account.queues queue es below at)
