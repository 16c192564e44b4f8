-- Entries in the subqueues of their URLs also differ across subqueues, and are counted by subqueue.
use Rattle.crawl_certificate.proofs.Prelude.{◌≡◌, inl, inr, ℕ, zero, suc, ◌+◌, ◌==◌, ◌≤◌, Bool, true, false, cond, List, [], ◌∷◌, ◌++◌, length, get_or, slice_get, Some, refl, sym, ap, subst, ◌∙◌, arith, IsPermutation, bytes_eq, both_ways, false_from_ne_true, eq-eqb, ne_eqb, get_or-map, length-map, map-append, All-contains, All-contains_itself, All-weaker, All-append, recursion_from_All, All-from_recursion, Contains-append_cases, sum_by-IsPermutation, sum_by-append, sum_by-cons, Entry, entries_in, DifferByUrl, entry_urls, AreQueues}
use Rattle.std.specs.List.{All, AllByRecursion, Contains, IsDistinct, count_by}
use Rattle.crawl_certificate.proofs.Lists.{no_element, same_text, text_itself}
use Rattle.crawl_certificate.proofs.Certified.{from_map}
use Rattle.crawl_certificate.proofs.Order.{Distinct, distinct_entries, distinct_at}

-- likewise by recursion, from some number on
abbrev pub QueuesFrom : (List ℕ → ℕ) → ℕ → List (List Entry) → Type 0
QueuesFrom subqueue n [] = Unit {0}
QueuesFrom subqueue n (es ∷ rest) = All (λ e. subqueue e.url ≡ n) es × DifferByUrl es × QueuesFrom subqueue (suc n) rest

queues_from : (subqueue : List ℕ → ℕ) (n : ℕ) (queues : List (List Entry)) → ((queue : ℕ) (es : List Entry) → slice_get queues queue ≡ Some es → All (λ e. subqueue e.url ≡ n + queue) es × DifferByUrl es) → QueuesFrom subqueue n queues
queues_from subqueue n [] each = tt
queues_from subqueue n (es ∷ rest) each =
    let first = each 0 es refl in
    let here' : n + 0 ≡ n = omega arith in
    let P : ℕ → Type 0 = λ k. All (λ (e : Entry). subqueue e.url ≡ k) es in (
      subst P here' first.0,
      first.1,
      queues_from subqueue (suc n) rest (λ queue xs at.
          let later = each (suc queue) xs at in
          let next : n + suc queue ≡ suc n + queue = omega arith in
          let Q : ℕ → Type 0 = λ k. All (λ (e : Entry). subqueue e.url ≡ k) xs in
          (subst Q next later.0, later.1)),
    )

pub at_least : (subqueue : List ℕ → ℕ) (n : ℕ) (queues : List (List Entry)) (url : List ℕ) → QueuesFrom subqueue n queues → Contains (entry_urls (entries_in queues)) url → n ≤ subqueue url
at_least subqueue n [] url from has = absurd (no_element url has)
at_least subqueue n (es ∷ rest) url from has =
    elim (Contains-append_cases (entry_urls es) (entry_urls (entries_in rest)) url (subst (λ us. Contains us url) (map-append (λ (e : Entry). e.url) es (entries_in rest)) has)) [
      | inl own ↦
          let e = from_map (λ (e : Entry). e.url) es url own in
          let number : subqueue e.0.url ≡ n = All-contains (λ (x : Entry). subqueue x.url ≡ n) es e.0 from.0 e.1 in
          let same : subqueue url ≡ n = ap subqueue (sym e.2) ∙ number in
          omega (arith, same)
      | inr later ↦ let more = at_least subqueue (suc n) rest url from.2 later in omega (arith, more)
    ]

distinct_append : (xs ys : List (List ℕ)) → Distinct xs → Distinct ys → ((x : List ℕ) → Contains xs x → Contains ys x → ⊥) → Distinct (xs ++ ys)
unfolding IsDistinct
distinct_append [] ys p q none = q
distinct_append (x ∷ xs) ys p q none = (
  recursion_from_All (λ y. bytes_eq x y ≡ false) (xs ++ ys)
      (All-append (λ y. bytes_eq x y ≡ false) xs ys (All-from_recursion (λ y. bytes_eq x y ≡ false) xs p.0)
      (All-weaker (Contains ys) (λ y. bytes_eq x y ≡ false) (λ y has. false_from_ne_true _ (λ same. none x (zero, omega arith, refl) (subst (λ z. Contains ys z) (sym (same_text x y same)) has))) ys (All-contains_itself ys))),
  distinct_append xs ys p.1 q (λ z own other. none z (suc own.0, omega (arith, own.1), own.2) other),
)

distinct_queues : (subqueue : List ℕ → ℕ) (n : ℕ) (queues : List (List Entry)) → QueuesFrom subqueue n queues → Distinct (entry_urls (entries_in queues))
unfolding IsDistinct
distinct_queues subqueue n [] from = tt
distinct_queues subqueue n (es ∷ rest) from =
    subst Distinct (sym (map-append (λ (e : Entry). e.url) es (entries_in rest)))
    (distinct_append (entry_urls es) (entry_urls (entries_in rest)) (distinct_entries es from.1) (distinct_queues subqueue (suc n) rest from.2)
    (λ url own later.
    let e = from_map (λ (e : Entry). e.url) es url own in
    let number : subqueue e.0.url ≡ n = All-contains (λ (x : Entry). subqueue x.url ≡ n) es e.0 from.0 e.1 in
    let same : subqueue url ≡ n = ap subqueue (sym e.2) ∙ number in
    let more = at_least subqueue (suc n) rest url from.2 later in
    omega (arith, same, more)))

pub differ_from : (entries : List Entry) → Distinct (entry_urls entries) → DifferByUrl entries
differ_from entries distinct = λ i j d before below same.
    let at_i = get_or-map (λ (e : Entry). e.url) entries i d d.url (omega (arith, before, below)) in
    let at_j = get_or-map (λ (e : Entry). e.url) entries j d d.url below in
    both_ways _ (distinct_at (entry_urls entries) distinct i j d.url before (omega (arith, below, length-map entries (λ (e : Entry). e.url))))
    (subst (λ u. bytes_eq (get_or (entry_urls entries) i d.url) u ≡ true) (at_i ∙ same ∙ sym at_j) (text_itself (get_or (entry_urls entries) i d.url)))

pub from_first : (subqueue : List ℕ → ℕ) (queues : List (List Entry)) → AreQueues subqueue queues → QueuesFrom subqueue 0 queues
from_first subqueue queues are = grind (arith, queues_from)

pub queues_differ : (subqueue : List ℕ → ℕ) (queues : List (List Entry)) → AreQueues subqueue queues → DifferByUrl (entries_in queues)
queues_differ subqueue queues are = differ_from (entries_in queues) (distinct_queues subqueue 0 queues (from_first subqueue queues are))

-- ---- counts

abbrev weight : Bool → ℕ
weight b = cond b 1 0

count_all : (p : List ℕ → Bool) (es : List Entry) → All (λ e. p e.url ≡ true) es → count_by p (entry_urls es) ≡ length es
count_all p es all = by_recursion p es (recursion_from_All (λ (e : Entry). p e.url ≡ true) es all)
  where
    by_recursion : (p : List ℕ → Bool) (es : List Entry) → AllByRecursion (λ e. p e.url ≡ true) es → count_by p (entry_urls es) ≡ length es
    by_recursion p [] all = refl
    by_recursion p (e ∷ es) all =
        let one : weight (p e.url) ≡ 1 = ap weight all.0 in
        let rest = by_recursion p es all.1 in
        omega (arith, sum_by-cons (λ (u : List ℕ). cond (p u) 1 0) e.url (entry_urls es), one, rest)

count_none : (p : List ℕ → Bool) (us : List (List ℕ)) → ((u : List ℕ) → Contains us u → p u ≡ false) → count_by p us ≡ 0
count_none p [] none = refl
count_none p (u ∷ us) none =
    let zero' : weight (p u) ≡ 0 = ap weight (none u (0, omega arith, refl)) in
    let rest = count_none p us (λ x has. none x (suc has.0, omega (arith, has.1), has.2)) in
    omega (arith, sum_by-cons (λ (x : List ℕ). cond (p x) 1 0) u us, zero', rest)

count_from : (subqueue : List ℕ → ℕ) (n : ℕ) (queues : List (List Entry)) → QueuesFrom subqueue n queues → (queue : ℕ) (es : List Entry) → slice_get queues queue ≡ Some es → count_by (λ u. subqueue u == n + queue) (entry_urls (entries_in queues)) ≡ length es
count_from subqueue n [] from queue es at = absurd (cc)
count_from subqueue n (xs ∷ rest) from zero es at =
    let p : List ℕ → Bool = λ u. subqueue u == n + 0 in
    let same : xs ≡ es = cc in
    let own : count_by p (entry_urls xs) ≡ length xs = count_all p xs (All-weaker (λ (e : Entry). subqueue e.url ≡ n) (λ (e : Entry). p e.url ≡ true) (λ e is. eq-eqb _ _ (omega (arith, is))) xs from.0) in
    let later : count_by p (entry_urls (entries_in rest)) ≡ 0 = count_none p (entry_urls (entries_in rest)) (λ u has. let far = at_least subqueue (suc n) rest u from.2 has in ne_eqb _ _ (λ is. omega (arith, is, far))) in
    let split : count_by p (entry_urls (xs ++ entries_in rest)) ≡ count_by p (entry_urls xs) + count_by p (entry_urls (entries_in rest)) = ap (count_by p) (map-append (λ (e : Entry). e.url) xs (entries_in rest)) ∙ sum_by-append (λ (u : List ℕ). cond (p u) 1 0) (entry_urls xs) (entry_urls (entries_in rest)) in
    split ∙ omega (arith, own, later) ∙ ap length same
count_from subqueue n (xs ∷ rest) from (suc queue) es at =
    let p : List ℕ → Bool = λ u. subqueue u == n + suc queue in
    let own : count_by p (entry_urls xs) ≡ 0 = count_none p (entry_urls xs) (λ u has.
    let e = from_map (λ (x : Entry). x.url) xs u has in
    let number : subqueue e.0.url ≡ n = All-contains (λ (x : Entry). subqueue x.url ≡ n) xs e.0 from.0 e.1 in
    let here' : subqueue u ≡ n = ap subqueue (sym e.2) ∙ number in
    ne_eqb _ _ (λ is. omega (arith, is, here'))) in
    let number : suc n + queue ≡ n + suc queue = omega arith in
    let P : ℕ → Type 0 = λ k. count_by (λ (u : List ℕ). subqueue u == k) (entry_urls (entries_in rest)) ≡ length es in
    let later : count_by p (entry_urls (entries_in rest)) ≡ length es = subst P number (count_from subqueue (suc n) rest from.2 queue es at) in
    let split : count_by p (entry_urls (xs ++ entries_in rest)) ≡ count_by p (entry_urls xs) + count_by p (entry_urls (entries_in rest)) = ap (count_by p) (map-append (λ (e : Entry). e.url) xs (entries_in rest)) ∙ sum_by-append (λ (u : List ℕ). cond (p u) 1 0) (entry_urls xs) (entry_urls (entries_in rest)) in
    split ∙ omega (arith, own, later)

pub queue_counts : (subqueue : List ℕ → ℕ) (queues : List (List Entry)) (urls : List (List ℕ)) → AreQueues subqueue queues → IsPermutation (entry_urls (entries_in queues)) urls → (queue : ℕ) (es : List Entry) → slice_get queues queue ≡ Some es → count_by (λ u. subqueue u == queue) urls ≡ length es
queue_counts subqueue queues urls are moved queue es at =
    let number : 0 + queue ≡ queue = omega arith in
    let P : ℕ → Type 0 = λ k. count_by (λ (u : List ℕ). subqueue u == k) (entry_urls (entries_in queues)) ≡ length es in
    sum_by-IsPermutation (λ (u : List ℕ). cond (subqueue u == queue) 1 0) (entry_urls (entries_in queues)) urls moved
    ∙ subst P number (count_from subqueue 0 queues (from_first subqueue queues are) queue es at)
