-- The index of a URL among the entries of all queues, computed from its index in its own queue.
use Rattle.crawl_certificate.proofs.Prelude.{◌≡◌, inl, inr, ℕ, zero, suc, ◌+◌, ◌<◌, true, List, [], ◌∷◌, ◌++◌, length, take, get_or, slice_get, Option, Some, None, is_some, refl, sym, ap, subst, ◌∙◌, arith, length-append, common_steps, Contains, bytes_eq, cases_lt, false_from_ne_true, length-map, map-append, All-contains, slice_get_within, get_or_from_slice_get, subqueue_of, Entry, AccountId, get_last, entries_in, DifferByUrl, is_accepted, entry_urls, at_this, has_url_at, Finds, AreFirsts, AreLaidOut, get_before}
use Rattle.std.proofs.Common.{if◌then◌else◌, option_map}
use Rattle.hash_index.specs.Lists.{index_of}
use Rattle.hash_index.proofs.Listed.{found_at, absent_at, has_index}
use Rattle.crawl_frontier.proofs.Urls.{entry_there, url_at}
use Rattle.crawl_certificate.proofs.Certified.{from_map}
use Rattle.crawl_certificate.proofs.KeptRules.{account_differs, at_whole}
use Rattle.crawl_certificate.proofs.Lists.{same_text, any_from}
use Rattle.crawl_certificate.proofs.Places.{among_at, any_map}
use Rattle.crawl_certificate.proofs.Queues.{QueuesFrom, at_least, from_first}

-- ---- numbers in options

add_none : (o : Option ℕ) → o ≡ option_map (λ i. 0 + i) o
add_none o = grind arith

add_both : (a b c : ℕ) → c ≡ a + b → (o : Option ℕ) → option_map (λ i. a + i) (option_map (λ i. b + i) o) ≡ option_map (λ i. c + i) o
add_both a b c is o = grind arith

-- ---- a text's index in two lists, one after the other

-- if the first list does not have the text, its index is that in the second list, plus the length of the first
following : (front back : List (List ℕ)) (key : List ℕ) → index_of front key ≡ None → index_of (front ++ back) key ≡ option_map (λ i. length front + i) (index_of back key)
following [] back key none = grind arith
following (text ∷ front) back key none = grind (arith, following front back key)

-- if the second list does not have the text, its index is that in the first list
ahead : (front back : List (List ℕ)) (key : List ℕ) → index_of back key ≡ None → index_of (front ++ back) key ≡ index_of front key
ahead [] back key none = none
ahead (text ∷ front) back key none = ap (λ (o : Option ℕ). if bytes_eq text key then Some 0 else option_map suc o) (ahead front back key none)

absent : (texts : List (List ℕ)) (key : List ℕ) → (Contains texts key → ⊥) → index_of texts key ≡ None
absent texts key never = by_index (index_of texts key) refl
  where
    by_index : (o : Option ℕ) → index_of texts key ≡ o → o ≡ None
    by_index None found = refl
    by_index (Some k) found = absurd (never (among_at texts k key (found_at texts key k found)))

-- ---- the index among the entries of all queues

in_queues : (subqueue : List ℕ → ℕ) (n : ℕ) (queues : List (List Entry)) → QueuesFrom subqueue n queues → (url : List ℕ) (queue : ℕ) (own : List Entry) → subqueue url ≡ n + queue → slice_get queues queue ≡ Some own
    → index_of (entry_urls (entries_in queues)) url ≡ option_map (λ i. length (entries_in (take queue queues)) + i) (index_of (entry_urls own) url)
in_queues subqueue n [] from url queue own here at = absurd (cc)
in_queues subqueue n (es ∷ rest) from url zero own here at =
    let same : es ≡ own = cc in
    let later : index_of (entry_urls (entries_in rest)) url ≡ None =
    absent (entry_urls (entries_in rest)) url (λ has. let far = at_least subqueue (suc n) rest url from.2 has in omega (arith, far, here)) in
    ap (λ us. index_of us url) (map-append (λ (e : Entry). e.url) es (entries_in rest))
    ∙ ahead (entry_urls es) (entry_urls (entries_in rest)) url later
    ∙ add_none (index_of (entry_urls es) url)
    ∙ ap (λ (xs : List Entry). option_map (λ i. 0 + i) (index_of (entry_urls xs) url)) same
in_queues subqueue n (es ∷ rest) from url (suc queue) own here at =
    let first : index_of (entry_urls es) url ≡ None =
    absent (entry_urls es) url (λ has.
    let e = from_map (λ (x : Entry). x.url) es url has in
    let number : subqueue e.0.url ≡ n = All-contains (λ (x : Entry). subqueue x.url ≡ n) es e.0 from.0 e.1 in
    let other : subqueue url ≡ n = ap subqueue (sym e.2) ∙ number in
    omega (arith, other, here)) in
    let next : subqueue url ≡ suc n + queue = omega (arith, here) in
    let before = entries_in (take queue rest) in
    let long : length (es ++ before) ≡ length (entry_urls es) + length before = omega (arith, length-append es before, length-map es (λ (e : Entry). e.url)) in
    ap (λ us. index_of us url) (map-append (λ (e : Entry). e.url) es (entries_in rest))
    ∙ following (entry_urls es) (entry_urls (entries_in rest)) url first
    ∙ ap (option_map (λ i. length (entry_urls es) + i)) (in_queues subqueue (suc n) rest from.2 url queue own next at)
    ∙ add_both (length (entry_urls es)) (length before) (length (es ++ before)) long (index_of (entry_urls own) url)

take_less : {X : Type 0} (n k : ℕ) (xs : List X) → k < n → take k (take n xs) ≡ take k xs
take_less n k xs below = grind (arith, common_steps)

module _ (account : AccountId) (all : List Entry) (firsts : List ℕ) (are : AreLaidOut account all firsts) (url : List ℕ) (queue : ℕ) (own : queue ≡ subqueue_of url account.workers) (below : queue < account.workers) where
  abbrev before : ℕ
  before = length (entries_in (take queue account.queues))

  in_account : (o : Option ℕ) → ((es : List Entry) → slice_get account.queues queue ≡ Some es → o ≡ index_of (entry_urls es) url) → index_of (entry_urls all) url ≡ option_map (λ i. before + i) o
  in_account o least =
      let there = are.first queue below in
      let queues = take account.workers account.queues in
      let from_zero : queue ≡ 0 + queue = omega arith in
      let here : subqueue_of url account.workers ≡ 0 + queue = sym own ∙ from_zero in
      let whole = in_queues (λ u. subqueue_of u account.workers) 0 queues (from_first (λ u. subqueue_of u account.workers) queues are.queues) url queue there.0 here (at_whole account.workers account.queues queue there.0 below there.1) in
      let first : length (entries_in (take queue queues)) ≡ before = ap (λ (qs : List (List Entry)). length (entries_in qs)) (take_less account.workers queue account.queues below) in
      ap (λ (es : List Entry). index_of (entry_urls es) url) are.whole ∙ whole
      ∙ ap (λ n. option_map (λ i. n + i) (index_of (entry_urls there.0) url)) first
      ∙ ap (option_map (λ i. before + i)) (sym (least there.0 there.1))

-- one more queue
pub firsts_push : (n : ℕ) (queues : List (List Entry)) (firsts : List ℕ) (first : ℕ) (own : List Entry) → length firsts ≡ n → first ≡ length (entries_in (take n queues)) → slice_get queues n ≡ Some own
    → AreFirsts n queues firsts → AreFirsts (n + 1) queues (firsts ++ first ∷ [])
firsts_push n queues firsts first own count is at are = λ queue below. elim (cases_lt queue n) [
  | inl before ↦ let old = are queue before in (old.0, old.1, get_before firsts first (length (entries_in (take queue queues))) queue old.2)
  | inr not_before ↦
      let last : n ≡ queue = omega (arith, below, not_before) in
      let here : slice_get (firsts ++ first ∷ []) n ≡ Some (length (entries_in (take n queues))) =
      subst (λ k. slice_get (firsts ++ first ∷ []) k ≡ Some first) count (get_last firsts first) ∙ ap Some is in
      (own, subst (λ k. slice_get queues k ≡ Some own) last at, subst (λ k. slice_get (firsts ++ first ∷ []) k ≡ Some (length (entries_in (take k queues)))) last here)
]

-- ---- what is found

laid_apart : (account : AccountId) (all : List Entry) (firsts : List ℕ) → AreLaidOut account all firsts → DifferByUrl all
laid_apart account all firsts are = subst DifferByUrl (sym are.whole) (account_differs account are.queues)

-- entries with the same URL have the same index
same_index : (entries : List Entry) → DifferByUrl entries → (i k : ℕ) (x e : Entry) → slice_get entries i ≡ Some x → slice_get entries k ≡ Some e → x.url ≡ e.url → i ≡ k
same_index entries apart i k x e at_i at_k same = grind (arith, cases_lt, slice_get_within, get_or_from_slice_get)

-- an entry is found by its URL
finds_entry : (entries : List Entry) → DifferByUrl entries → (url : List ℕ) (k : ℕ) (e : Entry) → slice_get entries k ≡ Some e → e.url ≡ url → Finds entries url (Some k)
finds_entry entries apart url k e at is = grind (arith, same_index, same_text)

finds_of : (entries : List Entry) → DifferByUrl entries → (url : List ℕ) (o : Option ℕ) → index_of (entry_urls entries) url ≡ o → Finds entries url o
finds_of entries apart url None found = λ k e at. false_from_ne_true _ (λ same. absent_at (entry_urls entries) url found k (url_at entries k e at ∙ ap Some (sym (same_text url e.url same))))
finds_of entries apart url (Some k) found = let there = entry_there entries url k found in finds_entry entries apart url k there.0 there.1.0 there.1.1

has_entry : (entries : List Entry) (url : List ℕ) → is_some (index_of (entry_urls entries) url) ≡ is_accepted entries url
has_entry entries url = has_index (entry_urls entries) url ∙ any_map (λ text. bytes_eq text url) (λ (e : Entry). e.url) entries

-- the index that is found for the URL is that of the URL's entry, and there is one if and only if the URL is accepted
pub record IsAnswer (all : List Entry) (url : List ℕ) (o : Option ℕ) : Type 0 where
  pub found : Finds all url o
  pub accepted : is_some o ≡ is_accepted all url

answer : (all : List Entry) → DifferByUrl all → (url : List ℕ) (o : Option ℕ) → index_of (entry_urls all) url ≡ o → IsAnswer all url o
answer all apart url o is = record { found = finds_of all apart url o is; accepted = ap is_some (sym is) ∙ has_entry all url }

module _ (account : AccountId) (all : List Entry) (firsts : List ℕ) (are : AreLaidOut account all firsts) (url : List ℕ) (queue : ℕ) (own : queue ≡ subqueue_of url account.workers) (below : queue < account.workers) where
  pub answers_absent : ((es : List Entry) → slice_get account.queues queue ≡ Some es → None ≡ index_of (entry_urls es) url) → IsAnswer all url None
  answers_absent least = answer all (laid_apart account all firsts are) url None (in_account account all firsts are url queue own below None least)

  pub queue_within : queue < length firsts
  queue_within = let there = are.first queue below in slice_get_within firsts queue (before account all firsts are url queue own below) there.2

  pub answers_there : (first i : ℕ) → first ≡ get_or firsts queue first → ((es : List Entry) → slice_get account.queues queue ≡ Some es → Some i ≡ index_of (entry_urls es) url) → IsAnswer all url (Some (first + i))
  answers_there first i at least =
      let there = are.first queue below in
      let is : before account all firsts are url queue own below ≡ first = sym (at ∙ get_or_from_slice_get firsts queue (before account all firsts are url queue own below) first there.2) in
      answer all (laid_apart account all firsts are) url (Some (first + i)) (in_account account all firsts are url queue own below (Some i) least ∙ ap (λ n. Some (n + i)) is)

-- if the entry at a guessed index has the URL, the guess is right
pub answers_guess : (account : AccountId) (all : List Entry) (firsts : List ℕ) → AreLaidOut account all firsts → (url : List ℕ) (k : ℕ) → has_url_at all k url ≡ true → IsAnswer all url (Some k)
answers_guess account all firsts are url k stands = of_this (slice_get all k) refl stands
  where
    of_this : (o : Option Entry) → slice_get all k ≡ o → at_this o url ≡ true → IsAnswer all url (Some k)
    of_this None at this = absurd (cc)
    of_this (Some e) at this =
        let is : e.url ≡ url = same_text e.url url this in
        record {
          found = finds_entry all (laid_apart account all firsts are) url k e at is;
          accepted = sym (any_from (λ (x : Entry). bytes_eq x.url url) all e (among_at all k e at) this);
        }
