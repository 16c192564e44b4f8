-- Messages that are found by their URLs, and numbered by their senders.
use Rattle.crawl_core.proofs.Prelude.{cond, ◌≡◌, ℕ, zero, suc, ◌+◌, Bool, true, false, List, [], ◌∷◌, take, map, nat_eq, slice_get, Some, refl, sym, ap, ◌∙◌, arith, eqb-true, zero-add, filter_map, filter, sum_by-cons, bytes_eq, nat_list_eq_equiv, bytes_eq-Decides, Message, message_with, count_from, numbers_of, UrlsDiffer, NumbersInOrder}
use Rattle.crawl_core.proofs.Places.{slice_get-take}
use Rattle.crawl_core.proofs.Sound.{some_is}

tail_differ : (x : Message) (xs : List Message) → UrlsDiffer (x ∷ xs) → UrlsDiffer xs
tail_differ x xs differ i j m n at_i at_j same = let next = differ (suc i) (suc j) m n at_i at_j same in omega (arith, next)

-- a message of a list whose URLs differ is the one that is found by its URL
message_at : (xs : List Message) → UrlsDiffer xs → (i : ℕ) (m : Message) → slice_get xs i ≡ Some m → message_with xs m.url ≡ Some m
message_at [] differ i m at = absurd (cc)
message_at (x ∷ xs) differ zero m at = let same : x ≡ m = some_is at in rw (same, nat_list_eq_equiv.refl m.url) refl
message_at (x ∷ xs) differ (suc i) m at = by_first (bytes_eq x.url m.url) refl (message_at xs (tail_differ x xs differ) i m at)
  where
    by_first : (b : Bool) → bytes_eq x.url m.url ≡ b → message_with xs m.url ≡ Some m → cond (bytes_eq x.url m.url) (Some x) (message_with xs m.url) ≡ Some m
    by_first true same rest = let clash = differ 0 (suc i) x m refl at ((bytes_eq-Decides x.url m.url).0 same) in absurd (omega (arith, clash))
    by_first false other rest = rw other rest

found_again : (all xs : List Message) → ((i : ℕ) (m : Message) → slice_get xs i ≡ Some m → message_with all m.url ≡ Some m) → filter_map (message_with all) (map (λ (m : Message). m.url) xs) ≡ xs
found_again all [] found = refl
found_again all (x ∷ xs) found = rw (found 0 x refl) (ap (λ ys. x ∷ ys) (found_again all xs (λ i m at. found (suc i) m at)))

-- the first messages, found by their URLs
pub firsts_found : (accepted : List Message) (taken : ℕ) → UrlsDiffer accepted → filter_map (message_with accepted) (map (λ (m : Message). m.url) (take taken accepted)) ≡ take taken accepted
firsts_found accepted taken differ = found_again accepted (take taken accepted) (λ i m at. message_at accepted differ i m (slice_get-take accepted taken i m at))

-- the sender's messages are numbered from n on
abbrev NumberedFrom : ℕ → ℕ → List Message → Type 0
NumberedFrom sender n xs = (k : ℕ) (m : Message) → slice_get xs k ≡ Some m → m.sender ≡ sender → m.number ≡ n + count_from (take k xs) sender

abbrev CountsUp : ℕ → ℕ → List Message → Type 0
CountsUp sender n xs = (k number : ℕ) → slice_get (numbers_of xs sender) k ≡ Some number → number ≡ n + k

counts_up : (sender n : ℕ) (xs : List Message) → NumberedFrom sender n xs → CountsUp sender n xs
counts_up sender n [] rule k number at = absurd (cc)
counts_up sender n (x ∷ xs) rule k number at = by_first (nat_eq x.sender sender) refl (counts_up sender (n + 1) xs) (counts_up sender n xs) k number at
  where
    later : (k : ℕ) (m : Message) → slice_get xs k ≡ Some m → m.sender ≡ sender → m.number ≡ n + (cond (nat_eq x.sender sender) 1 0 + count_from (take k xs) sender)
    later k m at same = let counted = rule (suc k) m at same in rw (sum_by-cons (λ (y : Message). cond (nat_eq y.sender sender) 1 0) x (take k xs)) at counted

    by_first : (b : Bool) → nat_eq x.sender sender ≡ b → (NumberedFrom sender (n + 1) xs → CountsUp sender (n + 1) xs) → (NumberedFrom sender n xs → CountsUp sender n xs) → (k number : ℕ) → slice_get (map (λ (m : Message). m.number) (cond (nat_eq x.sender sender) (x ∷ filter (λ (m : Message). nat_eq m.sender sender) xs) (filter (λ (m : Message). nat_eq m.sender sender) xs))) k ≡ Some number → number ≡ n + k
    by_first true here more same zero number at =
        let first = rule 0 x refl (eqb-true x.sender sender here) in
        let is_first : x.number ≡ number = some_is (rw here at at) in
        omega (arith, first, is_first)
    by_first true here more same (suc k) number at =
        let rest : NumberedFrom sender (n + 1) xs = λ i m at_i is. (let counted = rw here at (later i m at_i is) in omega (arith, counted)) in
        let next = more rest k number (rw here at at) in
        omega (arith, next)
    by_first false other more same k number at =
        let rest : NumberedFrom sender n xs = λ i m at_i is. (let counted = rw other at (later i m at_i is) in omega (arith, counted)) in
        same rest k number (rw other at at)

take_within : (xs : List Message) (taken k : ℕ) (m : Message) → slice_get (take taken xs) k ≡ Some m → take k (take taken xs) ≡ take k xs
take_within [] zero k m at = absurd (cc)
take_within [] (suc taken) k m at = absurd (cc)
take_within (x ∷ xs) zero k m at = absurd (cc)
take_within (x ∷ xs) (suc taken) zero m at = refl
take_within (x ∷ xs) (suc taken) (suc k) m at = ap (λ ys. x ∷ ys) (take_within xs taken k m at)

-- of the first messages, each sender's have the numbers 0, 1, 2, ..
pub firsts_numbered : (accepted : List Message) (taken sender : ℕ) → NumbersInOrder accepted → (k number : ℕ) → slice_get (numbers_of (take taken accepted) sender) k ≡ Some number → number ≡ k
firsts_numbered accepted taken sender in_order k number at =
    let rule : NumberedFrom sender 0 (take taken accepted) = λ i m at_i same. (rw (take_within accepted taken i m at_i, ← same) (in_order i m (slice_get-take accepted taken i m at_i) ∙ sym (zero-add (count_from (take i accepted) m.sender)))) in
    let counted = counts_up sender 0 (take taken accepted) rule k number at in
    omega (arith, counted)
