-- What a run without losses leaves for the certificate.
use Rattle.crawl_run.proofs.Prelude.{◌≡◌, inl, inr, ℕ, ◌<◌, Bool, true, List, [], ◌∷◌, map, slice_get, Some, IsTrue, refl, sym, ap, subst, ◌∙◌, or_cases, All-weaker, All-contains, All-contains_itself, Contains-append_left, Contains-append_right, Contains-append_cases, slice_get_within, All, Contains, flat_map, no_element, here, there, first_or_later, same_text, place_among, among_at, entries_in, entry_urls, result_urls, AllowedAreIn, NothingLost, Accounts, WorkerId, SenderId, Entry, Page, PageResult, HasLine, AllLogged, Share, IsWithoutLoss}
use Rattle.std.specs.Str.{bytes_eq}
use Rattle.crawl_certificate.proofs.Certified.{in_map, from_map}
use Rattle.crawl_queues.specs.Entries.{has_url}
use Rattle.crawl_keys.specs.Assignment.{subqueue_of}
use Rattle.crawl_pages.specs.Pages.{links_of}
use Rattle.crawl_workers.proofs.Lossless.{all_taken_found, logged_accepted, links_accepted}
use Rattle.crawl_workers.specs.Lossless.{IsAccepted, AllAccepted}

-- ---- elements of concatenated lists

in_flat : {X Y : Type 0} (f : X → List Y) (xs : List X) (x : X) (y : Y) → Contains xs x → Contains (f x) y → Contains (flat_map f xs) y
in_flat f [] x y has own = absurd (no_element x has)
in_flat f (first ∷ xs) x y has own = elim (first_or_later first x xs has) [
  | inl is ↦ Contains-append_left (f first) (flat_map f xs) y (subst (λ z. Contains (f z) y) (sym is) own)
  | inr later ↦ Contains-append_right (f first) (flat_map f xs) y (in_flat f xs x y later own)
]

from_flat : {X Y : Type 0} (f : X → List Y) (xs : List X) (y : Y) → Contains (flat_map f xs) y → (x : X) × Contains xs x × Contains (f x) y
from_flat f [] y has = absurd (no_element y has)
from_flat f (first ∷ xs) y has = elim (Contains-append_cases (f first) (flat_map f xs) y has) [
  | inl own ↦ (first, here first xs, own)
  | inr later ↦
      let rest = from_flat f xs y later in
      (rest.0, there first rest.0 xs rest.1, rest.2)
]

of_each : {X : Type 0} (P : X → Type 0) (xs : List X) → ((x : X) → Contains xs x → P x) → All P xs
of_each P xs each = All-weaker (Contains xs) P each xs (All-contains_itself xs)

same_list : (a b : List Entry) → Some a ≡ Some b → a ≡ b
same_list a b same = cc

-- ---- an accepted URL is that of an entry

has_listed : (es : List Entry) (url : List ℕ) → has_url url es ≡ true → (e : Entry) × Contains es e × (e.url ≡ url)
has_listed [] url has = absurd (cc)
has_listed (e ∷ es) url has = elim (or_cases (bytes_eq e.url url) (has_url url es) has) [
  | inl same ↦ (e, here e es, same_text e.url url same)
  | inr later ↦
      let rest = has_listed es url later in
      (rest.0, there e rest.0 es rest.1, rest.2)
]

accepted_listed : (workers : ℕ) (queues : List (List Entry)) (url : List ℕ) → IsAccepted workers queues url → Contains (entry_urls (entries_in queues)) url
accepted_listed workers queues url accepted =
    let own = has_listed accepted.list url accepted.has in
    let among = in_flat (λ (queue : List Entry). queue) queues accepted.list own.0 (among_at queues (subqueue_of url workers) accepted.list accepted.at) own.1 in
    subst (λ u. Contains (entry_urls (entries_in queues)) u) own.2 (in_map (λ (e : Entry). e.url) (entries_in queues) own.0 among)

-- ---- the run

seeds_kept : (workers : ℕ) (allowed : List ℕ → Bool) (seeds : List (List ℕ)) (closed : List WorkerId) (senders : List SenderId) (queues : List (List Entry)) → 0 < workers → Accounts workers closed senders queues → (sender : SenderId) → Contains senders sender → AllLogged workers allowed sender.book.log seeds → AllowedAreIn allowed (entry_urls (entries_in queues)) seeds
seeds_kept workers allowed seeds closed senders queues some account sender among logged =
    let index = place_among senders sender among in
    All-weaker (λ (url : List ℕ). IsTrue (allowed url) → HasLine workers sender.book.log url) (λ (url : List ℕ). IsTrue (allowed url) → Contains (entry_urls (entries_in queues)) url)
    (λ url line may. accepted_listed workers queues url (logged_accepted workers closed senders queues some account sender.book (inr (index.0, sender, index.1, refl)) url (line may)))
    seeds logged

entry_fetched : (workers : ℕ) (allowed : List ℕ → Bool) (meaning : List ℕ → Page) (shares : List Share) (senders : List SenderId) (queues : List (List Entry)) → Accounts workers (map (λ share. share.now) shares) senders queues → All (IsWithoutLoss workers allowed meaning) shares → (e : Entry) → Contains (entries_in queues) e → Contains (result_urls (flat_map (λ share. share.found) shares)) e.url
entry_fetched workers allowed meaning shares senders queues account whole e has =
    let closed = map (λ (share : Share). share.now) shares in
    let own = from_flat (λ (queue : List Entry). queue) queues e has in
    let queue = place_among queues own.0 own.1 in
    let less = subst (λ n. queue.0 < n) account.len (slice_get_within queues queue.0 own.0 queue.1) in
    let worker = account.worked queue.0 less in
    let share = from_map (λ (share : Share). share.now) shares worker.1 (among_at closed worker.0 worker.1 worker.2) in
    let without = All-contains (IsWithoutLoss workers allowed meaning) shares share.0 whole share.1 in
    let taken = account.taken worker.0 worker.1 worker.2 in
    let same : own.0 ≡ worker.1.taken = same_list own.0 worker.1.taken (sym queue.1 ∙ ap (slice_get queues) (sym worker.3) ∙ taken) in
    let listed : Contains (entry_urls own.0) e.url = in_map (λ (x : Entry). x.url) own.0 e own.2 in
    let urls : entry_urls own.0 ≡ result_urls share.0.found =
    ap entry_urls (same ∙ ap (λ (w : WorkerId). w.taken) (sym share.2)) ∙ sym (all_taken_found workers allowed meaning share.0.start share.0.now share.0.found without.1 without.0) in
    let result = from_map (λ (r : PageResult). r.url) share.0.found e.url (subst (λ us. Contains us e.url) urls listed) in
    let among = in_flat (λ (x : Share). x.found) shares share.0 result.0 share.1 result.1 in
    subst (λ u. Contains (result_urls (flat_map (λ (x : Share). x.found) shares)) u) result.2 (in_map (λ (r : PageResult). r.url) (flat_map (λ (x : Share). x.found) shares) result.0 among)

links_kept : (workers : ℕ) (allowed : List ℕ → Bool) (meaning : List ℕ → Page) (shares : List Share) (senders : List SenderId) (queues : List (List Entry)) → Accounts workers (map (λ share. share.now) shares) senders queues → All (IsWithoutLoss workers allowed meaning) shares → (r : PageResult) → Contains (flat_map (λ share. share.found) shares) r → AllowedAreIn allowed (entry_urls (entries_in queues)) (links_of r.page)
links_kept workers allowed meaning shares senders queues account whole r has =
    let closed = map (λ (share : Share). share.now) shares in
    let share = from_flat (λ (x : Share). x.found) shares r has in
    let without = All-contains (IsWithoutLoss workers allowed meaning) shares share.0 whole share.1 in
    let index = place_among closed share.0.now (in_map (λ (x : Share). x.now) shares share.0 share.1) in
    let all = links_accepted workers allowed meaning closed senders queues account index.0 share.0.start share.0.now share.0.found index.1 without.1 in
    let own = All-contains (λ (x : PageResult). AllAccepted workers allowed queues (links_of x.page)) share.0.found r all share.2 in
    All-weaker (λ (url : List ℕ). IsTrue (allowed url) → IsAccepted workers queues url) (λ (url : List ℕ). IsTrue (allowed url) → Contains (entry_urls (entries_in queues)) url)
    (λ url accepted may. accepted_listed workers queues url (accepted may)) (links_of r.page) own

pub run_without_loss : (workers : ℕ) (allowed : List ℕ → Bool) (meaning : List ℕ → Page) (seeds : List (List ℕ)) (shares : List Share) (senders : List SenderId) (queues : List (List Entry)) → 0 < workers → Accounts workers (map (λ share. share.now) shares) senders queues → All (IsWithoutLoss workers allowed meaning) shares → (sender : SenderId) → Contains senders sender → AllLogged workers allowed sender.book.log seeds → NothingLost allowed seeds (entries_in queues) (flat_map (λ share. share.found) shares)
run_without_loss workers allowed meaning seeds shares senders queues some account whole sender among logged = record {
  seeds = seeds_kept workers allowed seeds (map (λ (share : Share). share.now) shares) senders queues some account sender among logged;
  fetched = of_each (λ (e : Entry). Contains (result_urls (flat_map (λ (share : Share). share.found) shares)) e.url) (entries_in queues) (entry_fetched workers allowed meaning shares senders queues account whole);
  links = of_each (λ (r : PageResult). AllowedAreIn allowed (entry_urls (entries_in queues)) (links_of r.page)) (flat_map (λ (share : Share). share.found) shares) (links_kept workers allowed meaning shares senders queues account whole);
}
