-- What a run without losses leaves.
use Rattle.crawl_workers.proofs.Prelude.{◌≡◌, inl, ℕ, zero, suc, ◌<◌, ◌≤◌, Bool, true, List, [], ◌∷◌, length, map, None, Some, refl, sym, ap, subst, arith, slice_get, slice_index_or, IsTrue, All, All-weaker, Page, PageResult, links_of, Entry, has_url, entries_of, BookId, sent_to, WorkerId, SenderId, has_at, get_within, line_of, HasLine, AllLogged, Fate, results_of, taken_in, Ran}
use Rattle.std.proofs.Math.Nat.{mod-lt}
use Rattle.std.proofs.lemmas.Bool.{or_left, or_right}
use Rattle.std.proofs.lemmas.Slice.Eq.{bytes_eq-Decides}
use Rattle.crawl_keys.specs.Assignment.{subqueue_of, hash}
use Rattle.crawl_keys.specs.HostKey.{host_key}
use Rattle.crawl_queues.specs.declared.book.Logged.{Logged}
use Rattle.crawl_queues.specs.declared.book.Logged.TheVariants.{Accepted, Seen}
use Rattle.crawl_frontier.specs.Accounts.{At, IsPart, Agrees, Accounts}
use Rattle.crawl_workers.specs.Lossless.{result_urls, entry_urls, IsAccepted, AllAccepted}

few : (fates : List Fate) → length (results_of fates) ≤ length fates
few [] = omega arith
few ((e, None) ∷ fs) = let rest = few fs in omega (arith, rest)
few ((e, Some page) ∷ fs) = let rest = few fs in omega (arith, rest)

all_found : (fates : List Fate) → length fates ≤ length (results_of fates) → result_urls (results_of fates) ≡ entry_urls (taken_in fates)
all_found [] le = refl
all_found ((e, None) ∷ fs) le = let rest = few fs in absurd (omega (arith, rest, le))
all_found ((e, Some page) ∷ fs) le = ap (λ (us : List (List ℕ)). e.url ∷ us) (all_found fs (omega (arith, le)))

-- if nothing is lost the results have the URLs that were taken, in order
pub all_taken_found : (workers : ℕ) (allowed : List ℕ → Bool) (meaning : List ℕ → Page) (start now : WorkerId) (results : List PageResult) → Ran workers allowed meaning start now results 0 → start.taken ≡ []
    → result_urls results ≡ entry_urls now.taken
all_taken_found workers allowed meaning start now results ran fresh = grind (arith, all_found)

-- ## From a line of a log to the account

-- a line of a log, by its URL and subqueue
record Line (log : List Logged) (p : List ℕ × ℕ) : Type 0 where
  pub index : ℕ
  pub line : Logged
  pub at : slice_get log index ≡ Some line
  pub is : line_of line ≡ p

find_line : (log : List Logged) (p : List ℕ × ℕ) (k : ℕ) → k < length (map line_of log) → slice_index_or (map line_of log) k p ≡ p → Line log p
find_line [] p k less is = absurd (omega (arith, less))
find_line (l ∷ ls) p zero less is = record { index = 0; line = l; at = refl; is = is }
find_line (l ∷ ls) p (suc k) less is =
    let rest = find_line ls p k (omega (arith, less)) is in
    record { index = suc rest.index; line = rest.line; at = rest.at; is = rest.is }

-- an accepted line of the log is in the list of what was sent to its subqueue
sent_has : (q : ℕ) (log : List Logged) (k : ℕ) (e : Entry) → At log k (Accepted e q) → has_url e.url (sent_to q log) ≡ true
sent_has q [] k e at = absurd (cc (at))
sent_has q (Seen u p ∷ ls) zero e at = absurd (cc (at))
sent_has q (Seen u p ∷ ls) (suc k) e at = sent_has q ls k e at
sent_has q (Accepted x p ∷ ls) zero e at = grind (arith, or_left, bytes_eq-Decides)
sent_has q (Accepted x p ∷ ls) (suc k) e at = grind (arith, or_right, sent_has q ls k e at)

-- the entries of one sender are among all entries
entries_has : (id : ℕ) (url : List ℕ) (es : List Entry) → has_url url (entries_of id es) ≡ true → has_url url es ≡ true
entries_has id url [] is = is
entries_has id url (e ∷ es) is = grind (arith, or_right, entries_has id url es)

line_holds : (q : ℕ) (es : List Entry) (b : BookId) (url : List ℕ) (k : ℕ) (l : Logged) → Agrees q es b → At b.log k l → line_of l ≡ (url, q) → has_url url es ≡ true
line_holds q es b url k (Seen u p) agrees at is =
    agrees.seen k url (subst (λ (x : List ℕ × ℕ). At b.log k (Seen x.0 x.1)) is at)
line_holds q es b url k (Accepted e p) agrees at is =
    let same : e.url ≡ url = ap (λ (x : List ℕ × ℕ). x.0) is in
    let queue : p ≡ q = ap (λ (x : List ℕ × ℕ). x.1) is in
    let here : At b.log k (Accepted e q) = subst (λ (n : ℕ). At b.log k (Accepted e n)) queue at in
    let sent : has_url e.url (entries_of b.id es) ≡ true = subst (λ (xs : List Entry). has_url e.url xs ≡ true) agrees.sent (sent_has q b.log k e here) in
    subst (λ (u : List ℕ). has_url u es ≡ true) same (entries_has b.id e.url es sent)

-- a URL with a line in the log of a worker or sender was accepted
pub logged_accepted : (workers : ℕ) (closed : List WorkerId) (senders : List SenderId) (queues : List (List Entry)) → 0 < workers → Accounts workers closed senders queues
    → (b : BookId) → IsPart closed senders b → (url : List ℕ) → HasLine workers b.log url → IsAccepted workers queues url
logged_accepted workers closed senders queues some account b part url has =
    let less : subqueue_of url workers < length queues = subst (λ (n : ℕ). subqueue_of url workers < n) (sym account.len) (mod-lt (hash (host_key url)) some) in
    let found = has_at queues (subqueue_of url workers) less in
    let line = find_line b.log (url, subqueue_of url workers) has.0 has.1 has.2 in
    record {
      list = found.0;
      at = found.1;
      has = line_holds (subqueue_of url workers) found.0 b url line.index line.line (account.agrees (subqueue_of url workers) found.0 found.1 b part) line.at line.is;
    }

pub links_accepted : (workers : ℕ) (allowed : List ℕ → Bool) (meaning : List ℕ → Page) (closed : List WorkerId) (senders : List SenderId) (queues : List (List Entry)) → Accounts workers closed senders queues
    → (k : ℕ) (start now : WorkerId) (results : List PageResult) → At closed k now → Ran workers allowed meaning start now results 0
    → All (λ (r : PageResult). AllAccepted workers allowed queues (links_of r.page)) results
links_accepted workers allowed meaning closed senders queues account k start now results at ran =
    let own = account.taken k now at in
    let less = get_within queues now.queue now.taken own in
    let some : 0 < workers = let len = account.len in omega (arith, less, len) in
    All-weaker (λ (r : PageResult). AllLogged workers allowed now.book.log (links_of r.page)) (λ (r : PageResult). AllAccepted workers allowed queues (links_of r.page))
    (λ r. All-weaker (λ (url : List ℕ). IsTrue (allowed url) → HasLine workers now.book.log url) (λ (url : List ℕ). IsTrue (allowed url) → IsAccepted workers queues url)
    (λ url line may. logged_accepted workers closed senders queues some account now.book (inl (k, now, at, refl)) url (line may)) (links_of r.page))
    results (ran.links refl)

-- the results of a worker that lost nothing have the URLs that its subqueue accepted
pub results_are_accepted : (workers : ℕ) (allowed : List ℕ → Bool) (meaning : List ℕ → Page) (closed : List WorkerId) (senders : List SenderId) (queues : List (List Entry)) → Accounts workers closed senders queues
    → (k : ℕ) (start now : WorkerId) (results : List PageResult) → At closed k now → Ran workers allowed meaning start now results 0 → start.taken ≡ []
    → (es : List Entry) × At queues now.queue es × (result_urls results ≡ entry_urls es)
results_are_accepted workers allowed meaning closed senders queues account k start now results at ran fresh =
    (now.taken, account.taken k now at, all_taken_found workers allowed meaning start now results ran fresh)
