-- What each sender knows of the lists becomes what the shards have, queue by queue and book by book.
use Rattle.crawl_frontier.proofs.Prelude.{◌≡◌, ◌≢◌, ℕ, zero, suc, ◌+◌, ◌<◌, ◌≤◌, List, [], ◌∷◌, ◌++◌, length, map, set, Option, None, refl, sym, ap, ◌∙◌, subst, ⊎_elim, arith, cases_lt, BTreeMap, Entry, Book, Doubt, QueueId, PassId, Stays, KnownList, BookId, book_of, ShardId, At, AllAre, AreRaised, IsHome, AreTrueOf, LogIsOf, LogsAreOf, LogsHold, AllSettle}
use Rattle.crawl_frontier.proofs.Gets.{get_set_same, get_set_other, get_snoc, get_within, same_at}
use Rattle.crawl_frontier.proofs.Logging.{at_map, raised_on, raised_at}

pub map_set_same : {X Y : Type 0} (f : X → Y) (xs : List X) (i : ℕ) (x y : X) → At xs i x → f y ≡ f x → map f (set xs i y) ≡ map f xs
map_set_same f [] i x y e is = refl
map_set_same f (z ∷ zs) zero x y e is = let same : x ≡ z = cc in (λ i. (is ∙ ap f same) i ∷ map f zs)
map_set_same f (z ∷ zs) (suc i) x y e is = ap (λ l. f z ∷ l) (map_set_same f zs i x y e is)

pub all_snoc : {X : Type 0} (P : X → Type 0) (xs : List X) (x : X) → AllAre P xs → P x → AllAre P (xs ++ x ∷ [])
all_snoc P xs x all new j y at = ⊎_elim (λ before. all j y before) (λ now. subst P now.1 new) (get_snoc xs x y j at)

-- for each queue below n, what is known of its list is true of its shard, if that is in its place
abbrev pub TrueBelow : ℕ → List ShardId → List KnownList → Type 0
TrueBelow n shards learned = (q : ℕ) (s : ShardId) (t : KnownList) → q < n → IsHome shards q s → At learned q t → Stays t.items s.sent

-- one more queue
pub true_of_more : (shards : List ShardId) (start before after : List KnownList) (n j : ℕ) (s : ShardId) (t u : KnownList)
    → AreRaised start before → TrueBelow n shards before → At before n t → u.list ≡ t.list → Stays t.items u.items → after ≡ set before n u
    → At shards j s → j + n + 1 ≡ length shards → (s.queue ≡ n → Stays u.items s.sent)
    → AreRaised start after × TrueBelow (n + 1) shards after
true_of_more shards start before after n j s t u raised below at list stay is there sum learned = (
  raised_on start before after raised (subst (AreRaised before) (sym is) (raised_at before n t u at list stay)),
  λ q r v lt home here. subst (λ (ts : List KnownList). At ts q v → Stays v.items r.sent) (sym is) (next q r v lt home) here,
)
  where
    next : (q : ℕ) (r : ShardId) (v : KnownList) → q < n + 1 → IsHome shards q r → At (set before n u) q v → Stays v.items r.sent
    next q r v lt home here = ⊎_elim
        (λ (less : q < n).
        let apart : q ≢ n = λ e. absurd (omega (arith, e, less)) in
        below q r v less home (sym (get_set_other before n q u apart) ∙ here))
        (λ (not : n ≤ q).
        let same : q ≡ n = omega (arith, not, lt) in
        let new : v ≡ u = same_at (set before n u) n v u (subst (λ (k : ℕ). At (set before n u) k v) same here) (get_set_same before n u t at) in
        let place : home.1.0 ≡ j = omega (arith, home.1.2, sum, same) in
        let shard : r ≡ s = same_at shards j r s (subst (λ (k : ℕ). At shards k r) place home.1.1) there in
        let queue : s.queue ≡ n = ap (λ (x : ShardId). x.queue) (sym shard) ∙ (home.0 ∙ same) in
        subst (λ (y : KnownList × ShardId). Stays y.0.items y.1.sent) (λ i. (sym new i, sym shard i)) (learned queue))
        (cases_lt q n)

-- if n is the number of queues, what is known of each list is true of its shard
pub true_of : (n : ℕ) (shards : List ShardId) (learned : List KnownList) → TrueBelow n shards learned → length learned ≡ n → AreTrueOf shards learned
true_of n shards learned below len q s t home at = let lt = get_within learned q t at in below q s t (omega (arith, lt, len)) home at

-- the logs of the first n books are true of the shards
abbrev pub LogsBelow : ℕ → List ShardId → List BookId → Type 0
LogsBelow n shards books = (j : ℕ) (b : BookId) → j < n → At books j b → LogIsOf shards b.log

-- the books of one more sender
pub book_more : (shards : List ShardId) (books : List BookId) (now : List Book) (n : ℕ) (b : Book)
    → map book_of now ≡ books → At now n b → LogsBelow n shards books → LogIsOf shards (book_of b).log → LogsBelow (n + 1) shards books
book_more shards books now n b are at below new j c lt here = grind (arith, same_at, at_map, cases_lt)

-- if no queue below `least` is in doubt, what the logs state about the shards' lists is true of these lists
pub logs_hold : (workers : ℕ) (queues : List QueueId) (shards : List ShardId) (rights : BTreeMap ℕ PassId) (lists : List (List Entry)) (doubts : List (Option Doubt)) (least : ℕ) (books : List BookId)
    → AllSettle workers queues shards rights lists doubts → ((q : ℕ) → q < least → At doubts q None) → LogsAreOf shards books → LogsHold least lists books
logs_hold workers queues shards rights lists doubts least books all none are j b at k l here lt es there = grind arith
