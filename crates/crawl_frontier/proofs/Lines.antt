-- One more subqueue.
use Rattle.crawl_frontier.proofs.Prelude.{◌≡◌, ℕ, zero, suc, ◌+◌, List, [], ◌∷◌, ◌++◌, length, Some, refl, subst, arith, length-append, slice_get, QueueId, GateId, PassId, KnownList, ListsAre, pushing, popping, home, WorkerId, fresh_book, Line, AllPush, AllPop, AllFresh}
use Rattle.crawl_gate.specs.View.{fresh_view}
use Rattle.crawl_frontier.proofs.Gets.{get_both}

pub line-snoc : (gate : GateId) (workers : ℕ) (qs : List QueueId) (ss ts : List PassId) (n : ℕ) (q : QueueId) (s t : PassId) → Line gate workers qs ss ts n
    → (s.subqueue ≡ q) × (s.view ≡ pushing (home gate workers n) []) → (t.subqueue ≡ q) × (t.view ≡ popping (home gate workers n) [] 0)
    → Line gate workers (qs ++ q ∷ []) (ss ++ s ∷ []) (ts ++ t ∷ []) (n + 1)
line-snoc gate workers qs ss ts n q s t l hs ht = grind (arith, length-append, get_both)

pub lists_are-snoc : (qs : List QueueId) (ts : List KnownList) (q : QueueId) (t : KnownList) → length qs ≡ length ts → ListsAre qs ts → t.list ≡ q.list → ListsAre (qs ++ q ∷ []) (ts ++ t ∷ [])
lists_are-snoc qs ts q t len old new k q' t' at there = grind (arith, get_both)

has_same : {A B : Type 0} (xs : List A) (ys : List B) (k : ℕ) (b : B) → length xs ≡ length ys → slice_get ys k ≡ Some b → (a : A) × (slice_get xs k ≡ Some a)
has_same [] [] k b same e = absurd (cc (e))
has_same [] (y ∷ ys) k b same e = absurd (omega arith)
has_same (x ∷ xs) [] k b same e = absurd (omega arith)
has_same (x ∷ xs) (y ∷ ys) zero b same e = (x, refl)
has_same (x ∷ xs) (y ∷ ys) (suc k) b same e = has_same xs ys k b (omega arith) e

abbrev Sends : GateId → ℕ → List QueueId → ℕ → PassId → Type 0
Sends gate workers qs n p = (p.view ≡ pushing (home gate workers n) []) × (slice_get qs n ≡ Some p.subqueue)

abbrev Takes : GateId → ℕ → List QueueId → ℕ → PassId → Type 0
Takes gate workers qs n p = (p.view ≡ popping (home gate workers n) [] 0) × (slice_get qs n ≡ Some p.subqueue)

all_send : (gate : GateId) (workers : ℕ) (qs : List QueueId) (n : ℕ) (ss : List PassId) → ((k : ℕ) (p : PassId) → slice_get ss k ≡ Some p → Sends gate workers qs (n + k) p) → AllPush gate workers qs n ss
all_send gate workers qs n [] h = tt
all_send gate workers qs n (p ∷ ps) h =
    let first = subst (λ j. Sends gate workers qs j p) (omega arith) (h 0 p refl) in
    (first.0, first.1, all_send gate workers qs (n + 1) ps (λ k q e. subst (λ j. Sends gate workers qs j q) (omega arith) (h (suc k) q e)))

all_take : (gate : GateId) (workers : ℕ) (qs : List QueueId) (n : ℕ) (ss : List PassId) → ((k : ℕ) (p : PassId) → slice_get ss k ≡ Some p → Takes gate workers qs (n + k) p) → AllPop gate workers qs n ss
all_take gate workers qs n [] h = tt
all_take gate workers qs n (p ∷ ps) h =
    let first = subst (λ j. Takes gate workers qs j p) (omega arith) (h 0 p refl) in
    (first.0, first.1, all_take gate workers qs (n + 1) ps (λ k q e. subst (λ j. Takes gate workers qs j q) (omega arith) (h (suc k) q e)))

pub line-push : (gate : GateId) (workers : ℕ) (qs : List QueueId) (ss ts : List PassId) (n : ℕ) → Line gate workers qs ss ts n → AllPush gate workers qs 0 ss
line-push gate workers qs ss ts n l = grind (arith, all_send, has_same)

pub line-pop : (gate : GateId) (workers : ℕ) (qs : List QueueId) (ss ts : List PassId) (n : ℕ) → Line gate workers qs ss ts n → AllPop gate workers qs 0 ts
line-pop gate workers qs ss ts n l = grind (arith, all_take, has_same)

pub fresh-snoc : (gate : GateId) (workers n : ℕ) (ws : List WorkerId) (w : WorkerId) → AllFresh gate workers n ws → w.queue ≡ n + length ws → w.book ≡ fresh_book (n + length ws) workers → w.taken ≡ [] → w.empty_pops ≡ 0 → w.seat.view ≡ fresh_view gate.max_pending → AllFresh gate workers n (ws ++ w ∷ [])
fresh-snoc gate workers n [] w all at book none zero_empties new = (omega (arith, at), subst (λ k. w.book ≡ fresh_book k workers) (omega arith) book, none, zero_empties, new, tt)
fresh-snoc gate workers n (v ∷ ws) w all at book none zero_empties new = grind (arith, fresh-snoc gate workers (n + 1) ws w all.5)
