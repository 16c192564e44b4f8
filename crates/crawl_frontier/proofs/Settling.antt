-- One more queue is settled, and what maps by number contain after a change.
use Rattle.crawl_frontier.proofs.Prelude.{◌≡◌, ◌⊎◌, ℕ, ◌+◌, ◌<◌, ◌≤◌, Bool, true, false, true≢false, cond, eqb, List, [], ◌∷◌, ◌++◌, length, map, Option, Some, None, get_or, slice_get, refl, sym, ap, ◌∙◌, subst, inl, inr, ⊎_elim, arith, cases_lt, nat_tests, slice_get_read, slice_get-map, option_map, is_some, nat_cmp, BTreeMap, get, is_at, BTreeSet, contains, GateId, Entry, Book, Doubt, QueueId, PassId, KeepsRule, popping, home, BookId, book_of, WorkerId, SenderId, ShardId, At, IsPart, HasWorkers, Accounts, Slots, Placed, OwnRight, IsShared, SettlesAt, AllSettle, IdsOf, AgreesBelow, Gathered, AllAre, SendersIn, HasBook}
use Rattle.std.specs.Cmp.{unsigned_ties}
use Rattle.crawl_frontier.proofs.Gets.{get_both, get_within, has_at, same_at}

key_is : (key q : ℕ) → is_at (nat_cmp key) q ≡ true → key ≡ q
key_is key q e = let same : eqb key q ≡ true = unsigned_ties key q ∙ e in grind (arith, nat_tests)

key_self : (key : ℕ) → is_at (nat_cmp key) key ≡ true
key_self key = let same : eqb key key ≡ true = grind (arith, nat_tests) in sym (unsigned_ties key key) ∙ same

-- the model of the book at an index
pub at_book : (books : List Book) (j : ℕ) (x : Book) → j < length books → x ≡ get_or books j x → At (map book_of books) j (book_of x)
at_book books j x lt is = slice_get-map book_of books j ∙ ap (option_map book_of) (slice_get_read books (length books) j x refl lt is)

pub removed : (key : ℕ) (m n : BTreeMap ℕ PassId) → ((q : ℕ) → get nat_cmp n q ≡ cond (is_at (nat_cmp key) q) None (get nat_cmp m q)) → (q : ℕ) → key < q → get nat_cmp n q ≡ get nat_cmp m q
removed key m n h q lt = grind (arith, key_is)

pub slots_more : (gate : GateId) (workers : ℕ) (queues : List QueueId) (closed : List WorkerId) (m n : BTreeMap ℕ PassId) (k : ℕ) (w : WorkerId) (r : PassId)
    → Slots gate workers queues closed m → ((q : ℕ) → get nat_cmp n q ≡ cond (is_at (nat_cmp w.queue) q) (Some r) (get nat_cmp m q)) → At closed k w
    → r.view ≡ popping (home gate workers w.queue) w.taken w.empty_pops → slice_get queues w.queue ≡ Some r.subqueue → Slots gate workers queues closed n
slots_more gate workers queues closed m n k w r old h at view subqueue q p e = grind (arith, key_is)

some_not_none : (o : Option PassId) (p : PassId) → o ≡ Some p → o ≡ None → ⊥
some_not_none o p a b = let both : Some p ≡ None = sym a ∙ b in absurd (cc (both))

-- no worker was taken apart
pub placed-none : (gate : GateId) (workers : ℕ) (closed : List WorkerId) (rights : BTreeMap ℕ PassId) (unshared : ℕ)
    → ((q : ℕ) → get nat_cmp rights q ≡ None) → Placed gate workers closed (length closed) rights unshared
placed-none gate workers closed rights unshared none = grind (arith, get_within)

-- one more closed worker, the n-th, was taken apart
pub placed_more : (gate : GateId) (workers : ℕ) (closed : List WorkerId) (m m' : BTreeMap ℕ PassId) (n : ℕ) (w : WorkerId) (r : PassId) (unshared unshared' : ℕ)
    → Placed gate workers closed (n + 1) m unshared → At closed n w → w.queue < workers
    → ((q : ℕ) → get nat_cmp m' q ≡ cond (is_at (nat_cmp w.queue) q) (Some r) (get nat_cmp m q))
    → r.view ≡ popping (home gate workers w.queue) w.taken w.empty_pops
    → unshared' ≤ unshared → (w.queue < unshared' → get nat_cmp m w.queue ≡ None) → Placed gate workers closed n m' unshared'
placed_more gate workers closed m m' n w r unshared unshared' old at below h view le none = record {
  within = λ k v here from. ⊎_elim (λ e. subst (λ (z : WorkerId). z.queue < workers) (is_w k v here e) below) (λ later. old.within k v here later) (first k from);
  there = λ k v here from. ⊎_elim (λ e. subst (λ (z : WorkerId). is_some (get nat_cmp m' z.queue) ≡ true) (is_w k v here e) (ap is_some mine)) (λ later. kept v.queue (old.there k v here later)) (first k from);
  own = λ k v here from small. ⊎_elim (λ e. subst (OwnRight gate workers m') (is_w k v here e) (r, mine, view)) (λ later. own k v here later small) (first k from);
  once = λ j k u v at_j at_k from_j from_k same small. ⊎_elim (λ e. ⊎_elim (λ e'. e ∙ sym e') (λ later. absurd (clash k v at_k later (sym same ∙ sym (ap (λ z. z.queue) (is_w j u at_j e))) small)) (first k from_k))
      (λ later_j. ⊎_elim (λ e'. absurd (clash j u at_j later_j (same ∙ sym (ap (λ z. z.queue) (is_w k v at_k e'))) (omega (arith, same, small)))) (λ later_k. old.once j k u v at_j at_k later_j later_k same (omega (arith, small, le))) (first k from_k))
      (first j from_j);
  whose = λ q has. whose q has;
}
  where
    whose : (q : ℕ) → is_some (get nat_cmp m' q) ≡ true → (k : ℕ) × (v : WorkerId) × At closed k v × (n ≤ k) × (v.queue ≡ q)
    whose q has = by_case (is_at (nat_cmp w.queue) q) refl (sym (ap is_some (h q)) ∙ has)
      where
        by_case : (t : Bool) → is_at (nat_cmp w.queue) q ≡ t → is_some (cond t (Some r) (get nat_cmp m q)) ≡ true → (k : ℕ) × (v : WorkerId) × At closed k v × (n ≤ k) × (v.queue ≡ q)
        by_case true is here = (n, w, at, omega arith, key_is w.queue q is)
        by_case false is here = let t = old.whose q here in (t.0, t.1, t.2, omega (arith, t.3), t.4)

    mine : get nat_cmp m' w.queue ≡ Some r
    mine = h w.queue ∙ ap (λ t. cond t (Some r) (get nat_cmp m w.queue)) (key_self w.queue)

    is_w : (k : ℕ) (v : WorkerId) → At closed k v → k ≡ n → w ≡ v
    is_w k v here e = same_at closed k w v (subst (λ i. At closed i w) (sym e) at) here

    first : (k : ℕ) → n ≤ k → (k ≡ n) ⊎ (n + 1 ≤ k)
    first k from = ⊎_elim (λ lt. inr (omega (arith, lt))) (λ no. inl (omega (arith, from, no))) (cases_lt n k)

    kept : (q : ℕ) → is_some (get nat_cmp m q) ≡ true → is_some (get nat_cmp m' q) ≡ true
    kept q had = ap is_some (h q) ∙ by_case (is_at (nat_cmp w.queue) q)
      where
        by_case : (t : Bool) → is_some (cond t (Some r) (get nat_cmp m q)) ≡ true
        by_case true = refl
        by_case false = had

    clash : (k : ℕ) (v : WorkerId) → At closed k v → n + 1 ≤ k → v.queue ≡ w.queue → v.queue < unshared' → ⊥
    clash k v here later same small =
        let p = old.own k v here later (omega (arith, small, le)) in
        some_not_none (get nat_cmp m v.queue) p.0 p.1 (ap (get nat_cmp m) same ∙ none (omega (arith, same, small)))

    own : (k : ℕ) (v : WorkerId) → At closed k v → n + 1 ≤ k → v.queue < unshared' → OwnRight gate workers m' v
    own k v here later small = by_case (is_at (nat_cmp w.queue) v.queue) refl
      where
        by_case : (t : Bool) → is_at (nat_cmp w.queue) v.queue ≡ t → OwnRight gate workers m' v
        by_case true is = absurd (clash k v here later (sym (key_is w.queue v.queue is)) small)
        by_case false is =
            let p = old.own k v here later (omega (arith, small, le)) in
            (p.0, h v.queue ∙ ((λ i. cond (is i) (Some r) (get nat_cmp m v.queue)) ∙ p.1), p.2)

-- if the bound falls to a queue, two workers have it
pub shared_more : (gate : GateId) (workers : ℕ) (closed : List WorkerId) (m : BTreeMap ℕ PassId) (n : ℕ) (w : WorkerId) (limit unshared unshared' : ℕ)
    → Placed gate workers closed (n + 1) m unshared → At closed n w → unshared' ≤ unshared → (unshared' < unshared → (unshared' ≡ w.queue) × (is_some (get nat_cmp m w.queue) ≡ true))
    → (unshared < limit → IsShared closed unshared) → unshared' < limit → IsShared closed unshared'
shared_more gate workers closed m n w limit unshared unshared' old at le named before lt = ⊎_elim meets
    (λ not. let same : unshared ≡ unshared' = omega (arith, le, not) in subst (IsShared closed) same (before (omega (arith, lt, same))))
    (cases_lt unshared' unshared)
  where
    meets : unshared' < unshared → IsShared closed unshared'
    meets less =
        let here = named less in
        let t = old.whose w.queue here.1 in
        (n, t.0, w, t.1, at, t.2, sym here.0, t.4 ∙ sym here.0, λ same. absurd (omega (arith, t.3, same)))

-- one more queue was settled
pub settle_more : (workers : ℕ) (queues : List QueueId) (shards : List ShardId) (rights : BTreeMap ℕ PassId) (lists : List (List Entry)) (doubts : List (Option Doubt))
    (list : List Entry) (doubt : Option Doubt) → AllSettle workers queues shards rights lists doubts → length lists ≡ length doubts
    → SettlesAt workers queues shards rights (length lists) list doubt → AllSettle workers queues shards rights (lists ++ list ∷ []) (doubts ++ doubt ∷ [])
settle_more workers queues shards rights lists doubts list doubt old len last q es d at there = grind (arith, get_both)

-- below `least` each list is what the right to pop took, and keeps its rule
abbrev pub Settled : ℕ → BTreeMap ℕ PassId → ℕ → List (List Entry) → Type 0
Settled workers rights least lists =
    (q : ℕ) (es : List Entry) → q < least → At lists q es
    → ((p : PassId) × (get nat_cmp rights q ≡ Some p) × (es ≡ p.view.taken)) × KeepsRule workers q [] es

-- if no queue below `least` is in doubt, all of them are settled
pub settled : (workers : ℕ) (queues : List QueueId) (shards : List ShardId) (rights : BTreeMap ℕ PassId) (lists : List (List Entry)) (doubts : List (Option Doubt)) (least : ℕ)
    → AllSettle workers queues shards rights lists doubts → ((q : ℕ) → q < least → At doubts q None) → Settled workers rights least lists
settled workers queues shards rights lists doubts least all none q es lt at = grind arith

-- the ids of the first books
abbrev pub IdsBelow : List BookId → ℕ → BTreeSet ℕ → Type 0
IdsBelow books n ids =
    ((s : ℕ) → contains nat_cmp ids s ≡ true → (j : ℕ) × (b : BookId) × At books j b × (b.id ≡ s))
    × ((k : ℕ) (b : BookId) → k < n → At books k b → contains nat_cmp ids b.id ≡ true)

pub ids_more : (books : List BookId) (ids ids' : BTreeSet ℕ) (n : ℕ) (b : BookId) → IdsBelow books n ids → At books n b
    → ((q : ℕ) → contains nat_cmp ids' q ≡ cond (is_at (nat_cmp b.id) q) true (contains nat_cmp ids q)) → IdsBelow books (n + 1) ids'
ids_more books ids ids' n b old at h = grind (arith, key_is, key_self, same_at, cases_lt)

known_some : (o : Option PassId) → is_some o ≡ true → (p : PassId) × (o ≡ Some p)
known_some o e = grind arith

-- if nothing remains to be taken apart, the books of each worker and sender were gathered
pub has_book : (workers : ℕ) (closed : List WorkerId) (senders : List SenderId) (books : List BookId) → Gathered workers closed senders [] [] books → (b : BookId) → IsPart closed senders b → HasBook books b
has_book workers closed senders books g b part = ⊎_elim
    (λ (t : (k : ℕ) × (w : WorkerId) × At closed k w × (w.book ≡ b)). subst (HasBook books) t.3 (⊎_elim (λ (lt : t.0 < 0). absurd (omega arith)) (λ h. h) (g.closed_in t.0 t.1 t.2)))
    (λ (t : (k : ℕ) × (s : SenderId) × At senders k s × (s.book ≡ b)). subst (HasBook books) t.3 (⊎_elim (λ (lt : t.0 < 0). absurd (omega arith)) (λ h. h) (g.senders_in t.0 t.1 t.2)))
    part

-- if each queue has a right to pop, each has a worker; a queue without a right to pop has no worker
pub all_work : (gate : GateId) (workers : ℕ) (queues : List QueueId) (closed : List WorkerId) (rights : BTreeMap ℕ PassId)
    → Slots gate workers queues closed rights → ((q : ℕ) → q < workers → is_some (get nat_cmp rights q) ≡ true) → HasWorkers workers closed
all_work gate workers queues closed rights slots there q lt =
    let s = known_some (get nat_cmp rights q) (there q lt) in
    let t = slots q s.0 s.1 in
    (t.0, t.1, t.2, t.3)

pub one_is_missing : (gate : GateId) (workers : ℕ) (closed : List WorkerId) (rights : BTreeMap ℕ PassId) (unshared q : ℕ)
    → Placed gate workers closed 0 rights unshared → q < workers → is_some (get nat_cmp rights q) ≡ false → ¬ HasWorkers workers closed
one_is_missing gate workers closed rights unshared q placed lt none has =
    let t = has q lt in
    true≢false (sym (placed.there t.0 t.1 t.2 (omega arith)) ∙ (ap (λ k. is_some (get nat_cmp rights k)) t.3 ∙ none))

-- if nothing is left to take apart and all queues were compared, the lists are an account
pub accounts : (gate : GateId) (workers : ℕ) (queues : List QueueId) (closed : List WorkerId) (senders : List SenderId) (rights : BTreeMap ℕ PassId) (books : List BookId) (lists : List (List Entry)) (unshared least now : ℕ) (ids : BTreeSet ℕ)
    → length lists ≡ workers → Slots gate workers queues closed rights → Placed gate workers closed 0 rights unshared → Gathered workers closed senders [] [] books
    → ((q : ℕ) → q < workers → is_some (get nat_cmp rights q) ≡ true) → Settled workers rights least lists
    → IdsOf books ids → AllAre (SendersIn ids) lists → AllAre (AgreesBelow now lists) books → workers ≤ now → now ≤ least → least ≤ unshared → Accounts workers closed senders lists
accounts gate workers queues closed senders rights books lists unshared least now ids len slots placed g there settled of_ids in_ids agree all le le' = record {
  len = len;
  worked = all_work gate workers queues closed rights slots there;
  once = λ j k v w at_j at_k same. placed.once j k v w at_j at_k (omega arith) (omega arith) same (let lt = queue k w at_k in omega (arith, lt));
  taken = λ k w at.
      let lt = queue k w at in
      let o = placed.own k w at (omega arith) (omega (arith, lt)) in
      let x = has_at lists w.queue (omega (arith, lt)) in
      let s = (settled w.queue x.0 (omega (arith, lt)) x.1).0 in
      let both : Some s.0 ≡ Some o.0 = sym s.1 ∙ o.1 in
      let same : s.0 ≡ o.0 = cc in
      subst (At lists w.queue) (s.2 ∙ (ap (λ z. z.view.taken) same ∙ ap (λ z. z.taken) o.2)) x.1;
  agrees = λ q es at b part. let h = has_book workers closed senders books g b part in agree h.0 b h.1 q es (let lt = get_within lists q es at in omega arith) at;
  parts = λ q es at k e here. let t = of_ids.of_books e.sender (in_ids q es at k e here) in (t.1, g.parts t.0 t.1 t.2, t.3);
}
  where
    queue : (k : ℕ) (w : WorkerId) → At closed k w → w.queue < workers
    queue k w at = placed.within k w at (omega arith)
