-- What follows from the result of an offer to a shard, while its lock is held and after it is released.
use Rattle.crawl_frontier.proofs.Prelude.{◌≡◌, ◌⊎◌, ℕ, List, [], ◌∷◌, ◌++◌, length, Some, slice_get, refl, sym, ap, ◌∙◌, subst, arith, slice_set, SeatId, Entry, LogLine, QueueId, count_of, entry, KnownList, begins_with, items_of, lists_of, log_of, ListsAre, AreKnown, ShardId, Stays, Replies, IsKnown, AreRaised}
use Rattle.crawl_frontier.specs.declared.shard.Admit.{Admit}
use Rattle.crawl_frontier.specs.declared.shard.Admit.TheVariants.{Admitted, Crossed, Seen, TooFar, NoMemory}
use Rattle.crawl_frontier.specs.Admits.{Admits}
use Rattle.crawl_frontier.proofs.Gets.{get_last, get_set_same}
use Rattle.crawl_frontier.proofs.Logging.{at_map, has_url_at, raised_at, raised_log, raised_known}

-- the index that the shard returned is right for this list
abbrev pub IsTrueOf : List Entry → List ℕ → ℕ → ℕ → Admit → Type 0
IsTrueOf es url id hops (Admitted n i) = slice_get es i ≡ Some (entry url id n hops)
IsTrueOf es url id hops (Crossed found u) = Unit {0}
IsTrueOf es url id hops (Seen there i u) = (e : Entry) × (slice_get es i ≡ Some e) × (e.url ≡ url)
IsTrueOf es url id hops (TooFar u) = Unit {0}
IsTrueOf es url id hops (NoMemory u) = Unit {0}

-- more is known of queue q's list, and the index is right for it
abbrev pub Raises : List KnownList → List KnownList → ℕ → List ℕ → ℕ → ℕ → Admit → Type 0
Raises before after q url id hops outcome =
    (t u : KnownList) × (slice_get before q ≡ Some t) × (u.list ≡ t.list) × Stays t.items u.items × (after ≡ slice_set before q u) × IsTrueOf u.items url id hops outcome

-- the result, if the entry at an index has the URL
pub answered : (s t : ShardId) (url : List ℕ) (id own hops : ℕ) (unit : SeatId) (there : Entry) (k : ℕ) (a : Admit)
    → count_of id s.sent ≡ own → t ≡ s → slice_get s.sent k ≡ Some there → there.url ≡ url → (a ≡ Seen there.url k unit) ⊎ (a ≡ NoMemory unit) → Admits s t url id own hops unit a
answered s t url id own hops unit there k a count same at is = grind (arith, has_url_at)

module _ (s t : ShardId) (url : List ℕ) (id own hops : ℕ) (unit : SeatId) where
  pub same_queue : (a : Admit) → Admits s t url id own hops unit a → t.queue ≡ s.queue
  same_queue (Admitted n i) is = ap (λ (x : ShardId). x.queue) is.5
  same_queue (Crossed found u) is = ap (λ (x : ShardId). x.queue) is.2
  same_queue (Seen there i u) is = ap (λ (x : ShardId). x.queue) is.3
  same_queue (TooFar u) is = ap (λ (x : ShardId). x.queue) is.3
  same_queue (NoMemory u) is = ap (λ (x : ShardId). x.queue) is.0

  pub replied : (a : Admit) → Admits s t url id own hops unit a → Replies url own hops unit a
  replied (Admitted n i) is = (is.0, is.1, is.4)
  replied (Crossed found u) is = (is.1, is.3)
  replied (Seen there i u) is = (is.2, is.4)
  replied (TooFar u) is = (is.2, is.4)
  replied (NoMemory u) is = is.1

  -- the index is right for the list that the shard has afterwards
  pub true_of : (a : Admit) → Admits s t url id own hops unit a → IsTrueOf t.sent url id hops a
  true_of (Admitted n i) is =
      let e : Entry = entry url id own hops in
      let last : slice_get (s.sent ++ e ∷ []) (length s.sent) ≡ Some (entry url id n hops) = get_last s.sent e ∙ ap (λ (m : ℕ). Some (entry url id m hops)) (sym is.0) in
      subst (λ (y : List Entry × ℕ). slice_get y.0 y.1 ≡ Some (entry url id n hops)) (λ j. (sym (ap (λ (x : ShardId). x.sent) is.5) j, sym is.6 j)) last
  true_of (Crossed found u) is = tt
  true_of (Seen there i u) is = (is.5.0, subst (λ (es : List Entry). slice_get es i ≡ Some is.5.0) (sym (ap (λ (x : ShardId). x.sent) is.3)) is.5.1, is.5.2)
  true_of (TooFar u) is = tt
  true_of (NoMemory u) is = tt

  -- what is known of the queue's list becomes the list that the shard has afterwards
  pub raises : (queues : List QueueId) (learned : List KnownList) (q : ℕ) (queue : QueueId) (k u : KnownList) (a : Admit)
      → ListsAre queues learned → slice_get queues q ≡ Some queue → slice_get learned q ≡ Some k → u ≡ begins_with queue.list t.sent → Stays k.items u.items → Admits s t url id own hops unit a
      → Raises learned (slice_set learned q u) q url id hops a
  raises queues learned q queue k u a are there at is stays admits = (
    k,
    u,
    at,
    ap (λ (x : KnownList). x.list) is ∙ sym (are q queue k there at),
    stays,
    refl,
    subst (λ (es : List Entry). IsTrueOf es url id hops a) (sym (ap (λ (x : KnownList). x.items) is)) (true_of a admits),
  )

known_of : (lists : List (List Entry)) (es : List Entry) (q : ℕ) (url : List ℕ) (id hops : ℕ) (a : Admit) → slice_get lists q ≡ Some es → IsTrueOf es url id hops a → IsKnown lists q url id hops a
known_of lists es q url id hops a at is = grind arith

-- what is true of books and logs is still true after more of queue q's list became known
module _ (before after : List KnownList) (q : ℕ) (url : List ℕ) (id hops : ℕ) (a : Admit) (r : Raises before after q url id hops a) where
  are_raised : AreRaised before after
  are_raised = subst (AreRaised before) (sym r.5) (raised_at before q r.0 r.1 r.2 r.3 r.4)

  pub told_log : (ls : List LogLine) (queues : List QueueId) (workers : ℕ) → AreKnown queues workers before ls → log_of (lists_of after) ls ≡ log_of (lists_of before) ls
  told_log ls queues workers known = raised_log before after ls are_raised known.there

  pub told_known : (ls : List LogLine) (queues : List QueueId) (workers : ℕ) → AreKnown queues workers before ls → AreKnown queues workers after ls
  told_known ls queues workers known = raised_known queues workers before after ls are_raised known

  pub told_index : IsKnown (lists_of after) q url id hops a
  told_index =
      let here : slice_get after q ≡ Some r.1 = subst (λ (ts : List KnownList). slice_get ts q ≡ Some r.1) (sym r.5) (get_set_same before q r.1 r.0 r.2) in
      known_of (lists_of after) r.1.items q url id hops a (at_map items_of after q r.1 here) r.6
