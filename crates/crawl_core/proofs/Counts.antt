-- How the count of the kept state changes with a subqueue, and that the machine's events on subqueues are the table's moves.
use Rattle.crawl_core.proofs.Prelude.{◌≡◌, ℕ, suc, ◌-◌, ◌≤◌, true, false, List, ◌∷◌, length, drop, slice_get, slice_set, Option, Some, None, is_some, refl, ap, ◌∙◌, arith, option_map, nat_cmp, is_at, length_push, length-remove_key, Event, Take, Done, Reply, one_if, let_go, holds, Kept, KeptQueue, IsCounted, kept_count, outstanding}
use Rattle.crawl_core.proofs.Places.{sum_at}
use Rattle.crawl_core.specs.declared.reply.Reply.TheVariants as says
use Rattle.crawl_core.specs.Moves.{Moves, accepting}

-- the result of a test at an index is its result for the element at that index
pub there : {X Y : Type 0} (f : X → Y) (o : Option X) (y : Y) → option_map f o ≡ Some y → (x : X) × (o ≡ Some x) × (f x ≡ y)
there f o y e = grind arith

some_there : {X : Type 0} (o : Option X) → is_some o ≡ true → (x : X) × (o ≡ Some x)
some_there None e = absurd (cc)
some_there (Some x) e = (x, refl)

-- the kept state after an event, and the count that is stored with it, are right
pub record Fits (old : Kept) (event : Event) (reply : Reply) (new : Kept) (count : ℕ) : Type 0 where
  pub counts : IsCounted new count
  pub moves : Moves old event reply new

abbrev pub with_queues : Kept → List KeptQueue → Kept
with_queues kept queues = record kept { queues = queues }

-- a busy subqueue has a unit out
pub busy_counts : {kept : Kept} {count : ℕ} (place : ℕ) → IsCounted kept count → option_map (λ q. q.busy) (slice_get kept.queues place) ≡ Some true → 1 ≤ count
busy_counts {kept} {count} place counted busy =
    let here = there (λ (q : KeptQueue). q.busy) (slice_get kept.queues place) true busy in
    let sum = sum_at outstanding kept.queues place here.0 (record here.0 { busy = false }) here.1 in
    let one : one_if here.0.busy ≡ 1 = ap one_if here.2 in
    omega (arith, sum, one, counted.counted)

pub done_fits : {kept : Kept} {count : ℕ} (place : ℕ) (new : List KeptQueue) → IsCounted kept count → option_map (λ q. q.busy) (slice_get kept.queues place) ≡ Some true → ((queue : KeptQueue) → slice_get kept.queues place ≡ Some queue → new ≡ slice_set kept.queues place (record queue { busy = false })) → Fits kept (Done place) (says.Count (count - 1)) (with_queues kept new) (count - 1)
done_fits {kept} {count} place new counted busy set =
    let here = there (λ (q : KeptQueue). q.busy) (slice_get kept.queues place) true busy in
    let is_new = set here.0 here.1 in
    let sum = sum_at outstanding kept.queues place here.0 (record here.0 { busy = false }) here.1 in
    let one : one_if here.0.busy ≡ 1 = ap one_if here.2 in
    let left : count - 1 ≡ kept_count (with_queues kept new) = rw is_new (omega (arith, sum, one, counted.counted)) in
    record {
      counts = record { counted = left; within = omega (arith, counted.within); small = counted.small };
      moves = record {
        reply_is = rw (here.1, here.2) (ap says.Count left ∙ ap (λ queues. says.Count (kept_count (with_queues kept queues))) is_new);
        kept_is = rw (here.1, here.2) (ap (with_queues kept) is_new);
      };
    }

-- a URL that is taken is still unfinished: it no longer waits, and its subqueue is busy
pub take_fits : {kept : Kept} {count : ℕ} (place : ℕ) (url : List ℕ) (new : List KeptQueue) → IsCounted kept count → option_map (λ q. q.busy) (slice_get kept.queues place) ≡ Some false → ((queue : KeptQueue) → slice_get kept.queues place ≡ Some queue → queue.waiting ≡ url ∷ drop 1 queue.waiting) → ((queue : KeptQueue) → slice_get kept.queues place ≡ Some queue → new ≡ slice_set kept.queues place (record queue { waiting = drop 1 queue.waiting; busy = true })) → Fits kept (Take place) (says.Taken url) (with_queues kept new) count
take_fits {kept} {count} place url new counted idle oldest set =
    let here = there (λ (q : KeptQueue). q.busy) (slice_get kept.queues place) false idle in
    let first = oldest here.0 here.1 in
    let is_new = set here.0 here.1 in
    let sum = sum_at outstanding kept.queues place here.0 (record here.0 { waiting = drop 1 here.0.waiting; busy = true }) here.1 in
    let none : one_if here.0.busy ≡ 0 = ap one_if here.2 in
    let one_more : length here.0.waiting ≡ suc (length (drop 1 here.0.waiting)) = ap length first in
    let same : count ≡ kept_count (with_queues kept new) = rw is_new (omega (arith, sum, none, one_more, counted.counted)) in
    record {
      counts = record { counted = same; within = counted.within; small = counted.small };
      moves = record {
        reply_is = rw (here.1, here.2) (rw first refl);
        kept_is = rw (here.1, here.2) (rw first (ap (with_queues kept) is_new));
      };
    }

-- a URL that is accepted has the unit of its sender
pub admit_counts : {kept : Kept} {count : ℕ} (place sender : ℕ) (url : List ℕ) (new : List KeptQueue) → IsCounted kept count → is_some (slice_get kept.queues place) ≡ true → holds kept.gate sender ≡ true → ((queue : KeptQueue) → slice_get kept.queues place ≡ Some queue → new ≡ slice_set kept.queues place (accepting queue url sender)) → IsCounted (record { gate = let_go kept.gate sender; queues = new }) count
admit_counts {kept} {count} place sender url new counted present held set =
    let here = some_there (slice_get kept.queues place) present in
    let is_new = set here.0 here.1 in
    let sum = sum_at outstanding kept.queues place here.0 (accepting here.0 url sender) here.1 in
    let longer = length_push here.0.waiting url in
    let fewer = length-remove_key (is_at (nat_cmp sender)) kept.gate.holders held in
    record {
      counted = rw is_new (omega (arith, sum, longer, fewer, counted.counted));
      within = counted.within;
      small = counted.small;
    }
