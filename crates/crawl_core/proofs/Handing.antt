-- Handing the unit of the URL that a subqueue is busy with to a sender.
use Rattle.crawl_core.proofs.Prelude.{◌≡◌, ℕ, suc, ◌+◌, ◌≤◌, Bool, true, false, not, ◌&&◌, cond, unwrap_or, List, [], ◌∷◌, nat_eq, slice_get, slice_set, Option, Some, None, refl, sym, ap, subst, ◌∙◌, arith, true≢false, ne_eqb, nat_tests, option_map, nat_cmp, is_at, insert_entry, insert_key, AllZip, list_any, remove_key, lookup, remove_entry, nat_cmp_total, length-map, length-drop, Word, one_if, GateSide, enter, grant, holds, look, remembers, shown_word, units_out, Hands, can_hand_over, handed_over, has_room, is_fetching, kept_progress, lets_in, progress, progress_of, Kept, KeptQueue, IsCounted, kept_count, outstanding, Shows, ShowsQueue, State, count_of, unfinished_in, with_subqueue, Subqueue, after_finishing, unfinished}
use Rattle.crawl_core.proofs.Places.{sum_at}
use Rattle.crawl_core.proofs.RunParts.{eqb_same}
use Rattle.crawl_core.proofs.Sets.{lookup-insert_entry}
use Rattle.crawl_core.proofs.Simulation.{AllZip-slice_get, AllZip-slice_set, Both, finished_shows, sums}
use Rattle.crawl_core.proofs.Sound.{length-insert_key}

-- ---- the kept state determines how many units are held, and how far each subqueue is

pub kept_count_of : (kept : Kept) (state : State) → Shows kept state → kept_count kept ≡ count_of state
kept_count_of kept state shows = grind (arith, sums)

both_progress : (kept : Option KeptQueue) (queue : Option Subqueue) → Both ShowsQueue kept queue → option_map kept_progress kept ≡ option_map progress queue
both_progress kept queue both = grind (arith, length-map, length-drop)

pub kept_progress_of : (kept : Kept) (state : State) (queue : ℕ) → Shows kept state → option_map kept_progress (slice_get kept.queues queue) ≡ progress_of state queue
kept_progress_of kept state queue shows =
    both_progress (slice_get kept.queues queue) (slice_get state.subqueues queue) (AllZip-slice_get ShowsQueue kept.queues state.subqueues queue shows.queues)

-- ---- if the unit cannot be handed over

abbrev kept_busy : KeptQueue → Bool
kept_busy queue = queue.busy

both_busy : (kept : Option KeptQueue) (queue : Option Subqueue) → Both ShowsQueue kept queue → unwrap_or (option_map kept_busy kept) false ≡ is_fetching queue
both_busy kept queue both = grind arith

fetching_shows : (kept : Kept) (state : State) (queue : ℕ) → Shows kept state → unwrap_or (option_map kept_busy (slice_get kept.queues queue)) false ≡ is_fetching (slice_get state.subqueues queue)
fetching_shows kept state queue shows =
    both_busy (slice_get kept.queues queue) (slice_get state.subqueues queue) (AllZip-slice_get ShowsQueue kept.queues state.subqueues queue shows.queues)

pub stays_idle : (kept : Kept) (queue sender : ℕ) → unwrap_or (option_map kept_busy (slice_get kept.queues queue)) false ≡ false → Hands kept queue sender false kept
stays_idle kept queue sender idle state shows = grind (arith, fetching_shows)

-- ---- if it can be handed over

-- a sender that holds no unit and remembers exactly this word enters an open gate that has room
entry_is : (gate : GateSide) (messages sender : ℕ) → holds gate sender ≡ false → remembers gate sender ≡ Some (shown_word gate messages) → gate.closed ≡ false → nat_eq (units_out gate messages) gate.max ≡ false → enter gate messages sender ≡ grant gate messages sender
entry_is gate messages sender free word open_gate room = grind arith

is_at_self : (sender : ℕ) → is_at (nat_cmp sender) sender ≡ true
is_at_self sender = grind (arith, nat_tests)

looked_word : (gate : GateSide) (messages sender : ℕ) → remembers (look gate messages sender).gate sender ≡ Some (shown_word gate messages)
looked_word gate messages sender =
    lookup-insert_entry nat_cmp_total sender sender (shown_word gate messages) gate.remembered
    ∙ ap (λ b. cond b (Some (shown_word gate messages)) (lookup (is_at (nat_cmp sender)) gate.remembered)) (is_at_self sender)

-- inserting and removing a sender's word leaves the map as it was
any_word : (entries : List (ℕ × Word)) (sender : ℕ) (word other : Word) → remove_entry (is_at (nat_cmp sender)) (insert_entry nat_cmp entries sender word) ≡ remove_entry (is_at (nat_cmp sender)) (insert_entry nat_cmp entries sender other)
any_word [] sender word other = grind (arith, nat_tests)
any_word (e ∷ es) sender word other = grind (arith, nat_tests, any_word es)

-- a holder that is inserted and removed
pub back_out : (holders : List ℕ) (sender : ℕ) → list_any (is_at (nat_cmp sender)) holders ≡ false → remove_key (is_at (nat_cmp sender)) (insert_key nat_cmp holders sender) ≡ holders
back_out [] sender free = grind (arith, nat_tests)
back_out (x ∷ xs) sender free = grind (arith, nat_tests, back_out xs, true≢false)

-- the gate after the sender has looked and entered
abbrev pub receiving : GateSide → ℕ → Word → GateSide
receiving gate sender word = record gate {
  holders = insert_key nat_cmp gate.holders sender;
  remembered = remove_entry (is_at (nat_cmp sender)) (insert_entry nat_cmp gate.remembered sender word);
}

both_not : (a b : Bool) → (not a && not b) ≡ true → (a ≡ false) × (b ≡ false)
both_not a b e = grind arith

pub is_free : (gate : GateSide) (sender : ℕ) → lets_in gate sender ≡ true → holds gate sender ≡ false
is_free gate sender lets = (both_not gate.closed (holds gate sender) lets).1

full : (a b : ℕ) → not (nat_eq a b) ≡ true → a ≡ b → ⊥
full a b apart same = true≢false (sym apart ∙ ap not (ap (λ n. nat_eq n b) same ∙ eqb_same b))

pub handed_is : (state : State) (queue sender : ℕ) (found : Subqueue) → slice_get state.subqueues queue ≡ Some found → found.busy ≡ true → lets_in state.gate sender ≡ true → count_of (with_subqueue state queue (after_finishing found)) + 1 ≡ count_of state → has_room state ≡ true
    → handed_over state queue sender ≡ record { gate = receiving state.gate sender (shown_word state.gate (unfinished_in (with_subqueue state queue (after_finishing found)))); subqueues = slice_set state.subqueues queue (after_finishing found) }
handed_is state queue sender found at busy lets fewer roomy = grind (arith, both_not, full, entry_is, looked_word)

abbrev Sets : Kept → ℕ → List KeptQueue → Type 0
Sets kept queue queues = (found : KeptQueue) → slice_get kept.queues queue ≡ Some found → queues ≡ slice_set kept.queues queue (record found { busy = false })

pub hands : (kept : Kept) (count queue sender : ℕ) (word : Word) (queues : List KeptQueue) → IsCounted kept count → unwrap_or (option_map kept_busy (slice_get kept.queues queue)) false ≡ true → lets_in kept.gate sender ≡ true → Sets kept queue queues → Hands kept queue sender true (record { gate = receiving kept.gate sender word; queues = queues })
hands kept count queue sender word queues counts busy lets set state shows =
    by_queue (slice_get kept.queues queue) (slice_get state.subqueues queue) refl refl (AllZip-slice_get ShowsQueue kept.queues state.subqueues queue shows.queues) busy
  where
    new : Kept
    new = record { gate = receiving kept.gate sender word; queues = queues }

    by_queue : (k : Option KeptQueue) (q : Option Subqueue) → slice_get kept.queues queue ≡ k → slice_get state.subqueues queue ≡ q → Both ShowsQueue k q → unwrap_or (option_map kept_busy k) false ≡ true → (true ≡ can_hand_over state queue sender) × Shows new (handed_over state queue sender)
    by_queue None None is at both busy = absurd (true≢false (sym busy))
    by_queue None (Some q) is at both busy = absurd both
    by_queue (Some k) None is at both busy = absurd both
    by_queue (Some k) (Some q) is at both busy =
        let was_busy : q.busy ≡ true = sym both.busy ∙ busy in
        let one : one_if q.busy ≡ 1 = ap one_if was_busy in
        let lets_state : lets_in state.gate sender ≡ true = ap (λ (g : GateSide). lets_in g sender) (sym shows.gate) ∙ lets in
        let sum = sum_at unfinished state.subqueues queue q (after_finishing q) at in
        let fewer : count_of (with_subqueue state queue (after_finishing q)) + 1 ≡ count_of state = omega (arith, sum, one, both.begun, both.within) in
        let same = kept_count_of kept state shows in
        let max = ap (λ (g : GateSide). g.max) shows.gate in
        let within : count_of state ≤ state.gate.max = omega (arith, same, max, counts.counted, counts.within) in
        let roomy : has_room state ≡ true = ap not (ne_eqb (count_of state) (suc state.gate.max) (λ (e : count_of state ≡ suc state.gate.max). omega (arith, within, e))) in
        let queues_show = subst (λ l. AllZip ShowsQueue l (slice_set state.subqueues queue (after_finishing q))) (sym (set k is)) (AllZip-slice_set ShowsQueue kept.queues state.subqueues queue _ _ shows.queues (finished_shows k q both)) in (
          sym (ap (λ o. is_fetching o && (lets_in state.gate sender && has_room state)) at ∙ ap (λ b. b && (lets_in state.gate sender && has_room state)) was_busy ∙ ap (λ b. b && has_room state) lets_state ∙ roomy),
          subst (Shows new) (sym (handed_is state queue sender q at was_busy lets_state fewer roomy)) (record {
            gate =
                ap (λ (words : List (ℕ × Word)). record (receiving kept.gate sender word) { remembered = words }) (any_word kept.gate.remembered sender word (shown_word state.gate (unfinished_in (with_subqueue state queue (after_finishing q)))))
                ∙ ap (λ (g : GateSide). receiving g sender (shown_word state.gate (unfinished_in (with_subqueue state queue (after_finishing q))))) shows.gate;
            queues = queues_show;
          }),
        )

pub hands_counts : (kept : Kept) (count queue sender : ℕ) (word : Word) (queues : List KeptQueue) → IsCounted kept count → unwrap_or (option_map kept_busy (slice_get kept.queues queue)) false ≡ true → lets_in kept.gate sender ≡ true → Sets kept queue queues → IsCounted (record { gate = receiving kept.gate sender word; queues = queues }) count
hands_counts kept count queue sender word queues counts busy lets set = by_queue (slice_get kept.queues queue) refl busy
  where
    by_queue : (k : Option KeptQueue) → slice_get kept.queues queue ≡ k → unwrap_or (option_map kept_busy k) false ≡ true → IsCounted (record { gate = receiving kept.gate sender word; queues = queues }) count
    by_queue None is busy = absurd (true≢false (sym busy))
    by_queue (Some k) is busy =
        let one : one_if k.busy ≡ 1 = ap one_if busy in
        let sum = sum_at outstanding kept.queues queue k (record k { busy = false }) is in
        let more = length-insert_key kept.gate.holders sender (is_free kept.gate sender lets) in
        record {
          counted = rw (set k is) (omega (arith, sum, one, more, counts.counted));
          within = counts.within;
          small = counts.small;
        }
