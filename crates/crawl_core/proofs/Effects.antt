-- The effect of one step on the invariants and on each subqueue, event by event.
use Rattle.crawl_core.proofs.Prelude.{◌≡◌, ℕ, zero, suc, ◌+◌, cond, arith, ◌≤◌, Bool, true, false, not, List, [], ◌∷◌, ◌++◌, length, take, map, slice_get, Option, Some, None, refl, sym, ap, ◌∙◌, eqb-true, true≢false, common_steps, if◌then◌else◌, option_to_list, take-append-le, map-append, Event, Look, Enter, Admit, Back, EndSeeds, Take, Done, Close, one_if, Message, has_url, Subqueue, finished, oldest, next_message, after_finishing, GateTurn, holds, State, count_of, Turn, turn, by_gate, with_subqueue, put, admit_to, take_oldest, take_from, done_with, accepted_by, taken_by, done_by, SubqueueInvariant, EachSubqueue}
use Rattle.crawl_core.specs.declared.reply.Reply.TheVariants as says
use Rattle.crawl_core.proofs.Places.{set_cases}

-- a property of both branches is a property of the choice
pub cond_both : {A : Type 0} (P : A → Type 0) (b : Bool) (x y : A) → (b ≡ true → P x) → (b ≡ false → P y) → P (if b then x else y)
cond_both P b x y first second = grind arith

-- ## The effect of a step on one subqueue

abbrev pub messages : Option Subqueue → List Message
messages None = []
messages (Some queue) = queue.accepted

abbrev pub urls_taken : Option Subqueue → List (List ℕ)
urls_taken None = []
urls_taken (Some queue) = map (λ m. m.url) (take queue.taken queue.accepted)

abbrev pub is_busy : Option Subqueue → Bool
is_busy None = false
is_busy (Some queue) = queue.busy

abbrev pub finished_at : Option Subqueue → ℕ
finished_at None = 0
finished_at (Some queue) = finished queue

-- the subqueues after a turn: one more message if the event was accepted, one more URL if one was taken, one more
-- finished fetch if one was finished; and a subqueue is busy from a take until the fetch is finished
pub record QueueEffect (old : State) (event : Event) (done : Turn) : Type 0 where
  pub accepts : (queue : ℕ) → messages (slice_get done.state.subqueues queue) ≡ messages (slice_get old.subqueues queue) ++ option_to_list (accepted_by queue event done.reply)
  pub takes : (queue : ℕ) → urls_taken (slice_get done.state.subqueues queue) ≡ urls_taken (slice_get old.subqueues queue) ++ option_to_list (taken_by queue event done.reply)
  pub finishes : (queue : ℕ) → finished_at (slice_get done.state.subqueues queue) ≡ finished_at (slice_get old.subqueues queue) + cond (done_by queue event done.reply) 1 0
  pub begins : (queue : ℕ) (url : List ℕ) → taken_by queue event done.reply ≡ Some url → (is_busy (slice_get old.subqueues queue) ≡ false) × (is_busy (slice_get done.state.subqueues queue) ≡ true)
  pub ends : (queue : ℕ) → is_busy (slice_get old.subqueues queue) ≡ true → is_busy (slice_get done.state.subqueues queue) ≡ false → (left : ℕ) × (event ≡ Done queue) × (done.reply ≡ says.Count left)

pub append_nil : {A : Type 0} (xs : List A) → xs ≡ xs ++ []
append_nil xs = grind (arith, common_steps)

-- if the subqueues do not change and nothing was accepted or taken
same_queues : (old : State) (event : Event) (done : Turn) → done.state.subqueues ≡ old.subqueues → ((queue : ℕ) → accepted_by queue event done.reply ≡ None) → ((queue : ℕ) → taken_by queue event done.reply ≡ None) → ((queue : ℕ) → done_by queue event done.reply ≡ false) → QueueEffect old event done
same_queues old event done same accepts takes none = grind (arith, append_nil)

-- the first n elements and one more
pub take_one_more : {A : Type 0} (xs : List A) (n : ℕ) (x : A) → slice_get xs n ≡ Some x → take (suc n) xs ≡ take n xs ++ x ∷ []
take_one_more [] n x at = absurd (cc)
take_one_more (y ∷ ys) zero x at = let same : Some y ≡ Some x = at in ap (λ o. option_to_list o) same
take_one_more (y ∷ ys) (suc n) x at = ap (λ zs. y ∷ zs) (take_one_more ys n x at)

put_effect : (state : State) (sender : ℕ) (url : List ℕ) (place : ℕ) (queue : Subqueue) → slice_get state.subqueues place ≡ Some queue → queue.taken ≤ length queue.accepted → QueueEffect state (Admit sender url place) (put state sender url place queue)
put_effect state sender url place queue at within =
    let message = next_message queue sender url in
    let front : take queue.taken (queue.accepted ++ message ∷ []) ≡ take queue.taken queue.accepted = take-append-le queue.taken queue.accepted (message ∷ []) within in
    record {
      accepts = λ there. set_cases (λ o. messages o ≡ messages (slice_get state.subqueues there) ++ option_to_list (accepted_by there (Admit sender url place) (says.Accepted place (next_message queue sender url).number))) state.subqueues place there queue _ at
          (λ here found. rw (found, here) refl)
          (λ apart. rw apart (append_nil (messages (slice_get state.subqueues there))));
      takes = λ there. set_cases (λ o. urls_taken o ≡ urls_taken (slice_get state.subqueues there) ++ []) state.subqueues place there queue _ at
          (λ here found. rw (found, front) (append_nil (urls_taken (Some queue))))
          (λ apart. append_nil (urls_taken (slice_get state.subqueues there)));
      finishes = λ there. set_cases (λ o. finished_at o ≡ finished_at (slice_get state.subqueues there) + 0) state.subqueues place there queue _ at
          (λ here found. rw found (omega arith))
          (λ apart. omega arith);
      begins = λ there u taken. absurd (cc);
      ends = λ there. set_cases (λ o. is_busy (slice_get state.subqueues there) ≡ true → is_busy o ≡ false → (left : ℕ) × (Admit sender url place ≡ Done there) × (says.Accepted place (next_message queue sender url).number ≡ says.Count left)) state.subqueues place there queue _ at
          (λ here found busy idle. let was = rw found at busy in absurd (cc))
          (λ apart busy idle. absurd (cc));
    }

admit_effect : (state : State) (sender : ℕ) (url : List ℕ) (place : ℕ) (queue : Option Subqueue) → slice_get state.subqueues place ≡ queue → ((found : Subqueue) → slice_get state.subqueues place ≡ Some found → found.taken ≤ length found.accepted) → QueueEffect state (Admit sender url place) (admit_to state sender url place queue)
admit_effect state sender url place None at within = same_queues state (Admit sender url place) _ refl (λ there. refl) (λ there. refl) (λ there. refl)
admit_effect state sender url place (Some queue) at within =
    cond_both (QueueEffect state (Admit sender url place)) (not (holds state.gate sender)) _ _
    (λ _. same_queues state (Admit sender url place) _ refl (λ there. refl) (λ there. refl) (λ there. refl))
    (λ _. cond_both (QueueEffect state (Admit sender url place)) (has_url queue.accepted url) _ _
    (λ _. same_queues state (Admit sender url place) _ refl (λ there. refl) (λ there. refl) (λ there. refl))
    (λ _. put_effect state sender url place queue at (within queue at)))

oldest_effect : (state : State) (place : ℕ) (queue : Subqueue) → slice_get state.subqueues place ≡ Some queue → queue.busy ≡ false → (message : Option Message) → oldest queue ≡ message → QueueEffect state (Take place) (take_oldest state place queue message)
oldest_effect state place queue at idle None none = same_queues state (Take place) _ refl (λ there. refl) (λ there. refl) (λ there. refl)
oldest_effect state place queue at idle (Some message) first =
    let one_more = take_one_more queue.accepted queue.taken message first in
    record {
      accepts = λ there. set_cases (λ o. messages o ≡ messages (slice_get state.subqueues there) ++ []) state.subqueues place there queue _ at
          (λ here found. rw found (append_nil queue.accepted))
          (λ apart. append_nil (messages (slice_get state.subqueues there)));
      takes = λ there. set_cases (λ o. urls_taken o ≡ urls_taken (slice_get state.subqueues there) ++ option_to_list (taken_by there (Take place) (says.Taken message.url))) state.subqueues place there queue _ at
          (λ here found. rw (found, here, one_more, map-append) refl)
          (λ apart. rw apart (append_nil (urls_taken (slice_get state.subqueues there))));
      finishes = λ there. set_cases (λ o. finished_at o ≡ finished_at (slice_get state.subqueues there) + 0) state.subqueues place there queue _ at
          (λ here found. rw (found, idle) (omega arith))
          (λ apart. omega arith);
      begins = λ there url. set_cases (λ o. taken_by there (Take place) (says.Taken message.url) ≡ Some url → (is_busy (slice_get state.subqueues there) ≡ false) × (is_busy o ≡ true)) state.subqueues place there queue _ at
          (λ here found taken. (rw found idle, refl))
          (λ apart taken. let none = rw apart at taken in absurd (cc));
      ends = λ there. set_cases (λ o. is_busy (slice_get state.subqueues there) ≡ true → is_busy o ≡ false → (left : ℕ) × (Take place ≡ Done there) × (says.Taken message.url ≡ says.Count left)) state.subqueues place there queue _ at
          (λ here found busy ended. absurd (cc))
          (λ apart busy ended. absurd (cc));
    }

take_effect : (state : State) (place : ℕ) (queue : Option Subqueue) → slice_get state.subqueues place ≡ queue → QueueEffect state (Take place) (take_from state place queue)
take_effect state place queue at = grind (arith, same_queues, cond_both, oldest_effect)

done_effect : (state : State) (place : ℕ) (queue : Option Subqueue) → slice_get state.subqueues place ≡ queue → ((found : Subqueue) → slice_get state.subqueues place ≡ Some found → SubqueueInvariant found) → QueueEffect state (Done place) (done_with state place queue)
done_effect state place None at sound = same_queues state (Done place) _ refl (λ there. refl) (λ there. refl) (λ there. refl)
done_effect state place (Some queue) at sound =
    cond_both (QueueEffect state (Done place)) queue.busy _ _
    (λ busy. record {
      accepts = λ there. set_cases (λ o. messages o ≡ messages (slice_get state.subqueues there) ++ []) state.subqueues place there queue _ at
          (λ here found. rw found (append_nil queue.accepted))
          (λ apart. append_nil (messages (slice_get state.subqueues there)));
      takes = λ there. set_cases (λ o. urls_taken o ≡ urls_taken (slice_get state.subqueues there) ++ []) state.subqueues place there queue _ at
          (λ here found. rw found (append_nil (urls_taken (Some queue))))
          (λ apart. append_nil (urls_taken (slice_get state.subqueues there)));
      finishes = λ there. set_cases (λ o. finished_at o ≡ finished_at (slice_get state.subqueues there) + cond (done_by there (Done place) (says.Count (count_of (with_subqueue state place (after_finishing queue))))) 1 0) state.subqueues place there queue _ at
          (λ here found. let one : one_if queue.busy ≡ 1 = ap one_if busy in let begun = (sound queue at).begun in rw (found, here) (omega (arith, one, begun)))
          (λ apart. rw apart (omega arith));
      begins = λ there url taken. absurd (cc);
      ends = λ there. set_cases (λ o. is_busy (slice_get state.subqueues there) ≡ true → is_busy o ≡ false → (left : ℕ) × (Done place ≡ Done there) × (says.Count (count_of (with_subqueue state place (after_finishing queue))) ≡ says.Count left)) state.subqueues place there queue _ at
          (λ here found busy ended. (count_of (with_subqueue state place (after_finishing queue)), ap Done (eqb-true place there here), refl))
          (λ apart busy ended. let clash : true ≡ false = sym busy ∙ ended in absurd (true≢false clash));
    })
    (λ _. same_queues state (Done place) _ refl (λ there. refl) (λ there. refl) (λ there. refl))

-- the gate's steps do not change the subqueues
gate_step : (state : State) (event : Event) (done : GateTurn) → ((queue : ℕ) → accepted_by queue event done.reply ≡ None) → ((queue : ℕ) → taken_by queue event done.reply ≡ None) → ((queue : ℕ) → done_by queue event done.reply ≡ false) → QueueEffect state event (by_gate state done)
gate_step state event done accepts takes none = same_queues state event (by_gate state done) refl accepts takes none

pub queue_effect : (state : State) (event : Event) → EachSubqueue SubqueueInvariant state → QueueEffect state event (turn state event)
queue_effect state (Look sender) sound = gate_step state (Look sender) _ (λ queue. refl) (λ queue. refl) (λ queue. refl)
queue_effect state (Enter sender) sound = gate_step state (Enter sender) _ (λ queue. refl) (λ queue. refl) (λ queue. refl)
queue_effect state (Admit sender url place) sound = admit_effect state sender url place (slice_get state.subqueues place) refl (λ found at. (sound place found at).within)
queue_effect state (Back sender) sound = gate_step state (Back sender) _ (λ queue. refl) (λ queue. refl) (λ queue. refl)
queue_effect state EndSeeds sound = gate_step state EndSeeds _ (λ queue. refl) (λ queue. refl) (λ queue. refl)
queue_effect state (Take place) sound = take_effect state place (slice_get state.subqueues place) refl
queue_effect state (Done place) sound = done_effect state place (slice_get state.subqueues place) refl (sound place)
queue_effect state Close sound = gate_step state Close _ (λ queue. refl) (λ queue. refl) (λ queue. refl)
