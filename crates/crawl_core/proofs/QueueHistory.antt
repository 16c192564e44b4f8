-- What a run's history states about a subqueue.
use Rattle.crawl_core.proofs.Prelude.{common_steps, cond, ◌≡◌, ℕ, zero, suc, ◌+◌, ◌-◌, ◌<◌, Bool, true, false, List, [], ◌∷◌, ◌++◌, take, drop, map, slice_get, Option, Some, None, refl, sym, ap, subst, ◌∙◌, arith, true≢false, zip, cons_option, option_to_list, append_assoc, sum_by-cons, Event, Take, Done, Reply, Message, numbers_of, Subqueue, State, start, turn, Run, IsRun, accepted_by, taken_by, done_by, accepted_in, taken_urls, done_in, left_in, TakesInOrder, AcceptsOnce, LeavesInOrder, FetchesOneAtATime, SubqueueInvariant}
use Rattle.crawl_core.specs.declared.reply.Reply.TheVariants as says
use Rattle.crawl_core.proofs.Effects.{QueueEffect, queue_effect, append_nil, messages, urls_taken, finished_at, is_busy}
use Rattle.crawl_core.proofs.Leaving.{firsts_found, firsts_numbered}
use Rattle.crawl_core.proofs.RunParts.{eqb_same, pair_is, run_at, run_sound, start_sound, get-replicate, slice_get-drop, later_place}
use Rattle.crawl_core.proofs.Sound.{Sound, gate_effect, some_is}

-- ## First in, first out, once

-- the URLs that a subqueue accepted, and those that were taken from it, after a run
record Grows (queue : ℕ) (old : State) (history : List (Event × Reply)) (new : State) : Type 0 where
  pub accepts : messages (slice_get new.subqueues queue) ≡ messages (slice_get old.subqueues queue) ++ accepted_in queue history
  pub takes : urls_taken (slice_get new.subqueues queue) ≡ urls_taken (slice_get old.subqueues queue) ++ taken_urls queue history
  pub finishes : finished_at (slice_get new.subqueues queue) ≡ finished_at (slice_get old.subqueues queue) + done_in queue history

cons_option_is : {A : Type 0} (o : Option A) (xs : List A) → cons_option o xs ≡ option_to_list o ++ xs
cons_option_is o xs = grind arith

-- a step's effect on the subqueues, in a sound state
pub step_effect : (state : State) → Sound state → (event : Event) → QueueEffect state event (turn state event)
step_effect state sound event = queue_effect state event sound.queues

joined : {A : Type 0} (old next new more rest : List A) → next ≡ old ++ more → new ≡ next ++ rest → new ≡ old ++ (more ++ rest)
joined old next new more rest e f = rw (f, e) (append_assoc old more rest)

grows : (queue : ℕ) (old : State) (history : List (Event × Reply)) (new : State) → Sound old → Run old history new → Grows queue old history new
grows queue old [] new sound run = record {
  accepts = rw run (append_nil (messages (slice_get old.subqueues queue)));
  takes = rw run (append_nil (urls_taken (slice_get old.subqueues queue)));
  finishes = rw run (omega arith);
}
grows queue old (x ∷ xs) new sound run =
    let effect = step_effect old sound x.0 in
    let after = subst Sound (sym run.1.state_is) (gate_effect old sound x.0).sound in
    let rest = grows queue run.0 xs new after run.2 in
    let accepts : messages (slice_get run.0.subqueues queue) ≡ messages (slice_get old.subqueues queue) ++ option_to_list (accepted_by queue x.0 x.1) = rw (run.1.state_is, run.1.reply_is) (effect.accepts queue) in
    let takes : urls_taken (slice_get run.0.subqueues queue) ≡ urls_taken (slice_get old.subqueues queue) ++ option_to_list (taken_by queue x.0 x.1) = rw (run.1.state_is, run.1.reply_is) (effect.takes queue) in
    let finishes : finished_at (slice_get run.0.subqueues queue) ≡ finished_at (slice_get old.subqueues queue) + cond (done_by queue x.0 x.1) 1 0 = rw (run.1.state_is, run.1.reply_is) (effect.finishes queue) in
    record {
      finishes = rw (sum_by-cons (λ (y : Event × Reply). cond (done_by queue y.0 y.1) 1 0) x xs) (omega (arith, finishes, rest.finishes));
      accepts = rw (cons_option_is (accepted_by queue x.0 x.1) (accepted_in queue xs)) (joined _ _ _ _ _ accepts rest.accepts);
      takes = rw (cons_option_is (taken_by queue x.0 x.1) (taken_urls queue xs)) (joined _ _ _ _ _ takes rest.takes);
    }

-- the first state has nothing in any subqueue
nothing_yet : (workers max queue : ℕ) → (messages (slice_get (start workers max).subqueues queue) ≡ []) × (urls_taken (slice_get (start workers max).subqueues queue) ≡ []) × (finished_at (slice_get (start workers max).subqueues queue) ≡ 0)
nothing_yet workers max queue = grind (arith, get-replicate, messages, urls_taken, finished_at)

-- at the end of a run a subqueue has accepted the URLs that the history names; the same for taken URLs and finished ones
pub record History (queue : ℕ) (history : List (Event × Reply)) (end : State) : Type 0 where
  pub accepted : accepted_in queue history ≡ messages (slice_get end.subqueues queue)
  pub taken : taken_urls queue history ≡ urls_taken (slice_get end.subqueues queue)
  pub done : done_in queue history ≡ finished_at (slice_get end.subqueues queue)
  pub sound : (found : Subqueue) → slice_get end.subqueues queue ≡ Some found → SubqueueInvariant found

pub history_at : (workers max queue : ℕ) (history : List (Event × Reply)) (end : State) → Run (start workers max) history end → History queue history end
history_at workers max queue history end run =
    let none = nothing_yet workers max queue in
    let all = grows queue (start workers max) history end (start_sound workers max) run in
    record {
      accepted = sym (rw none.0 at all.accepts);
      taken = sym (rw none.1 at all.takes);
      done = let from_none = rw none.2 at all.finishes in omega (arith, from_none);
      sound = (run_sound workers max history end run).queues queue;
    }

history_of : (workers max queue : ℕ) (events : List Event) (replies : List Reply) (run : IsRun workers max events replies) → History queue (zip events replies) run.end
history_of workers max queue events replies run = history_at workers max queue (zip events replies) run.end run.run

-- the URLs of the first messages are the first URLs
map_take : (xs : List Message) (n k : ℕ) (url : List ℕ) → slice_get (map (λ m. m.url) (take n xs)) k ≡ Some url → slice_get (map (λ m. m.url) xs) k ≡ Some url
map_take [] zero k url at = at
map_take [] (suc n) k url at = at
map_take (x ∷ xs) zero k url at = absurd (cc)
map_take (x ∷ xs) (suc n) zero url at = at
map_take (x ∷ xs) (suc n) (suc k) url at = map_take xs n k url at

taken_among : (o : Option Subqueue) (k : ℕ) (url : List ℕ) → slice_get (urls_taken o) k ≡ Some url → slice_get (map (λ m. m.url) (messages o)) k ≡ Some url
taken_among o k url at = grind (arith, map_take)

pub takes_in_order : (workers max : ℕ) (events : List Event) (replies : List Reply) → IsRun workers max events replies → TakesInOrder (zip events replies)
takes_in_order workers max events replies run queue k url at =
    let h = history_of workers max queue events replies run in
    rw h.accepted (taken_among (slice_get run.end.subqueues queue) k url (rw h.taken at at))

-- the URL at an index is the URL of the message at that index
pub url_at : (xs : List Message) (k : ℕ) (url : List ℕ) → slice_get (map (λ m. m.url) xs) k ≡ Some url → (m : Message) × (slice_get xs k ≡ Some m) × (m.url ≡ url)
url_at [] k url at = absurd (cc)
url_at (x ∷ xs) zero url at = (x, refl, some_is at)
url_at (x ∷ xs) (suc k) url at = url_at xs k url at

once_among : (o : Option Subqueue) → ((found : Subqueue) → o ≡ Some found → SubqueueInvariant found) → (i j : ℕ) (url : List ℕ) → slice_get (map (λ m. m.url) (messages o)) i ≡ Some url → slice_get (map (λ m. m.url) (messages o)) j ≡ Some url → i ≡ j
once_among None sound i j url at_i at_j = absurd (cc)
once_among (Some queue) sound i j url at_i at_j =
    let m = url_at queue.accepted i url at_i in
    let n = url_at queue.accepted j url at_j in
    (sound queue refl).distinct i j m.0 n.0 m.1 n.1 (m.2 ∙ sym n.2)

pub accepts_once : (workers max : ℕ) (events : List Event) (replies : List Reply) → IsRun workers max events replies → AcceptsOnce (zip events replies)
accepts_once workers max events replies run queue i j url at_i at_j =
    let h = history_of workers max queue events replies run in
    once_among (slice_get run.end.subqueues queue) h.sound i j url (rw h.accepted at at_i) (rw h.accepted at at_j)

-- ## The messages that left

abbrev left_at : Option Subqueue → List Message
left_at None = []
left_at (Some queue) = take queue.taken queue.accepted

left_urls : (o : Option Subqueue) → map (λ (m : Message). m.url) (left_at o) ≡ urls_taken o
left_urls o = grind arith

left_numbered : (o : Option Subqueue) → ((found : Subqueue) → o ≡ Some found → SubqueueInvariant found) → (sender k number : ℕ) → slice_get (numbers_of (left_at o) sender) k ≡ Some number → number ≡ k
left_numbered o sound sender k number at = grind (arith, common_steps, firsts_numbered)

left_of : (queue : ℕ) (history : List (Event × Reply)) (end : State) → History queue history end → left_in queue history ≡ left_at (slice_get end.subqueues queue)
left_of queue history end said = grind (arith, firsts_found)

pub leaves_in_order : (workers max : ℕ) (events : List Event) (replies : List Reply) → IsRun workers max events replies → LeavesInOrder (zip events replies)
leaves_in_order workers max events replies run = record {
  leaves = λ queue.
      let said = history_of workers max queue events replies run in
      ap (map (λ (m : Message). m.url)) (left_of queue (zip events replies) run.end said) ∙ left_urls (slice_get run.end.subqueues queue) ∙ sym said.taken;
  numbered = λ queue sender k number at.
      let said = history_of workers max queue events replies run in
      left_numbered (slice_get run.end.subqueues queue) said.sound sender k number (rw (left_of queue (zip events replies) run.end said) at at);
}

-- ## One fetch at a time

-- after a subqueue is busy, the next take from it comes after a done
done_before : (queue : ℕ) (old : State) (history : List (Event × Reply)) (new : State) → Sound old → Run old history new → is_busy (slice_get old.subqueues queue) ≡ true → (j : ℕ) (url : List ℕ) → slice_get history j ≡ Some (Take queue, says.Taken url) → (k : ℕ) × (left : ℕ) × (k < j) × (slice_get history k ≡ Some (Done queue, says.Count left))
done_before queue old [] new sound run busy j url at = absurd (cc)
done_before queue old (x ∷ xs) new sound run busy zero url at =
    let effect = step_effect old sound x.0 in
    let is_x = some_is at in
    let taken : taken_by queue x.0 (turn old x.0).reply ≡ Some url = rw (← run.1.reply_is, is_x, eqb_same queue) refl in
    absurd (true≢false (sym busy ∙ (effect.begins queue url taken).0))
done_before queue old (x ∷ xs) new sound run busy (suc j) url at =
    by_flag (is_busy (slice_get run.0.subqueues queue)) refl (λ still. done_before queue run.0 xs new after run.2 still j url at)
  where
    after : Sound run.0
    after = subst Sound (sym run.1.state_is) (gate_effect old sound x.0).sound

    by_flag : (b : Bool) → is_busy (slice_get run.0.subqueues queue) ≡ b → (is_busy (slice_get run.0.subqueues queue) ≡ true → (k : ℕ) × (left : ℕ) × (k < j) × (slice_get xs k ≡ Some (Done queue, says.Count left))) → (k : ℕ) × (left : ℕ) × (k < suc j) × (slice_get (x ∷ xs) k ≡ Some (Done queue, says.Count left))
    by_flag true still later = let rest = later still in (suc rest.0, rest.1, omega (arith, rest.2), rest.3)
    by_flag false ended later =
        let effect = step_effect old sound x.0 in
        let over : is_busy (slice_get (turn old x.0).state.subqueues queue) ≡ false = rw (← run.1.state_is) ended in
        let done = effect.ends queue busy over in
        let reply : x.1 ≡ says.Count done.0 = run.1.reply_is ∙ done.2 in
        (0, done.0, omega arith, ap Some (pair_is done.1 reply))

pub fetches_one_at_a_time : (workers max : ℕ) (events : List Event) (replies : List Reply) → IsRun workers max events replies → FetchesOneAtATime (zip events replies)
fetches_one_at_a_time workers max events replies run queue i j first second below at_i at_j =
    let history = zip events replies in
    let moment = run_at (start workers max) history i (Take queue, says.Taken first) run.end run.run at_i in
    let sound = run_sound workers max (take i history) moment.before moment.came in
    let effect = step_effect moment.before sound (Take queue) in
    let taken : taken_by queue (Take queue) (turn moment.before (Take queue)).reply ≡ Some first = rw (← moment.step.reply_is, eqb_same queue) refl in
    let busy : is_busy (slice_get moment.after.subqueues queue) ≡ true = rw moment.step.state_is (effect.begins queue first taken).1 in
    let after = subst Sound (sym moment.step.state_is) (gate_effect moment.before sound (Take queue)).sound in
    let done = done_before queue moment.after (drop (suc i) history) run.end after moment.goes busy (j - suc i) second (later_place history i j (Take queue, says.Taken second) below at_j) in
    (suc i + done.0, done.1, omega arith, omega (arith, below, done.2), sym (slice_get-drop history (suc i) done.0) ∙ done.3)
