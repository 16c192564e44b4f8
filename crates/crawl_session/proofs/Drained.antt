-- If the URLs of a queue are taken one after another, they are all those that wait in it, in order.
use Rattle.crawl_session.proofs.Prelude.{◌≡◌, ℕ, zero, suc, ◌+◌, ◌-◌, ◌≤◌, ◌<◌, Bool, true, false, ◌||◌, if◌then◌else◌, is_some, nat_eq, List, [], ◌++◌, length, map, Option, Some, None, Ok, refl, sym, ap, ◌∙◌, arith, append_assoc, append-nil, true≢false, option_map, option_or, option_to_list, get_or-eq_default, common_steps, length-append, length-drop, length-map, map-append, nil_from_length, progress, Message, Turn, refused, take_from, take_oldest, Subqueue, oldest, cond_both, eqb_same, Sound, Answer, Deferred, Row, Request, Next, Done, finishes, takes, Outcome, after, by_machine, ends, exchange, is_due, is_empty, retaking, taking, taking_next, Frontier, deferrals_at, Listed, pending_at, taken_each, url_row, waiting_at, waiting_of}
use Rattle.std.specs.Prelude.{unwrap_or}
use Rattle.crawl_core.specs.declared.event.Event.TheVariants as event
use Rattle.crawl_core.specs.declared.reply.Refusal.TheVariants as why
use Rattle.crawl_session.specs.declared.list.Kind.TheVariants.{Pending}
use Rattle.crawl_session.specs.declared.list.Row.TheVariants as variant
use Rattle.crawl_session.proofs.Conserved.{answered_sound, line_of}
use Rattle.crawl_session.proofs.Counting.{length_in_line}
use Rattle.crawl_session.proofs.Flows.{answered_passes, fetches_busy, past}
use Rattle.crawl_session.proofs.Joined.{busy_at, fetched_at, line_at, some_fetch, url_of}
use Rattle.crawl_session.proofs.Owned.{Owned, answered_owned, fetched_holds}
use Rattle.crawl_session.proofs.Queues.{Settled, busy_of, queue_at}

-- ---- what requests keep

pub record Fit (state : Frontier) : Type 0 where
  pub sound : Sound state.machine
  pub settled : Settled state
  pub owned : Owned state

pub fit_after : (state : Frontier) (request : Request) → Fit state → Fit (exchange state request).state
fit_after state request fit = record {
  sound = answered_sound state (Ok request) fit.sound;
  settled = (answered_passes state (Ok request) fit.sound fit.settled).settled;
  owned = answered_owned state (Ok request) fit.sound fit.settled fit.owned;
}

-- ---- the URLs that wait

-- none in a queue that there is not
no_line : (state : Frontier) (named : ℕ) → Settled state → queue_at state named ≡ None → line_of state named ≡ []
no_line state named settled none = grind (arith, past, get_or-eq_default, line_at)

line_length : (state : Frontier) (named : ℕ) (found : Subqueue) → queue_at state named ≡ Some found → length (line_of state named) ≡ (length found.accepted - found.taken) + length (deferrals_at state named).waiting
line_length state named found at = grind (arith, line_of, url_of, line_at, length_in_line, length-map, length-drop)

-- how many there are
waits : (state : Frontier) (named : ℕ) → Settled state → waiting_at state named ≡ length (line_of state named)
waits state named settled = by_queue (queue_at state named) refl
  where
    by_queue : (o : Option Subqueue) → queue_at state named ≡ o → unwrap_or (option_map (λ p. waiting_of p (length (deferrals_at state named).waiting)) (option_map progress o)) 0 ≡ length (line_of state named)
    by_queue None none = ap length (sym (no_line state named settled none))
    by_queue (Some found) at = sym (line_length state named found at)

-- ---- `done`

-- no URL comes or goes
done_line : (state : Frontier) (named queue : ℕ) → Fit state → line_of (exchange state (Done named)).state queue ≡ line_of state queue
done_line state named queue fit = sym ((answered_passes state (Ok (Done named)) fit.sound fit.settled).flow queue).line ∙ append-nil (line_of state queue)

-- a busy queue's fetch ends
done_counts : (state : Frontier) (named : ℕ) (url : List ℕ) → Fit state → busy_of state named ≡ Some url → finishes named (Ok (Done named)) (exchange state (Done named)).answer ≡ true
done_counts state named url fit busy = grind (arith, fetched_at, fetches_busy, eqb_same, busy_at, queue_at, fetched_holds)

freed : (state : Frontier) (named : ℕ) → Fit state → busy_of (exchange state (Done named)).state named ≡ None
freed state named fit = by_busy (busy_of state named) refl
  where
    answer : Answer
    answer = (exchange state (Done named)).answer

    is : busy_of (exchange state (Done named)).state named ≡ (if finishes named (Ok (Done named)) answer || false then None else option_or None (busy_of state named))
    is = ((answered_passes state (Ok (Done named)) fit.sound fit.settled).flow named).busy

    by_busy : (busy : Option (List ℕ)) → busy_of state named ≡ busy → busy_of (exchange state (Done named)).state named ≡ None
    by_busy None none = is ∙ ap (λ (o : Option (List ℕ)). if finishes named (Ok (Done named)) answer || false then None else option_or None o) none ∙ either (finishes named (Ok (Done named)) answer)
      where
        either : (b : Bool) → (if b || false then None else option_or None None) ≡ (let o : Option (List ℕ) = None in o)
        either true = refl
        either false = refl
    by_busy (Some url) busy = is ∙ ap (λ b. if b || false then None else option_or None (busy_of state named)) (done_counts state named url fit busy)

-- ---- `next`

-- of another queue no URL goes
none_taken : (named queue : ℕ) (answer : Answer) → nat_eq named queue ≡ false → takes queue (Ok (Next named)) answer ≡ None
none_taken named queue answer apart = grind (arith, apart)

next_line : (state : Frontier) (named queue : ℕ) → Fit state → nat_eq named queue ≡ false → line_of (exchange state (Next named)).state queue ≡ line_of state queue
next_line state named queue fit apart =
    let flow = ((answered_passes state (Ok (Next named)) fit.sound fit.settled).flow queue).line in
    let none = none_taken named queue (exchange state (Next named)).answer apart in
    sym (flow ∙ ap (λ (o : Option (List ℕ)). option_to_list o ++ line_of (exchange state (Next named)).state queue) none) ∙ append-nil (line_of state queue)

-- a queue that is free and in which URLs wait has a next one
abbrev Has : ℕ → Answer → Type 0
Has named answer = is_some (takes named (Ok (Next named)) answer) ≡ true

retakes : (state : Frontier) (named : ℕ) (queue : Option Subqueue) (ds : List Deferred) → is_due queue ds ≡ true → Has named (retaking state named ds).answer
retakes state named queue ds due = grind arith

takes_oldest : (state : Frontier) (named : ℕ) (found : Subqueue) → Fit state → queue_at state named ≡ Some found → found.busy ≡ false → is_due (Some found) (deferrals_at state named).waiting ≡ false → 0 < length (line_of state named)
    → (first : Option Message) → oldest found ≡ first
    → Has named (let done = take_oldest state.machine named found first in let rest = if is_empty done.reply then after done.state event.Close ends else ends done.reply done.state in rest.answer)
takes_oldest state named found fit at idle due some first none = grind (arith, past, eqb_same, line_of, url_of, line_at, length_in_line, length-map, length-drop)

next_takes : (state : Frontier) (named : ℕ) → Fit state → busy_of state named ≡ None → 0 < length (line_of state named) → Has named (exchange state (Next named)).answer
next_takes state named fit free some = by_fetched (deferrals_at state named).fetched refl free
  where
    ds : List Deferred
    ds = (deferrals_at state named).waiting

    by_queue : (o : Option Subqueue) → queue_at state named ≡ o → fetched_at o ≡ None → is_due o ds ≡ false
        → Has named (let done = take_from state.machine named o in let rest = if is_empty done.reply then after done.state event.Close ends else ends done.reply done.state in rest.answer)
    by_queue None none idle due = let no = ap length (no_line state named fit.settled none) in absurd (omega (arith, some, no))
    by_queue (Some found) at idle due =
        cond_both (λ (t : Turn). Has named (let rest = if is_empty t.reply then after t.state event.Close ends else ends t.reply t.state in rest.answer)) found.busy (refused state.machine why.Busy) (take_oldest state.machine named found (oldest found))
        (λ busy. absurd (true≢false (sym (some_fetch found (fit.sound.queues named found at) busy) ∙ ap is_some idle)))
        (λ not_busy. takes_oldest state named found fit at not_busy due some (oldest found) refl)

    by_fetched : (fetched : Option Deferred) → (deferrals_at state named).fetched ≡ fetched → busy_at (queue_at state named) fetched ≡ None → Has named (taking_next state named ds fetched).answer
    by_fetched (Some d) is idle = absurd (cc)
    by_fetched None is idle =
        cond_both (λ (x : Outcome). Has named x.answer) (is_due (queue_at state named) ds) (retaking state named ds) (by_machine state (taking state.machine named))
        (λ due. retakes state named (queue_at state named) ds due)
        (λ due. by_queue (queue_at state named) refl idle due)

-- ---- one after another

-- the row of a URL that was taken
abbrev pending : ℕ → List ℕ → Row
pending queue url = variant.Url Pending queue url

row_is : (named : ℕ) (answer : Answer) → option_to_list (url_row Pending named answer) ≡ map (pending named) (option_to_list (takes named (Ok (Next named)) answer))
row_is named answer = grind (arith, common_steps, eqb_same)

-- this number was taken: these URLs
record Drained (state : Frontier) (named n : ℕ) (x : Listed) : Type 0 where
  fit : Fit x.state
  free : busy_of x.state named ≡ None
  urls : List (List ℕ)
  rows : x.rows ≡ map (pending named) urls
  line : urls ++ line_of x.state named ≡ line_of state named
  count : length urls ≡ n
  other : (queue : ℕ) → nat_eq named queue ≡ false → line_of x.state queue ≡ line_of state queue

one_length : (o : Option (List ℕ)) → is_some o ≡ true → length (option_to_list o) ≡ 1
one_length o is = grind arith

drained : (state : Frontier) (named n : ℕ) → Fit state → busy_of state named ≡ None → n ≤ length (line_of state named) → Drained state named n (taken_each named n state)
drained state named zero fit free enough = record { fit = fit; free = free; urls = []; rows = refl; line = refl; count = refl; other = λ queue apart. refl }
drained state named (suc n) fit free enough =
    let before = drained state named n fit free (omega (arith, enough)) in
    let mid = (taken_each named n state).state in
    let taken = exchange mid (Next named) in
    let urls = option_to_list (takes named (Ok (Next named)) taken.answer) in
    let sum = length-append before.urls (line_of mid named) in
    let all = ap length before.line in
    let count = before.count in
    let one = one_length (takes named (Ok (Next named)) taken.answer) (next_takes mid named before.fit before.free (omega (arith, sum, all, count, enough))) in
    let flow : line_of mid named ++ [] ≡ urls ++ line_of taken.state named = ((answered_passes mid (Ok (Next named)) before.fit.sound before.fit.settled).flow named).line in
    let fit_now = fit_after mid (Next named) before.fit in
    let more = length-append before.urls urls in
    record {
      fit = fit_after taken.state (Done named) fit_now;
      free = freed taken.state named fit_now;
      urls = before.urls ++ urls;
      rows = (λ i. before.rows i ++ row_is named taken.answer i) ∙ sym (map-append (pending named) before.urls urls);
      line =
          append_assoc before.urls urls (line_of (exchange taken.state (Done named)).state named)
          ∙ ap (λ l. before.urls ++ (urls ++ l)) (done_line taken.state named named fit_now)
          ∙ ap (λ l. before.urls ++ l) (sym flow ∙ append-nil (line_of mid named))
          ∙ before.line;
      count = omega (arith, more, count, one);
      other = λ queue apart. done_line taken.state named queue fit_now ∙ next_line mid named queue before.fit apart ∙ before.other queue apart;
    }

-- ---- all of a queue

pub record Pends (state : Frontier) (named : ℕ) (x : Listed) : Type 0 where
  pub fit : Fit x.state
  pub rows : x.rows ≡ map (λ url. variant.Url Pending named url) (line_of state named)
  pub other : (queue : ℕ) → nat_eq named queue ≡ false → line_of x.state queue ≡ line_of state queue

pub pends : (state : Frontier) (named : ℕ) → Fit state → Pends state named (pending_at state named)
pends state named fit =
    let free = (exchange state (Done named)).state in
    let fit_free = fit_after state (Done named) fit in
    let n = waiting_at free named in
    let many = waits free named fit_free.settled in
    let all = drained free named n fit_free (freed state named fit) (omega (arith, many)) in
    let last = line_of (taken_each named n free).state named in
    let sum = length-append all.urls last in
    let whole = ap length all.line in
    let count = all.count in
    let none : last ≡ [] = nil_from_length last (omega (arith, sum, whole, count, many)) in
    let urls : all.urls ≡ line_of state named = sym (append-nil all.urls) ∙ ap (λ l. all.urls ++ l) (sym none) ∙ all.line ∙ done_line state named named fit in
    record {
      fit = all.fit;
      rows = all.rows ∙ ap (map (pending named)) urls;
      other = λ queue apart. all.other queue apart ∙ done_line state named queue fit;
    }
