-- The laws of whole runs.
use Rattle.crawl_core.proofs.Prelude.{cond, ◌≡◌, inl, inr, ℕ, zero, suc, ◌-◌, ◌<◌, ◌≤◌, Bool, true, false, List, [], ◌∷◌, ◌++◌, length, take, drop, map, nat_eq, slice_get, Option, Some, None, refl, sym, ap, subst, ◌∙◌, arith, eqb-true, ◌||◌, filter_map, if◌then◌else◌, zip, cons_option, Contains, list_any, option_map, append_assoc, length-map, map-append, nil_from_length, take-append-drop, cases_lt, sum_by-append, bytes_eq, bytes_eq-Decides, slice_get_past, Event, Look, Enter, Admit, Back, EndSeeds, Take, Done, Close, Reply, one_if, Message, Subqueue, finished, unfinished, State, start, count_of, take_from, turn, admit_to, Run, IsRun, accepted_by, taken_by, done_by, accepted_in, accepted_urls, taken_urls, done_in, is_quiet, AssignsEachUrl, IsAdmitted, TakesOnce, TakesAsAdmitted, NamesItsSubqueue, StaysClosed, SubqueueInvariant, EachSubqueue, GateInvariant, HasRoom, IsAfter, IsState, IsFinished}
use Rattle.std.proofs.lemmas.List.Elements.{Contains-append_right}
use Rattle.crawl_core.specs.declared.reply.Reply.TheVariants as says
use Rattle.crawl_core.proofs.Places.{from_filter_map, at_rank, rank_below, zip_first, slice_get-map}
use Rattle.crawl_core.proofs.Holders.{rising_differ}
use Rattle.crawl_core.proofs.Effects.{messages, urls_taken, finished_at, cond_both}
use Rattle.crawl_core.proofs.RunParts.{eqb_same, pair_is, run_keeps, run_at, run_split, run_sound, start_sound, start_count, later_place, run_shape, units_out_of, closed_of}
use Rattle.crawl_core.proofs.GateHistory.{opening_of, holders_of, words_of}
use Rattle.crawl_core.proofs.QueueHistory.{History, history_at, url_at, takes_in_order, accepts_once}
use Rattle.crawl_core.proofs.Sound.{Sound, gate_effect, some_is, none_unfinished}

-- ## Invariants

pub subqueue_invariant : (workers max : ℕ) (history : List (Event × Reply)) (state : State) → Run (start workers max) history state → EachSubqueue SubqueueInvariant state
subqueue_invariant workers max history state run = (run_sound workers max history state run).queues

pub gate_invariant : (workers max : ℕ) (history : List (Event × Reply)) (state : State) → HasRoom max → Run (start workers max) history state → GateInvariant state.gate (count_of state)
gate_invariant workers max history state some run =
    let both = run_keeps (λ s. Sound s × (count_of s ≤ s.gate.max)) (λ s sound event. let effect = gate_effect s sound.0 event in (effect.sound, effect.within sound.1)) (start workers max) history state (start_sound workers max, rw (start_count workers max) some) run in
    record { within = both.1; empty = both.0.empty; met = both.0.met; holders = rising_differ 0 state.gate.holders both.0.holders }

-- ## What the history states about a state

length_first : {A : Type 0} (xs : List A) (n : ℕ) → n ≤ length xs → length (take n xs) ≡ n
length_first [] zero within = refl
length_first [] (suc n) within = absurd (omega (arith, within))
length_first (x ∷ xs) zero within = refl
length_first (x ∷ xs) (suc n) within = ap suc (length_first xs n (omega (arith, within)))

after_history : (place : ℕ) (history : List (Event × Reply)) (state : State) (queue : Subqueue) → slice_get state.subqueues place ≡ Some queue → History place history state → IsAfter history place queue
after_history place history state queue at said =
    let inv = said.sound queue at in
    let accepted : accepted_in place history ≡ queue.accepted = rw at at said.accepted in
    let taken : taken_urls place history ≡ map (λ (m : Message). m.url) (take queue.taken queue.accepted) = rw at at said.taken in
    let done : done_in place history ≡ finished queue = rw at at said.done in
    let right_length : length (taken_urls place history) ≡ queue.taken = rw (taken, length-map) (length_first queue.accepted queue.taken inv.within) in
    record {
      accepted = sym accepted;
      taken = sym right_length;
      waits = rw (accepted, taken, ← map-append, take-append-drop queue.taken queue.accepted) refl;
      done = omega (arith, done, right_length, inv.begun);
    }

pub state_of_history : (workers max : ℕ) (history : List (Event × Reply)) (state : State) → Run (start workers max) history state → IsState workers max history state
state_of_history workers max history state run =
    let shape = run_shape workers max history state run in
    record {
      maximum = shape.maximum;
      right_length = shape.right_length;
      queues = λ place queue at. after_history place history state queue at (history_at workers max place history state run);
      no_others = λ place beyond.
          let said = history_at workers max place history state run in
          let none = slice_get_past state.subqueues place (omega (arith, beyond, shape.right_length)) in
          (rw none at said.accepted, rw none at said.taken);
      units = units_out_of workers max history state run;
      closed = closed_of workers max history state run;
      opening = opening_of workers max history state run;
      holders = holders_of workers max history state run;
      remembered = words_of workers max history state run;
    }

-- ## Closing

-- if no unit is held, every URL is finished
finished_at_zero : (state : State) → Sound state → count_of state ≡ 0 → IsFinished state
finished_at_zero state sound none = record {
  opened = no_flag state.gate.opening (omega (arith, none));
  nobody = nil_from_length state.gate.holders (omega (arith, none));
  done = λ place queue at.
      let inv = sound.queues place queue at in
      let unfinished_none = none_unfinished state place queue at none in
      by_flag queue.busy refl queue inv unfinished_none;
}
  where
    no_flag : (b : Bool) → one_if b ≡ 0 → b ≡ false
    no_flag true e = absurd (omega (arith, e))
    no_flag false e = refl

    by_flag : (b : Bool) → b ≡ b → (queue : Subqueue) → SubqueueInvariant queue → unfinished queue ≡ 0 → (queue.taken ≡ length queue.accepted) × (queue.busy ≡ false)
    by_flag b same queue inv none =
        let idle : one_if queue.busy ≡ 0 = omega (arith, none, inv.within, inv.begun) in
        (omega (arith, none, inv.within, idle), no_flag queue.busy idle)

pub closed_means_finished : (workers max : ℕ) (front back : List (Event × Reply)) (event : Event) (end : State) → Run (start workers max) (front ++ (event, says.Closed) ∷ back) end → (state : State) × Run (start workers max) (front ++ (event, says.Closed) ∷ []) state × IsFinished state
closed_means_finished workers max front back event end run =
    let x : Event × Reply = (event, says.Closed) in
    let whole : Run (start workers max) ((front ++ x ∷ []) ++ back) end = rw append_assoc run in
    let parts = run_split (start workers max) (front ++ x ∷ []) back end whole in
    let last = run_split (start workers max) front (x ∷ []) parts.0 parts.1 in
    let sound = run_sound workers max front last.0 last.1 in
    let effect = gate_effect last.0 sound event in
    let state_is : parts.0 ≡ (turn last.0 event).state = last.2.2 ∙ last.2.1.state_is in
    let closed : (turn last.0 event).state.gate.closed ≡ true = effect.closes (sym last.2.1.reply_is) in
    let finished : IsFinished (turn last.0 event).state = finished_at_zero (turn last.0 event).state effect.sound (effect.sound.empty closed) in
    (parts.0, parts.1, subst IsFinished (sym state_is) finished)

pub closed_for_good : (workers max : ℕ) (events : List Event) (replies : List Reply) → IsRun workers max events replies → StaysClosed (zip events replies)
closed_for_good workers max events replies run i j event later below at_i at_j =
    let history = zip events replies in
    let first = run_at (start workers max) history i (event, says.Closed) run.end run.run at_i in
    let sound = run_sound workers max (take i history) first.before first.came in
    let effect = gate_effect first.before sound event in
    let closing : Sound (turn first.before event).state × ((turn first.before event).state.gate.closed ≡ true) = (effect.sound, effect.closes (sym first.step.reply_is)) in
    let P : State → Type 0 = λ s. Sound s × (s.gate.closed ≡ true) in
    let after = subst P (sym first.step.state_is) closing in
    let second = run_at first.after (drop (suc i) history) (j - suc i) later run.end first.goes (later_place history i j later below at_j) in
    let before = run_keeps P (λ s p e. let kept = gate_effect s p.0 e in (kept.sound, (kept.stays p.1).0)) first.after (take (j - suc i) (drop (suc i) history)) second.before after second.came in
    ap is_quiet second.step.reply_is ∙ ((gate_effect second.before before.0 later.0).stays before.1).1

-- ## Admissions

-- an accepted message comes from an admission of its URL, whose reply names the subqueue
accepted_source : (queue : ℕ) (event : Event) (reply : Reply) (m : Message) → accepted_by queue event reply ≡ Some m → (sender place number : ℕ) × (event ≡ Admit sender m.url place) × (reply ≡ says.Accepted queue number)
accepted_source queue (Look s) reply m is = absurd (cc)
accepted_source queue (Enter s) reply m is = absurd (cc)
accepted_source queue (Back s) reply m is = absurd (cc)
accepted_source queue EndSeeds reply m is = absurd (cc)
accepted_source queue (Take q) reply m is = absurd (cc)
accepted_source queue (Done q) reply m is = absurd (cc)
accepted_source queue Close reply m is = absurd (cc)
accepted_source queue (Admit sender url place) (says.Accepted there number) m is = by_test (nat_eq there queue) refl is
  where
    by_test : (b : Bool) → nat_eq there queue ≡ b → (if b then Some (record { url = url; sender = sender; number = number }) else None) ≡ Some m → (from to n : ℕ) × (Admit sender url place ≡ Admit from m.url to) × (says.Accepted there number ≡ says.Accepted queue n)
    by_test true same is = let url_is : url ≡ m.url = ap (λ (x : Message). x.url) (some_is is) in (sender, place, number, rw url_is refl, rw (eqb-true there queue same) refl)
    by_test false other is = absurd (cc)
accepted_source queue (Admit sender url place) _ m is = absurd (cc)

-- the reply `Accepted` names the subqueue of its event
stated_place : (state : State) (sender place : ℕ) (url : List ℕ) (o : Option Subqueue) (there number : ℕ) → says.Accepted there number ≡ (admit_to state sender url place o).reply → there ≡ place
stated_place state sender place url o there number = grind arith

named_in : (workers max : ℕ) (history : List (Event × Reply)) (end : State) → Run (start workers max) history end → NamesItsSubqueue history
named_in workers max history end run k sender queue there number url at =
    let moment = run_at (start workers max) history k (Admit sender url queue, says.Accepted there number) end run at in
    stated_place moment.before sender queue url (slice_get moment.before.subqueues queue) there number moment.step.reply_is

pub names_its_subqueue : (workers max : ℕ) (events : List Event) (replies : List Reply) → IsRun workers max events replies → NamesItsSubqueue (zip events replies)
names_its_subqueue workers max events replies run = named_in workers max (zip events replies) run.end run.run

-- each message that a subqueue accepted was admitted to it
admission : (workers max queue : ℕ) (history : List (Event × Reply)) (end : State) → Run (start workers max) history end → (k : ℕ) (m : Message) → slice_get (accepted_in queue history) k ≡ Some m → (place sender : ℕ) × (reply : Reply) × (slice_get history place ≡ Some (Admit sender m.url queue, reply))
admission workers max queue history end run k m at =
    let source = from_filter_map (λ (x : Event × Reply). accepted_by queue x.0 x.1) history k m at in
    let came = accepted_source queue source.item.0 source.item.1 m source.gives in
    let item : source.item ≡ (Admit came.0 m.url came.1, says.Accepted queue came.2) = pair_is came.3 came.4 in
    let there : slice_get history source.place ≡ Some (Admit came.0 m.url came.1, says.Accepted queue came.2) = source.at ∙ ap Some item in
    let same : queue ≡ came.1 = named_in workers max history end run source.place came.0 came.1 queue came.2 m.url there in
    let At : ℕ → Type 0 = λ q. slice_get history source.place ≡ Some (Admit came.0 m.url q, says.Accepted queue came.2) in
    (source.place, came.0, says.Accepted queue came.2, subst At (sym same) there)

-- a URL that is taken was admitted to the subqueue
pub was_admitted : (workers max : ℕ) (events : List Event) (replies : List Reply) → IsRun workers max events replies → (i queue : ℕ) (url : List ℕ) → slice_get (zip events replies) i ≡ Some (Take queue, says.Taken url) → IsAdmitted events queue url
was_admitted workers max events replies run i queue url at =
    let history = zip events replies in
    let here : taken_by queue (Take queue) (says.Taken url) ≡ Some url = rw (eqb_same queue) refl in
    let taken = at_rank (λ (x : Event × Reply). taken_by queue x.0 x.1) history i (Take queue, says.Taken url) url at here in
    let accepted = takes_in_order workers max events replies run queue _ url taken in
    let message = url_at (accepted_in queue history) _ url accepted in
    let came = admission workers max queue history run.end run.run _ message.0 message.1 in
    let place = zip_first events replies came.0 (Admit came.1 message.0.url queue) came.2 came.3 in
    (came.0, came.1, rw message.2 at place)

pub takes_where_admitted : (workers max : ℕ) (events : List Event) (replies : List Reply) → IsRun workers max events replies → AssignsEachUrl events → TakesAsAdmitted events (zip events replies)
takes_where_admitted workers max events replies run assigned i j sender queue there url at_i at_j =
    let was = was_admitted workers max events replies run i queue url at_i in
    assigned was.0 j was.1 sender url queue there was.2 at_j

-- two takes of the same URL from the same subqueue are the same take
not_before : (workers max : ℕ) (events : List Event) (replies : List Reply) → IsRun workers max events replies → (i j queue : ℕ) (url : List ℕ) → i < j → slice_get (zip events replies) i ≡ Some (Take queue, says.Taken url) → slice_get (zip events replies) j ≡ Some (Take queue, says.Taken url) → ⊥
not_before workers max events replies run i j queue url below at_i at_j =
    let history = zip events replies in
    let h : Event × Reply → Option (List ℕ) = λ x. taken_by queue x.0 x.1 in
    let here : taken_by queue (Take queue) (says.Taken url) ≡ Some url = rw (eqb_same queue) refl in
    let first = takes_in_order workers max events replies run queue _ url (at_rank h history i (Take queue, says.Taken url) url at_i here) in
    let second = takes_in_order workers max events replies run queue _ url (at_rank h history j (Take queue, says.Taken url) url at_j here) in
    let same = accepts_once workers max events replies run queue _ _ url first second in
    let apart = rank_below h history i j (Take queue, says.Taken url) url below at_i here in
    omega (arith, same, apart)

pub takes_once : (workers max : ℕ) (events : List Event) (replies : List Reply) → IsRun workers max events replies → AssignsEachUrl events → TakesOnce (zip events replies)
takes_once workers max events replies run assigned i j queue there url at_i at_j =
    let first = was_admitted workers max events replies run i queue url at_i in
    let second = was_admitted workers max events replies run j there url at_j in
    let same : queue ≡ there = assigned first.0 second.0 first.1 second.1 url queue there first.2 second.2 in
    let at_i' : slice_get (zip events replies) i ≡ Some (Take there, says.Taken url) = rw same at at_i in
    elim (cases_lt i j) [
      | inl below ↦ absurd (not_before workers max events replies run i j there url below at_i' at_j)
      | inr least ↦ elim (cases_lt j i) [
        | inl below ↦ absurd (not_before workers max events replies run j i there url below at_j at_i')
        | inr most ↦ omega (arith, least, most)
      ]
    ]

-- a message that a state has was admitted
pub message_was_admitted : (workers max : ℕ) (history : List (Event × Reply)) (state : State) → Run (start workers max) history state → (queue k : ℕ) (found : Subqueue) (m : Message) → slice_get state.subqueues queue ≡ Some found → slice_get found.accepted k ≡ Some m → IsAdmitted (map (λ (x : Event × Reply). x.0) history) queue m.url
message_was_admitted workers max history state run queue k found m at at_k =
    let said = history_at workers max queue history state run in
    let accepted : accepted_in queue history ≡ found.accepted = rw at at said.accepted in
    let came = admission workers max queue history state run k m (rw accepted at_k) in
    let event : Event × Reply → Event = λ x. x.0 in
    (came.0, came.1, slice_get-map event history came.0 ∙ ap (option_map event) came.3)

-- ## What the history of a closed run states

closing_accepts : (queue : ℕ) (event : Event) → accepted_by queue event says.Closed ≡ None
closing_accepts queue event = grind arith

closing_takes : (queue : ℕ) (event : Event) → taken_by queue event says.Closed ≡ None
closing_takes queue event = grind arith

-- a `filter_map` over a list is not changed by a last element that gives nothing
filter_map-last : {X Y : Type 0} (h : X → Option Y) (xs : List X) (x : X) → h x ≡ None → filter_map h (xs ++ x ∷ []) ≡ filter_map h xs
filter_map-last h [] x none = rw none refl
filter_map-last h (y ∷ ys) x none = ap (cons_option (h y)) (filter_map-last h ys x none)

take_all : {A : Type 0} (xs : List A) (n : ℕ) → n ≡ length xs → take n xs ≡ xs
take_all [] zero e = refl
take_all [] (suc n) e = refl
take_all (x ∷ xs) zero e = absurd (omega (arith, e))
take_all (x ∷ xs) (suc n) e = ap (λ ys. x ∷ ys) (take_all xs n (omega (arith, e)))

-- all URLs of a subqueue that has none left were taken
taken_whole : (o : Option Subqueue) → ((found : Subqueue) → o ≡ Some found → found.taken ≡ length found.accepted) → urls_taken o ≡ map (λ m. m.url) (messages o)
taken_whole o all = grind (arith, take_all)

pub drained : (workers max : ℕ) (front back : List (Event × Reply)) (event : Event) (end : State) → Run (start workers max) (front ++ (event, says.Closed) ∷ back) end → (queue : ℕ) → taken_urls queue front ≡ accepted_urls queue front
drained workers max front back event end run queue =
    let x : Event × Reply = (event, says.Closed) in
    let finished = closed_means_finished workers max front back event end run in
    let said = history_at workers max queue (front ++ x ∷ []) finished.0 finished.1 in
    let whole = taken_whole (slice_get finished.0.subqueues queue) (λ found at. (finished.2.done queue found at).0) in
    let taken = filter_map-last (λ (y : Event × Reply). taken_by queue y.0 y.1) front x (closing_takes queue event) in
    let accepted = filter_map-last (λ (y : Event × Reply). accepted_by queue y.0 y.1) front x (closing_accepts queue event) in
    sym taken ∙ said.taken ∙ whole ∙ ap (map (λ (m : Message). m.url)) (sym said.accepted ∙ accepted)

closing_done : (queue : ℕ) (event : Event) → done_by queue event says.Closed ≡ false
closing_done queue event = grind arith

-- if nothing is being fetched, the number of finished URLs is the number of URLs that were taken
done_whole : (o : Option Subqueue) → ((found : Subqueue) → o ≡ Some found → (found.busy ≡ false) × (found.taken ≤ length found.accepted)) → finished_at o ≡ length (urls_taken o)
done_whole o all = grind (arith, length_first, length-map)

pub all_done : (workers max : ℕ) (front back : List (Event × Reply)) (event : Event) (end : State) → Run (start workers max) (front ++ (event, says.Closed) ∷ back) end → (queue : ℕ) → done_in queue front ≡ length (taken_urls queue front)
all_done workers max front back event end run queue =
    let x : Event × Reply = (event, says.Closed) in
    let finished = closed_means_finished workers max front back event end run in
    let said = history_at workers max queue (front ++ x ∷ []) finished.0 finished.1 in
    let whole = done_whole (slice_get finished.0.subqueues queue) (λ found at. ((finished.2.done queue found at).1, (said.sound found at).within)) in
    let taken = filter_map-last (λ (y : Event × Reply). taken_by queue y.0 y.1) front x (closing_takes queue event) in
    let done : done_in queue (front ++ x ∷ []) ≡ done_in queue front = rw (sum_by-append (λ (y : Event × Reply). cond (done_by queue y.0 y.1) 1 0) front (x ∷ []), closing_done queue event) (omega arith) in
    sym done ∙ said.done ∙ whole ∙ ap length (sym said.taken ∙ taken)

-- an accepted URL is among the accepted URLs
accepted_among : (xs : List Message) (url : List ℕ) → list_any (λ (m : Message). bytes_eq m.url url) xs ≡ true → Contains (map (λ (m : Message). m.url) xs) url
accepted_among [] url e = absurd (cc)
accepted_among (x ∷ xs) url e = by_first (bytes_eq x.url url) refl (accepted_among xs url) e
  where
    by_first : (b : Bool) → bytes_eq x.url url ≡ b → (list_any (λ (m : Message). bytes_eq m.url url) xs ≡ true → Contains (map (λ (m : Message). m.url) xs) url) → (b || list_any (λ (m : Message). bytes_eq m.url url) xs) ≡ true → Contains (map (λ (m : Message). m.url) (x ∷ xs)) url
    by_first true here rest _ = rw (← (bytes_eq-Decides x.url url).0 here) (0, omega arith, refl)
    by_first false _ rest later = Contains-append_right (x.url ∷ []) (map (λ (m : Message). m.url) xs) url (rest later)

-- a reply `Seen` was given by a subqueue that had accepted the URL
seen_by : (state : State) (sender place : ℕ) (url : List ℕ) (o : Option Subqueue) → says.Seen ≡ (admit_to state sender url place o).reply → Contains (map (λ (m : Message). m.url) (messages o)) url
seen_by state sender place url o = grind (arith, cond_both, accepted_among)

pub seen_means_accepted : (workers max : ℕ) (front back : List (Event × Reply)) (sender queue : ℕ) (url : List ℕ) (end : State) → Run (start workers max) (front ++ (Admit sender url queue, says.Seen) ∷ back) end → Contains (accepted_urls queue front) url
seen_means_accepted workers max front back sender queue url end run = grind (arith, run_split, history_at, seen_by)

-- ## Empty

get_none : {A : Type 0} (xs : List A) (n : ℕ) → slice_get xs n ≡ None → length xs ≤ n
get_none [] n none = omega arith
get_none (x ∷ xs) zero none = absurd (cc)
get_none (x ∷ xs) (suc n) none = let rest = get_none xs n none in omega (arith, rest)

-- the first n elements are the whole list if n is at least its length
take_beyond : {A : Type 0} (xs : List A) (n : ℕ) → length xs ≤ n → take n xs ≡ xs
take_beyond [] zero beyond = refl
take_beyond [] (suc n) beyond = refl
take_beyond (x ∷ xs) zero beyond = absurd (omega (arith, beyond))
take_beyond (x ∷ xs) (suc n) beyond = ap (λ ys. x ∷ ys) (take_beyond xs n (omega (arith, beyond)))

-- a reply `Empty` was given by a subqueue with nothing left
empty_by : (state : State) (place : ℕ) (o : Option Subqueue) → says.Empty ≡ (take_from state place o).reply → urls_taken o ≡ map (λ (m : Message). m.url) (messages o)
empty_by state place o = grind (arith, urls_taken, cond_both, take_beyond, get_none)

pub empty_means_taken : (workers max : ℕ) (front back : List (Event × Reply)) (queue : ℕ) (end : State) → Run (start workers max) (front ++ (Take queue, says.Empty) ∷ back) end → taken_urls queue front ≡ accepted_urls queue front
empty_means_taken workers max front back queue end run = grind (arith, run_split, history_at, empty_by)
