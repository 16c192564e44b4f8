-- What waited in a queue, followed by what joined it, is what was taken from it, followed by what waits.
use Rattle.crawl_session.proofs.Prelude.{common_steps, ◌≡◌, ℕ, zero, suc, ◌+◌, Bool, true, cond, ◌||◌, if◌then◌else◌, is_some, List, [], ◌∷◌, ◌++◌, length, get_or, replicate, slice_get, Option, Some, None, Result, refl, sym, ap, subst, ◌∙◌, arith, append-nil, cons_option, option_or, option_to_list, length-replicate, sum_by-cons, Event, Reply, one_if, Run, State, Subqueue, empty_subqueue, Sound, gate_effect, Answer, Request, RequestError, LineAnswer, accepted_of, accepts, line_answers, busy_after, done_of, finishes, joined_from, joins, put_back_of, puts_back, taken_of, takes, Deferrals, Frontier, deferrals_at, no_deferrals, start, request_for, answered, line_exchange, state_after, Settings}
use Rattle.crawl_session.proofs.Flows.{answered_passes}
use Rattle.crawl_session.proofs.Joined.{busy_at, line_at}
use Rattle.crawl_session.proofs.Queues.{Settled, busy_of, queue_at}
use Rattle.crawl_session.proofs.Runs.{answered_runs}

-- what waits in a queue, in order
abbrev pub line_of : Frontier → ℕ → List (List ℕ)
line_of state queue = line_at (queue_at state queue) (deferrals_at state queue).waiting

-- ---- what runs preserve

sound_run : (old : State) (history : List (Event × Reply)) (new : State) → Sound old → Run old history new → Sound new
sound_run old [] new sound run = subst Sound (sym run) sound
sound_run old (x ∷ xs) new sound run = sound_run run.0 xs new (subst Sound (sym run.1.state_is) (gate_effect old sound x.0).sound) run.2

pub answered_sound : (state : Frontier) (r : Result Request RequestError) → Sound state.machine → Sound (answered state r).state.machine
answered_sound state r sound = sound_run state.machine (answered state r).history (answered state r).state.machine sound (answered_runs state r)

pub line_sound : (settings : Settings) (state : Frontier) (line : List ℕ) → Sound state.machine → Sound (line_exchange settings state line).state.machine
line_sound settings state line sound = answered_sound state (request_for settings line) sound

-- ---- the URLs

pub put_on : {A : Type 0} (o : Option A) (xs : List A) → cons_option o xs ≡ option_to_list o ++ xs
put_on o xs = grind arith

-- the effect of one line, joined to that of the lines after it
joint : (waits next more taken last : List (List ℕ)) (j t : Option (List ℕ)) → waits ++ option_to_list j ≡ option_to_list t ++ next → next ++ more ≡ taken ++ last → waits ++ cons_option j more ≡ cons_option t taken ++ last
joint waits next more taken last j t here later = grind (arith, common_steps, put_on)

pub conserved : (settings : Settings) (state : Frontier) (lines : List (List ℕ)) (queue : ℕ) → Sound state.machine → Settled state
    → line_of state queue ++ joined_from queue (busy_of state queue) (line_answers settings state lines) ≡ taken_of queue (line_answers settings state lines) ++ line_of (state_after settings state lines) queue
conserved settings state [] queue sound settled = append-nil (line_of state queue)
conserved settings state (line ∷ more) queue sound settled =
    let r = request_for settings line in
    let here = line_exchange settings state line in
    let rest = line_answers settings here.state more in
    let x : LineAnswer = record { request = r; answer = here.answer } in
    let passes = answered_passes state r sound settled in
    let flow = passes.flow queue in
    let last = line_of (state_after settings here.state more) queue in
    let later = conserved settings here.state more queue (line_sound settings state line sound) passes.settled in
    let next : line_of here.state queue ++ joined_from queue (busy_after queue (busy_of state queue) x) rest ≡ taken_of queue rest ++ last =
    subst (λ (o : Option (List ℕ)). line_of here.state queue ++ joined_from queue o rest ≡ taken_of queue rest ++ last) flow.busy later in
    joint (line_of state queue) (line_of here.state queue) (joined_from queue (busy_after queue (busy_of state queue) x) rest) (taken_of queue rest) last (joins queue (busy_of state queue) x) (takes queue r here.answer) flow.line next

pub settled_after_lines : (settings : Settings) (state : Frontier) (lines : List (List ℕ)) → Sound state.machine → Settled state → Sound (state_after settings state lines).machine × Settled (state_after settings state lines)
settled_after_lines settings state [] sound settled = (sound, settled)
settled_after_lines settings state (line ∷ more) sound settled =
    settled_after_lines settings (line_exchange settings state line).state more (line_sound settings state line sound) (answered_passes state (request_for settings line) sound settled).settled

-- ---- the numbers of URLs

abbrev count : Bool → ℕ
count b = cond b 1 0

abbrev Line : ℕ → Result Request RequestError → Answer → Option (List ℕ) → Option (List ℕ) → Type 0
Line queue r answer busy next =
    one_if (is_some (takes queue r answer)) + one_if (is_some busy) ≡ (count (finishes queue r answer) + count (puts_back queue r answer)) + one_if (is_some next)

counts_line : (queue : ℕ) (r : Result Request RequestError) (answer : Answer) (busy next : Option (List ℕ)) → next ≡ (if finishes queue r answer || puts_back queue r answer then None else option_or (takes queue r answer) busy)
    → ((finishes queue r answer || puts_back queue r answer) ≡ true → is_some busy ≡ true) → (is_some (takes queue r answer) ≡ true → busy ≡ None) → Line queue r answer busy next
counts_line queue r answer busy next is was free = grind arith

length_on : {A : Type 0} (o : Option A) (xs : List A) → length (cons_option o xs) ≡ one_if (is_some o) + length xs
length_on o xs = grind arith

-- the number of URLs taken is the number of fetches that ended, apart from a fetch in progress before or after
pub counted_takes : (settings : Settings) (state : Frontier) (lines : List (List ℕ)) (queue : ℕ) → Sound state.machine → Settled state
    → length (taken_of queue (line_answers settings state lines)) + one_if (is_some (busy_of state queue)) ≡ (done_of queue (line_answers settings state lines) + put_back_of queue (line_answers settings state lines)) + one_if (is_some (busy_of (state_after settings state lines) queue))
counted_takes settings state [] queue sound settled = refl
counted_takes settings state (line ∷ more) queue sound settled =
    let r = request_for settings line in
    let here = line_exchange settings state line in
    let rest = line_answers settings here.state more in
    let x : LineAnswer = record { request = r; answer = here.answer } in
    let passes = answered_passes state r sound settled in
    let flow = passes.flow queue in
    let later = counted_takes settings here.state more queue (line_sound settings state line sound) passes.settled in
    let first = counts_line queue r here.answer (busy_of state queue) (busy_of here.state queue) flow.busy flow.was flow.free in
    let taken = length_on (takes queue r here.answer) (taken_of queue rest) in
    let done = sum_by-cons (λ (y : LineAnswer). cond (finishes queue y.request y.answer) 1 0) x rest in
    let put = sum_by-cons (λ (y : LineAnswer). cond (puts_back queue y.request y.answer) 1 0) x rest in
    omega (arith, later, first, taken, done, put)

-- the number of URLs that joined is the number that were accepted plus the number that were put back
join_counts : (queue : ℕ) (r : Result Request RequestError) (answer : Answer) (busy : Option (List ℕ)) → ((finishes queue r answer || puts_back queue r answer) ≡ true → is_some busy ≡ true) → one_if (is_some (joins queue busy (record { request = r; answer = answer }))) ≡ one_if (is_some (accepts queue r answer)) + count (puts_back queue r answer)
join_counts queue r answer busy was = grind arith

pub counted_joins : (settings : Settings) (state : Frontier) (lines : List (List ℕ)) (queue : ℕ) → Sound state.machine → Settled state
    → length (joined_from queue (busy_of state queue) (line_answers settings state lines)) ≡ length (accepted_of queue (line_answers settings state lines)) + put_back_of queue (line_answers settings state lines)
counted_joins settings state [] queue sound settled = refl
counted_joins settings state (line ∷ more) queue sound settled =
    let r = request_for settings line in
    let here = line_exchange settings state line in
    let rest = line_answers settings here.state more in
    let x : LineAnswer = record { request = r; answer = here.answer } in
    let passes = answered_passes state r sound settled in
    let flow = passes.flow queue in
    let next : length (joined_from queue (busy_after queue (busy_of state queue) x) rest) ≡ length (accepted_of queue rest) + put_back_of queue rest =
    subst (λ (o : Option (List ℕ)). length (joined_from queue o rest) ≡ length (accepted_of queue rest) + put_back_of queue rest) flow.busy (counted_joins settings here.state more queue (line_sound settings state line sound) passes.settled) in
    let joined = length_on (joins queue (busy_of state queue) x) (joined_from queue (busy_after queue (busy_of state queue) x) rest) in
    let accepted = length_on (accepts queue r here.answer) (accepted_of queue rest) in
    let first = join_counts queue r here.answer (busy_of state queue) flow.was in
    let put = sum_by-cons (λ (y : LineAnswer). cond (puts_back queue y.request y.answer) 1 0) x rest in
    omega (arith, next, joined, accepted, first, put)

-- ---- a new session

new_queue : (P : Option Subqueue → Type 0) (workers queue : ℕ) → P None → P (Some empty_subqueue) → P (slice_get (replicate workers empty_subqueue) queue)
new_queue P zero queue none some = none
new_queue P (suc workers) zero none some = some
new_queue P (suc workers) (suc queue) none some = new_queue P workers queue none some

pub new_deferrals : (workers queue : ℕ) → get_or (replicate workers no_deferrals) queue no_deferrals ≡ no_deferrals
new_deferrals zero queue = refl
new_deferrals (suc workers) zero = refl
new_deferrals (suc workers) (suc queue) = new_deferrals workers queue

pub starts_settled : (workers max : ℕ) → Settled (start workers max)
starts_settled workers max = grind (arith, length-replicate, queue_at, new_deferrals)

pub starts_empty : (workers max queue : ℕ) → line_of (start workers max) queue ≡ []
starts_empty workers max queue =
    ap (λ (d : Deferrals). line_at (queue_at (start workers max) queue) d.waiting) (new_deferrals workers queue)
    ∙ new_queue (λ o. line_at o [] ≡ []) workers queue refl refl

pub starts_free : (workers max queue : ℕ) → busy_of (start workers max) queue ≡ None
starts_free workers max queue =
    ap (λ (d : Deferrals). busy_at (queue_at (start workers max) queue) d.fetched) (new_deferrals workers queue)
    ∙ new_queue (λ o. busy_at o None ≡ None) workers queue refl refl
