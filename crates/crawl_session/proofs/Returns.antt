-- How often a URL is taken, done and put back, according to the answers.
use Rattle.crawl_session.proofs.Prelude.{common_steps, ◌≡◌, ℕ, zero, suc, ◌+◌, ◌≤◌, Bool, true, false, cond, ◌||◌, if◌then◌else◌, is_some, List, [], ◌∷◌, ◌++◌, slice_get, Option, Some, None, Result, refl, sym, ap, subst, ◌∙◌, arith, All, cons_option, bytes_eq, sum_by-append, sum_by-cons, All-append, All-head, All-nil, All-tail, same_text, start_sound, Sound, subqueue_of, Answer, Request, RequestError, AgainIfPutBack, LineAnswer, accepted_of, accepts, line_answers, busy_after, busy_before, busy_from, busy_in, done_urls, finishes, joined_from, joined_of, joins, put_back_urls, puts_back, taken_of, takes, times, Frontier, start, request_for, line_exchange, state_after, Settings}
use Rattle.std.specs.Option.{IfSome, option_or, option_to_list}
use Rattle.crawl_session.proofs.Assigned.{accepted_as_assigned}
use Rattle.crawl_session.proofs.Conserved.{line_of, line_sound, starts_empty, starts_free, starts_settled}
use Rattle.crawl_session.proofs.Flows.{answered_passes}
use Rattle.crawl_session.proofs.Onces.{each_once, joined_is}
use Rattle.crawl_session.proofs.Queues.{Settled, busy_of}

-- ---- lists

abbrev one : List ℕ → List ℕ → ℕ
one url u = cond (bytes_eq u url) 1 0

abbrev pub times_in : List ℕ → Option (List ℕ) → ℕ
times_in url o = times url (option_to_list o)

pub times_on : (url : List ℕ) (o : Option (List ℕ)) (urls : List (List ℕ)) → times url (cons_option o urls) ≡ times_in url o + times url urls
times_on url o urls = grind (arith, common_steps, sum_by-cons)

pub times_append : (url : List ℕ) (front back : List (List ℕ)) → times url (front ++ back) ≡ times url front + times url back
times_append url front back = sum_by-append (one url) front back

-- a URL that has no index does not occur, and one that has at most one index occurs at most once
no_place : (url : List ℕ) (urls : List (List ℕ)) → ((i : ℕ) → slice_get urls i ≡ Some url → ⊥) → times url urls ≡ 0
no_place url [] none = refl
no_place url (u ∷ urls) none = by_first (bytes_eq u url) refl (no_place url urls (λ i at. none (suc i) at))
  where
    by_first : (b : Bool) → bytes_eq u url ≡ b → times url urls ≡ 0 → times url (u ∷ urls) ≡ 0
    by_first true same rest = absurd (none zero (ap Some (same_text u url same)))
    by_first false other rest =
        let all = sum_by-cons (one url) u urls in
        let first : one url u ≡ 0 = ap {B = ℕ} (λ b. cond b 1 0) other in
        omega (arith, all, first, rest)

one_place : (url : List ℕ) (urls : List (List ℕ)) → ((i j : ℕ) → slice_get urls i ≡ Some url → slice_get urls j ≡ Some url → i ≡ j) → times url urls ≤ 1
one_place url [] once = omega arith
one_place url (u ∷ urls) once = by_first (bytes_eq u url) refl (one_place url urls (λ i j at_i at_j. (let e = once (suc i) (suc j) at_i at_j in omega (arith, e))))
  where
    by_first : (b : Bool) → bytes_eq u url ≡ b → times url urls ≤ 1 → times url (u ∷ urls) ≤ 1
    by_first true same few =
        let all = sum_by-cons (one url) u urls in
        let first : one url u ≡ 1 = ap {B = ℕ} (λ b. cond b 1 0) same in
        let rest = no_place url urls (λ i at. (let e = once (suc i) zero at (ap Some (same_text u url same)) in absurd (omega (arith, e)))) in
        omega (arith, all, first, rest)
    by_first false other few =
        let all = sum_by-cons (one url) u urls in
        let first : one url u ≡ 0 = ap {B = ℕ} (λ b. cond b 1 0) other in
        omega (arith, all, first, few)

-- ---- a URL joins when it is accepted, and when it is put back

join_times : (url : List ℕ) (queue : ℕ) (r : Result Request RequestError) (answer : Answer) (busy : Option (List ℕ))
    → times_in url (joins queue busy (record { request = r; answer = answer })) ≡ times_in url (accepts queue r answer) + times_in url (if puts_back queue r answer then busy else None)
join_times url queue r answer busy = grind arith

abbrev was_put_back : ℕ → LineAnswer → Bool
was_put_back queue x = puts_back queue x.request x.answer

abbrev was_done : ℕ → LineAnswer → Bool
was_done queue x = finishes queue x.request x.answer

pub joined_times : (url : List ℕ) (queue : ℕ) (busy : Option (List ℕ)) (line_answers : List LineAnswer)
    → times url (joined_from queue busy line_answers) ≡ times url (accepted_of queue line_answers) + times url (busy_before (was_put_back queue) queue busy line_answers)
joined_times url queue busy [] = refl
joined_times url queue busy (x ∷ more) =
    let next = busy_after queue busy x in
    let later = joined_times url queue next more in
    let first = join_times url queue x.request x.answer busy in
    let joined = times_on url (joins queue busy x) (joined_from queue next more) in
    let accepted = times_on url (accepts queue x.request x.answer) (accepted_of queue more) in
    let put = times_on url (if was_put_back queue x then busy else None) (busy_before (was_put_back queue) queue next more) in
    omega (arith, later, first, joined, accepted, put)

-- ---- each time that it is taken it is done or put back

abbrev Line : List ℕ → ℕ → Result Request RequestError → Answer → Option (List ℕ) → Option (List ℕ) → Type 0
Line url queue r answer busy next =
    times_in url (takes queue r answer) + times_in url busy ≡ (times_in url (if finishes queue r answer then busy else None) + times_in url (if puts_back queue r answer then busy else None)) + times_in url next

line_times : (url : List ℕ) (queue : ℕ) (r : Result Request RequestError) (answer : Answer) (busy next : Option (List ℕ)) → next ≡ (if finishes queue r answer || puts_back queue r answer then None else option_or (takes queue r answer) busy)
    → (is_some (takes queue r answer) ≡ true → busy ≡ None) → Line url queue r answer busy next
line_times url queue r answer busy next is free = grind arith

taken_times : (url : List ℕ) (settings : Settings) (state : Frontier) (lines : List (List ℕ)) (queue : ℕ) (busy : Option (List ℕ)) → Sound state.machine → Settled state → busy ≡ busy_of state queue
    → times url (taken_of queue (line_answers settings state lines)) + times_in url busy
    ≡ (times url (busy_before (was_done queue) queue busy (line_answers settings state lines)) + times url (busy_before (was_put_back queue) queue busy (line_answers settings state lines))) + times_in url (busy_from queue busy (line_answers settings state lines))
taken_times url settings state [] queue busy sound settled is = refl
taken_times url settings state (line ∷ more) queue busy sound settled is =
    let r = request_for settings line in
    let here = line_exchange settings state line in
    let rest = line_answers settings here.state more in
    let x : LineAnswer = record { request = r; answer = here.answer } in
    let passes = answered_passes state r sound settled in
    let flow = passes.flow queue in
    let next = busy_after queue busy x in
    let now : next ≡ busy_of here.state queue = ap (λ o. busy_after queue o x) is ∙ sym flow.busy in
    let later = taken_times url settings here.state more queue next (line_sound settings state line sound) passes.settled now in
    let first = line_times url queue r here.answer busy next refl (λ some. is ∙ flow.free some) in
    let taken = times_on url (takes queue r here.answer) (taken_of queue rest) in
    let done = times_on url (if was_done queue x then busy else None) (busy_before (was_done queue) queue next rest) in
    let put = times_on url (if was_put_back queue x then busy else None) (busy_before (was_put_back queue) queue next rest) in
    omega (arith, later, first, taken, done, put)

-- the URL that a queue is busy with according to the answers is the one that it is busy with
pub busy_is : (settings : Settings) (state : Frontier) (lines : List (List ℕ)) (queue : ℕ) (busy : Option (List ℕ)) → Sound state.machine → Settled state → busy ≡ busy_of state queue → busy_from queue busy (line_answers settings state lines) ≡ busy_of (state_after settings state lines) queue
busy_is settings state [] queue busy sound settled is = is
busy_is settings state (line ∷ more) queue busy sound settled is =
    let r = request_for settings line in
    let here = line_exchange settings state line in
    let x : LineAnswer = record { request = r; answer = here.answer } in
    let passes = answered_passes state r sound settled in
    busy_is settings here.state more queue (busy_after queue busy x) (line_sound settings state line sound) passes.settled (ap (λ o. busy_after queue o x) is ∙ sym (passes.flow queue).busy)

-- ---- what holds of each URL that is accepted holds of each that is taken

some_all : (P : List ℕ → Type 0) (o : Option (List ℕ)) → IfSome o P → All P (option_to_list o)
some_all P o holds = grind arith

all_after : (P : List ℕ → Type 0) (o : Option (List ℕ)) (urls : List (List ℕ)) → All P (option_to_list o ++ urls) → IfSome o P × All P urls
all_after P None urls all = (tt, all)
all_after P (Some url) urls all = (All-head P url urls all, All-tail P url urls all)

joins_hold : (P : List ℕ → Type 0) (b : Bool) (busy accepted : Option (List ℕ)) → IfSome busy P → IfSome accepted P → IfSome (if b then busy else accepted) P
joins_hold P b busy accepted first second = grind arith

busy_holds : (P : List ℕ → Type 0) (b : Bool) (taken busy : Option (List ℕ)) → IfSome taken P → IfSome busy P → IfSome (if b then None else option_or taken busy) P
busy_holds P b taken busy first second = grind arith

got : (P : List ℕ → Type 0) (o : Option (List ℕ)) (urls : List (List ℕ)) → IfSome o P → ((k : ℕ) (url : List ℕ) → slice_get urls k ≡ Some url → P url) → (k : ℕ) (url : List ℕ) → slice_get (cons_option o urls) k ≡ Some url → P url
got P o urls first rest k url at = grind arith

if_some : (P : List ℕ → Type 0) (o : Option (List ℕ)) → ((url : List ℕ) → o ≡ Some url → P url) → IfSome o P
if_some P o each = grind arith

taken_where : (P : List ℕ → Type 0) (settings : Settings) (queue : ℕ) → ((state : Frontier) (line url : List ℕ) → accepts queue (request_for settings line) (line_exchange settings state line).answer ≡ Some url → P url)
    → (state : Frontier) (lines : List (List ℕ)) → Sound state.machine → Settled state → All P (line_of state queue) → IfSome (busy_of state queue) P
    → (k : ℕ) (url : List ℕ) → slice_get (taken_of queue (line_answers settings state lines)) k ≡ Some url → P url
taken_where P settings queue each state [] sound settled waits busy k url at = absurd (cc)
taken_where P settings queue each state (line ∷ more) sound settled waits busy k url at =
    let r = request_for settings line in
    let here = line_exchange settings state line in
    let x : LineAnswer = record { request = r; answer = here.answer } in
    let passes = answered_passes state r sound settled in
    let flow = passes.flow queue in
    let accepted = if_some P (accepts queue r here.answer) (each state line) in
    let joined = some_all P (joins queue (busy_of state queue) x) (joins_hold P (puts_back queue r here.answer) (busy_of state queue) (accepts queue r here.answer) busy accepted) in
    let following = all_after P (takes queue r here.answer) (line_of here.state queue) (subst (All P) flow.line (All-append P (line_of state queue) (option_to_list (joins queue (busy_of state queue) x)) waits joined)) in
    let next = subst (λ o. IfSome o P) (sym flow.busy) (busy_holds P (finishes queue r here.answer || puts_back queue r here.answer) (takes queue r here.answer) (busy_of state queue) following.0 busy) in
    got P (takes queue r here.answer) (taken_of queue (line_answers settings here.state more)) following.0
    (taken_where P settings queue each here.state more (line_sound settings state line sound) passes.settled following.1 next) k url at

accepted_first : (settings : Settings) (queue : ℕ) (state : Frontier) (line url : List ℕ) → accepts queue (request_for settings line) (line_exchange settings state line).answer ≡ Some url → queue ≡ subqueue_of url settings.workers
accepted_first settings queue state line url is = accepted_as_assigned settings state (line ∷ []) queue zero url (ap (λ (o : Option (List ℕ)). slice_get (cons_option o []) zero) is)

-- ---- a new session

-- of one queue and URL
pub record Sums (settings : Settings) (max : ℕ) (lines : List (List ℕ)) (queue : ℕ) (url : List ℕ) : Type 0 where
  pub joined : times url (joined_of queue (line_answers settings (start settings.workers max) lines)) ≡ times url (accepted_of queue (line_answers settings (start settings.workers max) lines)) + times url (put_back_urls queue (line_answers settings (start settings.workers max) lines))
  pub ended : times url (taken_of queue (line_answers settings (start settings.workers max) lines)) ≡ times url (done_urls queue (line_answers settings (start settings.workers max) lines)) + times url (put_back_urls queue (line_answers settings (start settings.workers max) lines)) + times_in url (busy_in queue (line_answers settings (start settings.workers max) lines))

pub sums : (settings : Settings) (max : ℕ) (lines : List (List ℕ)) (queue : ℕ) (url : List ℕ) → Sums settings max lines queue url
sums settings max lines queue url =
    let begun = start settings.workers max in
    let taken = taken_times url settings begun lines queue None (start_sound settings.workers max) (starts_settled settings.workers max) (sym (starts_free settings.workers max queue)) in
    record {
      joined = joined_times url queue None (line_answers settings begun lines);
      ended = omega (arith, taken);
    }

pub again_if_put_back : (settings : Settings) (max : ℕ) (lines : List (List ℕ)) → AgainIfPutBack settings.workers (line_answers settings (start settings.workers max) lines)
again_if_put_back settings max lines = record {
  own = λ queue k url at. taken_where (λ u. queue ≡ subqueue_of u settings.workers) settings queue (accepted_first settings queue) begun lines (start_sound settings.workers max) (starts_settled settings.workers max)
      (subst (All (λ u. queue ≡ subqueue_of u settings.workers)) (sym (starts_empty settings.workers max queue)) (All-nil (λ u. queue ≡ subqueue_of u settings.workers)))
      (subst (λ o. IfSome o (λ u. queue ≡ subqueue_of u settings.workers)) (sym (starts_free settings.workers max queue)) tt) k url at;
  taken = few;
  ended = λ queue url. (sums settings max lines queue url).ended;
  done = λ queue url. let ended = (sums settings max lines queue url).ended in let most = few queue url in omega (arith, ended, most);
}
  where
    begun : Frontier
    begun = start settings.workers max

    few : (queue : ℕ) (url : List ℕ) → times url (taken_of queue (line_answers settings begun lines)) ≤ suc (times url (put_back_urls queue (line_answers settings begun lines)))
    few queue url =
        let all = line_answers settings begun lines in
        let joined = (sums settings max lines queue url).joined in
        let split = ap (times url) (joined_is settings max lines queue) ∙ times_append url (taken_of queue all) (line_of (state_after settings begun lines) queue) in
        let once = one_place url (accepted_of queue all) (λ i j. (each_once settings max lines).once queue i j url) in
        omega (arith, joined, split, once)
