-- The numbers of `seen` are those of the answers.
use Rattle.crawl_session.proofs.Prelude.{◌≡◌, ℕ, ◌+◌, ◌-◌, ◌<◌, ◌≤◌, ◌^◌, Bool, true, false, if◌then◌else◌, nat_eq, List, [], ◌∷◌, length, get_or, slice_get, Option, Some, None, Result, Ok, Err, refl, sym, ap, subst, ◌∙◌, arith, replicate, length-replicate, sum_by-cons, eqb-false, eqb-true, get_or-set_other, get_or-set_same, length-slice_set, slice_get-get_or, Answer, Replied, Request, Offer, Next, Again, Later, Done, EndSeeds, Seen, Stats, RequestError, LineAnswer, line_answers, seen_by, seen_of, Frontier, start, answered, exchange, seen_reply, request_for, line_exchange, state_after, Settings}
use Rattle.std.proofs.lemmas.List.{get_or-replicate}
use Rattle.std.specs.Prelude.{min}
use Rattle.crawl_session.specs.Seen.{add_seen, none_seen, seen_with, sum_of}
use Rattle.crawl_session.proofs.Noted.{answered_seen, seen_next}
use Rattle.crawl_session.proofs.Queues.{one_queue}

-- the number of a queue
abbrev pub seen_at : Frontier → ℕ → ℕ
seen_at state queue = get_or state.seen queue 0

-- ---- one request

-- a number of `seen` is at most the largest that the program counts to
abbrev pub Small : ℕ → Type 0
Small n = n ≤ 2 ^ 64 - 1

none_more : (n : ℕ) → Small n → n ≡ sum_of n 0
none_more n small = omega (arith, small)

-- of each queue, what is added is what is counted for it
add_counts : (seen : List ℕ) (named queue count : ℕ) → queue < length seen → Small (get_or seen queue 0) → get_or (add_seen named count seen) queue 0 ≡ sum_of (get_or seen queue 0) (if nat_eq named queue then count else 0)
add_counts seen named queue count inside small =
    one_queue named queue (λ b q. q < length seen → Small (get_or seen q 0) → get_or (add_seen named count seen) q 0 ≡ sum_of (get_or seen q 0) (if b then count else 0))
    (λ inside small. get_or-set_same seen named (sum_of (get_or seen named 0) count) 0 inside)
    (λ apart inside small. get_or-set_other seen named queue (sum_of (get_or seen named 0) count) 0 (λ same. eqb-false named queue apart (sym same)) ∙ none_more (get_or seen queue 0) small)
    inside small

offer_counts : (seen : List ℕ) (url : List ℕ) (named queue : ℕ) (answer : Answer) → queue < length seen → Small (get_or seen queue 0) → get_or (seen_with named answer seen) queue 0 ≡ sum_of (get_or seen queue 0) (seen_by queue (Ok (Offer url named)) answer)
offer_counts seen url named queue answer inside small = grind (arith, add_counts, none_more)

-- a queue that there is not counts nothing
count_counts : (seen : List ℕ) (named queue count : ℕ) (before : Option ℕ) → slice_get seen named ≡ before → queue < length seen → Small (get_or seen queue 0) → get_or (add_seen named count seen) queue 0 ≡ sum_of (get_or seen queue 0) (seen_by queue (Ok (Seen named count)) (Replied (seen_reply before)))
count_counts seen named queue count (Some n) is inside small = add_counts seen named queue count inside small
count_counts seen named queue count None is inside small =
    add_counts seen named queue count inside small ∙ ap (λ b. sum_of (get_or seen queue 0) (if b then count else 0)) (apart (nat_eq named queue) refl)
  where
    apart : (b : Bool) → nat_eq named queue ≡ b → b ≡ false
    apart false e = refl
    apart true e =
        let inside_too : named < length seen = subst (λ q. q < length seen) (sym (eqb-true named queue e)) inside in
        absurd (let some : None ≡ Some (get_or seen named 0) = sym is ∙ slice_get-get_or seen named 0 inside_too in cc)

request_counts : (state : Frontier) (request : Request) (queue : ℕ) → queue < length state.seen → Small (seen_at state queue) → get_or (seen_next (Ok request) (exchange state request).answer state.seen) queue 0 ≡ sum_of (seen_at state queue) (seen_by queue (Ok request) (exchange state request).answer)
request_counts state (Offer url named) queue inside small = offer_counts state.seen url named queue (exchange state (Offer url named)).answer inside small
request_counts state (Next named) queue inside small = none_more (seen_at state queue) small
request_counts state (Again named) queue inside small = none_more (seen_at state queue) small
request_counts state (Later named) queue inside small = none_more (seen_at state queue) small
request_counts state (Done named) queue inside small = none_more (seen_at state queue) small
request_counts state (Stats named) queue inside small = none_more (seen_at state queue) small
request_counts state (Seen named count) queue inside small = count_counts state.seen named queue count (slice_get state.seen named) refl inside small
request_counts state EndSeeds queue inside small = none_more (seen_at state queue) small

answer_counts : (state : Frontier) (r : Result Request RequestError) (queue : ℕ) → queue < length state.seen → Small (seen_at state queue) → seen_at (answered state r).state queue ≡ sum_of (seen_at state queue) (seen_by queue r (answered state r).answer)
answer_counts state (Ok request) queue inside small = ap (λ seen. get_or seen queue 0) (answered_seen state (Ok request)) ∙ request_counts state request queue inside small
answer_counts state (Err why) queue inside small = none_more (seen_at state queue) small

-- ---- lines

next_long : (r : Result Request RequestError) (answer : Answer) (seen : List ℕ) → length (seen_next r answer seen) ≡ length seen
next_long r answer seen = grind (arith, length-slice_set)

pub lines_long : (settings : Settings) (state : Frontier) (lines : List (List ℕ)) → length (state_after settings state lines).seen ≡ length state.seen
lines_long settings state [] = refl
lines_long settings state (line ∷ more) =
    let r = request_for settings line in
    lines_long settings (line_exchange settings state line).state more
    ∙ ap length (answered_seen state r)
    ∙ next_long r (answered state r).answer state.seen

sum_small : (a b : ℕ) → Small (sum_of a b)
sum_small a b = omega arith

sums_both : (a b c : ℕ) → sum_of (sum_of a b) c ≡ sum_of a (b + c)
sums_both a b c = omega arith

pub counted : (settings : Settings) (state : Frontier) (lines : List (List ℕ)) (queue : ℕ) → queue < length state.seen → Small (seen_at state queue) → seen_at (state_after settings state lines) queue ≡ sum_of (seen_at state queue) (seen_of queue (line_answers settings state lines))
counted settings state [] queue inside small = none_more (seen_at state queue) small
counted settings state (line ∷ more) queue inside small =
    let r = request_for settings line in
    let here = line_exchange settings state line in
    let x : LineAnswer = record { request = r; answer = here.answer } in
    let rest = line_answers settings here.state more in
    let one = answer_counts state r queue inside small in
    let long : length here.state.seen ≡ length state.seen = ap length (answered_seen state r) ∙ next_long r here.answer state.seen in
    counted settings here.state more queue (subst (λ n. queue < n) (sym long) inside) (subst Small (sym one) (sum_small (seen_at state queue) (seen_by queue r here.answer)))
    ∙ ap (λ n. sum_of n (seen_of queue rest)) one
    ∙ sums_both (seen_at state queue) (seen_by queue r here.answer) (seen_of queue rest)
    ∙ ap (sum_of (seen_at state queue)) (sym (sum_by-cons (λ (y : LineAnswer). seen_by queue y.request y.answer) x rest))

-- the numbers of a new session: all its queues have one if their number has 32 bits
pub none_of_all : (queues : ℕ) → queues < 2 ^ 32 → replicate queues 0 ≡ none_seen queues
none_of_all queues fits = let all : queues ≡ min queues (2 ^ 32) = omega (arith, fits) in ap (λ n. replicate n 0) all

starts_long : (workers max : ℕ) → length (start workers max).seen ≡ min workers (2 ^ 32)
starts_long workers max = length-replicate (min workers (2 ^ 32)) 0

pub counted_from_none : (settings : Settings) (max : ℕ) (lines : List (List ℕ)) (queue : ℕ) → queue < min settings.workers (2 ^ 32) → seen_at (state_after settings (start settings.workers max) lines) queue ≡ min (seen_of queue (line_answers settings (start settings.workers max) lines)) (2 ^ 64 - 1)
counted_from_none settings max lines queue inside =
    let begun = start settings.workers max in
    let zero : seen_at begun queue ≡ 0 = get_or-replicate (min settings.workers (2 ^ 32)) queue 0 0 inside in
    let none : Small 0 = omega arith in
    let all = counted settings begun lines queue (subst (λ n. queue < n) (sym (starts_long settings.workers max)) inside) (subst Small (sym zero) none) in
    omega (arith, all, zero)

pub small_after : (settings : Settings) (max : ℕ) (lines : List (List ℕ)) (queue : ℕ) → queue < min settings.workers (2 ^ 32) → Small (seen_at (state_after settings (start settings.workers max) lines) queue)
small_after settings max lines queue inside =
    let is = counted_from_none settings max lines queue inside in
    omega (arith, is)

pub long_after : (settings : Settings) (max : ℕ) (lines : List (List ℕ)) → length (state_after settings (start settings.workers max) lines).seen ≡ min settings.workers (2 ^ 32)
long_after settings max lines = lines_long settings (start settings.workers max) lines ∙ starts_long settings.workers max
