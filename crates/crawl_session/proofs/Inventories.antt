-- What is read of an old session is what its answers say, each URL as often.
use Rattle.crawl_session.proofs.Prelude.{◌≡◌, ℕ, zero, suc, ◌+◌, ◌≤◌, ◌<◌, Bool, true, false, not, cond, if◌then◌else◌, nat_eq, nat_lt, List, [], ◌∷◌, ◌++◌, take, Option, Some, None, Result, refl, sym, ap, ◌∙◌, true≢false, arith, append_assoc, append-nil, nat_tests, option_to_list, bytes_eq, slice_get, sum_by-cons, take_all, filter_map-append, same_text, eqb_same, subqueue_of, start_sound, Row, Request, RequestError, accepted_of, line_answers, busy_before, done_urls, taken_of, times, Frontier, start, done_by, done_in, pending_at, request_for, state_after, Settings}
use Rattle.std.specs.List.{filter}
use Rattle.crawl_session.specs.declared.list.Row.TheVariants as variant
use Rattle.crawl_session.specs.Listing.{done_of, in_progress_below, pending_below, url_of_queue, urls_of}
use Rattle.crawl_session.specs.Rebuilding.{Inventory, by_turns, empty, in_queue, inventory, is_left_out, kept, longest, queues_below, row_url, turn, turns_below, unless_empty, unless_left_out, urls_in, with_requested, with_line, with_lines}
use Rattle.crawl_session.proofs.Assigned.{assigned_below}
use Rattle.crawl_session.proofs.Conserved.{line_of, settled_after_lines, starts_free, starts_settled}
use Rattle.crawl_session.proofs.Drained.{Fit}
use Rattle.crawl_session.proofs.Emptied.{owned_after_lines}
use Rattle.crawl_session.proofs.Listed.{busy_answered, done_after, done_answered, lists_answered, pending_answered, was_done}
use Rattle.crawl_session.proofs.Onces.{each_once}
use Rattle.crawl_session.proofs.Owned.{starts_owned}
use Rattle.crawl_session.proofs.Queues.{busy_of}
use Rattle.crawl_session.proofs.Rebuilt.{filter_on}
use Rattle.crawl_session.proofs.Returns.{again_if_put_back, times_append, times_in, times_on}

-- ---- how often a URL is in a list

abbrev pub one : List ℕ → List ℕ → ℕ
one url u = cond (bytes_eq u url) 1 0

some_place : (url : List ℕ) (urls : List (List ℕ)) → 1 ≤ times url urls → (k : ℕ) × (slice_get urls k ≡ Some url)
some_place url [] some = absurd (omega (arith, some))
some_place url (u ∷ urls) some = by_first (bytes_eq u url) refl (some_place url urls)
  where
    by_first : (b : Bool) → bytes_eq u url ≡ b → (1 ≤ times url urls → (k : ℕ) × (slice_get urls k ≡ Some url)) → (k : ℕ) × (slice_get (u ∷ urls) k ≡ Some url)
    by_first true same later = (zero, ap Some (same_text u url same))
    by_first false other later =
        let all = sum_by-cons (one url) u urls in
        let first : one url u ≡ 0 = ap {B = ℕ} (λ b. cond b 1 0) other in
        let rest = later (omega (arith, all, first, some)) in
        (suc rest.0, rest.1)

times_one : (p : List ℕ → Bool) (url u : List ℕ) → p url ≡ true → times_in url (if p u then Some u else None) ≡ times_in url (Some u)
times_one p url u holds = by_first (bytes_eq u url) refl (p u) refl
  where
    by_first : (b : Bool) → bytes_eq u url ≡ b → (c : Bool) → p u ≡ c → times_in url (if c then Some u else None) ≡ times_in url (Some u)
    by_first b same true is = refl
    by_first true same false is = absurd (true≢false (sym holds ∙ ap p (sym (same_text u url same)) ∙ is))
    by_first false other false is = let all = sum_by-cons (one url) u [] in let first : one url u ≡ 0 = ap {B = ℕ} (λ b. cond b 1 0) other in omega (arith, all, first)

times_none : (p : List ℕ → Bool) (url u : List ℕ) → p url ≡ false → times_in url (if p u then Some u else None) ≡ 0
times_none p url u fails = by_first (bytes_eq u url) refl (p u) refl
  where
    by_first : (b : Bool) → bytes_eq u url ≡ b → (c : Bool) → p u ≡ c → times_in url (if c then Some u else None) ≡ 0
    by_first b same false is = refl
    by_first true same true is = absurd (true≢false (sym is ∙ ap p (same_text u url same) ∙ fails))
    by_first false other true is = let all = sum_by-cons (one url) u [] in let first : one url u ≡ 0 = ap {B = ℕ} (λ b. cond b 1 0) other in omega (arith, all, first)

times_kept : (p : List ℕ → Bool) (url : List ℕ) (urls : List (List ℕ)) → p url ≡ true → times url (filter p urls) ≡ times url urls
times_kept p url [] holds = refl
times_kept p url (u ∷ urls) holds =
    let now = ap (times url) (filter_on p u urls) in
    let first = times_on url (if p u then Some u else None) (filter p urls) in
    let all = times_on url (Some u) urls in
    let here = times_one p url u holds in
    let rest = times_kept p url urls holds in
    omega (arith, now, first, all, here, rest)

times_dropped : (p : List ℕ → Bool) (url : List ℕ) (urls : List (List ℕ)) → p url ≡ false → times url (filter p urls) ≡ 0
times_dropped p url [] fails = refl
times_dropped p url (u ∷ urls) fails =
    let now = ap (times url) (filter_on p u urls) in
    let first = times_on url (if p u then Some u else None) (filter p urls) in
    let here = times_none p url u fails in
    let rest = times_dropped p url urls fails in
    omega (arith, now, first, here, rest)

-- in its queue a URL is as often as in all
pub times_in_queue : (workers : ℕ) (url : List ℕ) (urls : List (List ℕ)) → times url (in_queue workers (subqueue_of url workers) urls) ≡ times url urls
times_in_queue workers url urls = times_kept (λ u. nat_eq (subqueue_of u workers) (subqueue_of url workers)) url urls (eqb_same (subqueue_of url workers))

pub times_left : (settings : Settings) (url : List ℕ) (urls : List (List ℕ)) → times url (kept settings urls) ≡ unless_left_out settings url (times url urls)
times_left settings url urls = by_out (is_left_out settings url) refl
  where
    by_out : (b : Bool) → is_left_out settings url ≡ b → times url (kept settings urls) ≡ (if b then 0 else times url urls)
    by_out true is = times_dropped (λ u. not (is_left_out settings u)) url urls (ap not is)
    by_out false is = times_kept (λ u. not (is_left_out settings u)) url urls (ap not is)

-- ---- rows

-- each row is of the queue that its URL is assigned to
abbrev pub AreOwn : ℕ → List Row → Type 0
AreOwn workers rows = (queue : ℕ) (url : List ℕ) → 1 ≤ times url (urls_of queue rows) → queue ≡ subqueue_of url workers

first_row : (workers : ℕ) (row : Row) (rows : List Row) → AreOwn workers (row ∷ rows) → (url : List ℕ) → times_in url (row_url row) ≡ times_in url (url_of_queue (subqueue_of url workers) row)
first_row workers (variant.Stats queue stats) rows own url = refl
first_row workers (variant.Url kind there u) rows own url = by_first (bytes_eq u url) refl
  where
    by_first : (b : Bool) → bytes_eq u url ≡ b → times_in url (Some u) ≡ times_in url (if nat_eq there (subqueue_of url workers) then Some u else None)
    by_first true same =
        let all = times_on url (url_of_queue there (variant.Url kind there u)) (urls_of there rows) in
        let here : times_in url (url_of_queue there (variant.Url kind there u)) ≡ times_in url (Some u) = ap (λ (b : Bool). times_in url (if b then Some u else None)) (eqb_same there) in
        let sum = sum_by-cons (one url) u [] in
        let first : one url u ≡ 1 = ap {B = ℕ} (λ b. cond b 1 0) same in
        let is = own there url (omega (arith, all, here, sum, first)) in
        sym (ap (λ (b : Bool). times_in url (if b then Some u else None)) (ap (nat_eq there) (sym is) ∙ eqb_same there))
    by_first false other = either (nat_eq there (subqueue_of url workers))
      where
        zero_of : times_in url (Some u) ≡ 0
        zero_of = let all = sum_by-cons (one url) u [] in let first : one url u ≡ 0 = ap {B = ℕ} (λ b. cond b 1 0) other in omega (arith, all, first)

        either : (c : Bool) → times_in url (Some u) ≡ times_in url (if c then Some u else None)
        either true = refl
        either false = zero_of

whole : (workers : ℕ) (rows : List Row) → AreOwn workers rows → (url : List ℕ) → times url (urls_in rows) ≡ times url (urls_of (subqueue_of url workers) rows)
whole workers [] own url = refl
whole workers (row ∷ rows) own url =
    let queue = subqueue_of url workers in
    let first = first_row workers row rows own url in
    let rest = whole workers rows (λ q u some. own q u (let all = times_on u (url_of_queue q row) (urls_of q rows) in omega (arith, all, some))) url in
    let all = times_on url (row_url row) (urls_in rows) in
    let own_all = times_on url (url_of_queue queue row) (urls_of queue rows) in
    omega (arith, first, rest, all, own_all)

-- ---- turns

pub take_next : (n : ℕ) (urls : List (List ℕ)) → take (suc n) urls ≡ take n urls ++ option_to_list (slice_get urls n)
take_next zero [] = refl
take_next zero (u ∷ urls) = refl
take_next (suc n) [] = refl
take_next (suc n) (u ∷ urls) = ap (λ l. u ∷ l) (take_next n urls)

pub turns_none : (n : ℕ) → turns_below n [] ≡ []
turns_none zero = refl
turns_none (suc n) = append-nil (turns_below n []) ∙ turns_none n

turns_split : (url : List ℕ) (n : ℕ) (queue : List (List ℕ)) (more : List (List (List ℕ))) → times url (turns_below n (queue ∷ more)) ≡ times url (take n queue) + times url (turns_below n more)
turns_split url zero queue more = refl
turns_split url (suc n) queue more =
    let before = turns_split url n queue more in
    let both = times_append url (turns_below n (queue ∷ more)) (turn n (queue ∷ more)) in
    let first = times_on url (slice_get queue n) (turn n more) in
    let next = ap (times url) (take_next n queue) ∙ times_append url (take n queue) (option_to_list (slice_get queue n)) in
    let rest = times_append url (turns_below n more) (turn n more) in
    omega (arith, before, both, first, next, rest)

abbrev total : List ℕ → List (List (List ℕ)) → ℕ
total url [] = 0
total url (queue ∷ more) = times url queue + total url more

all_turns : (url : List ℕ) (n : ℕ) (queues : List (List (List ℕ))) → longest queues ≤ n → times url (turns_below n queues) ≡ total url queues
all_turns url n [] most = ap (times url) (turns_none n)
all_turns url n (queue ∷ more) most =
    let split = turns_split url n queue more in
    let whole_queue = ap (times url) (take_all n queue (omega (arith, most))) in
    let rest = all_turns url n more (omega (arith, most)) in
    omega (arith, split, whole_queue, rest)

total_append : (url : List ℕ) (front back : List (List (List ℕ))) → total url (front ++ back) ≡ total url front + total url back
total_append url [] back = omega arith
total_append url (queue ∷ more) back = let rest = total_append url more back in omega (arith, rest)

total_unless : (url : List ℕ) (urls : List (List ℕ)) → total url (unless_empty urls) ≡ times url urls
total_unless url [] = refl
total_unless url (u ∷ urls) = omega arith

-- the queues have the URLs of the rows
pub queues_state : (n : ℕ) (state : Frontier) → (queues_below n state).state ≡ (pending_below n state).state
queues_state zero state = refl
queues_state (suc n) state = ap (λ (s : Frontier). (pending_at s n).state) (queues_state n state)

queues_total : (url : List ℕ) (n : ℕ) (state : Frontier) → total url (queues_below n state).queues ≡ times url (urls_in (pending_below n state).rows)
queues_total url zero state = refl
queues_total url (suc n) state =
    let before = queues_total url n state in
    let mid = (queues_below n state).state in
    let rows = (pending_at mid n).rows in
    let both = total_append url (queues_below n state).queues (unless_empty (urls_in rows)) in
    let here = total_unless url (urls_in rows) in
    let same = ap (λ (s : Frontier). times url (urls_in (pending_at s n).rows)) (queues_state n state) in
    let all =
    ap (times url) (filter_map-append row_url (pending_below n state).rows (pending_at (pending_below n state).state n).rows)
    ∙ times_append url (urls_in (pending_below n state).rows) (urls_in (pending_at (pending_below n state).state n).rows) in
    omega (arith, before, both, here, same, all)

-- ---- what was read

line_done : (state : Frontier) (had : Inventory) (r : Result Request RequestError) → (with_requested state had r).done ≡ had.done ++ urls_in (done_of r state).rows
line_done state had r = grind (arith, append-nil)

lines_done : (settings : Settings) (state : Frontier) (had : Inventory) (lines : List (List ℕ)) → (with_lines settings state had lines).done ≡ had.done ++ urls_in (done_in settings lines state).rows
lines_done settings state had [] = sym (append-nil had.done)
lines_done settings state had (line ∷ more) =
    let here = done_by settings line state in
    lines_done settings here.state (with_line settings state had line) more
    ∙ ap (λ urls. urls ++ urls_in (done_in settings more here.state).rows) (line_done state had (request_for settings line))
    ∙ append_assoc had.done (urls_in here.rows) (urls_in (done_in settings more here.state).rows)
    ∙ ap (λ urls. had.done ++ urls) (sym (filter_map-append row_url here.rows (done_in settings more here.state).rows))

-- a URL that an answer of a queue accepted is assigned to it
accepted_own : (settings : Settings) (most : ℕ) (lines : List (List ℕ)) (queue : ℕ) (url : List ℕ) → 1 ≤ times url (accepted_of queue (line_answers settings (start settings.workers most) lines)) → queue ≡ subqueue_of url settings.workers
accepted_own settings most lines queue url some =
    let place = some_place url (accepted_of queue (line_answers settings (start settings.workers most) lines)) some in
    (each_once settings most lines).assigned queue place.0 url place.1

-- what the lists of an old session have, and the state after its lines
pub record Read (settings : Settings) (most : ℕ) (lines : List (List ℕ)) : Type 0 where
  pub fit : Fit (state_after settings (start settings.workers most) lines)
  pub done : (queue : ℕ) → urls_of queue (done_in settings lines (start settings.workers most)).rows ≡ done_urls queue (line_answers settings (start settings.workers most) lines)

pub read_lines : (settings : Settings) (most : ℕ) (lines : List (List ℕ)) → Read settings most lines
read_lines settings most lines =
    let begun = start settings.workers most in
    let sound = start_sound settings.workers most in
    let settled = starts_settled settings.workers most in
    let both = settled_after_lines settings begun lines sound settled in
    record {
      fit = record { sound = both.0; settled = both.1; owned = owned_after_lines settings begun lines sound settled (starts_owned settings.workers most) };
      done = λ queue. done_answered settings begun lines queue sound settled ∙ ap (λ (o : Option (List ℕ)). busy_before (was_done queue) queue o (line_answers settings begun lines)) (starts_free settings.workers most queue);
    }

done_own : (settings : Settings) (most : ℕ) (lines : List (List ℕ)) → AreOwn settings.workers (done_in settings lines (start settings.workers most)).rows
done_own settings most lines queue url some =
    let all = line_answers settings (start settings.workers most) lines in
    let returns = again_if_put_back settings most lines in
    let is = ap (times url) ((read_lines settings most lines).done queue) in
    let sum = returns.ended queue url in
    let place = some_place url (taken_of queue all) (omega (arith, some, is, sum)) in
    returns.own queue place.0 url place.1

-- a number below the limit, or no row
below_or : (queue n : ℕ) (url : List ℕ) (urls : List (List ℕ)) → 1 ≤ times url (if nat_lt queue n then urls else []) → queue < n
below_or queue n url urls some = grind (arith, nat_tests)

pub busy_own : (settings : Settings) (most : ℕ) (lines : List (List ℕ)) → AreOwn settings.workers (in_progress_below settings.workers (state_after settings (start settings.workers most) lines)).rows
busy_own settings most lines queue url some =
    let end = state_after settings (start settings.workers most) lines in
    let is = ap (times url) (busy_answered end queue settings.workers).rows in
    let below = below_or queue settings.workers url (option_to_list (busy_of end queue)) (omega (arith, some, is)) in
    let each = (lists_answered settings most lines queue below).each url in
    accepted_own settings most lines queue url (omega (arith, some, each))

pub pending_own : (settings : Settings) (most : ℕ) (lines : List (List ℕ)) → AreOwn settings.workers (pending_below settings.workers (state_after settings (start settings.workers most) lines)).rows
pending_own settings most lines queue url some =
    let end = state_after settings (start settings.workers most) lines in
    let is = ap (times url) (pending_answered end queue settings.workers (read_lines settings most lines).fit).rows in
    let below = below_or queue settings.workers url (line_of end queue) (omega (arith, some, is)) in
    let each = (lists_answered settings most lines queue below).each url in
    accepted_own settings most lines queue url (omega (arith, some, each))

-- how often an inventory has a URL
pub record Has (settings : Settings) (most : ℕ) (lines : List (List ℕ)) (url : List ℕ) : Type 0 where
  pub done : times url (inventory settings most lines).done ≡ times url (done_urls (subqueue_of url settings.workers) (line_answers settings (start settings.workers most) lines))
  pub all : times url (inventory settings most lines).done + (times url (inventory settings most lines).in_progress + times url (by_turns (inventory settings most lines).pending)) ≡ times url (accepted_of (subqueue_of url settings.workers) (line_answers settings (start settings.workers most) lines))

pub has : (settings : Settings) (most : ℕ) (lines : List (List ℕ)) (url : List ℕ) → 1 ≤ settings.workers → Has settings most lines url
has settings most lines url some =
    let begun = start settings.workers most in
    let end = state_after settings begun lines in
    let had = inventory settings most lines in
    let queue = subqueue_of url settings.workers in
    let below : queue < settings.workers = assigned_below settings.workers url queue some refl in
    let its_reply = lists_answered settings most lines queue below in
    let ended_rows = (done_in settings lines begun).rows in
    let busy_rows = (in_progress_below settings.workers end).rows in
    let rows = (pending_below settings.workers end).rows in
    let after = done_after settings lines begun in
    let done = ap (times url) (lines_done settings begun empty lines) ∙ whole settings.workers ended_rows (done_own settings most lines) url in
    let busy = ap (λ (s : Frontier). times url (urls_in (in_progress_below settings.workers s).rows)) after ∙ whole settings.workers busy_rows (busy_own settings most lines) url in
    let same : (in_progress_below settings.workers (done_in settings lines begun).state).state ≡ end = ap (λ (s : Frontier). (in_progress_below settings.workers s).state) after ∙ (busy_answered end queue settings.workers).after in
    let turns = all_turns url (longest had.pending) had.pending (omega arith) in
    let waits : total url had.pending ≡ times url (urls_of queue rows) = ap (λ (s : Frontier). total url (queues_below settings.workers s).queues) same ∙ queues_total url settings.workers end ∙ whole settings.workers rows (pending_own settings most lines) url in
    let each = its_reply.each url in
    record {
      done = done ∙ ap (times url) its_reply.done;
      all = omega (arith, done, busy, turns, waits, each);
    }
