-- The lists of a session agree with the answers that its client received.
use Rattle.crawl_session.proofs.Prelude.{◌≡◌, ℕ, zero, suc, ◌<◌, Bool, true, false, if◌then◌else◌, nat_eq, nat_lt, List, [], ◌∷◌, ◌++◌, map, Option, Some, None, Result, refl, sym, ap, ◌∙◌, arith, append-nil, eqb-true, cons_option, option_map, option_to_list, nat_tests, common_steps, filter_map-append, start_sound, Sound, Row, Request, Again, RequestError, LineAnswer, line_answers, busy_after, busy_before, busy_in, done_urls, finishes, joined_of, taken_of, times, exchange, Frontier, start, request_for, answered, line_exchange, state_after, Settings}
use Rattle.crawl_session.specs.declared.list.Kind.{Kind}
use Rattle.crawl_session.specs.declared.list.Kind.TheVariants as kinds
use Rattle.crawl_session.specs.declared.list.Row.TheVariants as variant
use Rattle.crawl_session.specs.Listing.{AreReported, Listed, done_by, done_in, done_of, in_progress_below, pending_at, pending_below, url_of_queue, url_row, urls_of}
use Rattle.crawl_session.proofs.Conserved.{line_of, line_sound, put_on, settled_after_lines, starts_free, starts_settled}
use Rattle.crawl_session.proofs.Drained.{Fit, pends}
use Rattle.crawl_session.proofs.Emptied.{owned_after_lines}
use Rattle.crawl_session.proofs.Flows.{answered_passes}
use Rattle.crawl_session.proofs.Onces.{joined_is}
use Rattle.crawl_session.proofs.Owned.{starts_owned}
use Rattle.crawl_session.proofs.Queues.{Settled, busy_of}
use Rattle.crawl_session.proofs.Returns.{busy_is, sums, times_append}

-- ---- what `again` repeats

again_state : (state : Frontier) (named : ℕ) → (exchange state (Again named)).state ≡ state
again_state state named = grind arith

-- the row of a URL, if there is one
abbrev row_of : Kind → ℕ → Option (List ℕ) → Option Row
row_of kind named url = option_map (λ u. variant.Url kind named u) url

again_row : (kind : Kind) (state : Frontier) (named : ℕ) → url_row kind named (exchange state (Again named)).answer ≡ row_of kind named (busy_of state named)
again_row kind state named = grind arith

-- the URLs of a queue in such a row
abbrev own : ℕ → ℕ → Option (List ℕ) → Option (List ℕ)
own queue named url = if nat_eq named queue then url else None

urls_one : (queue : ℕ) (kind : Kind) (named : ℕ) (url : Option (List ℕ)) → urls_of queue (option_to_list (row_of kind named url)) ≡ option_to_list (own queue named url)
urls_one queue kind named url = grind arith

-- ---- done

record AnsweredBy (state : Frontier) (queue : ℕ) (r : Result Request RequestError) (x : Listed) : Type 0 where
  rows : urls_of queue x.rows ≡ option_to_list (if finishes queue r (answered state r).answer then busy_of state queue else None)
  after : x.state ≡ (answered state r).state

line_answered : (state : Frontier) (queue : ℕ) (r : Result Request RequestError) → AnsweredBy state queue r (done_of r state)
line_answered state queue r = grind arith

abbrev pub was_done : ℕ → LineAnswer → Bool
was_done queue x = finishes queue x.request x.answer

pub done_answered : (settings : Settings) (state : Frontier) (lines : List (List ℕ)) (queue : ℕ) → Sound state.machine → Settled state → urls_of queue (done_in settings lines state).rows ≡ busy_before (was_done queue) queue (busy_of state queue) (line_answers settings state lines)
done_answered settings state [] queue sound settled = refl
done_answered settings state (line ∷ more) queue sound settled =
    let r = request_for settings line in
    let here = line_exchange settings state line in
    let x : LineAnswer = record { request = r; answer = here.answer } in
    let one = line_answered state queue r in
    let passes = answered_passes state r sound settled in
    let rest = line_answers settings here.state more in
    let ended_url : Option (List ℕ) = if finishes queue r here.answer then busy_of state queue else None in
    filter_map-append (url_of_queue queue) (done_by settings line state).rows (done_in settings more (done_by settings line state).state).rows
    ∙ ap (λ urls. urls ++ urls_of queue (done_in settings more (done_by settings line state).state).rows) one.rows
    ∙ ap (λ (s : Frontier). option_to_list ended_url ++ urls_of queue (done_in settings more s).rows) one.after
    ∙ ap (λ urls. option_to_list ended_url ++ urls) (done_answered settings here.state more queue (line_sound settings state line sound) passes.settled)
    ∙ ap (λ (busy : Option (List ℕ)). option_to_list ended_url ++ busy_before (was_done queue) queue busy rest) (passes.flow queue).busy
    ∙ sym (put_on ended_url (busy_before (was_done queue) queue (busy_after queue (busy_of state queue) x) rest))

-- the state that the lines lead to
pub done_after : (settings : Settings) (lines : List (List ℕ)) (state : Frontier) → (done_in settings lines state).state ≡ state_after settings state lines
done_after settings [] state = refl
done_after settings (line ∷ more) state = grind (arith, done_after settings more)

-- ---- each queue

-- no number is below 0
none_below : (queue : ℕ) (xs : List (List ℕ)) → [] ≡ (if nat_lt queue 0 then xs else [])
none_below queue xs = grind arith

-- a number below the next one
below_next : (queue n : ℕ) (xs : List (List ℕ)) → (nat_eq n queue ≡ true → nat_lt queue n ≡ false) → (if nat_lt queue n then xs else []) ++ (if nat_eq n queue then xs else []) ≡ (if nat_lt queue (suc n) then xs else [])
below_next queue n xs apart = grind (arith, common_steps, append-nil)

not_below : (queue n : ℕ) → nat_eq n queue ≡ true → nat_lt queue n ≡ false
not_below queue n is = grind (arith, nat_tests, is)

pub record Busy (state : Frontier) (queue n : ℕ) (x : Listed) : Type 0 where
  pub rows : urls_of queue x.rows ≡ (if nat_lt queue n then option_to_list (busy_of state queue) else [])
  pub after : x.state ≡ state

own_list : (state : Frontier) (queue n : ℕ) → option_to_list (own queue n (busy_of state n)) ≡ (if nat_eq n queue then option_to_list (busy_of state queue) else [])
own_list state queue n = grind arith

pub busy_answered : (state : Frontier) (queue n : ℕ) → Busy state queue n (in_progress_below n state)
busy_answered state queue zero = record { rows = none_below queue (option_to_list (busy_of state queue)); after = refl }
busy_answered state queue (suc n) =
    let before = busy_answered state queue n in
    let mid = (in_progress_below n state).state in
    record {
      rows =
          filter_map-append (url_of_queue queue) (in_progress_below n state).rows (option_to_list (url_row kinds.InProgress n (exchange mid (Again n)).answer))
          ∙ ap (λ urls. urls ++ urls_of queue (option_to_list (url_row kinds.InProgress n (exchange mid (Again n)).answer))) before.rows
          ∙ ap (λ urls. (if nat_lt queue n then option_to_list (busy_of state queue) else []) ++ urls)
          (ap (λ (s : Frontier). urls_of queue (option_to_list (url_row kinds.InProgress n (exchange s (Again n)).answer))) before.after
          ∙ ap (λ (row : Option Row). urls_of queue (option_to_list row)) (again_row kinds.InProgress state n)
          ∙ urls_one queue kinds.InProgress n (busy_of state n)
          ∙ own_list state queue n)
          ∙ below_next queue n (option_to_list (busy_of state queue)) (not_below queue n);
      after = again_state mid n ∙ before.after;
    }

-- the rows of a queue's URLs
urls_all : (queue n : ℕ) (urls : List (List ℕ)) → urls_of queue (map (λ url. variant.Url kinds.Pending n url) urls) ≡ (if nat_eq n queue then urls else [])
urls_all queue n urls = by_own (nat_eq n queue) refl
  where
    each : (b : Bool) → nat_eq n queue ≡ b → (us : List (List ℕ)) → urls_of queue (map (λ url. variant.Url kinds.Pending n url) us) ≡ (if b then us else [])
    each true is [] = refl
    each false is [] = refl
    each true is (u ∷ us) = ap (λ c. cons_option (if c then Some u else None) (urls_of queue (map (λ url. variant.Url kinds.Pending n url) us))) is ∙ ap (λ l. u ∷ l) (each true is us)
    each false is (u ∷ us) = ap (λ c. cons_option (if c then Some u else None) (urls_of queue (map (λ url. variant.Url kinds.Pending n url) us))) is ∙ each false is us

    by_own : (b : Bool) → nat_eq n queue ≡ b → urls_of queue (map (λ url. variant.Url kinds.Pending n url) urls) ≡ (if b then urls else [])
    by_own b is = each b is urls

pub record Left (state : Frontier) (queue n : ℕ) (x : Listed) : Type 0 where
  pub fit : Fit x.state
  pub rows : urls_of queue x.rows ≡ (if nat_lt queue n then line_of state queue else [])
  pub left : nat_lt queue n ≡ false → line_of x.state queue ≡ line_of state queue

pub pending_answered : (state : Frontier) (queue n : ℕ) → Fit state → Left state queue n (pending_below n state)
pending_answered state queue zero fit = grind (arith, line_of)
pending_answered state queue (suc n) fit =
    let before = pending_answered state queue n fit in
    let mid = (pending_below n state).state in
    let here = pends mid n before.fit in
    record {
      fit = here.fit;
      rows =
          filter_map-append (url_of_queue queue) (pending_below n state).rows (pending_at mid n).rows
          ∙ (λ i. before.rows i ++ urls_of queue (here.rows i))
          ∙ ap (λ urls. (if nat_lt queue n then line_of state queue else []) ++ urls) (urls_all queue n (line_of mid n) ∙ own_line (nat_eq n queue) refl before.left)
          ∙ below_next queue n (line_of state queue) (not_below queue n);
      left = λ past. here.other queue (apart past) ∙ before.left (earlier past);
    }
  where
    own_line : (b : Bool) → nat_eq n queue ≡ b → (nat_lt queue n ≡ false → line_of (pending_below n state).state queue ≡ line_of state queue) → (if b then line_of (pending_below n state).state n else []) ≡ (if b then line_of state queue else [])
    own_line true is left = ap (line_of (pending_below n state).state) (eqb-true n queue is) ∙ left (not_below queue n is)
    own_line false is left = refl

    apart : nat_lt queue (suc n) ≡ false → nat_eq n queue ≡ false
    apart past = grind (arith, nat_tests, past)

    earlier : nat_lt queue (suc n) ≡ false → nat_lt queue n ≡ false
    earlier past = grind (arith, nat_tests, past)

-- ---- a new session

pub is_below : (queue n : ℕ) → queue < n → nat_lt queue n ≡ true
is_below queue n below = grind (arith, nat_tests, below)

pub lists_answered : (settings : Settings) (max : ℕ) (lines : List (List ℕ)) (queue : ℕ) → queue < settings.workers
    → AreReported (line_answers settings (start settings.workers max) lines) queue (done_in settings lines (start settings.workers max)).rows (in_progress_below settings.workers (state_after settings (start settings.workers max) lines)).rows
    (pending_below settings.workers (state_after settings (start settings.workers max) lines)).rows
lists_answered settings max lines queue below =
    let begun = start settings.workers max in
    let all = line_answers settings begun lines in
    let end = state_after settings begun lines in
    let sound = start_sound settings.workers max in
    let settled = starts_settled settings.workers max in
    let both = settled_after_lines settings begun lines sound settled in
    let fit : Fit end = record { sound = both.0; settled = both.1; owned = owned_after_lines settings begun lines sound settled (starts_owned settings.workers max) } in
    let free = starts_free settings.workers max queue in
    let here = is_below queue settings.workers below in
    let done : urls_of queue (done_in settings lines begun).rows ≡ done_urls queue all = done_answered settings begun lines queue sound settled ∙ ap (λ (o : Option (List ℕ)). busy_before (was_done queue) queue o all) free in
    let busy : urls_of queue (in_progress_below settings.workers end).rows ≡ option_to_list (busy_in queue all) =
    (busy_answered end queue settings.workers).rows
    ∙ ap (λ b. if b then option_to_list (busy_of end queue) else []) here
    ∙ ap option_to_list (sym (busy_is settings begun lines queue None sound settled (sym free))) in
    let pending : urls_of queue (pending_below settings.workers end).rows ≡ line_of end queue = (pending_answered end queue settings.workers fit).rows ∙ ap (λ b. if b then line_of end queue else []) here in
    let joined : joined_of queue all ≡ taken_of queue all ++ urls_of queue (pending_below settings.workers end).rows = joined_is settings max lines queue ∙ ap (λ urls. taken_of queue all ++ urls) (sym pending) in
    record {
      done = done;
      in_progress = busy;
      pending = joined;
      each = λ url.
          let sum = sums settings max lines queue url in
          let in_all = sum.joined in
          let taken = sum.ended in
          let parts = ap (times url) joined ∙ times_append url (taken_of queue all) (urls_of queue (pending_below settings.workers end).rows) in
          let is_done = ap (times url) done in
          let is_busy = ap (times url) busy in
          omega (arith, in_all, taken, parts, is_done, is_busy);
    }
