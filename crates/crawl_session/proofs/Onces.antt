-- According to the answers, each URL is handed out once, in order, by the queue of its host.
use Rattle.crawl_session.proofs.Prelude.{◌≡◌, ◌≤◌, ℕ, zero, suc, Bool, if◌then◌else◌, is_some, List, [], ◌∷◌, ◌++◌, slice_get, Option, Some, None, refl, sym, ap, subst, ◌∙◌, arith, cons_option, one_if, accepted_urls, AcceptsOnce, start_sound, LineAnswer, line_answers, accepted_of, accepts, busy_after, joined_from, joined_of, put_back_of, taken_of, EachOnceInOrder, start, history_of, state_after, Settings}
use Rattle.crawl_core.proofs.QueueHistory.{accepts_once}
use Rattle.crawl_session.proofs.Assigned.{accepted_as_assigned}
use Rattle.crawl_session.proofs.Conserved.{conserved, counted_takes, line_of, starts_empty, starts_free, starts_settled}
use Rattle.crawl_session.proofs.Queues.{busy_of}
use Rattle.crawl_session.proofs.Runs.{session_runs, zipped, as_run}
use Rattle.crawl_session.proofs.Sees.{quiet_first, quiet_rest, sees_accepted}

-- an element stays at its index if more is appended to the list
got_of_front : {A : Type 0} (xs ys : List A) (k : ℕ) (x : A) → slice_get xs k ≡ Some x → slice_get (xs ++ ys) k ≡ Some x
got_of_front [] ys k x at = absurd (cc)
got_of_front (z ∷ zs) ys zero x at = at
got_of_front (z ∷ zs) ys (suc k) x at = got_of_front zs ys k x at

-- what joined a queue is what was taken from it, followed by what waits
pub joined_is : (settings : Settings) (max : ℕ) (lines : List (List ℕ)) (queue : ℕ) → joined_of queue (line_answers settings (start settings.workers max) lines) ≡ taken_of queue (line_answers settings (start settings.workers max) lines) ++ line_of (state_after settings (start settings.workers max) lines) queue
joined_is settings max lines queue =
    let begun = start settings.workers max in
    let all = line_answers settings begun lines in
    ap (λ (o : Option (List ℕ)). joined_from queue o all) (sym (starts_free settings.workers max queue))
    ∙ ap (λ (l : List (List ℕ)). l ++ joined_from queue (busy_of begun queue) all) (sym (starts_empty settings.workers max queue))
    ∙ conserved settings begun lines queue (start_sound settings.workers max) (starts_settled settings.workers max)

-- if no URL was put back, the URLs that joined are those that were accepted
plain_joins : (queue : ℕ) (busy : Option (List ℕ)) (all : List LineAnswer) → put_back_of queue all ≡ 0 → joined_from queue busy all ≡ accepted_of queue all
plain_joins queue busy [] none = refl
plain_joins queue busy (x ∷ more) none =
    let quiet = quiet_first queue x more none in
    let rest = quiet_rest queue x more none in
    ap (λ b. cons_option (if b then busy else accepts queue x.request x.answer) (joined_from queue (busy_after queue busy x) more)) quiet
    ∙ ap (cons_option (accepts queue x.request x.answer)) (plain_joins queue (busy_after queue busy x) more rest)

flag_small : (b : Bool) → one_if b ≤ 1
flag_small b = grind arith

pub each_once : (settings : Settings) (max : ℕ) (lines : List (List ℕ)) → EachOnceInOrder settings.workers (line_answers settings (start settings.workers max) lines)
each_once settings max lines =
    let begun = start settings.workers max in
    let all = line_answers settings begun lines in
    let end = state_after settings begun lines in
    let history = history_of settings begun lines in
    let run = as_run settings.workers max history end.machine (session_runs settings begun lines) in
    let once : AcceptsOnce history = subst AcceptsOnce (zipped history) (accepts_once settings.workers max _ _ run) in
    let accepted : (queue : ℕ) → accepted_urls queue history ≡ accepted_of queue all = sees_accepted settings begun lines in
    record {
      in_order = λ queue k url at. subst (λ (l : List (List ℕ)). slice_get l k ≡ Some url) (sym (joined_is settings max lines queue)) (got_of_front (taken_of queue all) (line_of end queue) k url at);
      plain = λ queue none. plain_joins queue None all none;
      once = λ queue i j url at_i at_j. once queue i j url (subst (λ l. slice_get l i ≡ Some url) (sym (accepted queue)) at_i) (subst (λ l. slice_get l j ≡ Some url) (sym (accepted queue)) at_j);
      assigned = accepted_as_assigned settings begun lines;
      one_at_a_time = λ queue.
          let counts = counted_takes settings begun lines queue (start_sound settings.workers max) (starts_settled settings.workers max) in
          let free : one_if (is_some (busy_of begun queue)) ≡ 0 = ap (λ (o : Option (List ℕ)). one_if (is_some o)) (starts_free settings.workers max queue) in
          let small = flag_small (is_some (busy_of end queue)) in
          (omega (arith, counts, free), omega (arith, counts, free, small));
    }
