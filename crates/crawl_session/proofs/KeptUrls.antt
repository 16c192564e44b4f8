-- A rebuilt log keeps the URLs.
use Rattle.crawl_session.proofs.Prelude.{◌≡◌, ℕ, ◌+◌, ◌<◌, ◌^◌, Bool, true, false, if◌then◌else◌, List, [], ◌++◌, refl, ap, ◌∙◌, arith, append-nil, line_answers, subqueue_of, times, start, Settings}
use Rattle.crawl_session.specs.Rebuilding.{KeepsUrls, by_turns, inventory, kept, rebuilt, unless_left_out, is_left_out}
use Rattle.crawl_session.specs.Settings.{IsSession}
use Rattle.crawl_session.proofs.Assigned.{assigned_below}
use Rattle.crawl_session.proofs.Inventories.{has, times_in_queue, times_left}
use Rattle.crawl_session.proofs.Orders.{in_order}
use Rattle.crawl_session.proofs.Rebuilt.{all_kept, done_kept, rebuilt_adds}
use Rattle.crawl_session.proofs.Returns.{times_append}

small_queues : (settings : Settings) → IsSession settings → (url : List ℕ) → subqueue_of url settings.workers < 2 ^ 32
small_queues settings is url = let below = assigned_below settings.workers url (subqueue_of url settings.workers) is.some_worker refl in let few = is.few_workers in omega (arith, below, few)

-- a sum of numbers, none of which is left out or all
left_sum : (settings : Settings) (url : List ℕ) (a b c : ℕ) → (unless_left_out settings url a + (unless_left_out settings url b + unless_left_out settings url c)) + 0 ≡ unless_left_out settings url (a + (b + c))
left_sum settings url a b c = by_out (is_left_out settings url)
  where
    by_out : (out : Bool) → ((if out then 0 else a) + ((if out then 0 else b) + (if out then 0 else c))) + 0 ≡ (if out then 0 else a + (b + c))
    by_out true = refl
    by_out false = omega arith

pub keeps : (old new : Settings) (most room : ℕ) (lines : List (List ℕ)) (queue : ℕ) → IsSession old → IsSession new → (rebuilt new queue (inventory old most lines) (start new.workers room)).fits ≡ true
    → KeepsUrls old new (line_answers old (start old.workers most) lines) (line_answers new (start new.workers room) (rebuilt new queue (inventory old most lines) (start new.workers room)).lines)
keeps old new most room lines queue is_old is_new fits =
    let had = inventory old most lines in
    let flows = (rebuilt_adds new queue had (start new.workers room) (small_queues new is_new) fits).flows in
    record {
      order = λ host. in_order old new most room lines (rebuilt new queue had (start new.workers room)).lines host is_old.some_worker flows;
      accepted = λ url. (
          let own = subqueue_of url new.workers in
          let now = ap (times url) (flows.accepted own) ∙ times_in_queue new.workers url (all_kept new had) in
          let outer = times_append url (kept new had.done ++ (kept new had.in_progress ++ kept new (by_turns had.pending))) [] in
          let both = times_append url (kept new had.done) (kept new had.in_progress ++ kept new (by_turns had.pending)) in
          let inner = times_append url (kept new had.in_progress) (kept new (by_turns had.pending)) in
          let done = times_left new url had.done in
          let busy = times_left new url had.in_progress in
          let waits = times_left new url (by_turns had.pending) in
          let sum = left_sum new url (times url had.done) (times url had.in_progress) (times url (by_turns had.pending)) in
          let all = ap (unless_left_out new url) (has old most lines url is_old.some_worker).all in
          now ∙ omega (arith, outer, both, inner, done, busy, waits, sum) ∙ all);
      done = λ url. (
          let own = subqueue_of url new.workers in
          let now = ap (times url) (flows.done own) ∙ times_in_queue new.workers url (done_kept new had) in
          let same : done_kept new had ≡ kept new had.done = append-nil (kept new had.done ++ []) ∙ append-nil (kept new had.done) in
          now ∙ ap (times url) same ∙ times_left new url had.done ∙ ap (unless_left_out new url) (has old most lines url is_old.some_worker).done);
      free = flows.free;
      plain = flows.back;
    }
