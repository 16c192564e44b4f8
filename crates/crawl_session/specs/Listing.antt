-- Which URLs of a session are done, in progress and pending, by requests and their answers, and how lists of them are printed.
use Rattle.std.specs.Prelude.{◌≡◌, ℕ, zero, suc, ◌+◌, Bool, true, false, ◌||◌, List, [], ◌∷◌, ◌++◌, codes, is_some, not, nat_eq, nat_lt, if◌then◌else◌, Option, Some, None, Result, Ok, Err, decimal, filter_map, flat_map, option_to_list}
use Rattle.std.specs.Io.KnownBytes.{Appends}
use Rattle.json.specs.Json.{Json, null, number, string, object, Members, member, no_members}
use Rattle.json.specs.Print.{print}
use Rattle.json.specs.Tree.{json_tokens}
use Rattle.crawl_core.specs.declared.reply.Reply.TheVariants as says
use Rattle.crawl_session.specs.declared.answer.Answer.{Answer}
use Rattle.crawl_session.specs.declared.answer.Answer.TheVariants.{Replied, Counted}
use Rattle.crawl_session.specs.declared.list.Kind.{Kind}
use Rattle.crawl_session.specs.declared.list.Kind.TheVariants as kinds
use Rattle.crawl_session.specs.declared.list.ListForm.{ListForm}
use Rattle.crawl_session.specs.declared.list.ListForm.TheVariants as forms
use Rattle.crawl_session.specs.declared.list.Row.{Row}
use Rattle.crawl_session.specs.declared.list.Row.TheVariants as variant
use Rattle.crawl_session.specs.declared.request.Request.{Request}
use Rattle.crawl_session.specs.declared.request.Request.TheVariants.{Next, Again, Done, Stats}
use Rattle.crawl_session.specs.declared.request.RequestError.{RequestError}
use Rattle.crawl_session.specs.declared.stats.Stats as counts
use Rattle.crawl_session.specs.Clients.{LineAnswer, accepted_of, busy_in, done_urls, joined_of, taken_of, times}
use Rattle.crawl_session.specs.Exchanges.{exchange}
use Rattle.crawl_session.specs.Frontiers.{Frontier, Shows}
use Rattle.crawl_session.specs.Parts.{request_for}
use Rattle.crawl_session.specs.Settings.{Settings, SessionView}
use Rattle.crawl_session.specs.Stats.{stats_text, waiting_at}

-- ---- rows

-- the rows that requests give, and the state after these requests
pub record Listed : Type 0 where
  pub rows : List Row
  pub state : Frontier

-- two lists, the second from the state after the first
abbrev pub then_list : Listed → (Frontier → Listed) → Listed
then_list first second = record { rows = first.rows ++ (second first.state).rows; state = (second first.state).state }

-- one for each number below a limit, from 0
abbrev pub each_below : (Frontier → ℕ → Listed) → ℕ → Frontier → Listed
each_below one zero state = record { rows = []; state = state }
each_below one (suc n) state = then_list (each_below one n state) (λ mid. one mid n)

-- the URL in an answer to `next` or `again`
abbrev pub url_row : Kind → ℕ → Answer → Option Row
url_row kind queue (Replied (says.Taken url)) = Some (variant.Url kind queue url)
url_row kind queue _ = None

-- the answer to a `done` that ends a URL
abbrev pub is_count : Answer → Bool
is_count (Replied (says.Count left)) = true
is_count _ = false

-- ---- done

-- the URL that a queue is busy with, if `done` ends it
abbrev pub ended : ℕ → Frontier → Listed
ended queue state =
    let busy = exchange state (Again queue) in
    let done = exchange busy.state (Done queue) in
    record { rows = option_to_list (if is_count done.answer then url_row kinds.Done queue busy.answer else None); state = done.state }

-- the queue of a `done`
abbrev pub done_queue : Request → Option ℕ
done_queue (Done queue) = Some queue
done_queue _ = None

abbrev pub ended_if : Option ℕ → Request → Frontier → Listed
ended_if (Some queue) request state = ended queue state
ended_if None request state = record { rows = []; state = (exchange state request).state }

abbrev pub done_with : Request → Frontier → Listed
done_with request state = ended_if (done_queue request) request state

abbrev pub done_of : Result Request RequestError → Frontier → Listed
done_of (Ok request) state = done_with request state
done_of (Err why) state = record { rows = []; state = state }

abbrev pub done_by : Settings → List ℕ → Frontier → Listed
done_by settings line state = done_of (request_for settings line) state

-- the URLs that lines end, in order
abbrev pub done_in : Settings → List (List ℕ) → Frontier → Listed
done_in settings [] state = record { rows = []; state = state }
done_in settings (line ∷ more) state = then_list (done_by settings line state) (done_in settings more)

-- ---- in progress

-- what `again` repeats
abbrev pub in_progress_at : Frontier → ℕ → Listed
in_progress_at state queue =
    let busy = exchange state (Again queue) in
    record { rows = option_to_list (url_row kinds.InProgress queue busy.answer); state = busy.state }

abbrev pub in_progress_below : ℕ → Frontier → Listed
in_progress_below queues state = each_below in_progress_at queues state

-- ---- pending

-- what `next` takes, which is then done
abbrev pub taken_one : ℕ → Frontier → Listed
taken_one queue state =
    let taken = exchange state (Next queue) in
    record { rows = option_to_list (url_row kinds.Pending queue taken.answer); state = (exchange taken.state (Done queue)).state }

abbrev pub taken_each : ℕ → ℕ → Frontier → Listed
taken_each queue count state = each_below (λ mid _. taken_one queue mid) count state

-- what is in progress is done first, so that the queue is not busy; then all URLs that wait are taken
abbrev pub pending_at : Frontier → ℕ → Listed
pending_at state queue =
    let free = (exchange state (Done queue)).state in
    taken_each queue (waiting_at free queue) free

abbrev pub pending_below : ℕ → Frontier → Listed
pending_below queues state = each_below pending_at queues state

-- ---- numbers

-- of all queues, and of each that accepted a URL
abbrev pub stats_row : Option ℕ → Answer → Option Row
stats_row queue (Counted stats) = if not (is_some queue) || nat_lt 0 stats.accepted then Some (variant.Stats queue stats) else None
stats_row queue _ = None

abbrev pub stats_at : Frontier → Option ℕ → Listed
stats_at state queue =
    let counted = exchange state (Stats queue) in
    record { rows = option_to_list (stats_row queue counted.answer); state = counted.state }

abbrev pub stats_below : ℕ → Frontier → Listed
stats_below queues state = each_below (λ mid queue. stats_at mid (Some queue)) queues state

abbrev pub stats_in : ListForm → ℕ → Frontier → Listed
stats_in forms.Text queues state = stats_at state None
stats_in forms.Json queues state = then_list (stats_at state None) (stats_below queues)

-- ---- lines

abbrev pub word : Kind → List ℕ
word kinds.Pending = codes "pending"
word kinds.InProgress = codes "in-progress"
word kinds.Done = codes "done"

abbrev pub name : Kind → List ℕ
name kinds.Pending = codes "pending"
name kinds.InProgress = codes "in_progress"
name kinds.Done = codes "done"

abbrev pub row_text : Row → List ℕ
row_text (variant.Url kind queue url) = word kind ++ codes " " ++ decimal queue ++ codes " " ++ url
row_text (variant.Stats queue stats) = stats_text stats

abbrev pub text_line : Row → List ℕ
text_line row = row_text row ++ 10 ∷ []

abbrev pub count_at : List ℕ → ℕ → Members → Members
count_at key count rest = member key (number (decimal count)) rest

abbrev pub queue_json : Option ℕ → Json
queue_json None = null
queue_json (Some queue) = number (decimal queue)

abbrev pub url_json : Kind → ℕ → List ℕ → Json
url_json kind queue url = object (member (codes "kind") (string (name kind)) (count_at (codes "queue") queue (member (codes "url") (string url) no_members)))

abbrev pub stats_json : Option ℕ → counts.Stats → Json
stats_json queue stats =
    object
    (member (codes "kind") (string (codes "stats"))
    (member (codes "queue") (queue_json queue)
    (count_at (codes "accepted") stats.accepted
    (count_at (codes "done") stats.done
    (count_at (codes "in_progress") stats.in_progress
    (count_at (codes "waiting") stats.waiting
    (count_at (codes "put_back") stats.put_back
    (count_at (codes "seen") stats.seen no_members))))))))

abbrev pub row_json : Row → Json
row_json (variant.Url kind queue url) = url_json kind queue url
row_json (variant.Stats queue stats) = stats_json queue stats

-- the object without spaces
abbrev pub json_line : Row → List ℕ
json_line row = print (json_tokens (row_json row)) ++ 10 ∷ []

abbrev pub row_line : ListForm → Row → List ℕ
row_line forms.Text row = text_line row
row_line forms.Json row = json_line row

abbrev pub list_text : ListForm → List Row → List ℕ
list_text form rows = flat_map (row_line form) rows

-- ---- what calls do to a session, whatever state it keeps

-- requests were given, and this row came of them
pub record Gives (listed : Frontier → Listed) (old : SessionView) (row : Option Row) (new : SessionView) : Type 0 where
  pub settings : new.settings ≡ old.settings
  pub comes : (state : Frontier) → Shows old.core state → (option_to_list row ≡ (listed state).rows) × Shows new.core (listed state).state

-- the lines of the rows were written
pub record Lists (form : ListForm) (listed : Frontier → Listed) (old : SessionView) (out_old out_new : Option (List ℕ)) (new : SessionView) : Type 0 where
  pub text : List ℕ
  pub written : Appends out_old out_new text
  pub settings : new.settings ≡ old.settings
  pub comes : (state : Frontier) → Shows old.core state → (text ≡ list_text form (listed state).rows) × Shows new.core (listed state).state

-- ---- the answers that a client received

-- the URLs of a queue
abbrev pub url_of_queue : ℕ → Row → Option (List ℕ)
url_of_queue queue (variant.Url kind there url) = if nat_eq there queue then Some url else None
url_of_queue queue (variant.Stats there stats) = None

abbrev pub urls_of : ℕ → List Row → List (List ℕ)
urls_of queue listed = filter_map (url_of_queue queue) listed

-- the lists of a queue after these requests: the URLs that are done, in order; the one that it is busy with; and those that joined
-- it and that no answer named since, in order. Each URL that it accepted is in exactly one of them, and once
pub record AreReported (line_answers : List LineAnswer) (queue : ℕ) (ended busy waits : List Row) : Type 0 where
  pub done : urls_of queue ended ≡ done_urls queue line_answers
  pub in_progress : urls_of queue busy ≡ option_to_list (busy_in queue line_answers)
  pub pending : joined_of queue line_answers ≡ taken_of queue line_answers ++ urls_of queue waits
  pub each : (url : List ℕ) → times url (accepted_of queue line_answers) ≡ times url (urls_of queue ended) + times url (urls_of queue busy) + times url (urls_of queue waits)
