-- The log of a session with other settings that has the URLs of an old session: what is read of the old one, and the lines of the
-- new one, each of which has to be answered in one way.
use Rattle.std.specs.Prelude.{◌≡◌, ℕ, zero, suc, ◌+◌, Bool, true, false, ◌&&◌, ◌||◌, List, [], ◌∷◌, ◌++◌, codes, drop, is_some, length, max, nat_eq, not, slice_get, if◌then◌else◌, Option, Some, None, Result, Ok, Err, decimal, filter, filter_map, flat_map, option_to_list, bytes_eq}
use Rattle.std.specs.Io.KnownBytes.{Appends}
use Rattle.crawl_keys.specs.Assignment.{assign, subqueue_of}
use Rattle.crawl_keys.specs.HostKey.{host_key}
use Rattle.crawl_core.specs.declared.reply.Refusal.TheVariants as refusal
use Rattle.crawl_core.specs.declared.reply.Reply.TheVariants as says
use Rattle.crawl_session.specs.declared.answer.Answer.{Answer}
use Rattle.crawl_session.specs.declared.answer.Answer.TheVariants.{Replied}
use Rattle.crawl_session.specs.declared.list.Row.{Row}
use Rattle.crawl_session.specs.declared.list.Row.TheVariants as variant
use Rattle.crawl_session.specs.declared.rebuild.LeftOut.{LeftOut}
use Rattle.crawl_session.specs.declared.request.Request.{Request}
use Rattle.crawl_session.specs.declared.request.Request.TheVariants.{Next, Offer, EndSeeds}
use Rattle.crawl_session.specs.declared.request.RequestError.{RequestError}
use Rattle.crawl_session.specs.declared.request.RequestError.TheVariants as wrong
use Rattle.crawl_session.specs.Clients.{LineAnswer, accepted_of, busy_in, done_urls, joined_of, put_back_of, taken_of, times}
use Rattle.crawl_session.specs.Compacting.{says_closed, with_text}
use Rattle.crawl_session.specs.Exchanges.{exchange}
use Rattle.crawl_session.specs.Frontiers.{Frontier, Shows, start}
use Rattle.crawl_session.specs.Listing.{Listed, done_by, done_in, done_with, in_progress_below, is_count, pending_at}
use Rattle.crawl_session.specs.Parts.{request_for}
use Rattle.crawl_session.specs.Serving.{Serves}
use Rattle.crawl_session.specs.Sessions.{answered, line_exchange}
use Rattle.crawl_session.specs.Settings.{Settings, SessionView}

-- ---- what is read of the old session

-- the URLs that are done, in the order in which they were done; in progress, by queue; pending, for each queue that has some, in the
-- order in which it would give them out; and of other parts, each once; whether the seeds ended, and whether it was answered `closed`
pub record Inventory : Type 0 where
  pub done : List (List ℕ)
  pub in_progress : List (List ℕ)
  pub pending : List (List (List ℕ))
  pub elsewhere : List (List ℕ)
  pub ended : Bool
  pub closed : Bool

abbrev pub empty : Inventory
empty = record { done = []; in_progress = []; pending = []; elsewhere = []; ended = false; closed = false }

-- the URLs of rows
abbrev pub row_url : Row → Option (List ℕ)
row_url (variant.Url kind queue url) = Some url
row_url (variant.Stats queue stats) = None

abbrev pub urls_in : List Row → List (List ℕ)
urls_in rows = filter_map row_url rows

abbrev pub ends_seeds : Request → Bool
ends_seeds EndSeeds = true
ends_seeds _ = false

-- a `next` is answered `closed`
abbrev pub closes : Request → Answer → Bool
closes (Next queue) answer = says_closed answer
closes _ answer = false

-- what is known after a request in a state
abbrev pub with_request : Frontier → Inventory → Request → Inventory
with_request state had request = record had {
  done = had.done ++ urls_in (done_with request state).rows;
  ended = ends_seeds request || had.ended;
  closed = closes request (exchange state request).answer || had.closed;
}

-- and after a line, which may request nothing
abbrev pub with_requested : Frontier → Inventory → Result Request RequestError → Inventory
with_requested state had (Ok request) = with_request state had request
with_requested state had (Err (wrong.Elsewhere part url)) = record had { elsewhere = with_text had.elsewhere url }
with_requested state had (Err _) = had

abbrev pub with_line : Settings → Frontier → Inventory → List ℕ → Inventory
with_line settings state had line = with_requested state had (request_for settings line)

abbrev pub with_lines : Settings → Frontier → Inventory → List (List ℕ) → Inventory
with_lines settings state had [] = had
with_lines settings state had (line ∷ more) = with_lines settings (done_by settings line state).state (with_line settings state had line) more

-- the URLs of queues, and the state once they were taken
pub record Queues : Type 0 where
  pub queues : List (List (List ℕ))
  pub state : Frontier

-- a queue, unless it is empty
abbrev pub unless_empty : List (List ℕ) → List (List (List ℕ))
unless_empty [] = []
unless_empty (url ∷ more) = (url ∷ more) ∷ []

abbrev pub queues_below : ℕ → Frontier → Queues
queues_below zero state = record { queues = []; state = state }
queues_below (suc n) state =
    let before = queues_below n state in
    let here = pending_at before.state n in
    record { queues = before.queues ++ unless_empty (urls_in here.rows); state = here.state }

-- and with what is not done, after all lines
abbrev pub with_unfinished : ℕ → Frontier → Inventory → Inventory
with_unfinished workers state had =
    let busy = in_progress_below workers state in
    record had { in_progress = urls_in busy.rows; pending = (queues_below workers busy.state).queues }

-- of a session that was given these lines
abbrev pub inventory : Settings → ℕ → List (List ℕ) → Inventory
inventory settings most lines =
    let begun = start settings.workers most in
    with_unfinished settings.workers (done_in settings lines begun).state (with_lines settings begun empty lines)

-- ---- the order of what is pending

-- of each queue, the URL at this position, if there is one
abbrev pub turn : ℕ → List (List (List ℕ)) → List (List ℕ)
turn position queues = filter_map (λ queue. slice_get queue position) queues

abbrev pub turns_below : ℕ → List (List (List ℕ)) → List (List ℕ)
turns_below zero queues = []
turns_below (suc n) queues = turns_below n queues ++ turn n queues

abbrev pub longest : List (List (List ℕ)) → ℕ
longest [] = 0
longest (queue ∷ more) = max (length queue) (longest more)

-- the first of each queue, then the second of each, and so on
abbrev pub by_turns : List (List (List ℕ)) → List (List ℕ)
by_turns queues = turns_below (longest queues) queues

-- ---- the lines of the new session

-- lines that are given to a session; how many URLs its filter left out; whether each line was answered as it has to be; whether the
-- first one that was not is an offer that was refused because there is no room; and the state after them
pub record Given : Type 0 where
  pub lines : List (List ℕ)
  pub left_out : LeftOut
  pub fits : Bool
  pub full : Bool
  pub state : Frontier

abbrev pub none_left_out : LeftOut
none_left_out = record { all = 0; unfinished = 0 }

abbrev pub plus : LeftOut → LeftOut → LeftOut
plus a b = record { all = a.all + b.all; unfinished = a.unfinished + b.unfinished }

abbrev pub no_line : Frontier → Given
no_line state = record { lines = []; left_out = none_left_out; fits = true; full = false; state = state }

abbrev pub then_give : Given → (Frontier → Given) → Given
then_give first second =
    let back = second first.state in
    record { lines = first.lines ++ back.lines; left_out = plus first.left_out back.left_out; fits = first.fits && back.fits; full = first.full || (first.fits && back.full); state = back.state }

-- a line, whose answer has to pass a test
abbrev pub one_line : Settings → List ℕ → (Answer → Bool) → Frontier → Given
one_line settings line test state =
    let here = line_exchange settings state line in
    record { lines = line ∷ []; left_out = none_left_out; fits = test here.answer; full = false; state = here.state }

abbrev pub line_if : Bool → Settings → List ℕ → (Answer → Bool) → Frontier → Given
line_if is settings line test state = if is then one_line settings line test state else no_line state

abbrev pub offer_line : List ℕ → List ℕ
offer_line url = codes "offer " ++ url

abbrev pub next_line : ℕ → List ℕ
next_line queue = codes "next " ++ decimal queue

abbrev pub done_line : ℕ → List ℕ
done_line queue = codes "done " ++ decimal queue

abbrev pub end_line : List ℕ
end_line = codes "endseeds"

abbrev pub takes_url : List ℕ → Answer → Bool
takes_url url (Replied (says.Taken named)) = bytes_eq named url
takes_url url _ = false

abbrev pub is_accepted : Answer → Bool
is_accepted (Replied (says.Accepted queue number)) = true
is_accepted _ = false

-- refused, because there is no room
abbrev pub is_full : Answer → Bool
is_full (Replied (says.Refused refusal.Full)) = true
is_full _ = false

-- after the offer of a URL, which has to ask for this very URL and to be accepted: what follows is given the number of its queue
abbrev pub offered_to : List ℕ → (ℕ → Frontier → Given) → List ℕ → ℕ → Frontier → Given
offered_to url more named queue state =
    let here = exchange state (Offer named queue) in
    let rest = more queue here.state in
    record rest {
      lines = offer_line url ∷ rest.lines;
      fits = bytes_eq named url && (is_accepted here.answer && rest.fits);
      full = bytes_eq named url && (is_full here.answer || (is_accepted here.answer && rest.full));
    }

-- no line of the URL is needed: the filter does not allow it
abbrev pub leaves_out : LeftOut → Frontier → Given
leaves_out one state = record { lines = []; left_out = one; fits = true; full = false; state = state }

-- no line fits
abbrev pub no_fit : Frontier → Given
no_fit state = record { lines = []; left_out = none_left_out; fits = false; full = false; state = state }

abbrev pub offered_by : LeftOut → (ℕ → Frontier → Given) → List ℕ → Result Request RequestError → Frontier → Given
offered_by one more url (Ok (Offer named queue)) state = offered_to url more named queue state
offered_by one more url (Err wrong.Filtered) state = leaves_out one state
offered_by one more url _ state = no_fit state

abbrev pub offered : Settings → LeftOut → (ℕ → Frontier → Given) → List ℕ → Frontier → Given
offered settings one more url state = offered_by one more url (request_for settings (offer_line url)) state

-- a URL that is to wait
abbrev pub waiting_url : Settings → List ℕ → Frontier → Given
waiting_url settings url state = offered settings (record { all = 1; unfinished = 1 }) (λ queue. no_line) url state

-- a URL that is to be done: no other URL waits in its queue
abbrev pub finish_url : Settings → List ℕ → ℕ → Frontier → Given
finish_url settings url queue state = then_give (one_line settings (next_line queue) (takes_url url) state) (one_line settings (done_line queue) is_count)

abbrev pub done_url : Settings → List ℕ → Frontier → Given
done_url settings url state = offered settings (record { all = 1; unfinished = 0 }) (finish_url settings url) url state

-- a URL of another part: its offer asks nothing of the session
abbrev pub other_by : List ℕ → Result Request RequestError → Frontier → Given
other_by url (Err (wrong.Elsewhere part named)) state = record { lines = offer_line url ∷ []; left_out = none_left_out; fits = bytes_eq named url; full = false; state = state }
other_by url (Err wrong.Filtered) state = leaves_out (record { all = 1; unfinished = 0 }) state
other_by url _ state = no_fit state

abbrev pub other_url : Settings → List ℕ → Frontier → Given
other_url settings url state = other_by url (request_for settings (offer_line url)) state

-- one after another
abbrev pub each_url : (List ℕ → Frontier → Given) → List (List ℕ) → Frontier → Given
each_url one [] state = no_line state
each_url one (url ∷ more) state = then_give (one url state) (each_url one more)

-- the seeds end first, so that the gate has a unit for each URL
abbrev pub ended_urls : Settings → Inventory → Frontier → Given
ended_urls settings had state = then_give (line_if had.ended settings end_line is_count state) (each_url (done_url settings) had.done)

-- then what is not done: what was in progress comes first
abbrev pub unfinished_urls : Settings → Inventory → Frontier → Given
unfinished_urls settings had state = then_give (each_url (waiting_url settings) had.in_progress state) (each_url (waiting_url settings) (by_turns had.pending))

-- URLs of other parts, and the last line: `next` of a queue, which is empty
abbrev pub closing : Settings → ℕ → Inventory → Frontier → Given
closing settings queue had state = then_give (each_url (other_url settings) had.elsewhere state) (line_if had.closed settings (next_line queue) says_closed)

-- all lines; the last is for this queue
abbrev pub rebuilt : Settings → ℕ → Inventory → Frontier → Given
rebuilt settings queue had state = then_give (then_give (ended_urls settings had state) (unfinished_urls settings had)) (closing settings queue had)

-- each line, and LF
abbrev pub lines_text : List (List ℕ) → List ℕ
lines_text lines = flat_map (λ line. line ++ 10 ∷ []) lines

abbrev pub text_if : Bool → List ℕ → List ℕ
text_if is line = if is then line ++ 10 ∷ [] else []

-- ---- what calls do to a session, whatever state it keeps

-- a request was given, and the inventory has what came of it
pub record ReadsRequest (had : Inventory) (old : SessionView) (request : Request) (next : Inventory) (new : SessionView) : Type 0 where
  pub settings : new.settings ≡ old.settings
  pub comes : (state : Frontier) → Shows old.core state → (next ≡ with_request state had request) × Shows new.core (done_with request state).state

-- likewise for a line, and for lines
pub record ReadsLine (had : Inventory) (old : SessionView) (line : List ℕ) (next : Inventory) (new : SessionView) : Type 0 where
  pub settings : new.settings ≡ old.settings
  pub comes : (state : Frontier) → Shows old.core state → (next ≡ with_line old.settings state had line) × Shows new.core (done_by old.settings line state).state

pub record ReadsLines (had : Inventory) (old : SessionView) (lines : List (List ℕ)) (next : Inventory) (new : SessionView) : Type 0 where
  pub settings : new.settings ≡ old.settings
  pub comes : (state : Frontier) → Shows old.core state → (next ≡ with_lines old.settings state had lines) × Shows new.core (done_in old.settings lines state).state

-- the URLs of a list
pub record Collects (listed : Frontier → Listed) (old : SessionView) (urls : List (List ℕ)) (new : SessionView) : Type 0 where
  pub settings : new.settings ≡ old.settings
  pub comes : (state : Frontier) → Shows old.core state → (urls ≡ urls_in (listed state).rows) × Shows new.core (listed state).state

-- the URLs of the queues below a number
pub record CollectsQueues (count : ℕ) (old : SessionView) (queues : List (List (List ℕ))) (new : SessionView) : Type 0 where
  pub settings : new.settings ≡ old.settings
  pub comes : (state : Frontier) → Shows old.core state → (queues ≡ (queues_below count state).queues) × Shows new.core (queues_below count state).state

-- what is not done
pub record ReadsUnfinished (had : Inventory) (old : SessionView) (next : Inventory) (new : SessionView) : Type 0 where
  pub settings : new.settings ≡ old.settings
  pub comes : (state : Frontier) → Shows old.core state → next ≡ with_unfinished old.settings.workers state had

-- a line was given, and the writer gained its text
pub record Copies (old : SessionView) (line : List ℕ) (out_old out_new : Option (List ℕ)) (answer : Answer) (new : SessionView) : Type 0 where
  pub written : Appends out_old out_new (line ++ 10 ∷ [])
  pub serves : Serves old line answer new

-- lines were given, and each was answered as it has to be: the writer gained their text
pub record Writes (given : Frontier → Given) (old : SessionView) (out_old out_new : Option (List ℕ)) (left_out : LeftOut) (new : SessionView) : Type 0 where
  pub text : List ℕ
  pub written : Appends out_old out_new text
  pub settings : new.settings ≡ old.settings
  pub comes : (state : Frontier) → Shows old.core state →
      let x = given state in
      (x.fits ≡ true) × ((text ≡ lines_text x.lines) × ((left_out ≡ x.left_out) × Shows new.core x.state))

-- of these lines, the first that was not answered as it has to be is an offer that was refused because there is no room
abbrev pub IsFull : (Frontier → Given) → SessionView → Type 0
IsFull given old = (state : Frontier) → Shows old.core state → (given state).full ≡ true

-- the offer of a URL was refused because there is no room
pub record IsRefused (url : List ℕ) (old : SessionView) : Type 0 where
  pub queue : ℕ
  pub asks : request_for old.settings (offer_line url) ≡ Ok (Offer url queue)
  pub full : (state : Frontier) → Shows old.core state → is_full (exchange state (Offer url queue)).answer ≡ true

-- what the offer of a URL asks: to accept it into this queue; or nothing, if the filter does not allow it
abbrev pub offer_asks : List ℕ → Option ℕ → Result Request RequestError
offer_asks url (Some queue) = Ok (Offer url queue)
offer_asks url None = Err wrong.Filtered

-- the offer of a URL was given: the line was written if the URL was accepted into a queue
pub record Offers (url : List ℕ) (old : SessionView) (out_old out_new : Option (List ℕ)) (queue : Option ℕ) (new : SessionView) : Type 0 where
  pub written : Appends out_old out_new (text_if (is_some queue) (offer_line url))
  pub asks : request_for old.settings (offer_line url) ≡ offer_asks url queue
  pub settings : new.settings ≡ old.settings
  pub comes : (state : Frontier) → Shows old.core state →
      let here = answered state (offer_asks url queue) in
      (is_accepted here.answer ≡ is_some queue) × Shows new.core here.state

-- ---- the answers that clients received

abbrev pub asks_filtered : Result Request RequestError → Bool
asks_filtered (Err wrong.Filtered) = true
asks_filtered _ = false

-- an offer of the URL is answered `filtered`
abbrev pub is_left_out : Settings → List ℕ → Bool
is_left_out settings url = asks_filtered (request_for settings (offer_line url))

abbrev pub kept : Settings → List (List ℕ) → List (List ℕ)
kept settings urls = filter (λ url. not (is_left_out settings url)) urls

-- the URLs that are assigned to a subqueue
abbrev pub in_queue : ℕ → ℕ → List (List ℕ) → List (List ℕ)
in_queue workers queue urls = filter (λ url. nat_eq (subqueue_of url workers) queue) urls

-- a number that a URL has, unless it is left out
abbrev pub unless_left_out : Settings → List ℕ → ℕ → ℕ
unless_left_out settings url count = if is_left_out settings url then 0 else count

-- the URLs of a host
abbrev pub of_host : List ℕ → List (List ℕ) → List (List ℕ)
of_host host urls = filter (λ url. bytes_eq (host_key url) host) urls

-- the URLs that joined a subqueue and that no answer named since, in order
abbrev pub waits_of : ℕ → List LineAnswer → List (List ℕ)
waits_of queue line_answers = drop (length (taken_of queue line_answers)) (joined_of queue line_answers)

-- the new session accepted the URLs that the old one accepted, but for those that are left out, and has the same ones done, by the
-- answers of both. Of each host, the URLs that wait are the one that was in progress, and those that waited, in order. None is in
-- progress, and none was put back
pub record KeepsUrls (old new : Settings) (before after : List LineAnswer) : Type 0 where
  pub accepted : (url : List ℕ) → times url (accepted_of (subqueue_of url new.workers) after) ≡ unless_left_out new url (times url (accepted_of (subqueue_of url old.workers) before))
  pub done : (url : List ℕ) → times url (done_urls (subqueue_of url new.workers) after) ≡ unless_left_out new url (times url (done_urls (subqueue_of url old.workers) before))
  pub order : (host : List ℕ) → of_host host (waits_of (assign host new.workers) after) ≡ of_host host (kept new (option_to_list (busy_in (assign host old.workers) before) ++ waits_of (assign host old.workers) before))
  pub free : (queue : ℕ) → busy_in queue after ≡ None
  pub plain : (queue : ℕ) → put_back_of queue after ≡ 0
