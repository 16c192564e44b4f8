-- What the client of a session knows of URLs, only by its requests and their answers.
use Rattle.std.specs.Prelude.{◌≡◌, ℕ, suc, ◌+◌, ◌-◌, ◌^◌, ◌≤◌, Bool, false, ◌||◌, List, [], ◌∷◌, ◌++◌, is_some, length, min, nat_eq, slice_get, if◌then◌else◌, Option, Some, None, Result, Ok, bytes_eq}
use Rattle.std.specs.List.{cons_option, count_by, filter_map, sum_by}
use Rattle.std.specs.Option.{option_or, option_to_list}
use Rattle.crawl_core.specs.declared.reply.Reply.TheVariants as says
use Rattle.crawl_core.specs.Flags.{one_if}
use Rattle.crawl_core.specs.Kept.{has_text}
use Rattle.crawl_keys.specs.Assignment.{subqueue_of}
use Rattle.crawl_session.specs.declared.answer.Answer.{Answer}
use Rattle.crawl_session.specs.declared.answer.Answer.TheVariants.{Replied, Unasked}
use Rattle.crawl_session.specs.declared.request.Request.{Request}
use Rattle.crawl_session.specs.declared.request.Request.TheVariants.{Offer, Next, Later, Done, Seen}
use Rattle.crawl_session.specs.declared.request.RequestError.{RequestError}
use Rattle.crawl_session.specs.declared.request.RequestError.TheVariants as wrong
use Rattle.crawl_session.specs.declared.stats.Stats.{Stats}
use Rattle.crawl_session.specs.Frontiers.{Frontier}
use Rattle.crawl_session.specs.Parts.{request_for}
use Rattle.crawl_session.specs.Sessions.{line_exchange}
use Rattle.crawl_session.specs.Settings.{Settings}

-- what a line requests, and its answer
pub record LineAnswer : Type 0 where
  pub request : Result Request RequestError
  pub answer : Answer

-- likewise for lines, from this state on
abbrev pub line_answers : Settings → Frontier → List (List ℕ) → List LineAnswer
line_answers settings state [] = []
line_answers settings state (line ∷ more) =
    record { request = request_for settings line; answer = (line_exchange settings state line).answer } ∷ line_answers settings (line_exchange settings state line).state more

-- the URL that was offered and accepted into the subqueue
abbrev pub accepts : ℕ → Result Request RequestError → Answer → Option (List ℕ)
accepts queue (Ok (Offer url named)) (Replied (says.Accepted there number)) = if nat_eq there queue then Some url else None
accepts queue _ _ = None

-- the URL that was taken from the subqueue
abbrev pub takes : ℕ → Result Request RequestError → Answer → Option (List ℕ)
takes queue (Ok (Next named)) (Replied (says.Taken url)) = if nat_eq named queue then Some url else None
takes queue _ _ = None

-- a fetch of the subqueue was done
abbrev pub finishes : ℕ → Result Request RequestError → Answer → Bool
finishes queue (Ok (Done named)) (Replied (says.Count left)) = nat_eq named queue
finishes queue _ _ = false

-- the URL that the subqueue was busy with was put back
abbrev pub puts_back : ℕ → Result Request RequestError → Answer → Bool
puts_back queue (Ok (Later named)) (Replied (says.Count left)) = nat_eq named queue
puts_back queue _ _ = false

-- how many offers to the subqueue this one is that were answered `seen`: one, or those that a `seen` counts
abbrev pub seen_by : ℕ → Result Request RequestError → Answer → ℕ
seen_by queue (Ok (Offer url named)) (Replied says.Seen) = if nat_eq named queue then 1 else 0
seen_by queue (Ok (Seen named count)) (Replied says.Seen) = if nat_eq named queue then count else 0
seen_by queue _ _ = 0

-- the URLs of which the client knows that they were accepted into the subqueue, in order; those that it took from it; and how many
-- fetches of it were done
abbrev pub accepted_of : ℕ → List LineAnswer → List (List ℕ)
accepted_of queue line_answers = filter_map (λ x. accepts queue x.request x.answer) line_answers

abbrev pub taken_of : ℕ → List LineAnswer → List (List ℕ)
taken_of queue line_answers = filter_map (λ x. takes queue x.request x.answer) line_answers

abbrev pub done_of : ℕ → List LineAnswer → ℕ
done_of queue line_answers = count_by (λ x. finishes queue x.request x.answer) line_answers

-- how often a URL of the subqueue was put back
abbrev pub put_back_of : ℕ → List LineAnswer → ℕ
put_back_of queue line_answers = count_by (λ x. puts_back queue x.request x.answer) line_answers

-- how many offers to the subqueue were answered `seen`
abbrev pub seen_of : ℕ → List LineAnswer → ℕ
seen_of queue line_answers = sum_by (λ x. seen_by queue x.request x.answer) line_answers

-- no line put a URL back
abbrev pub NonePutBack : List LineAnswer → Type 0
NonePutBack line_answers = (queue : ℕ) → put_back_of queue line_answers ≡ 0

-- the URL that the subqueue is busy with after a line, by the one before: the one that was taken, until it is done or put back
abbrev pub busy_after : ℕ → Option (List ℕ) → LineAnswer → Option (List ℕ)
busy_after queue busy x =
    if finishes queue x.request x.answer || puts_back queue x.request x.answer then None
    else option_or (takes queue x.request x.answer) busy

-- the URL that a line put to the end of the subqueue: one that was accepted, or the one that was put back
abbrev pub joins : ℕ → Option (List ℕ) → LineAnswer → Option (List ℕ)
joins queue busy x =
    if puts_back queue x.request x.answer then busy
    else accepts queue x.request x.answer

abbrev pub joined_from : ℕ → Option (List ℕ) → List LineAnswer → List (List ℕ)
joined_from queue busy [] = []
joined_from queue busy (x ∷ more) = cons_option (joins queue busy x) (joined_from queue (busy_after queue busy x) more)

-- the URLs that joined the subqueue, in order: each when it was accepted, and each time that it was put back
abbrev pub joined_of : ℕ → List LineAnswer → List (List ℕ)
joined_of queue line_answers = joined_from queue None line_answers

-- the URL that the subqueue is busy with after all lines
abbrev pub busy_from : ℕ → Option (List ℕ) → List LineAnswer → Option (List ℕ)
busy_from queue busy [] = busy
busy_from queue busy (x ∷ more) = busy_from queue (busy_after queue busy x) more

abbrev pub busy_in : ℕ → List LineAnswer → Option (List ℕ)
busy_in queue line_answers = busy_from queue None line_answers

-- the URLs that the subqueue was busy with before the lines that pass a test
abbrev pub busy_before : (LineAnswer → Bool) → ℕ → Option (List ℕ) → List LineAnswer → List (List ℕ)
busy_before test queue busy [] = []
busy_before test queue busy (x ∷ more) = cons_option (if test x then busy else None) (busy_before test queue (busy_after queue busy x) more)

-- the URLs whose fetches were done, in order, and those that were put back
abbrev pub done_urls : ℕ → List LineAnswer → List (List ℕ)
done_urls queue line_answers = busy_before (λ x. finishes queue x.request x.answer) queue None line_answers

abbrev pub put_back_urls : ℕ → List LineAnswer → List (List ℕ)
put_back_urls queue line_answers = busy_before (λ x. puts_back queue x.request x.answer) queue None line_answers

-- how often these have the URL
abbrev pub times : List ℕ → List (List ℕ) → ℕ
times url urls = count_by (λ u. bytes_eq u url) urls

-- the URL that another part has
abbrev pub elsewhere_url : Answer → Option (List ℕ)
elsewhere_url (Unasked (wrong.Elsewhere part url)) = Some url
elsewhere_url _ = None

-- the URLs of which the client knows that they are other parts', in order
abbrev pub elsewhere_of : List LineAnswer → List (List ℕ)
elsewhere_of line_answers = filter_map (λ x. elsewhere_url x.answer) line_answers

-- the texts but for those that came before, here or among these others
abbrev pub first_of_each : List (List ℕ) → List (List ℕ) → List (List ℕ)
first_of_each others [] = []
first_of_each others (text ∷ more) = if has_text others text then first_of_each others more else text ∷ first_of_each (others ++ text ∷ []) more

-- in each subqueue the URLs taken are the first of those that joined it, in order, which are those accepted if none was put
-- back; none was accepted twice; each was accepted into the subqueue, of the given number, that its host key is assigned to; and of the
-- URLs taken, all but the last at most were done or put back
pub record EachOnceInOrder (workers : ℕ) (line_answers : List LineAnswer) : Type 0 where
  pub in_order : (queue k : ℕ) (url : List ℕ) → slice_get (taken_of queue line_answers) k ≡ Some url → slice_get (joined_of queue line_answers) k ≡ Some url
  pub plain : (queue : ℕ) → put_back_of queue line_answers ≡ 0 → joined_of queue line_answers ≡ accepted_of queue line_answers
  pub once : (queue i j : ℕ) (url : List ℕ) → slice_get (accepted_of queue line_answers) i ≡ Some url → slice_get (accepted_of queue line_answers) j ≡ Some url → i ≡ j
  pub assigned : (queue k : ℕ) (url : List ℕ) → slice_get (accepted_of queue line_answers) k ≡ Some url → queue ≡ subqueue_of url workers
  pub one_at_a_time : (queue : ℕ) → (done_of queue line_answers + put_back_of queue line_answers ≤ length (taken_of queue line_answers)) × (length (taken_of queue line_answers) ≤ suc (done_of queue line_answers + put_back_of queue line_answers))

-- a URL is taken only from the subqueue that its host key is assigned to, and at most once more than it was put back; each time
-- that it was taken, it is done or put back before it is taken again; and it is done at most once
pub record AgainIfPutBack (workers : ℕ) (line_answers : List LineAnswer) : Type 0 where
  pub own : (queue k : ℕ) (url : List ℕ) → slice_get (taken_of queue line_answers) k ≡ Some url → queue ≡ subqueue_of url workers
  pub taken : (queue : ℕ) (url : List ℕ) → times url (taken_of queue line_answers) ≤ suc (times url (put_back_urls queue line_answers))
  pub ended : (queue : ℕ) (url : List ℕ) → times url (taken_of queue line_answers) ≡ times url (done_urls queue line_answers) + times url (put_back_urls queue line_answers) + times url (option_to_list (busy_in queue line_answers))
  pub done : (queue : ℕ) (url : List ℕ) → times url (done_urls queue line_answers) ≤ 1

-- every URL that joined a subqueue was taken, and each that was accepted is done: each fetch was ended by `done`, but for those
-- after which the URL was put back
pub record AllDone (line_answers : List LineAnswer) : Type 0 where
  pub taken : (queue : ℕ) → taken_of queue line_answers ≡ joined_of queue line_answers
  pub ended : (queue : ℕ) → done_of queue line_answers + put_back_of queue line_answers ≡ length (taken_of queue line_answers)
  pub done : (queue : ℕ) → done_of queue line_answers ≡ length (accepted_of queue line_answers)
  pub each : (queue : ℕ) (url : List ℕ) → times url (done_urls queue line_answers) ≡ times url (accepted_of queue line_answers)

-- the numbers of a subqueue are those of the answers before, up to the largest that the program counts to
pub record IsReported (queue : ℕ) (line_answers : List LineAnswer) (stats : Stats) : Type 0 where
  pub accepted : stats.accepted ≡ length (accepted_of queue line_answers)
  pub done : stats.done ≡ done_of queue line_answers
  pub in_progress : stats.in_progress ≡ one_if (is_some (busy_in queue line_answers))
  pub waiting : stats.accepted ≡ stats.done + stats.in_progress + stats.waiting
  pub seen : stats.seen ≡ min (seen_of queue line_answers) (2 ^ 64 - 1)
