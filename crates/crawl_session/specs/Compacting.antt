-- The lines of a log that a frontier needs to come to the same state, but for the words that senders remember, and to report the
-- same URLs elsewhere.
use Rattle.std.specs.Prelude.{◌≡◌, ℕ, ◌-◌, Bool, true, false, not, ◌&&◌, ◌||◌, List, [], ◌∷◌, ◌++◌, ◌==◌, length, slice_index, if◌then◌else◌, Result, Ok, flat_map}
use Rattle.crawl_core.specs.declared.reply.Reply.{Reply}
use Rattle.crawl_core.specs.declared.reply.Reply.TheVariants as says
use Rattle.crawl_core.specs.Kept.{has_text}
use Rattle.crawl_session.specs.declared.answer.Answer.{Answer}
use Rattle.crawl_session.specs.declared.answer.Answer.TheVariants.{Replied, Unasked}
use Rattle.crawl_session.specs.declared.request.Request.{Request}
use Rattle.crawl_session.specs.declared.request.Request.TheVariants.{Again}
use Rattle.crawl_session.specs.declared.request.RequestError.{RequestError}
use Rattle.crawl_session.specs.declared.request.RequestError.TheVariants as wrong
use Rattle.crawl_session.specs.Exchanges.{exchange}
use Rattle.crawl_session.specs.Frontiers.{Frontier, Shows}
use Rattle.crawl_session.specs.Parts.{request_for}
use Rattle.crawl_session.specs.Seen.{seen_lines}
use Rattle.crawl_session.specs.Sessions.{line_exchange, state_after}
use Rattle.crawl_session.specs.Settings.{Settings, SessionView}

-- what is known of the answers to earlier lines: whether one was `closed`, and the URLs that were answered `elsewhere`, each once
pub record Had : Type 0 where
  pub closed : Bool
  pub elsewhere : List (List ℕ)

abbrev pub had_none : Had
had_none = record { closed = false; elsewhere = [] }

abbrev pub says_closed : Answer → Bool
says_closed (Replied says.Closed) = true
says_closed _ = false

-- the texts, and this one if it is new
abbrev pub with_text : List (List ℕ) → List ℕ → List (List ℕ)
with_text texts text = if has_text texts text then texts else texts ++ text ∷ []

-- and a URL that is answered `elsewhere`
abbrev pub with_elsewhere : List (List ℕ) → Answer → List (List ℕ)
with_elsewhere texts (Unasked (wrong.Elsewhere part url)) = with_text texts url
with_elsewhere texts _ = texts

-- what is known with this answer more
abbrev pub having : Had → Answer → Had
having had answer = record { closed = says_closed answer || had.closed; elsewhere = with_elsewhere had.elsewhere answer }

-- a URL was accepted or taken, a unit was given back, or the gate was closed, which it is once
abbrev pub changes : Had → Reply → Bool
changes had (says.Accepted queue number) = true
changes had (says.Taken url) = true
changes had (says.Count left) = true
changes had says.Closed = not had.closed
changes had _ = false

-- an `elsewhere` that is repeated changes nothing
abbrev pub asks_again : Request → Bool
asks_again (Again queue) = true
asks_again _ = false

-- whether a line is needed that requests this, and was answered so: of those that are answered `elsewhere`, the first with its URL
abbrev pub is_needed : Had → Result Request RequestError → Answer → Bool
is_needed had (Ok request) (Replied reply) = not (asks_again request) && changes had reply
is_needed had _ (Unasked (wrong.Elsewhere part url)) = not (has_text had.elsewhere url)
is_needed had _ _ = false

-- the lines that are needed, from this state on
abbrev pub needed : Settings → Had → Frontier → List (List ℕ) → List (List ℕ)
needed settings had state [] = []
needed settings had state (line ∷ more) =
    let done = line_exchange settings state line in
    let rest = needed settings (having had done.answer) done.state more in
    if is_needed had (request_for settings line) done.answer then line ∷ rest else rest

abbrev pub had_after : Settings → Had → Frontier → List (List ℕ) → Had
had_after settings had state [] = had
had_after settings had state (line ∷ more) =
    let done = line_exchange settings state line in
    had_after settings (having had done.answer) done.state more

-- a line as it is in a log: a CR at its end is no part of the line's end
abbrev pub line_end : List ℕ → List ℕ
line_end line = if slice_index line (length line - 1) == 13 then 13 ∷ 10 ∷ [] else 10 ∷ []

abbrev pub log_line : List ℕ → List ℕ
log_line line = line ++ line_end line

abbrev pub log_text : List (List ℕ) → List ℕ
log_text lines = flat_map log_line lines

-- the lines of a compacted log: those that are needed, from this state on, and then those that keep the numbers of `seen`
abbrev pub compacted : Settings → Frontier → List (List ℕ) → List (List ℕ)
compacted settings state lines = needed settings had_none state lines ++ seen_lines 0 (state_after settings state lines).seen

-- a line was given to a session: whether it is needed, and what is kept now
pub record Gives (had : Had) (old : SessionView) (line : List ℕ) (is : Bool) (next : Had) (new : SessionView) : Type 0 where
  pub settings : new.settings ≡ old.settings
  pub comes : (state : Frontier) → Shows old.core state →
      let done = line_exchange old.settings state line in
      (is ≡ is_needed had (request_for old.settings line) done.answer) × ((next ≡ having had done.answer) × Shows new.core done.state)

-- likewise for what a line requests
pub record GivesRequest (had : Had) (old : SessionView) (request : Request) (is : Bool) (next : Had) (new : SessionView) : Type 0 where
  pub settings : new.settings ≡ old.settings
  pub comes : (state : Frontier) → Shows old.core state →
      let done = exchange state request in
      (is ≡ is_needed had (Ok request) done.answer) × ((next ≡ having had done.answer) × Shows new.core done.state)

-- lines were given to a session: the text has those that are needed
pub record Compacts (had : Had) (old : SessionView) (lines : List (List ℕ)) (text : List ℕ) (next : Had) (new : SessionView) : Type 0 where
  pub settings : new.settings ≡ old.settings
  pub comes : (state : Frontier) → Shows old.core state → (text ≡ log_text (needed old.settings had state lines)) × ((next ≡ had_after old.settings had state lines) × Shows new.core (state_after old.settings state lines))
