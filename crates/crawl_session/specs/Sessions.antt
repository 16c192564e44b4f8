-- A session: lines, one after another, and what each is answered.
use Rattle.std.specs.Prelude.{ℕ, List, [], ◌∷◌, ◌++◌, Result, Ok, Err}
use Rattle.crawl_core.specs.declared.event.Event.{Event}
use Rattle.crawl_core.specs.declared.reply.Reply.{Reply}
use Rattle.crawl_session.specs.declared.answer.Answer.{Answer}
use Rattle.crawl_session.specs.declared.answer.Answer.TheVariants.{Unasked}
use Rattle.crawl_session.specs.declared.request.Request.{Request}
use Rattle.crawl_session.specs.declared.request.RequestError.{RequestError}
use Rattle.std.specs.Str.Lines.{lines}
use Rattle.crawl_session.specs.Answers.{answer_lines}
use Rattle.crawl_session.specs.Exchanges.{Outcome, exchange}
use Rattle.crawl_session.specs.Frontiers.{Frontier, start}
use Rattle.crawl_session.specs.Parts.{request_for}
use Rattle.crawl_session.specs.Settings.{Settings}

-- a line that requests nothing means no event
abbrev pub answered : Frontier → Result Request RequestError → Outcome
answered state (Ok request) = exchange state request
answered state (Err why) = record { history = []; answer = Unasked why; state = state }

-- what comes of a line
abbrev pub line_exchange : Settings → Frontier → List ℕ → Outcome
line_exchange settings state line = answered state (request_for settings line)

-- the answers to lines, from this state on
abbrev pub answers : Settings → Frontier → List (List ℕ) → List Answer
answers settings state [] = []
answers settings state (line ∷ more) = (line_exchange settings state line).answer ∷ answers settings (line_exchange settings state line).state more

-- the state after them
abbrev pub state_after : Settings → Frontier → List (List ℕ) → Frontier
state_after settings state [] = state
state_after settings state (line ∷ more) = state_after settings (line_exchange settings state line).state more

-- the events that they mean, with their replies
abbrev pub history_of : Settings → Frontier → List (List ℕ) → List (Event × Reply)
history_of settings state [] = []
history_of settings state (line ∷ more) = (line_exchange settings state line).history ++ history_of settings (line_exchange settings state line).state more

-- what a new session writes to the lines of these bytes
abbrev pub session_text : Settings → ℕ → List ℕ → List ℕ
session_text settings max bytes = answer_lines (answers settings (start settings.workers max) (lines bytes))
