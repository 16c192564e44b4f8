-- What calls do to a session, whatever state it keeps.
use Rattle.std.specs.Prelude.{◌≡◌, ℕ, List}
use Rattle.crawl_core.specs.declared.word.Word.{Word}
use Rattle.crawl_session.specs.declared.answer.Answer.{Answer}
use Rattle.crawl_session.specs.Answers.{answer_lines}
use Rattle.crawl_session.specs.Exchanges.{Outcome}
use Rattle.crawl_session.specs.Frontiers.{Frontier, KeptFrontier, Shows}
use Rattle.crawl_session.specs.Sessions.{line_exchange, answers, state_after}
use Rattle.crawl_session.specs.Settings.{SessionView}
use Rattle.crawl_session.specs.Steps as steps

-- whatever state was kept: the answer is the outcome's, and what is kept afterwards is its state
abbrev pub Comes : (Frontier → Outcome) → KeptFrontier → Answer → KeptFrontier → Type 0
Comes outcome old answer new = (state : Frontier) → Shows old state → ((outcome state).answer ≡ answer) × Shows new (outcome state).state

-- the same state, but for the words that senders remember
abbrev pub with_words : Frontier → List (ℕ × Word) → Frontier
with_words state words = record state { machine = steps.with_words state.machine words }

-- memory was out: the machine is as it was, but for the words that senders remember, and all else is as it was
pub record GivenUp (state : Frontier) (kept : KeptFrontier) : Type 0 where
  pub machine : steps.GivenUp state.machine kept.machine
  pub deferrals : kept.deferrals ≡ state.deferrals
  pub senders : kept.senders ≡ state.senders
  pub seen : kept.seen ≡ state.seen

-- the same whatever state was kept
abbrev pub GivesUp : KeptFrontier → KeptFrontier → Type 0
GivesUp old new = (state : Frontier) → Shows old state → GivenUp state new

-- a line was answered
pub record Serves (old : SessionView) (line : List ℕ) (answer : Answer) (new : SessionView) : Type 0 where
  pub settings : new.settings ≡ old.settings
  pub comes : Comes (λ state. line_exchange old.settings state line) old.core answer new.core

-- lines were answered: the text has an answer line for each
pub record ServesAll (old : SessionView) (lines : List (List ℕ)) (text : List ℕ) (new : SessionView) : Type 0 where
  pub settings : new.settings ≡ old.settings
  pub comes : (state : Frontier) → Shows old.core state → (text ≡ answer_lines (answers old.settings state lines)) × Shows new.core (state_after old.settings state lines)
