-- A subqueue's half of a state: what it accepted, how much of it was taken, and its own three steps.
use Rattle.std.specs.Prelude.{ℕ, suc, ◌-◌, Bool, true, false, List, [], ◌∷◌, ◌++◌, length, drop, slice_get, Option}
use Rattle.crawl_core.specs.Flags.{one_if}
use Rattle.crawl_core.specs.Messages.{Message, count_from}

-- the messages that a subqueue accepted, oldest first; how many of them were taken; and `busy`: the one that was taken last is not done
pub record Subqueue : Type 0 where
  pub accepted : List Message
  pub taken : ℕ
  pub busy : Bool

abbrev pub empty_subqueue : Subqueue
empty_subqueue = record { accepted = []; taken = 0; busy = false }

-- the number of messages that were taken and are done
abbrev pub finished : Subqueue → ℕ
finished queue = queue.taken - one_if queue.busy

-- the number of messages that were accepted and are not done
abbrev pub unfinished : Subqueue → ℕ
unfinished queue = length queue.accepted - finished queue

-- the messages that were accepted and not yet taken
abbrev pub waiting : Subqueue → List Message
waiting queue = drop queue.taken queue.accepted

-- the first of these messages
abbrev pub oldest : Subqueue → Option Message
oldest queue = slice_get queue.accepted queue.taken

-- the message with which the subqueue would accept the sender's URL
abbrev pub next_message : Subqueue → ℕ → List ℕ → Message
next_message queue sender url = record { url = url; sender = sender; number = count_from queue.accepted sender }

-- a message is added at the end
abbrev pub after_accepting : Subqueue → Message → Subqueue
after_accepting queue message = record queue { accepted = queue.accepted ++ message ∷ [] }

-- the oldest message that waits is taken
abbrev pub after_taking : Subqueue → Subqueue
after_taking queue = record queue { taken = suc queue.taken; busy = true }

-- the message that was taken last is done
abbrev pub after_finishing : Subqueue → Subqueue
after_finishing queue = record queue { busy = false }
