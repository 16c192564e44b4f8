-- The state of a frontier: the gate's half, and that of each subqueue.
use Rattle.std.specs.Prelude.{ℕ, List, replicate, sum_by}
use Rattle.crawl_core.specs.declared.word.Word.{Word}
use Rattle.crawl_core.specs.GateSide.{GateSide, new_gate, units_out, shown_word}
use Rattle.crawl_core.specs.Subqueue.{Subqueue, empty_subqueue, unfinished}

pub record State : Type 0 where
  pub gate : GateSide
  pub subqueues : List Subqueue

-- no URL was accepted, and only the opening unit is held
abbrev pub start : ℕ → ℕ → State
start workers max = record { gate = new_gate max; subqueues = replicate workers empty_subqueue }

-- the number of accepted messages that are not done
abbrev pub unfinished_in : State → ℕ
unfinished_in state = sum_by unfinished state.subqueues

-- the number of units that are held
abbrev pub count_of : State → ℕ
count_of state = units_out state.gate (unfinished_in state)

-- the word that the gate shows
abbrev pub word_of : State → Word
word_of state = shown_word state.gate (unfinished_in state)
