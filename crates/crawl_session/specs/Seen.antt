-- How many offers to each queue were answered `seen`, and the lines by which a log keeps these numbers.
use Rattle.std.specs.Prelude.{ℕ, suc, ◌+◌, ◌-◌, ◌^◌, List, [], ◌∷◌, ◌++◌, ◌==◌, codes, get_or, if◌then◌else◌, min, replicate, slice_set, decimal}
use Rattle.crawl_core.specs.declared.reply.Reply.TheVariants as says
use Rattle.crawl_session.specs.declared.answer.Answer.{Answer}
use Rattle.crawl_session.specs.declared.answer.Answer.TheVariants.{Replied}

-- the numbers of a new session, each 0: those of the queues that a request can name
abbrev pub none_seen : ℕ → List ℕ
none_seen queues = replicate (min queues (2 ^ 32)) 0

-- numbers go up to the largest that the program counts to
abbrev pub sum_of : ℕ → ℕ → ℕ
sum_of a b = min (a + b) (2 ^ 64 - 1)

-- a larger number of a queue
abbrev pub add_seen : ℕ → ℕ → List ℕ → List ℕ
add_seen queue count seen = slice_set seen queue (sum_of (get_or seen queue 0) count)

-- after the answer to an offer to a queue
abbrev pub seen_with : ℕ → Answer → List ℕ → List ℕ
seen_with queue (Replied says.Seen) seen = add_seen queue 1 seen
seen_with queue _ seen = seen

-- `seen Q COUNT`
abbrev pub seen_line : ℕ → ℕ → List ℕ
seen_line queue count = codes "seen " ++ decimal queue ++ codes " " ++ decimal count

-- a line for each queue from this one on whose number is not 0
abbrev pub seen_lines : ℕ → List ℕ → List (List ℕ)
seen_lines queue [] = []
seen_lines queue (count ∷ more) = if count == 0 then seen_lines (suc queue) more else seen_line queue count ∷ seen_lines (suc queue) more
