-- What the machine stores of a state: the gate's half unchanged, and for each subqueue the URLs that wait, all URLs that it ever
-- accepted, and the number of messages of each sender in place of the messages.
use Rattle.std.specs.Prelude.{◌≡◌, ℕ, ◌+◌, ◌≤◌, Bool, false, List, [], length, unwrap_or, bytes_eq}
use Rattle.std.specs.List.{sum_by, list_any}
use Rattle.std.specs.Ordering.{nat_cmp}
use Rattle.std.specs.BTreeMap.{is_at}
use Rattle.std.specs.Map.{lookup}
use Rattle.crawl_core.specs.declared.word.Word.{Word}
use Rattle.crawl_core.specs.Flags.{one_if}
use Rattle.crawl_limits.specs.Limits.{pending_limit}
use Rattle.crawl_core.specs.GateSide.{GateSide, units_out, shown_word}

-- for a subqueue: the URLs that wait, oldest first; all that it ever accepted, oldest first; how many of them are each sender's, by
-- ascending sender; and whether the one that was taken last is not done
pub record KeptQueue : Type 0 where
  pub waiting : List (List ℕ)
  pub seen : List (List ℕ)
  pub numbers : List (ℕ × ℕ)
  pub busy : Bool

pub record Kept : Type 0 where
  pub gate : GateSide
  pub queues : List KeptQueue

abbrev pub empty_queue : KeptQueue
empty_queue = record { waiting = []; seen = []; numbers = []; busy = false }

-- the number of URLs of a subqueue that are not done
abbrev pub outstanding : KeptQueue → ℕ
outstanding queue = length queue.waiting + one_if queue.busy

-- the number of URLs that are not done
abbrev pub outstanding_in : Kept → ℕ
outstanding_in kept = sum_by outstanding kept.queues

-- the number of units that are held
abbrev pub kept_count : Kept → ℕ
kept_count kept = units_out kept.gate (outstanding_in kept)

-- the word that the gate shows
abbrev pub kept_word : Kept → Word
kept_word kept = shown_word kept.gate (outstanding_in kept)

-- whether the URL is one of these texts
abbrev pub has_text : List (List ℕ) → List ℕ → Bool
has_text texts url = list_any (λ text. bytes_eq text url) texts

-- whether the subqueue accepted the URL
abbrev pub has_seen : KeptQueue → List ℕ → Bool
has_seen queue url = has_text queue.seen url

-- the number of URLs of the sender that it accepted
abbrev pub number_at : List (ℕ × ℕ) → ℕ → ℕ
number_at numbers sender = unwrap_or (lookup (is_at (nat_cmp sender)) numbers) 0

-- no sender has more URLs than the subqueue accepted
abbrev pub AreFew : KeptQueue → Type 0
AreFew queue = (sender : ℕ) → number_at queue.numbers sender ≤ length queue.seen

-- the number that is stored is the number of units, it is at most the maximum, and that is small
pub record IsCounted (kept : Kept) (count : ℕ) : Type 0 where
  pub counted : count ≡ kept_count kept
  pub within : count ≤ kept.gate.max
  pub small : kept.gate.max ≤ pending_limit
