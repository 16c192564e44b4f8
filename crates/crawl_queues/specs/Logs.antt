-- What the lines of a log mean, by what its sender knows of the lists.
use Rattle.std.specs.Prelude.{◌≡◌, ℕ, List, [], ◌∷◌, length, map, Some, slice_get, slice_index_or, if◌then◌else◌}
use Rattle.crawl_queues.specs.declared.entry.Entry.{Entry}
use Rattle.crawl_queues.specs.declared.log.LogLine.{LogLine}
use Rattle.crawl_queues.specs.declared.book.Logged.{Logged}
use Rattle.crawl_queues.specs.declared.book.Logged.TheVariants.{Accepted, Seen}
use Rattle.crawl_queues.specs.QueueId.{QueueId}
use Rattle.crawl_queues.specs.Growing.{no_entry, Stays}
use Rattle.crawl_queues.specs.Known.{KnownList}

-- the known entries of a list
abbrev pub items_of : KnownList → List Entry
items_of t = t.items

abbrev pub lists_of : List KnownList → List (List Entry)
lists_of learned = map items_of learned

-- the entry at an index of a queue's list
abbrev pub entry_at : List (List Entry) → ℕ → ℕ → Entry
entry_at lists q i = slice_index_or (slice_index_or lists q []) i no_entry

-- the meaning of a line, given its entry
abbrev pub says : LogLine → Entry → Logged
says l e = if l.accepted then Accepted e l.queue else Seen e.url l.queue

abbrev pub line_of : List (List Entry) → LogLine → Logged
line_of lists l = says l (entry_at lists l.queue l.index)

abbrev pub log_of : List (List Entry) → List LogLine → List Logged
log_of lists [] = []
log_of lists (l ∷ ls) = line_of lists l ∷ log_of lists ls

-- the entry is at the index of the queue's list
abbrev pub Has : List (List Entry) → ℕ → ℕ → Entry → Type 0
Has lists q i e = (es : List Entry) × (slice_get lists q ≡ Some es) × (slice_get es i ≡ Some e)

-- there is an entry at the index of each line
abbrev pub AreThere : List (List Entry) → List LogLine → Type 0
AreThere lists [] = Unit {0}
AreThere lists (l ∷ ls) = ((e : Entry) × Has lists l.queue l.index e) × AreThere lists ls

-- the known entries of each list are also in these
abbrev pub AllStay : List (List Entry) → List (List Entry) → Type 0
AllStay before after = (q : ℕ) (es : List Entry) → slice_get before q ≡ Some es → (fs : List Entry) × (slice_get after q ≡ Some fs) × Stays es fs

-- what is known is about the lists of these queues
abbrev pub ListsAre : List QueueId → List KnownList → Type 0
ListsAre queues learned = (q : ℕ) (s : QueueId) (t : KnownList) → slice_get queues q ≡ Some s → slice_get learned q ≡ Some t → t.list ≡ s.list

-- what is known of each queue's list, and lines that are about known entries
pub record AreKnown (queues : List QueueId) (workers : ℕ) (learned : List KnownList) (ls : List LogLine) : Type 0 where
  pub len : length learned ≡ workers
  pub lists_are : ListsAre queues learned
  pub there : AreThere (lists_of learned) ls
