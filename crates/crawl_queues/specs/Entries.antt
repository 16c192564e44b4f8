-- Lists of entries: whether they have a URL, and what is true of the entries that a subqueue accepted.
use Rattle.std.specs.Prelude.{bytes_eq, ◌≡◌, ℕ, ◌+◌, ◌==◌, ◌||◌, Bool, false, List, [], ◌∷◌, ◌++◌, if◌then◌else◌}
use Rattle.crawl_keys.specs.Assignment.{subqueue_of}
use Rattle.crawl_queues.specs.declared.entry.Entry.{Entry}

-- the URL is in the list
abbrev pub has_url : List ℕ → List Entry → Bool
has_url url [] = false
has_url url (e ∷ es) = bytes_eq e.url url || has_url url es

-- the number of entries of this sender
abbrev pub count_of : ℕ → List Entry → ℕ
count_of s [] = 0
count_of s (e ∷ es) = (if e.sender == s then 1 else 0) + count_of s es

-- the entries of this sender, in order
abbrev pub entries_of : ℕ → List Entry → List Entry
entries_of s [] = []
entries_of s (e ∷ es) = if e.sender == s then e ∷ entries_of s es else entries_of s es

-- the entry may come after these: its URL is new, it belongs to the subqueue, and its number is that of the sender's earlier entries
pub record MayFollow (workers queue : ℕ) (before : List Entry) (e : Entry) : Type 0 where
  pub new : has_url e.url before ≡ false
  pub here : subqueue_of e.url workers ≡ queue
  pub number : e.number ≡ count_of e.sender before

-- each entry may come after those before it
abbrev pub KeepsRule : ℕ → ℕ → List Entry → List Entry → Type 0
KeepsRule workers queue before [] = Unit {0}
KeepsRule workers queue before (e ∷ es) = MayFollow workers queue before e × KeepsRule workers queue (before ++ e ∷ []) es

abbrev pub entry : List ℕ → ℕ → ℕ → ℕ → Entry
entry url sender number hops = record { url = url; sender = sender; number = number; hops = hops }
