-- What a history, a list of events with their replies, states about each subqueue and about the units.
use Rattle.std.specs.Prelude.{fold, ◌≡◌, ℕ, suc, ◌+◌, ◌<◌, List, map, take, nat_eq, slice_get, if◌then◌else◌, Option, Some, None, Bool, true, false}
use Rattle.std.specs.List.{filter_map, count_by, list_any}
use Rattle.crawl_core.specs.declared.word.Word.{Word}
use Rattle.crawl_core.specs.declared.event.Event.{Event}
use Rattle.crawl_core.specs.declared.event.Event.TheVariants.{Look, Enter, Admit, Back, EndSeeds, Take, Done}
use Rattle.crawl_core.specs.declared.reply.Reply.{Reply}
use Rattle.crawl_core.specs.declared.reply.Reply.TheVariants as says
use Rattle.crawl_core.specs.Messages.{Message, message_with, numbers_of}

-- the message that the subqueue accepted, if the reply says that it did
abbrev pub accepted_by : ℕ → Event → Reply → Option Message
accepted_by queue (Admit sender url place) (says.Accepted there number) =
    if nat_eq there queue then Some (record { url = url; sender = sender; number = number }) else None
accepted_by queue _ _ = None

-- the URL that was taken from the subqueue, if one was
abbrev pub taken_by : ℕ → Event → Reply → Option (List ℕ)
taken_by queue (Take place) (says.Taken url) = if nat_eq place queue then Some url else None
taken_by queue _ _ = None

-- all messages that the subqueue accepted, in order
abbrev pub accepted_in : ℕ → List (Event × Reply) → List Message
accepted_in queue history = filter_map (λ x. accepted_by queue x.0 x.1) history

abbrev pub accepted_urls : ℕ → List (Event × Reply) → List (List ℕ)
accepted_urls queue history = map (λ m. m.url) (accepted_in queue history)

-- all URLs that were taken from it, in order
abbrev pub taken_urls : ℕ → List (Event × Reply) → List (List ℕ)
taken_urls queue history = filter_map (λ x. taken_by queue x.0 x.1) history

-- whether a fetch of the subqueue was done
abbrev pub done_by : ℕ → Event → Reply → Bool
done_by queue (Done place) (says.Count left) = nat_eq place queue
done_by queue _ _ = false

-- how many fetches of the subqueue were done
abbrev pub done_in : ℕ → List (Event × Reply) → ℕ
done_in queue history = count_by (λ x. done_by queue x.0 x.1) history

-- the messages that left the subqueue, in the order in which their URLs were taken: for each URL the message with which the
-- subqueue accepted it
abbrev pub left_in : ℕ → List (Event × Reply) → List Message
left_in queue history = filter_map (message_with (accepted_in queue history)) (taken_urls queue history)

-- the k-th URL that was taken from a subqueue is the k-th that it accepted
abbrev pub TakesInOrder : List (Event × Reply) → Type 0
TakesInOrder history =
    (queue k : ℕ) (url : List ℕ) → slice_get (taken_urls queue history) k ≡ Some url → slice_get (accepted_urls queue history) k ≡ Some url

-- no subqueue accepts a URL twice
abbrev pub AcceptsOnce : List (Event × Reply) → Type 0
AcceptsOnce history =
    (queue i j : ℕ) (url : List ℕ) → slice_get (accepted_urls queue history) i ≡ Some url → slice_get (accepted_urls queue history) j ≡ Some url → i ≡ j

-- each URL that was taken is that of a message that left, and the messages of one sender left with the numbers 0, 1, 2, .. in this
-- order
pub record LeavesInOrder (history : List (Event × Reply)) : Type 0 where
  pub leaves : (queue : ℕ) → map (λ m. m.url) (left_in queue history) ≡ taken_urls queue history
  pub numbered : (queue sender k number : ℕ) → slice_get (numbers_of (left_in queue history) sender) k ≡ Some number → number ≡ k

-- between two takes from a subqueue, the URL of the first one is done
abbrev pub FetchesOneAtATime : List (Event × Reply) → Type 0
FetchesOneAtATime history =
    (queue i j : ℕ) (first second : List ℕ) → i < j → slice_get history i ≡ Some (Take queue, says.Taken first) → slice_get history j ≡ Some (Take queue, says.Taken second) → (k : ℕ) × (left : ℕ) × (i < k) × (k < j) × (slice_get history k ≡ Some (Done queue, says.Count left))

-- one of the events admitted this URL to the subqueue
abbrev pub IsAdmitted : List Event → ℕ → List ℕ → Type 0
IsAdmitted events queue url = (place : ℕ) × (sender : ℕ) × (slice_get events place ≡ Some (Admit sender url queue))

-- all admissions of a URL name the same subqueue
abbrev pub AssignsEachUrl : List Event → Type 0
AssignsEachUrl events =
    (i j : ℕ) (sender other : ℕ) (url : List ℕ) (queue there : ℕ) → slice_get events i ≡ Some (Admit sender url queue) → slice_get events j ≡ Some (Admit other url there) → queue ≡ there

-- a URL is taken at most once
abbrev pub TakesOnce : List (Event × Reply) → Type 0
TakesOnce history =
    (i j : ℕ) (queue there : ℕ) (url : List ℕ) → slice_get history i ≡ Some (Take queue, says.Taken url) → slice_get history j ≡ Some (Take there, says.Taken url) → i ≡ j

-- a URL is taken only from the subqueue that its admissions name
abbrev pub TakesAsAdmitted : List Event → List (Event × Reply) → Type 0
TakesAsAdmitted events history =
    (i j : ℕ) (sender queue there : ℕ) (url : List ℕ) → slice_get history i ≡ Some (Take queue, says.Taken url) → slice_get events j ≡ Some (Admit sender url there) → queue ≡ there

-- whether the reply states that a unit was taken, and whether one was given back
abbrev pub comes_out : Reply → Bool
comes_out (says.Entered count) = true
comes_out _ = false

abbrev pub comes_back : Reply → Bool
comes_back (says.Count count) = true
comes_back _ = false

-- this number of units is held after a history: the opening one, plus those that were taken, minus those that were given back
abbrev pub AreOut : ℕ → List (Event × Reply) → Type 0
AreOut count history = count + count_by (λ x. comes_back x.1) history ≡ 1 + count_by (λ x. comes_out x.1) history

-- the number of units that the reply states, if it states one
abbrev pub stated_count : Reply → Option ℕ
stated_count (says.Word count closed) = Some count
stated_count (says.Entered count) = Some count
stated_count (says.Count count) = Some count
stated_count (says.Pending count) = Some count
stated_count says.Closed = Some 0
stated_count _ = None

-- the number in a reply is that of the units held by the history up to and with its event
abbrev pub ReportsUnits : List (Event × Reply) → Type 0
ReportsUnits history =
    (k count : ℕ) (event : Event) (reply : Reply) → slice_get history k ≡ Some (event, reply) → stated_count reply ≡ Some count → AreOut count (take (suc k) history)

-- whether the reply states that the gate is closed, and whether one of the replies does
abbrev pub says_closed : Reply → Bool
says_closed says.Closed = true
says_closed _ = false

abbrev pub was_closed : List (Event × Reply) → Bool
was_closed history = list_any (λ x. says_closed x.1) history

-- whether the event gave the opening unit back
abbrev pub ends_seeds : Event → Reply → Bool
ends_seeds EndSeeds (says.Count left) = true
ends_seeds _ _ = false

abbrev pub was_ended : List (Event × Reply) → Bool
was_ended history = list_any (λ x. ends_seeds x.0 x.1) history

-- whether the sender holds a unit after an event, by whether it held one before
abbrev pub holds_after : ℕ → Bool → Event → Reply → Bool
holds_after sender held (Enter who) (says.Entered count) = if nat_eq who sender then true else held
holds_after sender held (Admit who url queue) (says.Accepted there number) = if nat_eq who sender then false else held
holds_after sender held (Back who) (says.Count left) = if nat_eq who sender then false else held
holds_after sender held _ _ = held

-- whether the sender holds a unit: it entered, and since then no URL of it was accepted and it did not give the unit back
abbrev pub has_unit : List (Event × Reply) → ℕ → Bool
has_unit history sender = fold (λ held x. holds_after sender held x.0 x.1) false history

-- the word that the sender remembers after an event, by the one that it remembered before
abbrev pub word_after : ℕ → Option Word → Event → Reply → Option Word
word_after sender word (Look who) (says.Word count closed) = if nat_eq who sender then Some (record { count = count; closed = closed }) else word
word_after sender word (Enter who) (says.Entered count) = if nat_eq who sender then None else word
word_after sender word _ _ = word

-- the word that the sender remembers: that of its last look, unless it entered since
abbrev pub last_word : List (Event × Reply) → ℕ → Option Word
last_word history sender = fold (λ word x. word_after sender word x.0 x.1) None history

-- a look finds the gate closed if and only if an earlier reply stated that it is
abbrev pub ReportsClosing : List (Event × Reply) → Type 0
ReportsClosing history =
    (k sender count : ℕ) (closed : Bool) → slice_get history k ≡ Some (Look sender, says.Word count closed) → closed ≡ was_closed (take k history)

-- the reply `Accepted` names the subqueue of its event
abbrev pub NamesItsSubqueue : List (Event × Reply) → Type 0
NamesItsSubqueue history =
    (k sender queue there number : ℕ) (url : List ℕ) → slice_get history k ≡ Some (Admit sender url queue, says.Accepted there number) → there ≡ queue

-- whether a reply states neither that a unit was taken or given back, nor that a URL was accepted or taken
abbrev pub is_quiet : Reply → Bool
is_quiet (says.Entered count) = false
is_quiet (says.Accepted queue number) = false
is_quiet (says.Taken url) = false
is_quiet (says.Count left) = false
is_quiet _ = true

-- after a reply `Closed` no unit is taken or given back, and no URL accepted or taken
abbrev pub StaysClosed : List (Event × Reply) → Type 0
StaysClosed history =
    (i j : ℕ) (event : Event) (later : Event × Reply) → i < j → slice_get history i ≡ Some (event, says.Closed) → slice_get history j ≡ Some later → is_quiet later.1 ≡ true
