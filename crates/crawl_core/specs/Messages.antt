-- Messages, and definitions about lists of them. Nothing here depends on the machine.
use Rattle.std.specs.Prelude.{◌≡◌, ℕ, Bool, List, map, take, nat_eq, slice_get, Option, Some, bytes_eq}
use Rattle.std.specs.List.{count_by, filter, find, list_any}

-- a URL that a subqueue accepted. Its number is how many earlier URLs of the same sender the subqueue accepted
pub record Message : Type 0 where
  pub url : List ℕ
  pub sender : ℕ
  pub number : ℕ

-- whether one of the messages has the URL
abbrev pub has_url : List Message → List ℕ → Bool
has_url messages url = list_any (λ m. bytes_eq m.url url) messages

-- the first message that has the URL
abbrev pub message_with : List Message → List ℕ → Option Message
message_with messages url = find (λ m. bytes_eq m.url url) messages

-- how many of the messages are the sender's
abbrev pub count_from : List Message → ℕ → ℕ
count_from messages sender = count_by (λ m. nat_eq m.sender sender) messages

-- the numbers of the sender's messages
abbrev pub numbers_of : List Message → ℕ → List ℕ
numbers_of messages sender = map (λ m. m.number) (filter (λ m. nat_eq m.sender sender) messages)

-- no two messages have the same URL
abbrev pub UrlsDiffer : List Message → Type 0
UrlsDiffer messages =
    (i j : ℕ) (m n : Message) → slice_get messages i ≡ Some m → slice_get messages j ≡ Some n → m.url ≡ n.url → i ≡ j

-- the number of each message is how many earlier messages of its sender the list has
abbrev pub NumbersInOrder : List Message → Type 0
NumbersInOrder messages =
    (k : ℕ) (m : Message) → slice_get messages k ≡ Some m → m.number ≡ count_from (take k messages) m.sender
