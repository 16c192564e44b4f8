-- The gate's half of a state: who holds a unit, which word each sender remembers, and the gate's own steps. The number of units
-- that are held also depends on the subqueues, so each step gets `messages`, the number of accepted messages that are not done.
use Rattle.std.specs.Prelude.{ℕ, suc, ◌+◌, Bool, true, false, ◌&&◌, ◌||◌, not, List, [], length, nat_eq, if◌then◌else◌, Option, Some, None}
use Rattle.std.specs.List.{list_any}
use Rattle.std.specs.Ordering.{nat_cmp}
use Rattle.std.specs.BTreeMap.{is_at, insert_entry}
use Rattle.std.specs.BTreeSet.{insert_key}
use Rattle.std.specs.Map.{lookup, remove_entry}
use Rattle.std.specs.Set.{remove_key}
use Rattle.crawl_core.specs.declared.word.Word.{Word}
use Rattle.crawl_core.specs.declared.reply.Reply.{Reply}
use Rattle.crawl_core.specs.declared.reply.Reply.TheVariants as says
use Rattle.crawl_core.specs.declared.reply.Refusal.{Refusal}
use Rattle.crawl_core.specs.declared.reply.Refusal.TheVariants as why
use Rattle.crawl_core.specs.Flags.{one_if, same_flag}

-- the senders that hold a unit, in ascending order; the word that each sender remembers, if any, by ascending sender; whether the
-- opening unit is still held; whether the gate is closed; and the maximum of units, which never changes
pub record GateSide : Type 0 where
  pub holders : List ℕ
  pub remembered : List (ℕ × Word)
  pub opening : Bool
  pub closed : Bool
  pub max : ℕ

-- only the opening unit is held
abbrev pub new_gate : ℕ → GateSide
new_gate max = record { holders = []; remembered = []; opening = true; closed = false; max = max }

-- the number of units that are held: the opening one, one for each sender that holds one, one for each message that is not done
abbrev pub units_out : GateSide → ℕ → ℕ
units_out gate messages = one_if gate.opening + length gate.holders + messages

-- the word that the gate shows
abbrev pub shown_word : GateSide → ℕ → Word
shown_word gate messages = record { count = units_out gate messages; closed = gate.closed }

abbrev pub same_word : Word → Word → Bool
same_word a b = nat_eq a.count b.count && same_flag a.closed b.closed

abbrev pub holds : GateSide → ℕ → Bool
holds gate sender = list_any (is_at (nat_cmp sender)) gate.holders

-- the word that the sender remembers, if any
abbrev pub remembers : GateSide → ℕ → Option Word
remembers gate sender = lookup (is_at (nat_cmp sender)) gate.remembered

-- the sender's unit is given back, or is passed on to a URL
abbrev pub let_go : GateSide → ℕ → GateSide
let_go gate sender = record gate { holders = remove_key (is_at (nat_cmp sender)) gate.holders }

-- a reply, and the gate after it
pub record GateTurn : Type 0 where
  pub reply : Reply
  pub gate : GateSide

-- a refused event changes nothing
abbrev pub turned_away : GateSide → Refusal → GateTurn
turned_away gate reason = record { reply = says.Refused reason; gate = gate }

-- a unit was given back: the reply is the number that is left
abbrev pub gave_back : GateSide → ℕ → GateTurn
gave_back gate messages = record { reply = says.Count (units_out gate messages); gate = gate }

-- `Look`: the word, which the sender remembers from now on
abbrev pub look : GateSide → ℕ → ℕ → GateTurn
look gate messages sender = record {
  reply = says.Word (units_out gate messages) gate.closed;
  gate = record gate { remembered = insert_entry nat_cmp gate.remembered sender (shown_word gate messages) };
}

-- `Enter` is granted: the sender holds a unit, and forgets its word
abbrev pub grant : GateSide → ℕ → ℕ → GateTurn
grant gate messages sender = record {
  reply = says.Entered (suc (units_out gate messages));
  gate = record gate {
    holders = insert_key nat_cmp gate.holders sender;
    remembered = remove_entry (is_at (nat_cmp sender)) gate.remembered;
  };
}

-- `Enter` by a sender that holds no unit, and that remembers this word, if any
abbrev pub enter_with : GateSide → ℕ → ℕ → Option Word → GateTurn
enter_with gate messages sender None = turned_away gate why.Nothing
enter_with gate messages sender (Some word) =
    if not (same_word word (shown_word gate messages)) then record { reply = says.Lost; gate = gate }
    else if gate.closed then turned_away gate why.Closed
    else if nat_eq (units_out gate messages) gate.max then turned_away gate why.Full
    else grant gate messages sender

abbrev pub enter : GateSide → ℕ → ℕ → GateTurn
enter gate messages sender =
    if holds gate sender then turned_away gate why.Busy
    else enter_with gate messages sender (remembers gate sender)

-- `Back`: the sender's unit is given back
abbrev pub back : GateSide → ℕ → ℕ → GateTurn
back gate messages sender = if holds gate sender then gave_back (let_go gate sender) messages else turned_away gate why.Nothing

-- `EndSeeds`: the opening unit is given back
abbrev pub end_seeds : GateSide → ℕ → GateTurn
end_seeds gate messages = if gate.opening then gave_back (record gate { opening = false }) messages else turned_away gate why.Nothing

-- `Close`: the gate is closed if it was closed already, or if no unit is held
abbrev pub close : GateSide → ℕ → GateTurn
close gate messages =
    if gate.closed || nat_eq (units_out gate messages) 0 then record { reply = says.Closed; gate = record gate { closed = true } }
    else record { reply = says.Pending (units_out gate messages); gate = gate }
