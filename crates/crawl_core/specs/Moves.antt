-- The machine's own table of steps: that of `Step`, with what is kept of a subqueue in place of the subqueue. The gate's half is
-- the same. Each other definition has the name of its counterpart in `Step`.
use Rattle.std.specs.Prelude.{◌≡◌, ℕ, suc, true, false, not, List, [], ◌∷◌, ◌++◌, slice_get, slice_set, if◌then◌else◌, Option, Some, None}
use Rattle.std.specs.Ordering.{nat_cmp}
use Rattle.std.specs.BTreeMap.{insert_entry}
use Rattle.crawl_core.specs.declared.event.Event.{Event}
use Rattle.crawl_core.specs.declared.event.Event.TheVariants.{Look, Enter, Admit, Back, EndSeeds, Take, Done, Close}
use Rattle.crawl_core.specs.declared.reply.Reply.{Reply}
use Rattle.crawl_core.specs.declared.reply.Reply.TheVariants as says
use Rattle.crawl_core.specs.declared.reply.Refusal.{Refusal}
use Rattle.crawl_core.specs.declared.reply.Refusal.TheVariants as why
use Rattle.crawl_core.specs.GateSide.{GateTurn, holds, let_go, look, enter, back, end_seeds, close}
use Rattle.crawl_core.specs.Kept.{Kept, KeptQueue, outstanding_in, kept_count, has_seen, number_at}

-- a reply, and what is kept after it
pub record Move : Type 0 where
  pub reply : Reply
  pub kept : Kept

abbrev pub refused : Kept → Refusal → Move
refused kept reason = record { reply = says.Refused reason; kept = kept }

abbrev pub counted : Kept → Move
counted kept = record { reply = says.Count (kept_count kept); kept = kept }

abbrev pub by_gate : Kept → GateTurn → Move
by_gate kept done = record { reply = done.reply; kept = record kept { gate = done.gate } }

abbrev pub with_queue : Kept → ℕ → KeptQueue → Kept
with_queue kept place queue = record kept { queues = slice_set kept.queues place queue }

-- a subqueue with one more URL of the sender
abbrev pub accepting : KeptQueue → List ℕ → ℕ → KeptQueue
accepting queue url sender = record queue {
  waiting = queue.waiting ++ url ∷ [];
  seen = queue.seen ++ url ∷ [];
  numbers = insert_entry nat_cmp queue.numbers sender (suc (number_at queue.numbers sender));
}

abbrev pub put : Kept → ℕ → List ℕ → ℕ → KeptQueue → Move
put kept sender url place queue = record {
  reply = says.Accepted place (number_at queue.numbers sender);
  kept = record {
    gate = let_go kept.gate sender;
    queues = slice_set kept.queues place (accepting queue url sender);
  };
}

abbrev pub admit_to : Kept → ℕ → List ℕ → ℕ → Option KeptQueue → Move
admit_to kept sender url place None = refused kept why.NoSuch
admit_to kept sender url place (Some queue) =
    if not (holds kept.gate sender) then refused kept why.Nothing
    else if has_seen queue url then record { reply = says.Seen; kept = kept }
    else put kept sender url place queue

abbrev pub take_oldest : Kept → ℕ → KeptQueue → List (List ℕ) → Move
take_oldest kept place queue [] = record { reply = says.Empty; kept = kept }
take_oldest kept place queue (url ∷ rest) = record {
  reply = says.Taken url;
  kept = with_queue kept place (record queue { waiting = rest; busy = true });
}

abbrev pub take_from : Kept → ℕ → Option KeptQueue → Move
take_from kept place None = refused kept why.NoSuch
take_from kept place (Some queue) = if queue.busy then refused kept why.Busy else take_oldest kept place queue queue.waiting

abbrev pub done_with : Kept → ℕ → Option KeptQueue → Move
done_with kept place None = refused kept why.NoSuch
done_with kept place (Some queue) =
    if queue.busy then counted (with_queue kept place (record queue { busy = false }))
    else refused kept why.Nothing

abbrev pub move : Kept → Event → Move
move kept (Look sender) = by_gate kept (look kept.gate (outstanding_in kept) sender)
move kept (Enter sender) = by_gate kept (enter kept.gate (outstanding_in kept) sender)
move kept (Admit sender url place) = admit_to kept sender url place (slice_get kept.queues place)
move kept (Back sender) = by_gate kept (back kept.gate (outstanding_in kept) sender)
move kept EndSeeds = by_gate kept (end_seeds kept.gate (outstanding_in kept))
move kept (Take place) = take_from kept place (slice_get kept.queues place)
move kept (Done place) = done_with kept place (slice_get kept.queues place)
move kept Close = by_gate kept (close kept.gate (outstanding_in kept))

-- what is kept goes from old to new, with this reply
pub record Moves (old : Kept) (event : Event) (reply : Reply) (new : Kept) : Type 0 where
  pub reply_is : reply ≡ (move old event).reply
  pub kept_is : new ≡ (move old event).kept
