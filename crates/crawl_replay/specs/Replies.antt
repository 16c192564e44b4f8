-- The lines of replies.
use Rattle.std.specs.Prelude.{ℕ, true, false, List, [], ◌∷◌, ◌++◌, codes, flat_map, decimal}
use Rattle.crawl_core.specs.declared.reply.Reply.{Reply}
use Rattle.crawl_core.specs.declared.reply.Reply.TheVariants.{Word, Entered, Lost, Accepted, Seen, Count, Taken, Empty, Closed, Pending, Refused}
use Rattle.crawl_core.specs.declared.reply.Refusal.{Refusal}
use Rattle.crawl_core.specs.declared.reply.Refusal.TheVariants as why

-- the text of a refusal, and the line of a reply
abbrev pub refusal_text : Refusal → List ℕ
refusal_text why.Closed = codes "closed"
refusal_text why.Full = codes "full"
refusal_text why.Nothing = codes "nothing"
refusal_text why.Busy = codes "busy"
refusal_text why.NoSuch = codes "nosuch"

abbrev pub reply_text : Reply → List ℕ
reply_text (Word count false) = codes "word " ++ decimal count ++ codes " open"
reply_text (Word count true) = codes "word " ++ decimal count ++ codes " closed"
reply_text (Entered count) = codes "entered " ++ decimal count
reply_text Lost = codes "lost"
reply_text (Accepted queue number) = codes "accepted " ++ decimal queue ++ codes " " ++ decimal number
reply_text Seen = codes "seen"
reply_text (Count count) = codes "count " ++ decimal count
reply_text (Taken url) = codes "taken " ++ url
reply_text Empty = codes "empty"
reply_text Closed = codes "closed"
reply_text (Pending count) = codes "pending " ++ decimal count
reply_text (Refused reason) = codes "refused " ++ refusal_text reason

-- a reply, and LF
abbrev pub reply_line : Reply → List ℕ
reply_line reply = reply_text reply ++ 10 ∷ []

abbrev pub reply_lines : List Reply → List ℕ
reply_lines replies = flat_map reply_line replies
