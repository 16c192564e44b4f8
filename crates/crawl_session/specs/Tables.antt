-- What each request can be answered.
use Rattle.std.specs.Prelude.{◌≡◌, Bool, true, false, Some, Result, Ok, Err}
use Rattle.crawl_core.specs.declared.reply.Reply.{Reply}
use Rattle.crawl_core.specs.declared.reply.Reply.TheVariants as says
use Rattle.crawl_core.specs.declared.reply.Refusal.TheVariants as why
use Rattle.crawl_session.specs.declared.answer.Answer.{Answer}
use Rattle.crawl_session.specs.declared.answer.Answer.TheVariants.{Replied, Counted, Unasked}
use Rattle.crawl_session.specs.declared.request.Request.{Request}
use Rattle.crawl_session.specs.declared.request.Request.TheVariants.{Offer, Next, Again, Later, Done, EndSeeds, Stats, Seen}
use Rattle.crawl_session.specs.declared.request.RequestError.{RequestError}

-- the replies that a request can be answered
abbrev pub is_reply_to : Request → Reply → Bool
is_reply_to (Offer url queue) (says.Accepted there number) = true
is_reply_to (Offer url queue) says.Seen = true
is_reply_to (Offer url queue) (says.Refused why.Closed) = true
is_reply_to (Offer url queue) (says.Refused why.Full) = true
is_reply_to (Next queue) (says.Taken url) = true
is_reply_to (Next queue) (says.Pending count) = true
is_reply_to (Next queue) says.Closed = true
is_reply_to (Next queue) (says.Refused why.Busy) = true
is_reply_to (Next queue) (says.Refused why.NoSuch) = true
is_reply_to (Again queue) (says.Taken url) = true
is_reply_to (Again queue) (says.Refused why.Nothing) = true
is_reply_to (Again queue) (says.Refused why.NoSuch) = true
is_reply_to (Later queue) (says.Count left) = true
is_reply_to (Later queue) (says.Refused why.Nothing) = true
is_reply_to (Later queue) (says.Refused why.NoSuch) = true
is_reply_to (Done queue) (says.Count left) = true
is_reply_to (Done queue) (says.Refused why.Nothing) = true
is_reply_to (Done queue) (says.Refused why.NoSuch) = true
is_reply_to EndSeeds (says.Count left) = true
is_reply_to EndSeeds (says.Refused why.Nothing) = true
is_reply_to (Stats (Some queue)) (says.Refused why.NoSuch) = true
is_reply_to (Seen queue count) says.Seen = true
is_reply_to (Seen queue count) (says.Refused why.NoSuch) = true
is_reply_to _ _ = false

-- an answer that a line can have that asks this, or nothing for this reason
abbrev pub CanBeAnswered : Result Request RequestError → Answer → Type 0
CanBeAnswered (Ok request) (Replied reply) = is_reply_to request reply ≡ true
CanBeAnswered (Ok (Stats queue)) (Counted stats) = Unit {0}
CanBeAnswered (Err why) (Unasked reason) = reason ≡ why
CanBeAnswered _ _ = ⊥
