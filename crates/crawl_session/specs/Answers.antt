-- The text of an answer.
use Rattle.std.specs.Prelude.{ℕ, List, [], ◌∷◌, ◌++◌, codes, decimal, flat_map}
use Rattle.crawl_replay.specs.Replies.{reply_text}
use Rattle.crawl_session.specs.declared.answer.Answer.{Answer}
use Rattle.crawl_session.specs.declared.answer.Answer.TheVariants.{Replied, Counted, Unasked}
use Rattle.crawl_session.specs.Stats.{stats_text}
use Rattle.crawl_session.specs.declared.request.RequestError.{RequestError}
use Rattle.crawl_session.specs.declared.request.RequestError.TheVariants as wrong

-- why a line asks nothing of the frontier
abbrev pub error_text : RequestError → List ℕ
error_text wrong.LineTooLong = codes "line too long"
error_text wrong.NotText = codes "not UTF-8"
error_text wrong.BadLine = codes "bad line"
error_text wrong.NotUrl = codes "not a URL"
error_text wrong.NotHttp = codes "not http or https"
error_text wrong.Filtered = codes "filtered"
error_text (wrong.Elsewhere part url) = codes "elsewhere " ++ decimal part ++ codes " " ++ url
error_text wrong.OtherQueue = codes "refused nosuch"
error_text wrong.Sync = codes "synced"
error_text (wrong.Identity text) = codes "identity " ++ text
error_text wrong.NoMemory = codes "out of memory"

-- a reply has the text that a replay gives it
abbrev pub answer_text : Answer → List ℕ
answer_text (Replied reply) = reply_text reply
answer_text (Counted stats) = stats_text stats
answer_text (Unasked why) = error_text why

-- an answer, and LF
abbrev pub answer_line : Answer → List ℕ
answer_line answer = answer_text answer ++ 10 ∷ []

abbrev pub answer_lines : List Answer → List ℕ
answer_lines answers = flat_map answer_line answers
