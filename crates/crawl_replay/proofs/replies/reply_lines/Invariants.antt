use Rattle.std.proofs.Common.{◌≡◌, take, string_bytes}
use Rattle.crawl_replay.specs.Replies.{reply_lines}
use Rattle.crawl_replay.proofs.replies.reply_lines.Given as goal

abbrev pub invariant-loop-reply : goal.invariant-loop-reply
invariant-loop-reply l = string_bytes l.text ≡ reply_lines (take l.reply-index l.replies)
