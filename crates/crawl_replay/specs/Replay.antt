-- The replay of a script.
use Rattle.std.specs.Prelude.{◌≡◌, ℕ, List, Ok}
use Rattle.crawl_core.specs.declared.reply.Reply.{Reply}
use Rattle.crawl_core.specs.Run.{IsRun}
use Rattle.crawl_replay.specs.Script.{Said, script_of}
use Rattle.crawl_replay.specs.Replies.{reply_lines}

-- the bytes are a script, and the text has a line for each reply of a new frontier to its events
pub record IsReplay (bytes text : List ℕ) : Type 0 where
  pub script : Said
  pub read : script_of bytes ≡ Ok script
  pub replies : List Reply
  pub run : IsRun script.workers script.max script.events replies
  pub written : text ≡ reply_lines replies
