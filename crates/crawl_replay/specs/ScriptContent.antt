-- What contracts see of a `Script`.
use Rattle.crawl_replay.specs.Script.{Said}
use Rattle.crawl_replay.specs.declared.script.Script.{Script}

-- its numbers and events, as they are written on its lines
abbrev pub content : Script → Said
content script = record { workers = script.workers; max = script.max; events = script.events.items }
