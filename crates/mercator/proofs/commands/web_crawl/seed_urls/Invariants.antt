use Rattle.mercator.proofs.Prelude.{map, take, string_bytes, AreSeeds}
use Rattle.mercator.proofs.commands.web_crawl.seed_urls.Given as goal

abbrev pub invariant-loop-index : goal.invariant-loop-index
invariant-loop-index l = AreSeeds (map string_bytes (take l.index l.texts)) l.urls.items
