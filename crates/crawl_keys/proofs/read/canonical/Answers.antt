use Rattle.std.proofs.Common.{append-nil, arith}
use Rattle.crawl_keys.proofs.SpelledLemmas.{canonical-spelled}
use Rattle.crawl_keys.proofs.read.canonical.Goals as goal

pub returns-in-Some : goal.returns-in-Some
returns-in-Some c = grind (arith, append-nil, canonical-spelled)
