use Rattle.std.proofs.Common.{append-nil, arith}
use Rattle.crawl_keys.proofs.FragmentLemmas.{canonical-before_fragment}
use Rattle.crawl_keys.proofs.SpelledLemmas.{canonical-spelled}
use Rattle.crawl_keys.proofs.read.without_fragment.Goals as goal

pub returns-in-Some : goal.returns-in-Some
returns-in-Some c = grind (arith, canonical-before_fragment, append-nil, canonical-spelled)

pub returns-in-None : goal.returns-in-None
returns-in-None c = grind (arith, canonical-before_fragment)
