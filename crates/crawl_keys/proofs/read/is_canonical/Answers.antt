use Rattle.crawl_keys.proofs.SpelledLemmas.{canonical-spelled}
use Rattle.crawl_keys.proofs.read.is_canonical.Goals as goal

pub returns-in-Some : goal.returns-in-Some
returns-in-Some c _ = canonical-spelled c.args.text.now _ _ c.in-Some.ensures
