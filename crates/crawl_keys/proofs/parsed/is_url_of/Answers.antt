use Rattle.crawl_keys.proofs.Prelude.{arith, bytes_eq-Decides, parse_url-serialize_special}
use Rattle.crawl_keys.proofs.CanonicalLemmas.{web_kind}
use Rattle.crawl_keys.proofs.parsed.is_url_of.Goals as goal

pub returns-then-is_web : goal.returns-then-is_web
returns-then-is_web c same = grind (arith, bytes_eq-Decides, web_kind, parse_url-serialize_special)
