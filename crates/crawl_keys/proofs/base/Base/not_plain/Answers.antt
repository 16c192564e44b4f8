use Rattle.std.proofs.Common.{arith}
use Rattle.crawl_keys.proofs.OpaqueLinks.{refuses-opaque}
use Rattle.crawl_keys.proofs.base.Base.not_plain.Goals as goal

pub returns-then-is_opaque : goal.returns-then-is_opaque
returns-then-is_opaque c = grind (arith, refuses-opaque)
