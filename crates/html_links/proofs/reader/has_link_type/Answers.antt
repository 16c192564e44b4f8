use native.Mathlib.Omega.{arith}
use Rattle.html_links.proofs.reader.has_link_type.Goals as goal
use Rattle.html_links.proofs.Jumps.{shorter}

pub keywords-smaller : goal.keywords-smaller
keywords-smaller c = grind (arith, shorter)
