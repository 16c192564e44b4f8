use Rattle.std.proofs.Common.{◌==◌, ◌||◌}
use Rattle.html_links.proofs.Cuts.{no_first}
use Rattle.html_links.proofs.Decoding.{unescaped_text}
use Rattle.html_links.proofs.references.has_mark.Goals as goal

pub returns-in-None : goal.returns-in-None
returns-in-None c = λ plain. unescaped_text c.args.value.now (no_first (λ x. x == 38 || x == 0) c.args.value.now c.in-None.ensures)
