use Rattle.saved_site.proofs.Prelude.{◌≡◌, ◌++◌, take, link_lines}
use Rattle.saved_site.proofs.page.lines.print_links.Given as goal

abbrev pub invariant-loop-index : goal.invariant-loop-index
invariant-loop-index l = l.web.items ≡ l.fn.web.items ++ link_lines (take l.index l.links)
