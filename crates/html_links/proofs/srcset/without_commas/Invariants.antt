use Rattle.html_links.proofs.Prelude.{◌≡◌, length, without_commas}
use Rattle.html_links.proofs.srcset.without_commas.Given as goal

abbrev pub invariant-commas : goal.invariant-commas
invariant-commas l = without_commas l.front ≡ without_commas l.fn.url

abbrev pub decreases-commas : goal.decreases-commas
decreases-commas l = length l.front
