use Rattle.crawl_certificate.proofs.Prelude.{◌≡◌, take, pointed}
use Rattle.crawl_certificate.proofs.certificate.copies.Given as goal

abbrev pub invariant-loop-one : goal.invariant-loop-one
invariant-loop-one l = l.copies.items ≡ pointed (take l.one-index l.results)
