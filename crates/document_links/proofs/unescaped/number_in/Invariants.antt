use Rattle.document_links.proofs.Prelude.{◌≡◌, length}
use Rattle.document_links.specs.Unescaped.{number_from}
use Rattle.document_links.proofs.unescaped.number_in.Given as goal

-- what is left continues with the number so far
abbrev pub invariant-digits : goal.invariant-digits
invariant-digits l = number_from l.radix l.number l.rest ≡ number_from l.radix 0 l.fn.digits

abbrev pub decreases-digits : goal.decreases-digits
decreases-digits l = length l.rest
