use Rattle.std.proofs.Common.{◌≡◌, ◌≤◌, length}
use Rattle.html_links.specs.References.{Number, read}
use Rattle.html_links.proofs.references.more_digits.Given as goal

-- what is left continues with the number so far
abbrev pub invariant-digits : goal.invariant-digits
invariant-digits l = (read (Number l.radix l.number) l.rest ≡ read (Number l.radix l.fn.first) l.fn.bytes) × (length l.rest ≤ length l.fn.bytes)

abbrev pub decreases-digits : goal.decreases-digits
decreases-digits l = length l.rest
