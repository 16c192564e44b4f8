use Rattle.check_report.proofs.Prelude.{◌≡◌, ◌++◌, length}
use Rattle.check_report.specs.Names.{unescaped}
use Rattle.check_report.proofs.names.unescaped.Given as goal

abbrev pub decreases-bytes : goal.decreases-bytes
decreases-bytes l = length l.rest

-- what was put, and what the rest becomes, is the whole
abbrev pub invariant-bytes : goal.invariant-bytes
invariant-bytes l = l.all.items ++ unescaped l.rest ≡ unescaped l.text
