use Rattle.std.proofs.Common.{◌≡◌, ◌++◌, length}
use Rattle.html_links.specs.References.{Text, read, text_of}
use Rattle.html_links.proofs.references.decode.Given as goal

-- what is written and the text of what is left are the whole
abbrev pub invariant-marks : goal.invariant-marks
invariant-marks l = l.out.items ++ read Text l.rest ≡ l.initial.out.items ++ text_of l.fn.value

abbrev pub decreases-marks : goal.decreases-marks
decreases-marks l = length l.rest
