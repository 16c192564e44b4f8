use Rattle.page_anchors.proofs.Prelude.{refl, agree_below_at, is_escaped, IN_FRAGMENT}
use Rattle.percent_encoding.specs.AsciiSet.{should_percent_encode}
use Rattle.page_anchors.proofs.laws.escapes_are_the_standards.Goals as goal

pub returns : goal.returns
unfolding should_percent_encode
returns c = λ b below. agree_below_at (should_percent_encode IN_FRAGMENT) is_escaped 256 b refl below
