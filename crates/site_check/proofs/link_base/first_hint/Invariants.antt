use Rattle.site_check.proofs.Prelude.{◌≡◌, drop, pointed}
use Rattle.site_check.specs.LinkBase.{first_hint}
use Rattle.site_check.proofs.link_base.first_hint.Given as goal

abbrev pub invariant-loop-slashes : goal.invariant-loop-slashes
invariant-loop-slashes l = first_hint l.files (pointed l.urls) l.of (drop l.slashes-index l.numbers) ≡ first_hint l.files (pointed l.urls) l.of l.numbers
