use Rattle.std.proofs.Common.{◌≡◌, ◌++◌, Some, string_bytes, sym, ◌∙◌, arith}
use Rattle.std.specs.List.{before_first}
use Rattle.site_files.specs.Below.{is_slash}
use Rattle.site_files.specs.Skipped.{outside_in}
use Rattle.site_files.proofs.SkippedLinks.{link_on}
use Rattle.site_files.proofs.skipped.SkippedLinks.is_outside_on.Goals as goal

pub returns-in-Some-is_outside : goal.returns-in-Some-is_outside
returns-in-Some-is_outside c =
    let at = outside_in c.args.self.now in
    let front = string_bytes c.names.front in
    let rest = c.names.rest.now in
    let cut = c.in-Some.ensures.byte (omega arith) (λ w o found. found) in
    let is : Some c.in-Some-is_outside.is_outside ≡ at (front ++ before_first is_slash rest) = grind (arith, c.in-Some-is_outside.ensures, c.as_str.ensures.value, c.in_ok-push_str.ensures.bytes, cut.0) in
    sym (link_on at front rest c.in-Some-is_outside.is_outside cut.2 is) ∙ c.names.invariant.found
