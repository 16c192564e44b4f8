use Rattle.site_check.proofs.Prelude.{◌≡◌, ◌∙◌, [], ◌∷◌, ◌++◌, sym}
use Rattle.std.proofs.Common.{rules}
use Rattle.site_check.proofs.Placed.{last_at}
use Rattle.site_check.specs.Locations.{location_of}
use Rattle.site_check.proofs.located.comes_last.Goals as goal

pub returns-in-Some : goal.returns-in-Some
returns-in-Some c =
    let all = c.args.all.now in
    let front = c.in-Some.field-0-1.now in
    let last = c.in-Some.last.now in
    let is : all ≡ front ++ last ∷ [] = search rules in
    c.comes_before.ensures ∙ sym (last_at all front last (location_of c.args.place.now) is)
