use Rattle.mercator_site.proofs.Prelude.{◌≡◌, false, take}
use Rattle.std.specs.List.{list_any}
use Rattle.mercator_site.specs.Maps.{is_found_in}
use Rattle.mercator_site.proofs.mapped.is_mapped.Given as goal

abbrev pub invariant-loop-folder : goal.invariant-loop-folder
invariant-loop-folder l = list_any (is_found_in l.folders l.url) (take l.folder-index l.folders) ≡ false
