use Rattle.mercator_site.proofs.Prelude.{◌≡◌, take}
use Rattle.mercator_site.specs.Maps.{names_of}
use Rattle.mercator_site.proofs.mapped.names_of.Given as goal

abbrev pub invariant-loop-folder : goal.invariant-loop-folder
invariant-loop-folder l = l.names.items ≡ names_of (take l.folder-index l.folders)
