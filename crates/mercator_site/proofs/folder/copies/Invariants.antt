use Rattle.mercator_site.proofs.Prelude.{◌≡◌, map, string_bytes, take}
use Rattle.mercator_site.proofs.folder.copies.Given as goal

abbrev pub invariant-loop-text : goal.invariant-loop-text
invariant-loop-text l = map string_bytes l.copies.items ≡ map string_bytes (take l.text-index l.texts)
