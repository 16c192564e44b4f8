use Rattle.site_check.proofs.Prelude.{◌≡◌, linked_at, map, outside_at, outside_row, take}
use Rattle.site_check.proofs.leaving.with_texts.Given as goal

abbrev pub invariant-loop-one : goal.invariant-loop-one
invariant-loop-one l = map outside_at l.all.items ≡ map (outside_row l.input.rooted l.input.maps.now l.files) (map linked_at (take l.one-index l.linked))
