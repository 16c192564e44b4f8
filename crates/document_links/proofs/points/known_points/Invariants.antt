use Rattle.document_links.proofs.Prelude.{◌≡◌, ◌-◌, ◌≤◌, point_at}
use Rattle.std.specs.List.{All}
use Rattle.document_links.specs.Places.{IsKnown}
use Rattle.document_links.proofs.points.known_points.Given as goal

abbrev pub invariant-steps : goal.invariant-steps
invariant-steps l = record {
  table : All (IsKnown l.text) l.table.items;
  within : l.known.index ≤ l.last;
  known : l.known.point ≡ point_at l.text l.known.index;
}

abbrev pub decreases-steps : goal.decreases-steps
decreases-steps l = l.last - l.known.index
