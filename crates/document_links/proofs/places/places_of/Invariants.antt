use Rattle.document_links.proofs.Prelude.{◌≡◌, [], map, take, clean, point_at}
use Rattle.std.proofs.Common.{slice_index_or, string_bytes}
use Rattle.std.specs.Str.Lossy.{utf8_lossy}
use Rattle.document_links.specs.Places.{point_of_place}
use Rattle.document_links.proofs.places.places_of.Given as goal

abbrev pub invariant-loop-index : goal.invariant-loop-index
invariant-loop-index l = record {
  placed : map point_of_place l.places.items ≡ map (λ index. point_at l.text (slice_index_or l.raw.positions.items index 0)) (take l.index-index l.indices);
  written : map (λ place. string_bytes place.written) l.places.items ≡ map (λ index. utf8_lossy (clean (slice_index_or l.raw.texts index []))) (take l.index-index l.indices);
}
