use Rattle.document_links.proofs.Prelude.{◌≡◌, [], map, take}
use Rattle.std.proofs.Common.{slice_index_or}
use Rattle.document_links.proofs.link_urls.links_of.Given as goal

abbrev pub invariant-loop-index : goal.invariant-loop-index
invariant-loop-index l = l.own.texts ≡ map (λ index. slice_index_or l.raw.texts index []) (take l.index-index l.indices)
