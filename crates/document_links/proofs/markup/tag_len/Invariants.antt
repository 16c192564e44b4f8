use Rattle.document_links.proofs.Prelude.{◌≡◌, ◌+◌, length}
use Rattle.document_links.specs.Markup.{tag_len}
use Rattle.document_links.proofs.markup.tag_len.Given as goal

-- the bytes so far, and those of the rest
abbrev pub invariant-bytes : goal.invariant-bytes
invariant-bytes l = record {
  value : l.len + tag_len l.declares l.quote l.rest ≡ tag_len l.declares 0 l.fn.bytes;
  within : l.len + length l.rest ≡ length l.fn.bytes;
}

abbrev pub decreases-bytes : goal.decreases-bytes
decreases-bytes l = length l.rest
