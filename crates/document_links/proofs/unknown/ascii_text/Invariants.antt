use Rattle.std.proofs.Common.{◌≡◌, take, string_bytes, IsAscii}
use Rattle.document_links.proofs.unknown.ascii_text.Given as goal

abbrev pub invariant-loop-byte : goal.invariant-loop-byte
invariant-loop-byte l = record {
  same : IsAscii l.body → string_bytes l.text ≡ take l.byte-index l.body;
}
