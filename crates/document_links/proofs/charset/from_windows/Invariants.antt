use Rattle.std.proofs.Common.{◌≡◌, take, string_bytes, IsAscii}
use Rattle.document_links.specs.Encoding.{windows_text}
use Rattle.document_links.proofs.charset.from_windows.Given as goal

abbrev pub invariant-loop-byte : goal.invariant-loop-byte
invariant-loop-byte l = record {
  same : IsAscii l.body → string_bytes l.text ≡ take l.byte-index l.body;
  text : string_bytes l.text ≡ windows_text (take l.byte-index l.body);
}
