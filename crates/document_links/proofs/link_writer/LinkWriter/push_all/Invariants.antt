use Rattle.document_links.proofs.Prelude.{◌≡◌, true, take}
use Rattle.document_links.specs.Written.{AreTexts, has_no_base}
use Rattle.document_links.proofs.link_writer.LinkWriter.push_all.Given as goal

abbrev pub invariant-loop-index : goal.invariant-loop-index
invariant-loop-index l = record {
  base : l.self.base ≡ l.initial.self.base;
  charset : l.self.charset ≡ l.initial.self.charset;
  written : has_no_base l.initial.self.base ≡ true → AreTexts l.initial.self.charset l.initial.self.links (take l.index l.raw.texts) l.self.links;
}
