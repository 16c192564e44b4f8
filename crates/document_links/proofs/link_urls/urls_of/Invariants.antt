use Rattle.document_links.proofs.Prelude.{◌≡◌, [], true, take}
use Rattle.document_links.specs.LinkUrls.{AreUrlsOf}
use Rattle.document_links.specs.Written.{has_no_base}
use Rattle.document_links.proofs.link_urls.urls_of.Given as goal

abbrev pub invariant-loop-index : goal.invariant-loop-index
invariant-loop-index l = record {
  base : l.writer.base ≡ l.initial.writer.base;
  charset : l.writer.charset ≡ l.initial.writer.charset;
  links : l.initial.writer.links ≡ [] → l.writer.links ≡ [];
  urls : has_no_base l.initial.writer.base ≡ true → l.initial.writer.links ≡ [] → AreUrlsOf l.initial.writer.charset l.page (take l.index l.raw.texts) l.urls.items;
}
