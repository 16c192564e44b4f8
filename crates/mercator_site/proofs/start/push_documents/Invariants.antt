use Rattle.mercator_site.proofs.Prelude.{◌≡◌, ◌≤◌, ◌++◌, length}
use Rattle.mercator_site.specs.Starts.{documents_below}
use Rattle.site_files.specs.Files.{pages_of}
use Rattle.mercator_site.proofs.start.push_documents.Given as goal

abbrev pub invariant-pages : goal.invariant-pages
invariant-pages l = record {
  within : l.number ≤ length (pages_of l.files);
  pushed : l.urls.items ≡ l.fn.urls.items ++ documents_below l.files l.top l.number;
}
