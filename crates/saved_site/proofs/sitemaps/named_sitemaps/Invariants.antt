use Rattle.saved_site.proofs.Prelude.{◌≡◌, ◌≤◌, length}
use Rattle.saved_site.specs.Sitemaps.{named_below}
use Rattle.site_files.specs.Files.{pages_of}
use Rattle.saved_site.proofs.sitemaps.named_sitemaps.Given as goal

abbrev pub invariant-pages : goal.invariant-pages
invariant-pages l = record {
  within : l.number ≤ length (pages_of l.files);
  named : l.urls.items ≡ named_below l.files l.number;
}
