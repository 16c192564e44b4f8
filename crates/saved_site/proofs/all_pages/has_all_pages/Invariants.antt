use Rattle.saved_site.proofs.Prelude.{◌≡◌, ℕ, ◌<◌, ◌≤◌, length, true}
use Rattle.saved_site.specs.AllPages.{has_page}
use Rattle.site_files.specs.Files.{pages_of}
use Rattle.saved_site.proofs.all_pages.has_all_pages.Given as goal

abbrev pub invariant-pages : goal.invariant-pages
invariant-pages l = record {
  within : l.number ≤ length (pages_of l.files);
  there : (k : ℕ) → k < l.number → has_page l.files l.pages k ≡ true;
}
