-- Whether a server returns a page for a URL.
use Rattle.mercator_site.proofs.Prelude.{◌≡◌, ℕ, ◌∙◌, ap, refl, sym, true, List}
use Rattle.std.specs.Prelude.{Option, Some, None, is_some}
use Rattle.mercator_site.specs.Maps.{has_page, is_there}
use Rattle.site_files.specs.Entries.{LeadsTo, response_of}
use Rattle.site_files.specs.Pages.{with_query_of}
use Rattle.site_files.specs.Serving.{served_at}
use Rattle.site_files.specs.declared.files.SiteFiles.{SiteFiles}
use Rattle.site_files.specs.declared.page_table.Source.{Source}
use Rattle.site_files.specs.declared.page_table.Source.TheVariants.{File, Index, Moved}

-- an entry is a page, or a redirect
source_there : (url : List ℕ) (source : Source) → is_there (with_query_of url (response_of source)) ≡ true
source_there url (File index) = refl
source_there url (Index index) = refl
source_there url (Moved target) = refl

-- the number of an entry is found for exactly the URLs that have a page
pub found_served : (files : SiteFiles) (url : List ℕ) (found : Option ℕ) → LeadsTo files.pages (served_at files url) found → is_some found ≡ has_page files url
found_served files url None leads = sym (ap (λ r. is_there (with_query_of url r)) leads)
found_served files url (Some number) leads =
    sym (ap (λ r. is_there (with_query_of url r)) (sym leads.returns) ∙ source_there url leads.entry.source)
