-- The URLs at which the crawl of a check starts, page by page.
use Rattle.mercator_site.proofs.Prelude.{◌≡◌, ℕ, ◌+◌, ◌++◌, suc, List, arith, ap}
use Rattle.mercator_site.specs.Starts.{documents_below, if_own}
use Rattle.site_files.specs.Own.{start_at}
use Rattle.site_files.specs.declared.files.SiteFiles.{SiteFiles}

pub documents_more : (site : SiteFiles) (top : List ℕ) (n : ℕ) → documents_below site top (n + 1) ≡ documents_below site top n ++ if_own top (start_at site n)
documents_more site top n =
    let next : n + 1 ≡ suc n = omega arith in
    ap (documents_below site top) next
