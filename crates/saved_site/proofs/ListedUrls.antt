-- The URLs that sitemaps list, page by page.
use Rattle.std.specs.Prelude.{suc}
use Rattle.saved_site.proofs.Prelude.{◌≡◌, ℕ, ◌+◌, ◌++◌, arith, ap}
use Rattle.std.specs.Option.{option_to_list}
use Rattle.saved_site.specs.Sitemaps.{named_below}
use Rattle.site_files.specs.Own.{sitemap_at}
use Rattle.site_files.specs.declared.files.SiteFiles.{SiteFiles}

pub named_more : (files : SiteFiles) (n : ℕ) → named_below files (n + 1) ≡ named_below files n ++ option_to_list (sitemap_at files n)
named_more files n =
    let next : n + 1 ≡ suc n = omega arith in
    ap (named_below files) next
