-- Aliases: other URLs for which a server returns a file. The links of the file are followed at its own URL only.
use Rattle.std.specs.Prelude.{◌≡◌, [], ◌∷◌, List, All}
use Rattle.crawl_pages.specs.declared.page.Page.{Page}
use Rattle.crawl_pages.specs.declared.page.Page.TheVariants as page
use Rattle.saved_site.specs.Linked.{PageFound, page_at}
use Rattle.site_files.specs.declared.alias.Alias.{Alias}

-- the page of an alias has one link, to the own URL of the file
abbrev pub alias_page : Alias → Page
alias_page alias = page.Found (alias.own ∷ []) 0

-- each of these has that page among the pages of a site
abbrev pub AreAliases : List PageFound → List Alias → Type 0
AreAliases pages aliases = All (λ alias. page_at pages alias.url ≡ alias_page alias) aliases
