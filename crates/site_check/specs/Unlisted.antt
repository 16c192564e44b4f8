-- The documents of a site that no sitemap lists.
use Rattle.std.specs.Prelude.{◌&&◌, ℕ, Bool, not, List, [], codes, filter, map, Option, None, Some, bytes_eq}
use Rattle.std.specs.Borrow.{Bor}
use Rattle.std.specs.List.{list_any}
use Rattle.site_files.specs.declared.alias.Alias.{Alias}
use Rattle.site_check.specs.Aliases.{is_document}
use Rattle.site_check.specs.Broken.{shown}
use Rattle.site_check.specs.Names.{last_part}

-- the own URL of what a server sends if there is no page: a search engine should not have it
abbrev pub is_not_found_page : List ℕ → Bool
is_not_found_page url = bytes_eq (last_part url) (codes "404.html")

-- the alias is one of the document, and is listed by this test
abbrev pub is_other_of : (List ℕ → Bool) → List ℕ → Alias → Bool
is_other_of is_listed own alias = bytes_eq alias.own own && is_listed alias.url

-- the document is listed neither by its own URL nor by an alias, by these tests
abbrev pub is_missed : (List ℕ → Bool) → (List ℕ → Bool) → List ℕ → Bool
is_missed is_listed has_listed own = not (is_listed own) && (not (has_listed own) && not (is_not_found_page own))

-- no sitemap lists the document, by these URLs that sitemaps list
abbrev pub is_unlisted : List (List ℕ) → List Alias → List ℕ → Bool
is_unlisted listed aliases own = is_missed (is_document listed) (λ url. list_any (is_other_of (is_document listed) url) aliases) own

-- such documents, as they are reported
abbrev pub unlisted_of : List ℕ → List Alias → List (List ℕ) → List (List ℕ) → List (List ℕ)
unlisted_of front aliases documents listed = map (shown front) (filter (is_unlisted listed aliases) documents)

-- if they are reported
abbrev pub unlisted_in : List ℕ → List Alias → List (List ℕ) → Option (Bor (List (List ℕ))) → List (List ℕ)
unlisted_in front aliases documents None = []
unlisted_in front aliases documents (Some listed) = unlisted_of front aliases documents listed.now
