-- What a check reads of its settings and of the site.
use Rattle.std.specs.Prelude.{ℕ, Bool, List, map, string_bytes, Option, option_map}
use Rattle.crawl_pages.specs.declared.page.PageResult.{PageResult}
use Rattle.document_links.specs.declared.anchors.PageAnchors.{PageAnchors}
use Rattle.mercator_site.specs.Asks.{Asks}
use Rattle.site_check.specs.declared.input.CheckInput.{CheckInput}
use Rattle.site_check.specs.declared.input.MapName.{MapName}
use Rattle.site_check.specs.declared.input.Scope.{Scope}
use Rattle.site_files.specs.declared.alias.Alias.{Alias}

pub record Input : Type 0 where
  pub front : List ℕ
  pub entries : List (List ℕ)
  pub scope : Scope
  pub rooted : Bool
  pub maps : List MapName
  -- the results among which are the pages that are not below the top
  pub found : List PageResult
  pub aliases : List Alias
  pub documents : List (List ℕ)
  -- the anchors of the site's documents
  pub anchors : List PageAnchors
  -- what a search finds, if unreached files are listed
  pub reached : Option (List PageResult)
  -- the URLs that sitemaps list, if the documents that none lists are reported
  pub listed : Option (List (List ℕ))

abbrev pub input_in : CheckInput → Input
input_in input = record {
  front = input.front.now;
  entries = map string_bytes input.ignores.now;
  scope = input.scope;
  rooted = input.rooted;
  maps = input.maps.now;
  found = input.found.now;
  aliases = input.aliases.now;
  documents = input.documents.now;
  anchors = input.anchors.now;
  reached = option_map (λ results. results.now) input.reached;
  listed = option_map (λ urls. urls.now) input.listed;
}

-- with these settings
abbrev pub input_with : Asks → List MapName → List PageResult → List Alias → List (List ℕ) → List PageAnchors → Option (List PageResult) → Option (List (List ℕ)) → Input
input_with asks maps found aliases documents anchors reached listed = record {
  front = asks.front;
  entries = asks.entries;
  scope = asks.scope;
  rooted = asks.rooted;
  maps = maps;
  found = found;
  aliases = aliases;
  documents = documents;
  anchors = anchors;
  reached = reached;
  listed = listed;
}
