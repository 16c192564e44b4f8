-- The settings of a check.
use Rattle.std.specs.Prelude.{ℕ, Bool, List, map, string_bytes}
use Rattle.mercator_site.specs.Seeds.{seed_link}
use Rattle.mercator_site.specs.declared.options.CheckOptions.{CheckOptions}
use Rattle.mercator_site.specs.declared.options.ReportOptions.{ReportOptions}
use Rattle.mercator_site.specs.declared.settings.CheckSettings.{CheckSettings}
use Rattle.mercator_site.specs.declared.mapped.MappedFolder.{MappedFolder}
use Rattle.site_check.specs.declared.input.Scope.{Scope}

pub record Asks : Type 0 where
  pub report : ReportOptions
  -- the folder that annotations put before the names of files
  pub folder : List ℕ
  -- the URL of the folder's sources, with which the URLs of locations begin; empty for none
  pub source_url : List ℕ
  -- the links on the top at which the search starts; if there are none, it starts at the top
  pub seeds : List (List ℕ)
  -- whether only what the search reaches is checked
  pub reachable : Bool
  -- which findings are reported
  pub scope : Scope
  -- whether the URL of the folder is not known
  pub rooted : Bool
  -- the prefix that is removed from each URL
  pub front : List ℕ
  -- the entries of the ignore list
  pub entries : List (List ℕ)
  -- the folders in which links are looked up that lead out of the site
  pub folders : List MappedFolder

-- the settings of the library's caller
abbrev pub asks_in : CheckSettings → Asks
asks_in s = record {
  report = s.report;
  folder = s.folder.now;
  source_url = s.source_url.now;
  seeds = map string_bytes s.seeds.now;
  reachable = s.reachable;
  scope = s.scope;
  rooted = s.rooted;
  front = s.front.now;
  entries = map string_bytes s.ignores.now;
  folders = s.maps.now;
}

-- the links at which the search of a command line starts
abbrev pub seeds_of : CheckOptions → List (List ℕ)
seeds_of options = map (seed_link options.paths) (map string_bytes options.seeds.items)

-- the settings of a command line, with these links, this prefix, the entries of a file and the folders of maps
abbrev pub asks_with : CheckOptions → List (List ℕ) → List ℕ → List (List ℕ) → List MappedFolder → Asks
asks_with options seeds front entries folders = record {
  report = options.report;
  folder = string_bytes options.site.folder;
  source_url = string_bytes options.source_url;
  seeds = seeds;
  reachable = options.reachable;
  scope = options.scope;
  rooted = options.paths;
  front = front;
  entries = entries;
  folders = folders;
}

abbrev pub asks_of : CheckOptions → List ℕ → List (List ℕ) → List MappedFolder → Asks
asks_of options front entries folders = asks_with options (seeds_of options) front entries folders
