-- The report of a check of a folder.
use Rattle.std.specs.Prelude.{◌≡◌, ℕ, Bool, if◌then◌else◌, List, [], string_bytes}
use Rattle.mercator_site.specs.Asks.{asks_of}
use Rattle.mercator_site.specs.Checks.{IsAny, IsSiteCheck}
use Rattle.mercator_site.specs.Maps.{AreMapped}
use Rattle.mercator_site.specs.Rules.{AreCheckRules, AreMapRules}
use Rattle.mercator_site.specs.declared.mapped.MappedFolder.{MappedFolder}
use Rattle.mercator_site.specs.declared.maps.FolderMap.{FolderMap}
use Rattle.mercator_site.specs.declared.options.CheckOptions.{CheckOptions}
use Rattle.site_files.specs.Below.{IsTop}
use Rattle.site_files.specs.declared.files.SiteFiles.{SiteFiles}
use Rattle.site_files.specs.declared.rules.Rules.{Rules}
use Rattle.site_check.specs.Ignored.{entries_in}

-- without BASE the site has the name of the folder, and the top is removed from each URL; otherwise the top is the name
abbrev pub name_of : CheckOptions → List ℕ → List ℕ
name_of options top = if options.paths then string_bytes options.site.folder else top

abbrev pub front_of : CheckOptions → List ℕ → List ℕ
front_of options top = if options.paths then top else []

-- the report of a check of a folder, with these maps and the entries of an ignore list. The pages are those that a server returns for
-- some files by the rules of the options. It says nothing about which files the folder and the folders of the maps have, except that the
-- pages are below the top of BASE, and those of a map below its prefix
pub record IsCheckOf (options : CheckOptions) (maps : List FolderMap) (entries : List (List ℕ)) (broken : Bool) (text : List ℕ) : Type 0 where
  pub files : SiteFiles
  pub is_top : IsTop (string_bytes options.site.base) (string_bytes files.site.top)
  pub rules : AreCheckRules options files.rules.now
  pub map_rules : Rules
  pub are_map_rules : AreMapRules options.site map_rules
  pub folders : List MappedFolder
  pub are_mapped : AreMapped map_rules maps folders
  pub site : IsSiteCheck files IsAny (name_of options (string_bytes files.site.top)) (asks_of options (front_of options (string_bytes files.site.top)) entries folders) broken text

-- with the maps of the options, and an ignore list of these bytes
abbrev pub IsFolderCheck : CheckOptions → List ℕ → Bool → List ℕ → Type 0
IsFolderCheck options ignores broken text = IsCheckOf options options.maps.items (entries_in ignores) broken text
