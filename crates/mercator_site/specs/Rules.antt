-- The rules by which the files of a folder are read.
use Rattle.std.specs.Prelude.{◌≡◌, ◌||◌, ℕ, Bool, true, List, [], ◌∷◌, codes, is_some, map, string_bytes}
use Rattle.mercator_site.specs.declared.options.CheckOptions.{CheckOptions}
use Rattle.mercator_site.specs.declared.options.SiteOptions.{SiteOptions}
use Rattle.site_files.specs.declared.rules.Rules.{Rules}

-- the names of index files: those that are given or, if there are none, the usual ones
abbrev pub index_names : List (List ℕ) → List (List ℕ)
index_names [] = codes "index.html" ∷ codes "index.htm" ∷ codes "index.xhtml" ∷ []
index_names (name ∷ names) = name ∷ names

-- the rules are those of the options; `strict` is whether only the exact URL of a page is accepted
pub record AreRulesWith (strict : Bool) (options : SiteOptions) (rules : Rules) : Type 0 where
  pub index_files : map string_bytes rules.index_files.items ≡ index_names (map string_bytes options.index_files.items)
  pub html_fallback : rules.html_fallback ≡ options.html_fallback
  pub queries : rules.queries ≡ options.queries
  pub exact : rules.exact ≡ strict
  pub follow : rules.follow ≡ options.follow
  pub styles : rules.styles ≡ options.styles
  pub sniff : rules.sniff ≡ (options.sniff || is_some options.index)

-- a site list has the exact URL of each page
abbrev pub AreRules : SiteOptions → Rules → Type 0
AreRules options rules = AreRulesWith (options.exact || is_some options.index) options rules

-- the rules of the folders of maps, whose URLs no site list has
abbrev pub AreMapRules : SiteOptions → Rules → Type 0
AreMapRules options rules = AreRulesWith options.exact options rules

-- the same for a check, which also has rules for what is kept of a document
pub record AreCheckRules (options : CheckOptions) (rules : Rules) : Type 0 where
  pub site : AreRules options.site rules
  pub anchors : rules.anchors ≡ options.anchors
  pub places : rules.places ≡ true
  pub rooted : rules.rooted ≡ options.paths
