-- Texts of web URLs, and the position of the host in them.
use Rattle.std.specs.Prelude.{◌≡◌, ℕ, List, None, true}
use Rattle.url.specs.declared.slicing.Position.TheVariants.{BeforeHost, AfterHost}
use Rattle.url.specs.Parts.{Parts, IsValid, offset, serialize}
use Rattle.crawl_keys.specs.CanonicalText.{is_web}

-- the text is that of a valid web URL without a fragment, and its host is between the two positions
pub record IsSpelled (text : List ℕ) (host_start host_end : ℕ) : Type 0 where
  pub url : Parts
  pub valid : IsValid url
  pub web : is_web url ≡ true
  pub bare : url.fragment ≡ None
  pub spelled : serialize url ≡ text
  pub start : offset url BeforeHost ≡ host_start
  pub end : offset url AfterHost ≡ host_end
