use Rattle.std.proofs.Common.{refl}
use Rattle.percent_encoding.proofs.OnLiterals.{percent_encoding_on_literals}
use Rattle.url.proofs.OnLiterals.{url_on_literals}
use Rattle.url.specs.Input.{rsplit_once}
use Rattle.crawl_keys.specs.CanonicalText.{text_of}
use Rattle.site_files.proofs.laws.homes.Goals as goal

pub returns : goal.returns
unfolding rsplit_once percent_encoding_on_literals url_on_literals text_of
returns c = record {
  default = refl;
  home = refl;
  in_rules = refl;
  style = refl;
  feed = refl;
  folder = refl;
  other = refl;
  query = refl;
}
