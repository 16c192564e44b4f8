use Rattle.std.proofs.Common.{refl}
use Rattle.percent_encoding.proofs.OnLiterals.{percent_encoding_on_literals}
use Rattle.url.proofs.OnLiterals.{url_on_literals}
use Rattle.url.specs.Input.{rsplit_once}
use Rattle.crawl_keys.specs.CanonicalText.{text_of}
use Rattle.site_files.proofs.laws.folders.Goals as goal

pub returns : goal.returns
unfolding rsplit_once percent_encoding_on_literals url_on_literals text_of
returns c = record {
  top = refl;
  folder = refl;
  folder_below = refl;
  without_slash = refl;
  file = refl;
  case = refl;
  other = refl;
}
