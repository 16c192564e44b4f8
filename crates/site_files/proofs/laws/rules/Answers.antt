use Rattle.std.proofs.Common.{refl}
use Rattle.percent_encoding.proofs.OnLiterals.{percent_encoding_on_literals}
use Rattle.url.proofs.OnLiterals.{url_on_literals}
use Rattle.crawl_keys.specs.CanonicalText.{text_of}
use Rattle.site_files.proofs.laws.rules.Goals as goal

pub returns : goal.returns
unfolding percent_encoding_on_literals url_on_literals text_of
returns c = record {
  exact_own = refl;
  exact_query = refl;
  exact_spelling = refl;
  fallback_name = refl;
  fallback_folder = refl;
  fallback_query = refl;
  fallback_moved = refl;
  query = refl;
  query_spelling = refl;
  query_other = refl;
  query_of_index = refl;
  query_in_path = refl;
  link = refl;
  link_only = refl;
  own_top = refl;
  own_folder = refl;
  own_name = refl;
  own_none = refl;
}
