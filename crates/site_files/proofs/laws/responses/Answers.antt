use Rattle.std.proofs.Common.{refl}
use Rattle.percent_encoding.proofs.OnLiterals.{percent_encoding_on_literals}
use Rattle.url.proofs.OnLiterals.{url_on_literals}
use Rattle.crawl_keys.specs.CanonicalText.{text_of}
use Rattle.site_files.proofs.laws.responses.Goals as goal

pub returns : goal.returns
unfolding percent_encoding_on_literals url_on_literals text_of
returns c = record {
  top = refl;
  file = refl;
  empty_first = refl;
  file_and_slash = refl;
  no_suffix = refl;
  folder_only = refl;
  folder = refl;
  folder_twice = refl;
  empty_and_folder = refl;
  empty_names = refl;
  slash_escaped = refl;
  folder_escaped = refl;
  dots_escaped = refl;
  above = refl;
  second_index = refl;
  first_index = refl;
  no_index = refl;
  space = refl;
  percent = refl;
  letter = refl;
  case = refl;
  query = refl;
  folder_and_query = refl;
  query_of_folder = refl;
  mark = refl;
  index_name = refl;
  index_name_below = refl;
  other = refl;
}
