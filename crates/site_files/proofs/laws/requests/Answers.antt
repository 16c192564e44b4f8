use Rattle.std.proofs.Common.{refl}
use Rattle.percent_encoding.proofs.OnLiterals.{percent_encoding_on_literals}
use Rattle.site_files.proofs.laws.requests.Goals as goal

pub returns : goal.returns
unfolding percent_encoding_on_literals
returns c = record {
  top = refl;
  slashes = refl;
  file = refl;
  empty_first = refl;
  file_and_slash = refl;
  folder_only = refl;
  folder = refl;
  folder_twice = refl;
  empty_names = refl;
  dot = refl;
  dot_last = refl;
  dots = refl;
  dots_twice = refl;
  dots_last = refl;
  slash_escaped = refl;
  slash_last = refl;
  slash_first = refl;
  slashes_escaped = refl;
  dots_escaped = refl;
  above = refl;
  above_escaped = refl;
  space = refl;
  percent = refl;
  letter = refl;
  no_escape = refl;
  number_sign = refl;
  mark = refl;
}
