use Rattle.std.proofs.Common.{refl}
use Rattle.url.specs.Input.{rsplit_once}
use Rattle.site_files.proofs.laws.kinds.Goals as goal

pub returns : goal.returns
unfolding rsplit_once
returns c = record {
  html = refl;
  upper_case = refl;
  dots_in_name = refl;
  xhtml = refl;
  svg = refl;
  style = refl;
  sitemap = refl;
  feed = refl;
  atom = refl;
  sitemap_text = refl;
  text_sitemap = refl;
  sitemap_packed = refl;
  text = refl;
  packed = refl;
  packed_upper_case = refl;
  no_suffix = refl;
  empty_suffix = refl;
  hidden = refl;
  only_dots_before = refl;
  suffix_of_folder = refl;
}
