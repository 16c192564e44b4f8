use Rattle.std.proofs.Common.{refl}
use Rattle.url.specs.Input.{rsplit_once}
use Rattle.site_files.proofs.laws.starts.Goals as goal

pub returns : goal.returns
unfolding rsplit_once
returns c = record {
  page = refl;
  style = refl;
  unknown = refl;
  sitemap = refl;
  sitemap_text = refl;
  feed = refl;
  feed_with_query = refl;
  rss = refl;
  other = refl;
  name_of_folder = refl;
  name_in_query = refl;
}
