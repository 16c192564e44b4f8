use Rattle.std.proofs.Common.{refl}
use Rattle.site_files.proofs.laws.links.Goals as goal

pub returns : goal.returns
returns c = record {
  link = refl;
  folder = refl;
  folder_only = refl;
  inside = refl;
  longer_name = refl;
  folder_above = refl;
  other_folder = refl;
}
