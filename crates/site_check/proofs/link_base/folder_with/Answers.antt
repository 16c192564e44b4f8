use Rattle.site_check.proofs.Prelude.{◌∙◌, ap, option_map, pointed}
use Rattle.site_check.proofs.LinkFolders.{first_folder}
use Rattle.site_check.proofs.link_base.folder_with.Goals as goal

pub returns : goal.returns
returns c =
    first_folder (pointed c.args.urls.now) (pointed c.as_slice-those.result.now) c.in_ok-counts.counts c.args.of c.args.slashes (option_map (λ f. f.now) c.often_first.result)
    (ap pointed c.as_slice-those.ensures.value ∙ c.in_ok-folders.ensures) c.in_ok-counts.ensures c.often_first.ensures
