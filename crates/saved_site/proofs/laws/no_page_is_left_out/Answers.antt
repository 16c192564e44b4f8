use Rattle.saved_site.proofs.SiteLaws.{not_left_out}
use Rattle.saved_site.proofs.laws.no_page_is_left_out.Goals as goal

pub returns : goal.returns
returns g c = λ files web url number of_files is fit. not_left_out files (g.B.FileBytes.reads c.args.bytes.now) web url number of_files is fit
