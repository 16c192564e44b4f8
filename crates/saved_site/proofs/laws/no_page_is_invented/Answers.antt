use Rattle.saved_site.proofs.SiteLaws.{not_invented}
use Rattle.saved_site.proofs.laws.no_page_is_invented.Goals as goal

pub returns : goal.returns
returns g c = λ files web url of_files missing. not_invented files (g.B.FileBytes.reads c.args.bytes.now) web url of_files missing
