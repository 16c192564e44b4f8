use Rattle.saved_site.proofs.SiteTexts.{path_after}
use Rattle.saved_site.proofs.new_page.after_origin.Goals as goal

pub returns : goal.returns
returns c = path_after _ _ _ c.strip_prefix.ensures.cases
