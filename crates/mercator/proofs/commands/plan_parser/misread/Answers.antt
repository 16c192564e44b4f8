use Rattle.mercator.proofs.Prelude.{ap, inr, refl, subst, sym, list_all, IsVisible}
use Rattle.std.proofs.lemmas.Str.{chars-nil}
use Rattle.shown_text.specs.Shown.{is_visible_or_lf}
use Rattle.mercator.proofs.commands.plan_parser.misread.Goals as goal

pub returns-clause-shown : goal.returns-clause-shown
returns-clause-shown c = (inr refl, subst IsVisible (sym c.new.ensures.bytes) (ap (list_all is_visible_or_lf) chars-nil))
