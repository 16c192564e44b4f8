use Rattle.saved_web.proofs.Prelude.{◌∷◌, sym, subst, lines, AreRead}
use Rattle.saved_web.proofs.ReadWeb.{header_read}
use Rattle.saved_web.proofs.threads.read_text.Goals as goal

pub returns-in-Ok-one : goal.returns-in-Ok-one
returns-in-Ok-one c = λ header h.
    let following = lines c.args.text.now in
    subst (AreRead (header ∷ following)) (sym c.in-Ok-one.ensures)
    (c.in-Ok.ensures.read (header ∷ following) (header_read c.args.second header following h))
