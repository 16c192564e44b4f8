use Rattle.html_links.proofs.Prelude.{take, length-take-le, zip2_splat}
use Rattle.html_links.proofs.Nearness.{near_place}
use Rattle.html_links.proofs.near.near_index.Goals as goal

pub returns : goal.returns
returns c =
    near_place c.args.byte c.args.bytes.now _ _ c.requires c.first_set.ensures
    (zip2_splat _ (take 32 c.args.bytes.now) 32 c.args.byte (length-take-le 32 c.args.bytes.now c.requires))
