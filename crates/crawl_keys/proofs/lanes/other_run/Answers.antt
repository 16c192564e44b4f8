use Rattle.crawl_keys.proofs.Prelude.{ℕ, zip2_splat, length-chunk, chunk}
use Rattle.crawl_keys.proofs.LaneLemmas.{other_run}
use Rattle.crawl_keys.proofs.lanes.other_run.Goals as goal

pub returns : goal.returns
returns c =
    let v = chunk c.args.at 16 c.args.text.now in
    let long = length-chunk c.args.at 16 c.args.text.now c.requires in
    other_run c.args.text.now c.args.at c.args.mark _ _ c.requires c.type_inv.text c.first_set.ensures (zip2_splat {Y = ℕ} _ v 16 c.args.mark long)
