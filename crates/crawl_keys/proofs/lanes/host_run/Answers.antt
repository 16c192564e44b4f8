use Rattle.crawl_keys.proofs.Prelude.{ℕ, bit_and, cond, leb, refl, zip2_splat, length-chunk, chunk}
use Rattle.crawl_keys.proofs.LaneLemmas.{host_run, joined, splat}
use Rattle.crawl_keys.proofs.lanes.host_run.Goals as goal

pub returns : goal.returns
returns c =
    let v = chunk c.args.at 16 c.args.text.now in
    let long = length-chunk c.args.at 16 c.args.text.now c.requires in
    let letter = joined (λ a b. cond (leb a b) 255 0) _ _ v (splat v 26 long) (zip2_splat {Y = ℕ} _ v 16 97 long) in
    let digit = joined (λ a b. cond (leb a b) 255 0) _ _ v (splat v 10 long) (zip2_splat {Y = ℕ} _ v 16 48 long) in
    let point = joined (λ a b. cond (leb a b) 255 0) _ _ v (splat v 2 long) (zip2_splat {Y = ℕ} _ v 16 45 long) in
    host_run c.args.text.now c.args.at _ _ _ c.requires c.type_inv.text c.first_set.ensures
    (joined bit_and _ _ v (joined bit_and _ _ v (joined bit_and _ _ v letter digit) point) (zip2_splat {Y = ℕ} _ v 16 95 long)) refl
