use Rattle.crawl_keys.proofs.Prelude.{◌+◌, ℕ, bit_and, bit_or, cond, ltb, refl, arith, cond-false, eqb-true, ne_eqb, zip2_splat, length-chunk, chunk, zip2}
use Rattle.crawl_keys.proofs.LaneLemmas.{all_follow, joined, splat}
use Rattle.crawl_keys.proofs.lanes.follow.Goals as goal

pub returns : goal.returns
returns c none =
    let text = c.args.text.now in
    let at = c.args.at in
    let v = chunk (at + 1) 16 text in
    let p = chunk at 16 text in
    let long = length-chunk (at + 1) 16 text (omega arith) in
    let before = length-chunk at 16 text (omega arith) in
    let odd = zip2_splat {Y = ℕ} bit_or v 16 1 long in
    let twin = zip2_splat {Y = ℕ} bit_or v 16 2 long in
    let outside = joined (λ a b. cond (ltb a b) 255 0) _ _ v (splat v 93 long) (zip2_splat {Y = ℕ} _ v 16 33 long) in
    let quotes = joined bit_or _ _ v (joined _ _ _ v odd (splat v 35 long)) (zip2_splat {Y = ℕ} _ v 16 39 long) in
    let angles = joined bit_or _ _ v (joined _ _ _ v twin (splat v 62 long)) (joined _ _ _ v twin (splat v 94 long)) in
    let braces = joined bit_or _ _ v (joined _ _ _ v twin (splat v 127 long)) (zip2_splat {Y = ℕ} _ v 16 123 long) in
    let marks = joined bit_or _ _ v (joined bit_or _ _ v (joined bit_or _ _ v quotes angles) braces) (zip2_splat {Y = ℕ} _ v 16 96 long) in
    let own = joined bit_or _ _ v outside marks in
    let dots = joined bit_or _ _ v (joined _ _ _ v odd (splat v 47 long)) (zip2_splat {Y = ℕ} _ v 16 37 long) in
    let slashes = zip2_splat {Y = ℕ} _ p 16 47 before in
    all_follow text at _ _ _ _ (omega arith) c.type_inv.text (λ i. zip2 bit_or (own i) (zip2 bit_and (slashes i) (dots i)))
    (λ a other. cond-false _ _ _ (ne_eqb a 47 other)) refl refl (eqb-true _ 0 none)
