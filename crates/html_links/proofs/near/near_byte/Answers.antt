use Rattle.html_links.proofs.Prelude.{None, Some, arith, subst, take_rest, IsFirstByte, is_byte}
use Rattle.html_links.proofs.Nearness.{near_first, far_first, far_none}
use Rattle.html_links.proofs.near.near_byte.Goals as goal

pub returns-then-near-lt-LANES : goal.returns-then-near-lt-LANES
returns-then-near-lt-LANES c =
    near_first (is_byte c.args.byte) c.args.bytes.now 32 c.near_index-near.result (omega arith) c.near_index-near.ensures (omega arith)

pub returns-in-Some : goal.returns-in-Some
returns-in-Some c =
    far_first (is_byte c.args.byte) c.args.bytes.now 32 c.near_index-near.result c.near_index-near.ensures (omega arith) c.in-Some.index
    (subst (λ xs. IsFirstByte (is_byte c.args.byte) xs (Some c.in-Some.index)) (take_rest c.args.bytes.now 32) c.in-Some.ensures)

pub returns-in-None : goal.returns-in-None
returns-in-None c =
    far_none (is_byte c.args.byte) c.args.bytes.now 32 c.near_index-near.result c.near_index-near.ensures (omega arith)
    (subst (λ xs. IsFirstByte (is_byte c.args.byte) xs None) (take_rest c.args.bytes.now 32) c.in-None.ensures)
