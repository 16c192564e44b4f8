use Rattle.std.proofs.Common.{◌+◌, sym, ◌∙◌}
use Rattle.site_files.proofs.Ways.{cut_at, take_rest}
use Rattle.site_files.proofs.escapes.cut_name.Goals as goal

pub returns-then-is_slash : goal.returns-then-is_slash
returns-then-is_slash c =
    let cut = cut_at c.args.path.now c.bytes.index c.bytes-test.true c.bytes.invariant (sym c.is_slash.ensures ∙ c.if-is_slash.true) in
    rw (take_rest c.args.path.now (c.bytes.index + 1)) cut
