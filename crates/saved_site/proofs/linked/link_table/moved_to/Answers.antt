use Rattle.saved_site.proofs.Prelude.{sym, subst, IsUtf8, IsUtf8-from_is_utf8, fits_utf8}
use Rattle.saved_site.proofs.linked.link_table.moved_to.Goals as goal

pub unreachable-requires : goal.unreachable-requires
unreachable-requires c =
    c.in-Err.ensures (subst IsUtf8 (sym c.as_bytes.ensures.text) (IsUtf8-from_is_utf8 c.args.text.now (fits_utf8 6 c.args.text.now c.as_bytes.ensures.fit)))
