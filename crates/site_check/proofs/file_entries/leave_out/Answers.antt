use Rattle.site_check.proofs.Prelude.{◌∙◌, ap, map, not, string_bytes, sym, is_gone, target_row, with_left}
use Rattle.std.proofs.Common.{rules}
use Rattle.site_check.proofs.Retained.{retained}
use Rattle.site_check.proofs.file_entries.leave_out.Goals as goal

pub returns : goal.returns
returns c =
    let entries = map string_bytes c.args.entries.now in
    retained _ target_row (λ row. not (is_gone entries row)) (with_left entries) _
    (λ x b f' y h.
    let met = h.called.met.0 in
    (met.0 ∙ ap (λ z. not (is_gone entries (target_row z))) h.shows, ap target_row (sym h.leaves) ∙ met.1 ∙ ap (λ z. with_left entries (target_row z)) h.shows, search rules))
    _ _ c.retain_mut.ensures.filtered
