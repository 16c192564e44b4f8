use Rattle.site_check.proofs.Prelude.{◌≡◌, ◌+◌, ◌∙◌, ap, arith, bytes_eq, count_at, one_if, sym}
use Rattle.site_check.proofs.RootFolders.{count_put}
use Rattle.site_check.proofs.base.count_path.Goals as goal

pub returns : goal.returns
returns c = λ fits other.
    let old = c.args.counts.now in
    let count = c.saturating_add-count.result in
    let key = c.from.result in
    let more : count ≡ count_at old c.args.folder.now + 1 = omega (arith, fits, c.count_at.ensures, c.saturating_add-count.ensures) in
    count_put old c.insert.new.self key count c.in_ok-insert.ensures.updates (more ∙ ap (λ t. count_at old t + 1) (sym c.from.ensures)) other
    ∙ ap (λ t. one_if (bytes_eq t other) + count_at old other) c.from.ensures
