use Rattle.site_check.proofs.Prelude.{◌≡◌, ◌∙◌, suc, ◌≤◌, ◌∷◌, length, drop, take, ap, arith, refl}
use Rattle.std.proofs.Common.{rules}
use Rattle.site_check.proofs.AnchorGroups.{first_group}
use Rattle.site_check.proofs.WorstFiles.{within_files}
use Rattle.site_check.specs.AnchorGroups.{anchor_at, leads_to}
use Rattle.site_check.proofs.missing_anchors.first_anchor.Goals as goal

pub returns-in-Some : goal.returns-in-Some
returns-in-Some c =
    let links = c.args.links.now in
    let first = c.in-Some.first.now in
    let following = c.in-Some.following.now in
    let count = c.count_to-count.result in
    let is : links ≡ first ∷ following = search rules in
    let within : count ≤ length following = omega (arith, c.count_to-count.ensures, within_files (leads_to (anchor_at first.anchor)) following) in
    let at : c.min.result ≡ suc count = omega (arith, within, ap length is, c.saturating_add.ensures, c.min.ensures) in
    first_group links first following (record { anchor = first.anchor; own = c.split_at.result.0; more = c.split_at.result.1 }) count is refl c.count_to-count.ensures
    (c.split_at.ensures.front ∙ ap (λ n. take n links) at) (c.split_at.ensures.back ∙ ap (λ n. drop n links) at)
