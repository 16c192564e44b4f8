use Rattle.site_check.proofs.Prelude.{◌≡◌, ◌∙◌, suc, ◌≤◌, ◌∷◌, length, drop, take, ap, arith, refl}
use Rattle.std.proofs.Common.{rules}
use Rattle.site_check.proofs.Placed.{whole_page}
use Rattle.site_check.proofs.WorstFiles.{within_files}
use Rattle.site_check.specs.Located.{is_of}
use Rattle.site_check.proofs.located.first_page.Goals as goal

pub returns-in-Some : goal.returns-in-Some
returns-in-Some c =
    let leads = c.args.leads.now in
    let first = c.in-Some.first.now in
    let following = c.in-Some.following.now in
    let count = c.count_of-count.result in
    let is : leads ≡ first ∷ following = search rules in
    let within : count ≤ length following = omega (arith, c.count_of-count.ensures, within_files (is_of first.lead.source) following) in
    let at : c.min.result ≡ suc count = omega (arith, within, ap length is, c.saturating_add.ensures, c.min.ensures) in
    whole_page leads first following (record { source = first.lead.source; own = c.split_at.result.0; more = c.split_at.result.1 }) count is refl c.count_of-count.ensures
    (c.split_at.ensures.front ∙ ap (λ n. take n leads) at) (c.split_at.ensures.back ∙ ap (λ n. drop n leads) at)
