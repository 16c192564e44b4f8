use Rattle.check_report.proofs.Prelude.{[], ◌∷◌, ◌++◌, external_section, last, name_section, redirect_section}
use Rattle.check_report.specs.declared.row.Section.TheVariants as section
use Rattle.check_report.proofs.Adding.{adds_both, then_ok}
use Rattle.check_report.proofs.printing.put_others.Goals as goal

pub returns : goal.returns
returns c =
    let how = c.args.form in
    let f = c.args.findings.now in
    let old = c.args.out.now.items in
    let redirects = c.put_redirects.new.out.items in
    let unreached = c.put_names.new.out.items in
    let unlisted = c.put_names-2.new.out.items in
    let external = c.put_external.new.out.items in
    let unused = c.put_names-3.new.out.items in
    let a = redirect_section f.redirects.now in
    let b = name_section section.Unreached f.unreached.now in
    let d = name_section section.Unlisted f.unlisted.now in
    let e = external_section c.args.external.now in
    let g = name_section section.Unused f.unused_ignores.now in
    let first = adds_both how old redirects unreached a b c.in_ok-put_redirects.ensures c.in_ok-put_names.ensures in
    let second = adds_both how old unreached unlisted (a ++ b) d first c.in_ok-put_names-2.ensures in
    let third = adds_both how old unlisted external (a ++ b ++ d) e second c.in_ok-put_external.ensures in
    let fourth = adds_both how old external unused (a ++ b ++ d ++ e) g third c.in_ok-put_names-3.ensures in
    then_ok c.put_row.result (λ tail. adds_both how old unused c.put_row.new.out.items (a ++ b ++ d ++ e ++ g) (last ∷ []) fourth tail) c.put_row.ensures
