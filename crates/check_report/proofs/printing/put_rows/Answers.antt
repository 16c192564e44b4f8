use Rattle.check_report.proofs.Prelude.{◌≡◌, [], ◌∷◌, ◌++◌, ap, ◌∙◌, flat_map, bytes_of, Line, broken_section, counts_of, external_of, external_section, hint_lines, last, listed, name_section, other_rows, redirect_section, sections_of, total, worst_section}
use Rattle.check_report.specs.declared.row.Section.TheVariants as section
use Rattle.check_report.proofs.Adding.{adds_both, adds_same, then_ok}
use Rattle.check_report.proofs.printing.put_rows.Goals as goal

pub returns : goal.returns
returns c =
    let how = c.args.form in
    let f = c.args.findings.now in
    let contents = c.args.contents in
    let shown = c.listed-shown.result in
    let own = listed contents.lists f in
    let same = c.listed-shown.ensures in
    let old = c.args.out.now.items in
    let begun = c.put_row.new.out.items in
    let hinted = c.put_hint.new.out.items in
    let broken = c.put_broken.new.out.items in
    let worst = c.put_worst.new.out.items in
    let all = c.put_others.new.out.items in
    let urls = external_of contents in
    let sum = total f.base.now f.totals (counts_of contents f) in
    let h = hint_lines f.base_hint in
    let a = broken_section c.args.view shown.broken.now in
    let b = worst_section shown.worst.now in
    let d = other_rows urls shown in
    let first = adds_same how old begun _ (sum ∷ []) (ap (λ (l : Line). l ∷ []) c.total_of.ensures) c.in_ok-put_row.ensures in
    let second = adds_both how old begun hinted (sum ∷ []) h first c.in_ok-put_hint.ensures in
    let third = adds_both how old hinted broken (sum ∷ h) a second c.in_ok-put_broken.ensures in
    let fourth = adds_both how old broken worst (sum ∷ h ++ a) b third c.in_ok-put_worst.ensures in
    let sections : h ++ a ++ b ++ d ≡ sections_of c.args.view urls own =
    λ i. h ++ broken_section c.args.view (same.broken i) ++ worst_section (same.worst i)
    ++ (redirect_section (same.redirects i) ++ name_section section.Unreached (same.unreached i) ++ name_section section.Unlisted (same.unlisted i) ++ external_section urls
    ++ name_section section.Unused (same.unused i) ++ last ∷ []) in
    then_ok c.put_others.result
    (λ tail. adds_both how old worst all (sum ∷ h ++ a ++ b) d fourth (adds_same how worst all _ d (ap (λ us. other_rows us shown) c.external_of.ensures) tail)
    ∙ ap (λ rows. old ++ flat_map (bytes_of how) (sum ∷ rows)) sections) c.put_others.ensures
