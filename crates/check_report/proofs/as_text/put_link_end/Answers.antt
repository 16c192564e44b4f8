use Rattle.check_report.proofs.Prelude.{List, ap, codes, option_map, string_bytes, ℕ, ◌++◌, ◌∙◌}
use Rattle.check_report.specs.Text.{advised, noted, written_text}
use Rattle.check_report.proofs.Adding.{then_ok}
use Rattle.check_report.proofs.as_text.put_link_end.Goals as goal

pub returns : goal.returns
returns c =
    let broken = c.args.broken.now in
    let how = c.args.how in
    let written = written_text how (codes " (written as ") broken (option_map string_bytes c.args.place.now.written) in
    then_ok c.put_all.result (λ is. is ∙ ap (λ (note : List ℕ). c.args.out.now.items ++ (advised how broken (written ++ noted (codes " ") note) ++ codes "\n")) c.scheme_note.ensures) c.put_all.ensures
