use Rattle.check_report.proofs.Prelude.{List, ap, codes, counted, escaped, ℕ, ◌++◌, ◌∙◌}
use Rattle.check_report.specs.Annotations.{file_start, finding_at}
use Rattle.check_report.specs.Names.{target_in}
use Rattle.check_report.specs.Paths.{without_here}
use Rattle.check_report.specs.Text.{link_end}
use Rattle.check_report.specs.declared.escape.Escape.TheVariants as escape
use Rattle.check_report.proofs.Adding.{joined, last_joined}
use Rattle.check_report.proofs.as_annotations.put_place.Goals as goal

pub returns : goal.returns
returns c =
    let broken = c.args.broken.now in
    let place = c.args.place.now in
    let old = c.args.out.now.items in
    let begun = c.put_file_start.new.out.items in
    let placed = c.put_all.new.out.items in
    let start = file_start (without_here c.args.folder.now) in
    let first = c.in_ok-put_file_start.ensures ∙ ap (λ f. old ++ file_start f) c.without_here.ensures in
    let found : List ℕ → List ℕ → List ℕ = λ file text. begun ++ (escaped escape.Property file ++ counted (codes ",line=") place.line ++ counted (codes ",col=") place.column ++ codes "::" ++ target_in escape.Data broken ++ codes ": " ++ text) in
    let second = joined old begun placed start (finding_at broken place) first (c.in_ok-put_all.ensures ∙ (λ i. found (c.as_str.ensures.value i) (c.message.ensures i))) in
    last_joined c.put_link_end.result old placed c.put_link_end.new.out.items (start ++ finding_at broken place) (link_end escape.Data broken place) second c.put_link_end.ensures
