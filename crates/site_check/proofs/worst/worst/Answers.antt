use Rattle.site_check.proofs.Prelude.{Vec, Global, ◌∙◌, [], IfOk-weaker, ap, false, fold, map, path_count, pointed}
use Rattle.check_report.specs.declared.value.FileCount.{FileCount}
use Rattle.site_check.proofs.WorstFiles.{all_undone, ten_of_all}
use Rattle.site_check.proofs.worst.worst.Goals as goal
use Rattle.site_check.specs.Worst.{counted, each_once, files_in, links_of, put_ten, undone}

pub returns : goal.returns
returns c =
    let files = files_in c.args.broken.now in
    let same = ap pointed c.as_slice-files.ensures.value ∙ c.in_ok-files.ensures in
    IfOk-weaker c.copies.result _ _
    (λ (all : Vec FileCount Global) own.
    own ∙ ap (map links_of) c.as_slice.ensures.value
    ∙ c.in_ok-first.ensures files (λ file. c.in_ok-counts.ensures file ∙ ap (λ fs. path_count fs file) same)
    ∙ ap (λ fs. fold put_ten [] (map (counted files) (undone (λ _. false) fs))) same
    ∙ ap (λ fs. fold put_ten [] (map (counted files) fs)) (all_undone files)
    ∙ ten_of_all [] (map (counted files) (each_once files)))
    c.copies.ensures
