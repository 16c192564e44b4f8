use Rattle.site_check.proofs.Prelude.{arith, fold, get_or, map, pointed}
use Rattle.std.proofs.lemmas.List.{get_or_default}
use Rattle.site_check.proofs.WorstFiles.{file_more, files_end, none_done}
use Rattle.site_check.proofs.worst.first_files.Goals as goal
use Rattle.site_check.specs.Worst.{counted, is_done, links_of, put_ten, undone}

pub loop-file-init : goal.loop-file-init
loop-file-init c = λ all exact.
    (λ i. fold put_ten (map links_of (c.new-first.ensures.items i)) (map (counted all) (undone (λ file. none_done c.new-done.result c.new-done.ensures.len file i) (pointed c.args.files.now))))

pub loop-file-preserved : goal.loop-file-preserved
loop-file-preserved c = λ all exact.
    let files = c.args.files.now in
    let i = c.loop-file.file-index in
    file_more files i (get_or files i _) (is_done c.loop-file.done) (is_done c.insert_file.new.done) all (map links_of c.loop-file.first.items) (map links_of c.insert_file.new.first.items) _ c.loop-file-test.true
    (get_or_default files i _ _ c.loop-file-test.true) c.in_ok-insert_file.ensures.done (c.in_ok-insert_file.ensures.first all (exact _)) (c.loop-file.invariant all exact)

pub returns : goal.returns
returns c = λ all exact.
    files_end c.args.files.now c.loop-file.file-index (is_done c.loop-file.done) all (map links_of c.loop-file.first.items) _ (omega arith) (c.loop-file.invariant all exact)
