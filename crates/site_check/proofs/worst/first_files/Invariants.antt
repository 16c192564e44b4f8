use Rattle.site_check.proofs.Prelude.{◌≡◌, ℕ, false, List, [], count_at, drop, fold, map, path_count, pointed}
use Rattle.site_check.proofs.worst.first_files.Given as goal
use Rattle.site_check.specs.Worst.{counted, is_done, links_of, put_ten, undone}

abbrev pub invariant-loop-file : goal.invariant-loop-file
invariant-loop-file l =
    (all : List (List ℕ)) → ((file : List ℕ) → count_at l.counts file ≡ path_count all file) →
    fold put_ten (map links_of l.first.items) (map (counted all) (undone (is_done l.done) (pointed (drop l.file-index l.files)))) ≡ fold put_ten [] (map (counted all) (undone (λ _. false) (pointed l.files)))
