use Rattle.check_report.proofs.Prelude.{OnOk, arith, cond-false, cond-true, false, length, nat_tests, subst, sym, true, ◌++◌, ◌==◌, ◌≡◌}
use Rattle.json.specs.Json.{Json}
use Rattle.json.specs.Tree.{json_tokens}
use Rattle.check_report.specs.Sarif.{folder_file, source_file}
use Rattle.check_report.proofs.as_sarif.put_artifact.Goals as goal

pub returns-then-is_empty-clause-tokens : goal.returns-then-is_empty-clause-tokens
returns-then-is_empty-clause-tokens c =
    let old = c.args.out.now.tokens in
    let new = c.put_folder_file.new.out.tokens in
    let url = c.args.contents.source_url.now in
    let file = folder_file c.args.contents.folder.now c.args.file.now in
    let empty : (length url == 0) ≡ true = grind (arith, nat_tests) in
    subst (λ (j : Json). OnOk c.put_folder_file.result (new ≡ old ++ json_tokens j)) (sym (cond-true (length url == 0) file (source_file c.args.file.now) empty)) c.put_folder_file.ensures.tokens

pub returns-else-is_empty-clause-tokens : goal.returns-else-is_empty-clause-tokens
returns-else-is_empty-clause-tokens c =
    let old = c.args.out.now.tokens in
    let new = c.put_source_file.new.out.tokens in
    let url = c.args.contents.source_url.now in
    let file = folder_file c.args.contents.folder.now c.args.file.now in
    let some : (length url == 0) ≡ false = grind (arith, nat_tests) in
    subst (λ (j : Json). OnOk c.put_source_file.result (new ≡ old ++ json_tokens j)) (sym (cond-false (length url == 0) file (source_file c.args.file.now) some)) c.put_source_file.ensures.tokens
