use Rattle.check_report.proofs.Prelude.{Global, String, ◌≡◌, ◌++◌, flat_map, string_bytes, take}
use Rattle.json.specs.Tree.{json_tokens}
use Rattle.check_report.specs.Sarif.{unlisted_result}
use Rattle.check_report.proofs.as_sarif.put_unlisted.Given as goal

abbrev pub invariant-loop-document : goal.invariant-loop-document
invariant-loop-document l = record {
  tokens : l.out.tokens ≡ l.fn.out.tokens ++ flat_map (λ (t : String Global). json_tokens (unlisted_result (string_bytes t))) (take l.document-index l.unlisted);
  before : l.out.before ≡ l.fn.out.before;
}
