use Rattle.check_report.proofs.Prelude.{Bor, ◌≡◌, ◌++◌, flat_map, take}
use Rattle.json.specs.Tree.{json_tokens}
use Rattle.check_report.specs.declared.value.Broken.{Broken}
use Rattle.check_report.specs.Sarif.{bare_result}
use Rattle.check_report.proofs.as_sarif.put_bare_results.Given as goal

abbrev pub invariant-loop-target : goal.invariant-loop-target
invariant-loop-target l = record {
  tokens : l.out.tokens ≡ l.fn.out.tokens ++ flat_map (λ (t : Bor Broken). json_tokens (bare_result t.now)) (take l.target-index l.targets);
  before : l.out.before ≡ l.fn.out.before;
}
