use Rattle.check_report.proofs.Prelude.{◌≡◌, ◌++◌, IsCharBoundary, IsUtf8, ap, ◌∙◌, subst, sym, take-append-drop, length-prefix_len, IsUtf8-take, list_all, is_ordinary}
use native.Mathlib.Omega.{arith}
use Rattle.check_report.proofs.Pieces.{run_ends, run_is_ordinary, run_put}
use Rattle.check_report.proofs.escape.put_escaped.Goals as goal

pub split_at-requires : goal.split_at-requires
split_at-requires c = grind (arith, length-prefix_len, run_ends)

pub runs-preserved : goal.runs-preserved
runs-preserved c =
    let text = c.runs.rest.now in
    let run = c.split_at.result.0.now in
    let tail = c.split_at.result.1.now in
    let split : text ≡ run ++ tail = sym (take-append-drop c.ordinary_len.result text) ∙ λ i. sym c.split_at.ensures.front i ++ sym c.split_at.ensures.back i in
    let cut = c.ordinary_len.ensures ∙ length-prefix_len is_ordinary text in
    let ends = subst (IsCharBoundary text) (sym cut) (run_ends text) in
    let utf8 = subst IsUtf8 (sym c.split_at.ensures.front) (IsUtf8-take text c.ordinary_len.result c.runs.invariant.utf8 ends) in
    let plain = ap (list_all is_ordinary) c.split_at.ensures.front ∙ run_is_ordinary text c.ordinary_len.result cut in
    record {
      utf8 = c.in_ok-rest.ensures.utf8;
      so_far =
          run_put c.args.how c.args.out.now.items c.runs.out.items c.put_shown.new.out.items c.put_first.new.out.items c.args.text.now text run tail c.in_ok-rest.rest.now
          c.runs.invariant.so_far split utf8 plain c.in_ok-put_shown.ensures c.in_ok-rest.ensures.text;
    }
