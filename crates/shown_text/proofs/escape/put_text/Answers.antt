use Rattle.shown_text.proofs.Prelude.{◌≡◌, ◌++◌, IsCharBoundary, IsUtf8, ap, ◌∙◌, subst, sym, arith, eqb-true, length-prefix_len, IsUtf8-take, list_all, is_plain, prefix_len_stops, prefix_len-le-length}
use Rattle.std.proofs.lemmas.List.{take-append-drop}
use Rattle.shown_text.proofs.Pieces.{all_put, run_ends, run_is_plain, run_put}
use Rattle.shown_text.proofs.escape.put_text.Goals as goal

pub split_at-requires : goal.split_at-requires
split_at-requires c = grind (arith, length-prefix_len, prefix_len-le-length, prefix_len_stops)

pub runs-preserved : goal.runs-preserved
runs-preserved c =
    let text = c.runs.rest.now in
    let run = c.split_at.result.0.now in
    let tail = c.split_at.result.1.now in
    let split : text ≡ run ++ tail = sym (take-append-drop c.plain_len.result text) ∙ λ i. sym c.split_at.ensures.front i ++ sym c.split_at.ensures.back i in
    let cut = c.plain_len.ensures ∙ length-prefix_len is_plain text in
    let ends = subst (IsCharBoundary text) (sym cut) (run_ends text) in
    let utf8 = subst IsUtf8 (sym c.split_at.ensures.front) (IsUtf8-take text c.plain_len.result c.runs.invariant.utf8 ends) in
    let plain = ap (list_all is_plain) c.split_at.ensures.front ∙ run_is_plain text c.plain_len.result cut in
    record {
      utf8 = c.in_ok-rest.ensures.utf8;
      so_far =
          run_put c.args.how c.args.out.now.items c.runs.out.items c.extend_from_slice.new.self.items c.put_first.new.out.items c.args.text.now text run tail c.in_ok-rest.rest.now
          c.runs.invariant.so_far split utf8 plain (c.in_ok-extend_from_slice.ensures.items ∙ ap (λ t. c.runs.out.items ++ t) c.as_bytes.ensures.value) c.in_ok-rest.ensures.text;
    }

pub returns : goal.returns
returns c = all_put c.args.how c.args.out.now.items c.runs.out.items c.args.text.now c.runs.rest.now (eqb-true _ _ (sym c.is_empty.ensures ∙ c.runs-test.false)) c.runs.invariant.so_far
