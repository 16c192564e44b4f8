use Rattle.crawl_keys.proofs.Prelude.{◌≡◌, ℕ, List, IsCharBoundary, subst, sym, arith, rules, position_or_len, cases_lt, eqb-true, passes_at_first, prefix_len-le-length, is_number_sign}
use Rattle.crawl_keys.proofs.fragment.before_sign.Goals as goal

-- a text may be cut before its first `#`, or at its end
cut_before_sign : (text : List ℕ) → IsCharBoundary text (position_or_len is_number_sign text)
cut_before_sign text = grind (arith, eqb-true, passes_at_first, prefix_len-le-length, cases_lt)

pub range-requires-clause-end_boundary : goal.range-requires-clause-end_boundary
range-requires-clause-end_boundary c =
    let place : c.len_before.result ≡ position_or_len is_number_sign c.args.text.now = search rules in
    subst (IsCharBoundary c.args.text.now) (sym place) (cut_before_sign c.args.text.now)
