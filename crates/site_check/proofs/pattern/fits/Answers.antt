use Rattle.site_check.proofs.Prelude.{◌∙◌, ◌++◌, Some, None, ap, arith, sym}
use Rattle.std.proofs.lemmas.Str.Pattern.{split_parts}
use Rattle.site_check.proofs.Patterns.{pattern_differs, pattern_plain, pattern_there}
use Rattle.site_check.proofs.pattern.fits.Goals as goal

pub returns-in-Some-strip_prefix : goal.returns-in-Some-strip_prefix
returns-in-Some-strip_prefix c =
    let front = c.in-Some.front in
    let pattern = c.in-Some.pattern in
    let rest = c.in-Some-strip_prefix.rest in
    let parts = split_parts 42 c.args.pattern.now (Some (front, pattern)) c.in-Some.ensures.cases (omega arith) in
    let cut = c.in-Some-strip_prefix.ensures.cases in
    c.is_end.ensures ∙ pattern_there c.args.pattern.now front.now pattern.now c.args.text.now rest.now parts.0 parts.1 (cut.1.1 ∙ ap (λ r. front.now ++ r) (sym cut.2))

pub returns-in-None-strip_prefix : goal.returns-in-None-strip_prefix
returns-in-None-strip_prefix c =
    let front = c.in-Some.front in
    let pattern = c.in-Some.pattern in
    let parts = split_parts 42 c.args.pattern.now (Some (front, pattern)) c.in-Some.ensures.cases (omega arith) in
    pattern_differs c.args.pattern.now front.now pattern.now c.args.text.now parts.0 parts.1 c.in-None-strip_prefix.ensures.cases

pub returns-in-None : goal.returns-in-None
returns-in-None c = c.eq.ensures ∙ pattern_plain c.args.pattern.now c.args.text.now (split_parts 42 c.args.pattern.now None c.in-None.ensures.cases (omega arith))
