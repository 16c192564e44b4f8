use Rattle.document_links.proofs.Prelude.{◌≡◌, ◌∙◌, ◌==◌, None, Some, cond, false, not, length, ap, sym, subst, arith, length-drop}
use Rattle.std.proofs.lemmas.Bool.{not-false}
use Rattle.html_links.specs.Shown.{Stopped, following}
use Rattle.html_links.proofs.Jumps.{shorter}
use Rattle.std.specs.Str.{bytes_eq}
use Rattle.document_links.specs.Markup.{is_quote, is_unquoted, name_before, quoted, value_of}
use Rattle.document_links.proofs.Marking.{next_value}
use Rattle.document_links.proofs.start_tag.next_value.Goals as goal

pub returns-clause-reads : goal.returns-clause-reads
returns-clause-reads c = λ name.
    let quote = c.in-Some.quote in
    let stopped : is_unquoted quote ≡ false = subst (Stopped is_unquoted) c.in-Some.ensures c.split_quote.ensures.stopped in
    next_value quoted None name c.args.bytes.now c.split_quote.result.0.now c.in-Some.inner.now c.before_quote.result.1.now quote
    c.split_quote.ensures.since (sym c.in-Some.ensures ∙ c.split_quote.ensures.quoted) (not-false (is_quote quote) stopped) c.before_quote.ensures.following
    ∙ ap (λ text. cond (bytes_eq (name_before c.split_quote.result.0.now) name) (Some text) (value_of name c.before_quote.result.1.now)) (sym c.before_quote.ensures.text)

pub returns-clause-lefts : goal.returns-clause-lefts
returns-clause-lefts c = λ name.
    let quote = c.in-Some.quote in
    let stopped : is_unquoted quote ≡ false = subst (Stopped is_unquoted) c.in-Some.ensures c.split_quote.ensures.stopped in
    next_value (λ quote bytes. length bytes) 0 name c.args.bytes.now c.split_quote.result.0.now c.in-Some.inner.now c.before_quote.result.1.now quote
    c.split_quote.ensures.since (sym c.in-Some.ensures ∙ c.split_quote.ensures.quoted) (not-false (is_quote quote) stopped) c.before_quote.ensures.following

pub returns-clause-leaves : goal.returns-clause-leaves
returns-clause-leaves c =
    let quote = c.in-Some.quote in
    let inner = c.in-Some.inner.now in
    omega (arith, ap length c.before_quote.ensures.following, length-drop 1 (following (λ b. not (b == quote)) inner), shorter (λ b. not (b == quote)) inner, ap length (sym c.in-Some.ensures ∙ c.split_quote.ensures.quoted), shorter is_unquoted c.args.bytes.now)
