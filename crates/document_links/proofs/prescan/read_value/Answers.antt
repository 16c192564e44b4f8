use Rattle.document_links.proofs.Prelude.{◌==◌, ◌∙◌, ap, arith, drop, length, not, sym, take}
use Rattle.html_links.proofs.Cuts.{after_cut, front_cut}
use Rattle.html_links.proofs.Documents.{cut_shorter}
use Rattle.document_links.specs.Scans.{is_unquoted}
use Rattle.document_links.proofs.Prescanning.{read_open, read_quoted, read_unquoted}
use Rattle.document_links.proofs.prescan.read_value.Goals as goal

pub returns-then-not-is_quote-clause-reads : goal.returns-then-not-is_quote-clause-reads
returns-then-not-is_quote-clause-reads c = λ tag.
    let text = c.args.text.now in
    read_unquoted tag c.args.name.now text c.in-Some.inside.now c.split_at.result.0.now c.split_at.result.1.now c.in-Some.first c.requires c.in-Some.ensures (sym c.if-not-is_quote.ensures)
    (c.split_at.ensures.front ∙ ap (λ n. take n text) c.unquoted_len.ensures ∙ front_cut is_unquoted text)
    (c.split_at.ensures.back ∙ ap (λ n. drop n text) c.unquoted_len.ensures ∙ after_cut is_unquoted text)

pub returns-in-Some-split_byte-clause-reads : goal.returns-in-Some-split_byte-clause-reads
returns-in-Some-split_byte-clause-reads c = λ tag.
    read_quoted tag c.args.name.now c.args.text.now c.in-Some.inside.now c.in-Some-split_byte.value.now c.in-Some-split_byte.following.now c.in-Some.first c.requires c.in-Some.ensures (sym c.if-not-is_quote.ensures)
    c.in-Some-split_byte.ensures.0 c.in-Some-split_byte.ensures.1

pub returns-in-Some-split_byte-clause-leaves : goal.returns-in-Some-split_byte-clause-leaves
returns-in-Some-split_byte-clause-leaves c =
    omega (arith, cut_shorter (λ b. not (b == c.in-Some.first)) c.in-Some.inside.now c.in-Some-split_byte.following.now c.in-Some.first c.in-Some-split_byte.ensures.1, ap length c.in-Some.ensures)

pub returns-in-None-clause-reads : goal.returns-in-None-clause-reads
returns-in-None-clause-reads c = λ tag.
    read_open tag c.args.name.now c.args.text.now c.in-Some.inside.now c.in-Some.first c.requires c.in-Some.ensures (sym c.if-not-is_quote.ensures) c.in-None.ensures
