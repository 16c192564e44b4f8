use Rattle.document_links.proofs.Prelude.{◌∙◌, ◌++◌, ap, sym}
use Rattle.std.proofs.Common.{append_assoc}
use Rattle.document_links.specs.Unescaped.{unescaped}
use Rattle.document_links.proofs.Feeding.{more_text}
use Rattle.document_links.proofs.Runs.{appended}
use Rattle.document_links.proofs.feed.content_of.Goals as goal

pub pieces-preserved : goal.pieces-preserved
pieces-preserved c =
    let old = c.pieces.text.items in
    let run = c.in-Some.run'.now in
    let section = c.section_of.result.now in
    appended old c.extend_from_slice.new.self.items (unescaped run ++ section) _ _ _
    (c.in_ok-extend_from_slice.ensures.items ∙ ap (λ l. l ++ section) c.in_ok-push_unescaped-2.ensures ∙ append_assoc old (unescaped run) section)
    (more_text c.pieces.rest.now run c.in-Some.opened.now section c.split_at.result.1.now c.markup_of-markup.result c.markup_len.result
    c.in-Some.ensures.0 c.in-Some.ensures.1 c.markup_of-markup.ensures (sym c.is_tag.ensures ∙ c.if-is_tag.false) c.section_of.ensures c.markup_len.ensures.value c.split_at.ensures.back) c.pieces.invariant
