use Rattle.document_links.proofs.Prelude.{◌≡◌, ◌∙◌, ◌++◌, None, ap}
use Rattle.html_links.specs.Links.{base_of, ids_of, links_of}
use Rattle.html_links.specs.Reads.{base_at}
use Rattle.document_links.specs.Rooted.{all_rooted}
use Rattle.document_links.proofs.Keeping.{anchors_of_text}
use Rattle.document_links.proofs.document.text_document.Goals as goal

pub returns-clause-anchors : goal.returns-clause-anchors
returns-clause-anchors c = λ known asked.
    let options = c.args.options in
    let text = c.args.text.now in
    let found = c.in_ok-found.ensures in
    let no_base : base_of options.syntax text ≡ None → base_at c.in_ok-found.found ≡ None = λ none. found.base known ∙ none in
    anchors_of_text options c.args.charset c.args.url.now text c.in_ok-writer.writer.base c.in_ok-writer.writer.charset c.read_known.new.ids.ids c.add_root.new.raw.texts c.in_ok-document.document.anchors
    c.in_ok-writer.ensures.charset
    (found.ids asked ∙ ap (λ l. l ++ ids_of options.syntax text) c.new-ids.ensures)
    (λ none. c.in_ok-writer.ensures.unbased (c.in_ok-base.ensures.base (no_base none)))
    (λ none. c.in_ok-base.ensures.links (no_base none) ∙ ap (all_rooted options.root) (found.links known ∙ ap (λ l. l ++ links_of options.styles options.syntax text) c.in_ok-clear.ensures.texts))
    (c.in_ok-document.ensures.anchors known asked)
