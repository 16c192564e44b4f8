use Rattle.document_links.proofs.Prelude.{◌≡◌, ◌∙◌, ◌++◌, ap, None}
use Rattle.html_links.specs.Links.{needed_texts}
use Rattle.html_links.specs.Positions.{needed_positions}
use Rattle.html_links.specs.Reads.{base_at}
use Rattle.document_links.specs.Encoding.{links_in}
use Rattle.document_links.specs.LinkUrls.{query_charset}
use Rattle.document_links.specs.Places.{positions_in}
use Rattle.document_links.specs.Rooted.{all_rooted}
use Rattle.document_links.proofs.Leading.{same_urls}
use Rattle.document_links.proofs.Locating.{places_of_links, urls_of_links}
use Rattle.document_links.proofs.link_urls.links_in.Goals as goal

pub returns-clause-located : goal.returns-clause-located
returns-clause-located c =
    let reading = c.args.reading in
    let needed = c.needed_links-needed.result in
    places_of_links reading.kind reading.charset c.args.text.now c.args.indices.now c.find_links.new.raw.texts c.find_links.new.raw.positions.items needed c.in_ok-places.places.items c.needed_links-needed.ensures.among
    (λ known. c.in_ok-found.ensures.texts known ∙ ap (λ l. needed_texts needed (l ++ links_in reading.kind c.args.text.now)) c.new-raw.ensures.texts)
    (λ known. c.in_ok-found.ensures.positions known ∙ ap (λ l. needed_positions needed (l ++ positions_in reading.kind c.args.text.now)) c.new-raw.ensures.positions)
    c.in_ok-places.ensures.placed c.in_ok-places.ensures.written

pub returns-clause-lead : goal.returns-clause-lead
returns-clause-lead c =
    let reading = c.args.reading in
    let page = c.args.page in
    let needed = c.needed_links-needed.result in
    urls_of_links page.root page.url.now reading.kind reading.charset c.args.text.now c.args.indices.now c.find_links.new.raw.texts needed c.in_ok-urls.urls.items c.needed_links-needed.ensures.among
    (λ known. c.in_ok-found.ensures.texts known ∙ ap (λ l. needed_texts needed (l ++ links_in reading.kind c.args.text.now)) c.new-raw.ensures.texts)
    (λ known none.
    let no_base : base_at c.base_if-counted.result ≡ None = c.base_if-counted.ensures (λ counts. c.in_ok-found.ensures.base (c.needed_links-needed.ensures.all counts) known none) in
    same_urls c.in_ok-writer.writer.charset (query_charset reading.kind reading.charset) c.in_ok-from.from page.url.now c.add_root.new.raw.texts _ c.in_ok-urls.urls.items
    (c.in_ok-writer.ensures.charset ∙ c.query_charset-charset.ensures) c.in_ok-from.ensures
    (c.in_ok-rooted.ensures.links no_base ∙ ap (all_rooted page.root) c.in_ok-own.ensures)
    (c.in_ok-urls.ensures (c.in_ok-writer.ensures.unbased (c.in_ok-rooted.ensures.base no_base)) c.in_ok-writer.ensures.links))
