use Rattle.document_links.proofs.Prelude.{◌∙◌, ◌++◌, ap}
use Rattle.html_links.specs.Links.{needed_texts}
use Rattle.html_links.specs.Positions.{needed_positions}
use Rattle.document_links.specs.Encoding.{links_in}
use Rattle.document_links.specs.Places.{positions_in}
use Rattle.document_links.proofs.Locating.{of_links}
use Rattle.document_links.proofs.places.places_in.Goals as goal

pub returns : goal.returns
returns c =
    let reading = c.args.reading in
    let text = c.args.text.now in
    let needed = c.needed_count.result in
    of_links (λ places. places.items) reading.kind reading.charset text c.args.indices.now c.find_links.new.raw.texts c.find_links.new.raw.positions.items needed c.places_of.result c.needed_count.ensures
    (λ known. c.in_ok-find_links.ensures.texts known ∙ ap (λ l. needed_texts needed (l ++ links_in reading.kind text)) c.new-raw.ensures.texts)
    (λ known. c.in_ok-find_links.ensures.positions known ∙ ap (λ l. needed_positions needed (l ++ positions_in reading.kind text)) c.new-raw.ensures.positions) c.places_of.ensures.placed c.places_of.ensures.written
