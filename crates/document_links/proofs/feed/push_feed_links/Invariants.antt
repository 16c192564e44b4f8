use Rattle.document_links.proofs.Prelude.{◌≡◌, ◌++◌, length}
use Rattle.document_links.specs.Feeds.{all_from, feed_links_of, feed_positions_of, markup_links, markup_positions}
use Rattle.document_links.proofs.feed.push_feed_links.Given as goal

-- the links so far and those of what is left are the whole, and so are the positions
abbrev pub invariant-markup : goal.invariant-markup
invariant-markup l = (l.raw.texts ++ all_from markup_links l.kind 0 l.rest ≡ l.initial.raw.texts ++ feed_links_of l.fn.text) ×
    (l.raw.positions.items ++ all_from (markup_positions (length l.text)) l.kind 0 l.rest ≡ l.initial.raw.positions.items ++ feed_positions_of l.fn.text)

abbrev pub decreases-markup : goal.decreases-markup
decreases-markup l = length l.rest
