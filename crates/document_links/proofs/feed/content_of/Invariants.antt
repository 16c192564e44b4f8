use Rattle.document_links.proofs.Prelude.{◌≡◌, ◌++◌, length}
use Rattle.document_links.specs.Feeds.{text_of}
use Rattle.document_links.proofs.feed.content_of.Given as goal

-- what is written and the text of what is left are the whole
abbrev pub invariant-pieces : goal.invariant-pieces
invariant-pieces l = l.text.items ++ text_of l.rest ≡ text_of l.fn.bytes

abbrev pub decreases-pieces : goal.decreases-pieces
decreases-pieces l = length l.rest
