use Rattle.html_links.proofs.Prelude.{◌≡◌, ◌++◌, map, length, tags_of, start_tag_at, start_tags, read, Data}
use Rattle.html_links.proofs.document.tags.Given as goal

-- the tags so far and those of what is left are those of the whole
abbrev pub invariant-markup : goal.invariant-markup
invariant-markup l = map start_tag_at l.tags.items ++ start_tags (read l.context Data l.rest) ≡ tags_of l.fn.bytes

abbrev pub decreases-markup : goal.decreases-markup
decreases-markup l = length l.rest
