use Rattle.html_links.proofs.Prelude.{◌≡◌, length, map, to_ascii_lowercase}
use Rattle.html_links.specs.RawText.{run, Text}
use Rattle.html_links.proofs.raw_text.after_raw_text.Given as goal

-- the text ends where the rest of it ends
abbrev pub invariant-tags : goal.invariant-tags
invariant-tags l = run (map to_ascii_lowercase l.name) Text l.rest ≡ run (map to_ascii_lowercase l.name) Text l.fn.bytes

abbrev pub decreases-tags : goal.decreases-tags
decreases-tags l = length l.rest
