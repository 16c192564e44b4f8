use Rattle.crawl_keys.proofs.Prelude.{◌≡◌, ◌≤◌, ◌<◌, length, folder_above}
use Rattle.crawl_keys.proofs.folder.folder_above.Given as goal

-- the folder so far
abbrev pub invariant-loop-up : goal.invariant-loop-up
invariant-loop-up l = (l.place ≡ folder_above l.page l.root l.folder l.up) × (l.root < l.place) × (l.place ≤ length l.page)
