-- What a log of requests gives back.
use Rattle.std.specs.Prelude.{◌≡◌, ℕ, List, ◌++◌, codes, if◌then◌else◌, Option, None, option_and_then, decimal, flat_map, bytes_eq}
use Rattle.text_lines.specs.Fields.{at_space}
use Rattle.crawl_session.specs.Frontiers.{Frontier, Shows}
use Rattle.crawl_session.specs.Sessions.{state_after}
use Rattle.crawl_session.specs.Settings.{SessionView}

-- lines were given: whatever state was kept, the one after them is kept now
pub record Reruns (old : SessionView) (lines : List (List ℕ)) (new : SessionView) : Type 0 where
  pub settings : new.settings ≡ old.settings
  pub comes : (state : Frontier) → Shows old.core state → Shows new.core (state_after old.settings state lines)

-- the suffixes in the first line of a log
abbrev pub within_text : List (List ℕ) → List ℕ
within_text suffixes = flat_map (λ suffix. codes "within " ++ suffix ++ codes " ") suffixes

-- its numbers
abbrev pub numbers_text : ℕ → ℕ → List ℕ
numbers_text workers max = codes "workers " ++ decimal workers ++ codes " max " ++ decimal max

-- the first line of a log
abbrev pub settings_line : ℕ → ℕ → List (List ℕ) → List ℕ
settings_line workers max suffixes = within_text suffixes ++ numbers_text workers max

-- the suffix that a text begins with, and what follows it
abbrev pub suffix_from : List ℕ × List ℕ → Option (List ℕ × List ℕ)
suffix_from p = if bytes_eq p.0 (codes "within") then at_space p.1 else None

abbrev pub next_suffix : List ℕ → Option (List ℕ × List ℕ)
next_suffix text = option_and_then suffix_from (at_space text)
