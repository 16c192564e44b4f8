-- What comes before the settings in the first line of a log.
use Rattle.std.specs.Prelude.{ℕ, List, [], ◌++◌, codes, if◌then◌else◌, Option, Some, None, option_and_then, decimal, option_map, bytes_eq}
use Rattle.crawl_replay.specs.Numbers.{number_of}
use Rattle.text_lines.specs.Fields.{at_space}

-- a part by its number and how many there are
abbrev pub part_text : Option (ℕ × ℕ) → List ℕ
part_text None = []
part_text (Some p) = codes "part " ++ decimal p.0 ++ codes " of " ++ decimal p.1 ++ codes " "

abbrev pub identity_text : Option (List ℕ) → List ℕ
identity_text None = []
identity_text (Some text) = codes "identity " ++ text ++ codes " "

abbrev pub start_text : Option (ℕ × ℕ) → Option (List ℕ) → List ℕ
start_text part identity = part_text part ++ identity_text identity

-- the word after this one, and what follows it
abbrev pub value_in : List ℕ → List ℕ × List ℕ → Option (List ℕ × List ℕ)
value_in word p = if bytes_eq p.0 word then at_space p.1 else None

abbrev pub value_of : List ℕ → List ℕ → Option (List ℕ × List ℕ)
value_of word text = option_and_then (value_in word) (at_space text)

-- `part I of K`
abbrev pub part_in : List ℕ → Option (ℕ × (ℕ × List ℕ))
part_in text =
    option_and_then (λ first. option_and_then (λ second. option_and_then (λ number. option_map (λ parts. (number, (parts, second.1))) (number_of 32 second.0)) (number_of 32 first.0)) (value_of (codes "of") first.1)) (value_of (codes "part") text)

abbrev pub part_read : List ℕ → Option (ℕ × (ℕ × List ℕ)) → Option (ℕ × ℕ) × List ℕ
part_read text None = (None, text)
part_read text (Some x) = (Some (x.0, x.1.0), x.1.1)

abbrev pub read_part : List ℕ → Option (ℕ × ℕ) × List ℕ
read_part text = part_read text (part_in text)

abbrev pub identity_read : List ℕ → Option (List ℕ × List ℕ) → Option (List ℕ) × List ℕ
identity_read text None = (None, text)
identity_read text (Some x) = (Some x.0, x.1)

abbrev pub read_start : List ℕ → Option (ℕ × ℕ) × (Option (List ℕ) × List ℕ)
read_start text = let part = read_part text in (part.0, identity_read part.1 (value_of (codes "identity") part.1))
