-- What contracts see of a text that is stored inside its owner if it is short.
use Rattle.std.specs.Prelude.{ℕ, List, string_bytes}
use Rattle.crawl_keys.specs.declared.canon_url.text.Kept.{Kept}
use Rattle.crawl_keys.specs.declared.canon_url.text.Kept.TheVariants.{Short, Long}

-- the bytes of the text, wherever they are stored
abbrev pub bytes_of : Kept → List ℕ
bytes_of (Short text) = text.bytes
bytes_of (Long text) = string_bytes text
