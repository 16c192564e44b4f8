-- The host to which a URL belongs.
use Rattle.std.specs.Prelude.{ℕ, List, [], None, Ok, Err}
use Rattle.url.specs.Host.{host_text}
use Rattle.url.specs.Parts.{Parts, host_or_empty}
use Rattle.url.specs.Parser.{Parsed, parse_url}

-- the serialized host of a parsed URL, without its port; empty if the parser failed
abbrev pub host_of_parse : Parsed Parts → List ℕ
host_of_parse (Ok url) = host_text (host_or_empty url)
host_of_parse (Err _) = []

-- the host key of a canonical text
abbrev pub host_key : List ℕ → List ℕ
host_key text = host_of_parse (parse_url None text)
