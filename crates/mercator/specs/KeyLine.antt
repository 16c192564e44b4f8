-- The line with a URL's canonical text, its host key and its queue.
use Rattle.std.specs.Prelude.{◌≡◌, ℕ, List, [], ◌∷◌, ◌++◌, codes, Ok, decimal}
use Rattle.crawl_keys.specs.CanonicalText.{canonical}
use Rattle.crawl_keys.specs.HostKey.{host_key}
use Rattle.crawl_keys.specs.Assignment.{subqueue_of}

-- text, host key and subqueue, a space apart, and LF
abbrev pub parts_line : List ℕ → List ℕ → ℕ → List ℕ
parts_line text host subqueue = text ++ codes " " ++ host ++ (codes " " ++ decimal subqueue ++ 10 ∷ [])

-- those of a canonical URL, with this number of queues
abbrev pub key_line : List ℕ → ℕ → List ℕ
key_line url subqueues = parts_line url (host_key url) (subqueue_of url subqueues)

-- the text has a canonical URL, and the line is that URL's
pub record IsKeyLine (text : List ℕ) (subqueues : ℕ) (line : List ℕ) : Type 0 where
  pub url : List ℕ
  pub reads : canonical text ≡ Ok url
  pub written : line ≡ key_line url subqueues
