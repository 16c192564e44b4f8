-- URLs whose path the URL Standard calls opaque.
use Rattle.std.specs.Prelude.{◌≡◌, ◌<◌, ◌++◌, ℕ, true, false, List, ◌∷◌, length}
use Rattle.std.specs.List.{prefix_len}
use Rattle.url.specs.Ascii.{colon}
use Rattle.url.specs.Scheme.{is_special, scheme_type}
use Rattle.crawl_keys.specs.Plain.{first_is_slash, is_lower, is_plain}

-- letters in lower case, one or more
abbrev pub IsWord : List ℕ → Type 0
IsWord bytes = (0 < length bytes) × (prefix_len is_lower bytes ≡ length bytes)

-- a scheme of letters that is not special, a colon, and then no slash; and all of it is in its common form
pub record IsOpaque (text : List ℕ) : Type 0 where
  pub scheme : List ℕ
  pub path : List ℕ
  pub is : text ≡ scheme ++ colon ∷ path
  pub word : IsWord scheme
  pub other : is_special (scheme_type scheme) ≡ false
  pub rootless : first_is_slash path ≡ false
  pub plain : is_plain 0 text ≡ true
