-- Which URLs are below the top of a site, which is that of BASE.
use Rattle.std.specs.Prelude.{◌≡◌, ℕ, ◌==◌, Bool, false, ◌||◌, List, [], ◌∷◌, ◌++◌, Ok, if◌then◌else◌, length, take, bytes_eq}
use Rattle.std.specs.List.{list_all, list_any}
use Rattle.crawl_keys.specs.CanonicalText.{canonical}
use Rattle.percent_encoding.specs.Percent.{percent_decode}

abbrev pub is_slash : ℕ → Bool
is_slash b = b == 47

abbrev pub is_mark : ℕ → Bool
is_mark b = b == 63

-- the text without the slashes at its end
abbrev pub without_slashes : List ℕ → List ℕ
without_slashes [] = []
without_slashes (b ∷ bs) = if list_all is_slash (b ∷ bs) then [] else b ∷ without_slashes bs

-- the top of a site at BASE is a canonical URL. That of BASE, which has no query, is the same with one slash at its end, once the
-- escapes of both are read
pub record IsTop (base top : List ℕ) : Type 0 where
  pub own : canonical top ≡ Ok top
  pub url : List ℕ
  pub canon : canonical base ≡ Ok url
  pub plain : list_any is_mark url ≡ false
  pub same : percent_decode top ≡ percent_decode (without_slashes url) ++ 47 ∷ []

abbrev pub begins : List ℕ → List ℕ → Bool
begins front text = bytes_eq (take (length front) text) front

-- the URL begins with the top, or does once the escapes of both are read
abbrev pub is_below : List ℕ → List ℕ → Bool
is_below top url = begins top url || begins (percent_decode top) (percent_decode url)
