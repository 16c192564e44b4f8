-- What is stored of a page to resolve its links.
use Rattle.std.specs.Prelude.{◌≡◌, ◌≤◌, ◌<◌, ◌+◌, ◌++◌, ℕ, List, [], ◌∷◌, length, None, Ok}
use Rattle.url.specs.Ascii.{colon, slash}
use Rattle.url.specs.Parser.{parse_url}
use Rattle.url.specs.Parts.{Parts}
use Rattle.crawl_keys.specs.Folders.{folder_text, root_text}

-- the position at which the path begins in the text of a URL, and the position after the path's last slash
pub record IsBase (text : List ℕ) (root folder : ℕ) : Type 0 where
  pub before_path : (url : Parts) → parse_url None text ≡ Ok url → length (root_text url) ≡ root
  pub after_folder : (url : Parts) → parse_url None text ≡ Ok url → length (folder_text url) + 1 ≡ folder
  pub ordered : root < folder
  pub folder_within : folder ≤ length text

-- the text up to and with the last slash of the path of the page's URL
abbrev pub IsFolderOf : List ℕ → List ℕ → Type 0
IsFolderOf page text = (url : Parts) → parse_url None page ≡ Ok url → text ≡ folder_text url ++ slash ∷ []

-- the scheme of the URL that the page's text parses to, and a colon
abbrev pub IsSchemeOf : List ℕ → List ℕ → Type 0
IsSchemeOf page scheme = (url : Parts) → parse_url None page ≡ Ok url → scheme ≡ url.scheme ++ colon ∷ []
