-- Texts of links and the URLs to which they lead.
use Rattle.std.specs.Prelude.{◌≡◌, ℕ, true, List, All, Option}
use Rattle.crawl_keys.specs.Folders.{is_of_folder}
use Rattle.saved_pages.specs.SavedWeb.{link_url}

-- a link's text, and the URL to which it leads, if any
abbrev pub TextLink : Type 0
TextLink = List ℕ × Option (List ℕ)

-- each text of the list has the URL, if any, to which a link with that text leads on the page at `base`
abbrev pub AreLinks : List ℕ → List TextLink → Type 0
AreLinks base known = All (λ x. x.1 ≡ link_url base x.0) known

-- links with the texts of the list lead to the same URLs from all pages of a folder
abbrev pub AreOfFolder : List TextLink → Type 0
AreOfFolder known = All (λ x. is_of_folder x.0 ≡ true) known
