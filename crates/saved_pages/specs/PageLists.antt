-- The pages of a saved web as a list, in the order in which they were read.
use Rattle.std.specs.Prelude.{ℕ, Bool, List, [], ◌∷◌, map, if◌then◌else◌, Option, Some, None, is_some, refl, bytes_eq}
use Rattle.std.specs.Coded.{Coded, code_by, coded×, coded_list, coded_ℕ}

-- a page that was read: its URL, and the bytes after its line
pub record PageRead : Type 0 where
  pub url : List ℕ
  pub following : List ℕ

abbrev pub page_read_code : Coded PageRead
page_read_code =
    code_by (List ℕ × List ℕ) (coded× (coded_list coded_ℕ) (coded_list coded_ℕ)) (λ p. (p.url, p.following)) (λ p. record { url = p.0; following = p.1 }) (λ _. refl)

-- the URLs of the pages
abbrev pub urls : List PageRead → List (List ℕ)
urls pages = map (λ page. page.url) pages

-- the first page with this URL
abbrev pub page_with : List PageRead → List ℕ → Option PageRead
page_with [] url = None
page_with (page ∷ more) url = if bytes_eq page.url url then Some page else page_with more url

-- some page has this URL
abbrev pub has : List PageRead → List ℕ → Bool
has pages url = is_some (page_with pages url)
