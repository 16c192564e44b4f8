-- The links that are known by their texts, and their indices.
use Rattle.saved_web.proofs.Prelude.{◌≡◌, ℕ, ◌<◌, true, List, [], ◌∷◌, ◌++◌, length, map, get_or, Some, sym, subst, ◌∙◌, arith, Contains, filter_map, Contains-get_or, slice_get_within, get_or_from_slice_get, index_of, found_at, TextLink, AreLinks, AreOfFolder, link_url}
use Rattle.std.proofs.lemmas.List.{get_or-map, length-map, append_assoc}
use Rattle.crawl_keys.specs.CanonicalText.{resolve}
use Rattle.crawl_keys.specs.Folders.{is_of_folder}

abbrev pub texts : List TextLink → List (List ℕ)
texts known = map (λ link. link.0) known

pub within_at : (known : List TextLink) (text : List ℕ) (k : ℕ) → Some k ≡ index_of (texts known) text → k < length known
within_at known text k found =
    subst (λ n. k < n) (length-map known (λ (link : TextLink). link.0)) (slice_get_within (texts known) k text (found_at (texts known) text k (sym found)))

text_at : (known : List TextLink) (text : List ℕ) (k : ℕ) (d : TextLink) → Some k ≡ index_of (texts known) text → (get_or known k d).0 ≡ text
text_at known text k d found =
    sym (get_or-map (λ (link : TextLink). link.0) known k d d.0 (within_at known text k found))
    ∙ get_or_from_slice_get (texts known) k text d.0 (found_at (texts known) text k (sym found))

-- the text that is found is known, with the link at its index
pub contains_at : (known : List TextLink) (text : List ℕ) (k : ℕ) (d : TextLink) → Some k ≡ index_of (texts known) text → Contains known (text, (get_or known k d).1)
contains_at known text k d found =
    subst (λ t. Contains known (t, (get_or known k d).1)) (text_at known text k d found) (Contains-get_or known k d (within_at known text k found))

-- ---- links of pages

-- what is known for a folder is true on each of its pages
pub on_page_of_folder : (last page : List ℕ) (known : List TextLink) → ((text : List ℕ) → is_of_folder text ≡ true → resolve last text ≡ resolve page text) → AreOfFolder known → AreLinks last known → AreLinks page known
on_page_of_folder last page known same folder links = grind arith

-- a link that was pushed is the next of those that remain
pub pushed_next : (url : List ℕ) (links : List (List ℕ)) (text link : List ℕ) (more all : List (List ℕ)) → Some link ≡ link_url url text → links ++ filter_map (link_url url) (text ∷ more) ≡ all → (links ++ link ∷ []) ++ filter_map (link_url url) more ≡ all
pushed_next url links text link more all is kept = grind (arith, append_assoc)
