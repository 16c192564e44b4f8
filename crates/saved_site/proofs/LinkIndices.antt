-- The indices of a page's links, link by link.
use Rattle.saved_site.proofs.Prelude.{common_steps, ◌≡◌, ℕ, ◌+◌, List, [], ◌∷◌, ◌++◌, slice_get, Option, Some, None, refl, sym, ap, subst, ◌∙◌, arith, cond, append_assoc, ◌<◌, true, length, map, get_or, count_by, filter_map, Contains, is_none, map_push, get_or-map, length-map, lead_still, KeepIndices, LeadTo, found_page, link_url, LeadsTo, AreKnown, AreOfFolder, TextIndex, All-push, Contains-get_or, is_of_folder, index_of}
use Rattle.std.proofs.lemmas.List.Sums.{sum_by-cons}
use Rattle.crawl_pages.specs.declared.page.Page.TheVariants as page
use Rattle.saved_site.proofs.LedPages.{led_links}
use Rattle.std.proofs.lemmas.Option.{slice_get_within, get_or_from_slice_get}
use Rattle.crawl_keys.specs.CanonicalText.{resolve}
use Rattle.hash_index.proofs.Listed.{found_at}

-- the indices are those of the links so far, and the others are those of the texts that are left
pub record Looked (base : List ℕ) (texts : List (List ℕ)) (urls : List (List ℕ)) (indices : List ℕ) (rest : List (List ℕ)) : Type 0 where
  pub links : List (List ℕ)
  pub lead : LeadTo urls indices links
  pub kept : links ++ filter_map (link_url base) rest ≡ filter_map (link_url base) texts

lead_push : (urls : List (List ℕ)) (indices : List ℕ) (links : List (List ℕ)) (index : ℕ) (url : List ℕ) → LeadTo urls indices links → slice_get urls index ≡ Some url → LeadTo urls (indices ++ index ∷ []) (links ++ url ∷ [])
lead_push urls indices links index url lead at = grind (arith, map_push)

-- a link that leads to a URL
pub looked_some : (base : List ℕ) (texts : List (List ℕ)) (old new : List (List ℕ)) (indices longer text : List ℕ) (rest more : List (List ℕ)) (index : ℕ) → Looked base texts old indices rest → KeepIndices old new → rest ≡ text ∷ more → longer ≡ indices ++ index ∷ [] → LeadsTo new (Some index) (link_url base text) → Looked base texts new longer more
looked_some base texts old new indices longer text rest more index l keep is push leads = by_link (link_url base text) refl leads
  where
    by_link : (o : Option (List ℕ)) → link_url base text ≡ o → LeadsTo new (Some index) o → Looked base texts new longer more
    by_link None is_link leads = absurd (cc)
    by_link (Some url) is_link leads =
        let at : slice_get new index ≡ Some url = cc in
        let first : filter_map (link_url base) (text ∷ more) ≡ url ∷ filter_map (link_url base) more = rw is_link refl in
        let still = lead_still old new indices l.links keep l.lead in
        record {
          links = l.links ++ url ∷ [];
          lead = subst (λ (items : List ℕ). LeadTo new items (l.links ++ url ∷ [])) (sym push) (lead_push new indices l.links index url still at);
          kept =
              append_assoc l.links (url ∷ []) (filter_map (link_url base) more)
              ∙ ap (λ (r : List (List ℕ)). l.links ++ r) (sym first)
              ∙ ap (λ (ts : List (List ℕ)). l.links ++ filter_map (link_url base) ts) (sym is)
              ∙ l.kept;
        }

-- and one that leads to none
pub looked_none : (base : List ℕ) (texts : List (List ℕ)) (old new : List (List ℕ)) (indices text : List ℕ) (rest more : List (List ℕ)) → Looked base texts old indices rest → KeepIndices old new → rest ≡ text ∷ more → LeadsTo new None (link_url base text) → Looked base texts new indices more
looked_none base texts old new indices text rest more l keep is leads = grind (arith, lead_still)

-- ---- how many lead to no URL

abbrev pub none_count : List ℕ → List (List ℕ) → ℕ
none_count base texts = count_by (λ text. is_none (link_url base text)) texts

abbrev weight : Option (List ℕ) → ℕ
weight link = cond (is_none link) 1 0

count_first : (base text : List ℕ) (more : List (List ℕ)) → none_count base (text ∷ more) ≡ weight (link_url base text) + none_count base more
count_first base text more = sum_by-cons (λ (t : List ℕ). weight (link_url base t)) text more

pub count_some : (base : List ℕ) (urls : List (List ℕ)) (text : List ℕ) (rest more : List (List ℕ)) (index : ℕ) → rest ≡ text ∷ more → LeadsTo urls (Some index) (link_url base text) → none_count base rest ≡ none_count base more
count_some base urls text rest more index is leads = grind (arith, sum_by-cons)

pub count_none : (base : List ℕ) (urls : List (List ℕ)) (text : List ℕ) (rest more : List (List ℕ)) → rest ≡ text ∷ more → LeadsTo urls None (link_url base text) → none_count base rest ≡ 1 + none_count base more
count_none base urls text rest more is leads = grind (arith, common_steps, count_first)

-- ---- the page

pub led_page : (base : List ℕ) (texts : List (List ℕ)) (urls : List (List ℕ)) (indices : List ℕ) (skipped : ℕ) → LeadTo urls indices (filter_map (link_url base) texts) → skipped ≡ none_count base texts → page.Found (filter_map (slice_get urls) indices) skipped ≡ found_page base texts
led_page base texts urls indices skipped lead counted = grind (arith, led_links)

-- Texts of links that are known

abbrev pub texts : List TextIndex → List (List ℕ)
texts known = map (λ one. one.0) known

pub within_at : (known : List TextIndex) (text : List ℕ) (k : ℕ) → Some k ≡ index_of (texts known) text → k < length known
within_at known text k found =
    subst (λ n. k < n) (length-map known (λ (one : TextIndex). one.0)) (slice_get_within (texts known) k text (found_at (texts known) text k (sym found)))

text_at : (known : List TextIndex) (text : List ℕ) (k : ℕ) (d : TextIndex) → Some k ≡ index_of (texts known) text → (get_or known k d).0 ≡ text
text_at known text k d found =
    sym (get_or-map (λ (one : TextIndex). one.0) known k d d.0 (within_at known text k found))
    ∙ get_or_from_slice_get (texts known) k text d.0 (found_at (texts known) text k (sym found))

-- the text that is found is known, with its index
pub contains_at : (known : List TextIndex) (text : List ℕ) (k : ℕ) (d : TextIndex) → Some k ≡ index_of (texts known) text → Contains known (text, (get_or known k d).1)
contains_at known text k d found =
    subst (λ t. Contains known (t, (get_or known k d).1)) (text_at known text k d found) (Contains-get_or known k d (within_at known text k found))

pub known_push : (base : List ℕ) (urls : List (List ℕ)) (known longer : List TextIndex) (text : List ℕ) (index : Option ℕ) → longer ≡ known ++ (text, index) ∷ [] → AreKnown base urls known → LeadsTo urls index (link_url base text) → AreKnown base urls longer
known_push base urls known longer text index is are own = grind (arith, common_steps)

pub folder_push : (known longer : List TextIndex) (text : List ℕ) (index : Option ℕ) → longer ≡ known ++ (text, index) ∷ [] → AreOfFolder known → is_of_folder text ≡ true → AreOfFolder longer
folder_push known longer text index is are own =
    subst AreOfFolder (sym is) (All-push (λ (one : TextIndex). is_of_folder one.0 ≡ true) known (text, index) are own)

-- if URLs keep their indices, what is known stays right
pub known_still : (base : List ℕ) (old new : List (List ℕ)) (known : List TextIndex) → KeepIndices old new → AreKnown base old known → AreKnown base new known
known_still base old new known keep are = grind arith

-- what is known of a folder holds on each of its pages
pub known_in_folder : (last page : List ℕ) (urls : List (List ℕ)) (known : List TextIndex) → ((text : List ℕ) → is_of_folder text ≡ true → resolve last text ≡ resolve page text) → AreOfFolder known → AreKnown last urls known → AreKnown page urls known
known_in_folder last page urls known same folder are = grind arith
