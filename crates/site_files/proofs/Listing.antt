-- The pages of names, one after another.
use Rattle.std.proofs.Common.{◌≡◌, ℕ, ◌+◌, ◌<◌, suc, List, [], ◌∷◌, ◌++◌, Option, Some, None, Global, String, drop, get_or, length, map, refl, sym, ap, ◌∙◌, append_assoc, append-nil, add-one, drop-cons, string_bytes}
use Rattle.std.specs.List.{cons_option, enumerate_from, filter_map, flat_map}
use Rattle.std.specs.Option.{option_to_list}
use Rattle.std.proofs.lemmas.List.{map-append}
use Rattle.site_files.specs.Entries.{Adds, Listed, expected, listed, texts}
use Rattle.site_files.specs.Pages.{Page}
use Rattle.site_files.specs.declared.page_table.Entry.{Entry}

-- what is listed, and what is left to list, are all pages
pub record Leaves (all : List Listed) (entries : List Entry) (left : List Page) : Type 0 where
  pub is : map listed entries ++ map expected left ≡ all

pub begun : (entries : List Entry) (pages : List Page) → Leaves (map listed entries ++ map expected pages) entries pages
begun entries pages = record { is = refl }

pub continued : (all : List Listed) (old new : List Entry) (more left : List Page) → Adds old new more → Leaves all old (more ++ left) → Leaves all new left
continued all old new more left adds leaves = record {
  is = rw (adds, append_assoc (map listed old) (map expected more) (map expected left), ← map-append expected more left) leaves.is;
}

pub done : (old new : List Entry) (pages : List Page) → Leaves (map listed old ++ map expected pages) new [] → Adds old new pages
done old new pages leaves = sym (append-nil (map listed new)) ∙ leaves.is

-- ---- what is left of names

pub texts_left : (names : List (String Global)) (i : ℕ) (name : String Global) → i < length names → get_or names i name ≡ name → texts (drop i names) ≡ string_bytes name ∷ texts (drop (i + 1) names)
texts_left names i name below is =
    rw (add-one i) (ap texts (drop-cons names i name below) ∙ ap (λ one. string_bytes one ∷ texts (drop (suc i) names)) is)

cons_is_append : {Y : Type 0} (found : Option Y) (pages : List Y) → cons_option found pages ≡ option_to_list found ++ pages
cons_is_append None pages = refl
cons_is_append (Some one) pages = refl

-- the pages that a function makes of each name and its index
abbrev pub numbered_pages : (ℕ → List ℕ → Option Page) → ℕ → List (List ℕ) → List Page
numbered_pages f i names = filter_map (λ file. f file.0 file.1) (enumerate_from i names)

pub numbered_left : (f : ℕ → List ℕ → Option Page) (names : List (String Global)) (i : ℕ) (name : String Global) → i < length names → get_or names i name ≡ name → numbered_pages f i (texts (drop i names)) ≡ option_to_list (f i (string_bytes name)) ++ numbered_pages f (i + 1) (texts (drop (i + 1) names))
numbered_left f names i name below is =
    ap (numbered_pages f i) (texts_left names i name below is)
    ∙ cons_is_append (f i (string_bytes name)) (numbered_pages f (i + 1) (texts (drop (i + 1) names)))

pub made_left : {Y : Type 0} (f : List ℕ → Option Y) (names : List (String Global)) (i : ℕ) (name : String Global) → i < length names → get_or names i name ≡ name → filter_map f (texts (drop i names)) ≡ option_to_list (f (string_bytes name)) ++ filter_map f (texts (drop (i + 1) names))
made_left f names i name below is =
    ap (filter_map f) (texts_left names i name below is)
    ∙ cons_is_append (f (string_bytes name)) (filter_map f (texts (drop (i + 1) names)))

pub flat_left : (f : List ℕ → List Page) (names : List (String Global)) (i : ℕ) (name : String Global) → i < length names → get_or names i name ≡ name → flat_map f (texts (drop i names)) ≡ f (string_bytes name) ++ flat_map f (texts (drop (i + 1) names))
flat_left f names i name below is = ap (flat_map f) (texts_left names i name below is)
