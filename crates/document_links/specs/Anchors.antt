-- The links to anchors that are kept of a document, by their targets.
use Rattle.std.specs.Prelude.{◌==◌, ℕ, zero, suc, if◌then◌else◌, List, [], ◌∷◌, Option, Some, None, slice_get, unwrap_or}
use Rattle.document_links.specs.declared.anchors.AnchorLink.{AnchorLink}

-- a link to an anchor: the text after its first `#`, and its index among the links of its document if that is known
pub record Link : Type 0 where
  pub fragment : List ℕ
  pub index : Option ℕ

abbrev pub link_of : AnchorLink → Link
link_of link = record { fragment = link.fragment.now; index = link.index }

-- ---- the links to a target

-- the number after the last link to the target with this index. The links to the targets end at these numbers, and there are `count` links
abbrev pub end_of : List ℕ → ℕ → ℕ → ℕ
end_of ends count target = unwrap_or (slice_get ends target) count

-- the number of the first one
abbrev pub begin_of : List ℕ → ℕ → ℕ → ℕ
begin_of ends count zero = 0
begin_of ends count (suc before) = end_of ends count before

-- ---- the links

-- the index, unless it is the value in place of one that four bytes cannot hold
abbrev pub known_index : ℕ → Option ℕ
known_index index = if index == 4294967295 then None else Some index

-- the links with these fragments and indices
abbrev pub links_with : List (List ℕ) → List ℕ → List Link
links_with [] indices = []
links_with (fragment ∷ fragments) [] = []
links_with (fragment ∷ fragments) (index ∷ indices) = record { fragment = fragment; index = known_index index } ∷ links_with fragments indices

-- the link with this number
abbrev pub link_at : List (List ℕ) → List ℕ → ℕ → Option Link
link_at fragments indices number = slice_get (links_with fragments indices) number
