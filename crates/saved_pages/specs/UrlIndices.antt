-- URLs by their indices in a list.
use Rattle.std.specs.Prelude.{◌≡◌, ℕ, List, map, slice_get, Some}

-- the URLs of the links are at these indices, in order
abbrev pub LeadTo : List (List ℕ) → List ℕ → List (List ℕ) → Type 0
LeadTo urls indices links = map (λ index. slice_get urls index) indices ≡ map (λ link. Some link) links

-- each URL keeps its index
abbrev pub KeepIndices : List (List ℕ) → List (List ℕ) → Type 0
KeepIndices old new = (index : ℕ) (url : List ℕ) → slice_get old index ≡ Some url → slice_get new index ≡ Some url
