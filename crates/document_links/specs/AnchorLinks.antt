-- Which links to an anchor a document has.
use Rattle.std.specs.Prelude.{◌≡◌, ◌<◌, ◌≤◌, ℕ, List, length, Option, Some}
use Rattle.document_links.specs.Anchors.{begin_of, end_of, link_at}
use Rattle.document_links.specs.declared.anchors.Anchors.{Anchors}

-- a link to the target with this index has the fragment, and the index among the links of the document if that is known
pub record IsLinkTo (anchors : Anchors) (target : ℕ) (fragment : List ℕ) (index : Option ℕ) : Type 0 where
  pub number : ℕ
  pub from : begin_of anchors.ends.items (length anchors.indices.items) target ≤ number
  pub before : number < end_of anchors.ends.items (length anchors.indices.items) target
  pub is : link_at anchors.fragments anchors.indices.items number ≡ Some (record { fragment = fragment; index = index })
