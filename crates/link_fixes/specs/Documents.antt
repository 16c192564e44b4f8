-- A document whose links are rewritten.
use Rattle.std.specs.Prelude.{◌≡◌, ℕ, true, List}
use Rattle.document_links.specs.Encoding.{HasLinkTexts}
use Rattle.link_fixes.specs.declared.document.FixInput.{FixInput}
use Rattle.link_fixes.specs.declared.edits.Edit.{Edit}
use Rattle.link_fixes.specs.Edits.{fixed_text}
use Rattle.link_fixes.specs.Links.{all_lead_on}

-- the new document is the old one after some edits, and each of its links has the text or the URL of the link with the same index in the
-- old document, or the URL of a move of that. What the links of a document are, `document_links` says
pub record IsFixed (input : FixInput) (old new : List ℕ) : Type 0 where
  pub edits : List Edit
  pub text : new ≡ fixed_text old edits
  pub links : List (List ℕ)
  pub had : HasLinkTexts input.options old links
  pub new_links : List (List ℕ)
  pub has : HasLinkTexts input.options new new_links
  pub lead : all_lead_on input.url.now input.moves.now links new_links ≡ true
