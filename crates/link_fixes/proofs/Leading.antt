-- Links that lead on.
use Rattle.link_fixes.proofs.Prelude.{◌≡◌, ℕ, List, [], ◌∷◌, false, true, length, refl, arith, all_lead_on}
use Rattle.std.specs.Prelude.{IfOk, IfSome, Option, Some, None, Result, Ok, Err}
use Rattle.std.specs.declared.alloc.AllocError.{AllocError}
use Rattle.document_links.specs.Encoding.{HasLinkTexts}
use Rattle.link_fixes.specs.declared.document.FixInput.{FixInput}
use Rattle.link_fixes.specs.declared.moves.Move.{Move}

-- documents with different numbers of links
pub uneven : (page : List ℕ) (moves : List Move) (olds news : List (List ℕ)) → (length olds ≡ length news → ⊥) → all_lead_on page moves olds news ≡ false
uneven page moves [] [] other = absurd (other refl)
uneven page moves [] (new ∷ news) other = refl
uneven page moves (old ∷ olds) [] other = refl
uneven page moves (old ∷ olds) (new ∷ news) other = grind (arith, uneven page moves olds news (λ same. other (omega (arith, same))))

-- what is known of links that lead on, with the document that has them
pub left_found : (answer : Result (Option ℕ) AllocError) (input : FixInput) (old : List (List ℕ)) (new : List ℕ) (links : List (List ℕ)) → HasLinkTexts input.options new links
    → IfOk answer (λ left. IfSome left (λ _. all_lead_on input.url.now input.moves.now old links ≡ true))
    → IfOk answer (λ left. IfSome left (λ _. (news : List (List ℕ)) × HasLinkTexts input.options new news × (all_lead_on input.url.now input.moves.now old news ≡ true)))
left_found (Ok (Some count)) input old new links has is = (links, has, is)
left_found (Ok None) input old new links has is = tt
left_found (Err refused) input old new links has is = tt
