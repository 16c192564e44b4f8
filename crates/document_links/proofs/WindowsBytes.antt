-- Each byte can be found from its character.
use Rattle.document_links.proofs.Prelude.{◌≡◌, ℕ, ◌<◌, ◌==◌, true, refl, agree_below_at, eqb-true, character_of, likely_byte}

pub likely : (byte : ℕ) → byte < 256 → likely_byte (character_of byte) ≡ byte
likely byte below =
    eqb-true (likely_byte (character_of byte)) byte (agree_below_at (λ b. likely_byte (character_of b) == b) (λ _. true) 256 byte refl below)
