use Rattle.document_links.proofs.Prelude.{◌≡◌, Bool, true, false, ℕ, List, refl, sym, is_utf8, IsUtf8, false_from_ne_true, is_utf8-from_IsUtf8, IsUtf8-from_is_utf8}
use Rattle.document_links.proofs.line_text.is_text.Goals as goal

same : (b : Bool) (text : List ℕ) → (b ≡ true → IsUtf8 text) → (IsUtf8 text → b ≡ true) → b ≡ is_utf8 text
same true text yes_utf8 back = sym (is_utf8-from_IsUtf8 text (yes_utf8 refl))
same false text yes_utf8 back =
    sym (false_from_ne_true (is_utf8 text) (λ e. absurd (wrong (back (IsUtf8-from_is_utf8 text e)))))
  where
    wrong : false ≡ true → ⊥
    wrong e = absurd (cc)

pub returns : goal.returns
returns c = same c.is_utf8.result c.args.text.now c.is_utf8.ensures.0 c.is_utf8.ensures.1
