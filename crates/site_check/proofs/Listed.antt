-- What is added for a test that is passed.
use Rattle.site_check.proofs.Prelude.{◌≡◌, Bool, true, false, ◌||◌, ◌&&◌, refl, sym}
use Rattle.std.proofs.Common.{◌∙◌}

and_true : (own : Bool) → own ≡ (own && true)
and_true true = refl
and_true false = refl

pub with_true : (old own is : Bool) → is ≡ true → (old || own) ≡ (old || (own && is))
with_true old own is passed = (λ i. old || and_true own i) ∙ (λ i. old || (own && sym passed i))
