-- Texts that a URL parser leaves unchanged.
use Rattle.page_anchors.proofs.Prelude.{◌≡◌, ◌≢◌, ◌∙◌, ℕ, ◌<◌, Bool, true, false, ◌==◌, List, [], ◌∷◌, All, refl, ap, arith, if◌then◌else◌, agree_below_at, eq-eqb, ltb-false, or_parts, list_any, is_escaped, is_odd, before_directive, decoded_of, IN_FRAGMENT}
use Rattle.std.proofs.lemmas.List.Elements.{All-nil}
use Rattle.std.proofs.lemmas.Str.{IsUtf8-from_ascii, utf8_lossy-IsUtf8}
use Rattle.std.specs.Str.Lossy.{utf8_lossy}
use Rattle.percent_encoding.specs.AsciiSet.{should_percent_encode}
use Rattle.percent_encoding.specs.Percent.{IsKept, percent_decode}
use Rattle.percent_encoding.proofs.PercentLemmas.{IsAscii_from_kept, percent_decode-nil, percent_decode_not_percent}

-- a byte of such a text
record IsPlain (b : ℕ) : Type 0 where
  kept : IsKept IN_FRAGMENT b
  escape : b ≢ 37
  directive : (b == 58) ≡ false

agrees : (b : ℕ) → b < 256 → should_percent_encode IN_FRAGMENT b ≡ is_escaped b
unfolding should_percent_encode
agrees b below = agree_below_at (should_percent_encode IN_FRAGMENT) is_escaped 256 b refl below

plain_byte : (b : ℕ) → is_odd b ≡ false → IsPlain b
plain_byte b odd = grind (arith, or_parts, agrees, ltb-false, eq-eqb)

pub plain_front : (text : List ℕ) → list_any is_odd text ≡ false → before_directive text ≡ text
plain_front [] none = refl
plain_front (b ∷ bs) none = grind (arith, or_parts, plain_byte, plain_front bs)

pub all_kept : (text : List ℕ) → list_any is_odd text ≡ false → All (IsKept IN_FRAGMENT) text
all_kept [] none = All-nil (IsKept IN_FRAGMENT)
all_kept (b ∷ bs) none = grind (arith, or_parts, plain_byte, all_kept bs)

decodes : (text : List ℕ) → list_any is_odd text ≡ false → percent_decode text ≡ text
decodes [] none = percent_decode-nil
decodes (b ∷ bs) none = grind (arith, or_parts, percent_decode_not_percent, plain_byte, decodes bs)

pub own_decoded : (text : List ℕ) → list_any is_odd text ≡ false → decoded_of text ≡ text
own_decoded text none = ap utf8_lossy (decodes text none) ∙ utf8_lossy-IsUtf8 text (IsUtf8-from_ascii text (IsAscii_from_kept IN_FRAGMENT text (all_kept text none)))

-- a second search for the same text changes nothing
pub once : (has top : Bool) → (if has then true else (if has then true else top)) ≡ (if has then true else top)
once has top = grind arith
