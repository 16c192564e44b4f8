-- Escaped text does not leave its place.
use Rattle.check_report.proofs.Prelude.{◌≡◌, ℕ, ◌≤◌, ◌==◌, Bool, true, false, ◌&&◌, not, List, [], ◌∷◌, ◌++◌, chars, refl, arith, and_from, and_parts, cond_both, not-true, not_from_false, nat_tests, flat_map, list_all, escaped, html_char, is_in_property, is_inert, is_markup, property_char}
use Rattle.shown_text.proofs.Visible.{PassesEscapes, PassesHigh, seen_printed, shown_char_passes}
use Rattle.check_report.specs.declared.escape.Escape.TheVariants as escape

-- ---- HTML

-- none of < > " ' &
is_text : ℕ → Bool
is_text b = not (b == 38) && not (is_markup b)

text_inert : (bs rest : List ℕ) → list_all is_text bs ≡ true → is_inert rest ≡ true → is_inert (bs ++ rest) ≡ true
unfolding is_text
text_inert [] rest all inert = inert
text_inert (b ∷ bs) rest all inert = grind (arith, and_parts, is_text, not-true, text_inert bs rest)

between_text : (b : ℕ) → 40 ≤ b → (60 ≤ b → 63 ≤ b) → is_text b ≡ true
unfolding is_text
between_text b low other = grind (arith, nat_tests)

escapes_text : PassesEscapes is_text
escapes_text = (λ b from to. between_text b (omega arith) (λ high. omega arith), λ b from to. between_text b (omega arith) (λ high. omega arith))

high_text : PassesHigh is_text
high_text b high = between_text b (omega arith) (λ more. omega arith)

other_text : (b : ℕ) → (b == 38) ≡ false → (b == 60) ≡ false → (b == 62) ≡ false → (b == 34) ≡ false → (b == 39) ≡ false → is_text b ≡ true
unfolding is_text
other_text b no_ampersand no_less no_greater no_quote no_apostrophe = grind arith

pub each_inert : (cs : List ℕ) → is_inert (flat_map html_char cs) ≡ true
each_inert [] = refl
each_inert (c ∷ cs) = grind (arith, each_inert cs, cond_both, text_inert, shown_char_passes, is_text, escapes_text, high_text, other_text)

pub html_inert : (text : List ℕ) → is_inert (escaped escape.Html text) ≡ true
html_inert text = each_inert (chars text)

-- ---- properties

escapes_inside : PassesEscapes is_in_property
escapes_inside = grind arith

high_inside : PassesHigh is_in_property
high_inside b high = grind arith

pub property_char_inside : (c : ℕ) → list_all is_in_property (property_char c) ≡ true
property_char_inside c = grind (arith, cond_both, shown_char_passes, escapes_inside, high_inside, and_from, seen_printed, not_from_false)
