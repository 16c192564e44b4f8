-- The bytes that the code escapes in the path of a URL are those that do not stay.
use Rattle.check_report.proofs.Prelude.{◌≡◌, ℕ, ◌≤◌, not, List, [], ◌∷◌, ◌++◌, refl, ap, ◌∙◌, arith, cases_lt, inl, inr, nat_tests}
use Rattle.std.proofs.lemmas.Bool.{agree_below_at}
use Rattle.percent_encoding.specs.AsciiSet.{should_percent_encode}
use Rattle.percent_encoding.specs.Percent.{encode_byte, percent_encode}
use Rattle.check_report.specs.Paths.{path_byte, path_uri, stays_in_path}
use Rattle.check_report.specs.declared.paths.TheConstants.{PATH}

beyond_ascii : (b : ℕ) → 128 ≤ b → should_percent_encode PATH b ≡ not (stays_in_path b)
unfolding should_percent_encode
beyond_ascii b beyond = grind (arith, nat_tests)

is_escaped : (b : ℕ) → should_percent_encode PATH b ≡ not (stays_in_path b)
unfolding should_percent_encode
is_escaped b = elim (cases_lt b 128) [
  | inl below ↦ agree_below_at (should_percent_encode PATH) (λ c. not (stays_in_path c)) 128 b refl below
  | inr beyond ↦ beyond_ascii b beyond
]

byte_encoded : (b : ℕ) → encode_byte PATH b ≡ path_byte b
byte_encoded b = grind (arith, is_escaped b)

pub path_encoded : (path : List ℕ) → percent_encode PATH path ≡ path_uri path
unfolding percent_encode
path_encoded [] = refl
path_encoded (b ∷ bs) = ap (λ bytes. bytes ++ percent_encode PATH bs) (byte_encoded b) ∙ ap (λ rest. path_byte b ++ rest) (path_encoded bs)
