-- The least text that passes a test.
use Rattle.std.specs.Prelude.{◌≡◌, ℕ, Bool, true, false, List, if◌then◌else◌, Option, Some, None, option_map}
use Rattle.std.specs.Borrow.{Bor}
use Rattle.std.specs.Ordering.{is_lt, nat_cmp}
use Rattle.std.specs.Cmp.Lexicographic.{slice_cmp}

-- the text is less than the other, byte by byte
abbrev pub is_below : List ℕ → List ℕ → Bool
is_below text other = is_lt (slice_cmp nat_cmp text other)

-- the text passes the test, and no text that passes it is less; or it is none, and no text passes
abbrev pub IsLeast : (List ℕ → Bool) → Option (List ℕ) → Type 0
IsLeast test None = (text : List ℕ) → test text ≡ false
IsLeast test (Some least) = (test least ≡ true) × ((text : List ℕ) → test text ≡ true → is_below text least ≡ false)

-- ---- how the least text is found

-- the text of a URL that is borrowed
abbrev pub url_of : Option (Bor (List ℕ)) → Option (List ℕ)
url_of url = option_map (λ u. u.now) url

abbrev pub url_if : Bool → List ℕ → Option (List ℕ)
url_if is_culprit url = if is_culprit then Some url else None

-- the lesser of two texts; if one is none, the other
abbrev pub lesser : Option (List ℕ) → Option (List ℕ) → Option (List ℕ)
lesser first None = first
lesser None (Some other) = Some other
lesser (Some text) (Some other) = Some (if is_below other text then other else text)
