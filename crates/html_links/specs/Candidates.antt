-- The URLs of a `srcset`, by the HTML Standard's rules for parsing a srcset attribute, but including candidates whose descriptors
-- it rejects.
use Rattle.std.specs.Prelude.{ℕ, ◌==◌, ◌||◌, nat_lt, not, Bool, true, false, if◌then◌else◌, List, [], ◌∷◌, ◌++◌, length}
use Rattle.html_links.specs.Shown.{is_space}

-- The states: between candidates, in a URL with these bytes so far, or in the descriptors after it, inside or outside of parentheses.
pub data State : Type 0 where
  Between : State
  Url : List ℕ → State
  Descriptors : Bool → State

abbrev pub are_commas : List ℕ → Bool
are_commas [] = true
are_commas (c ∷ rest) = if c == 44 then are_commas rest else false

-- a URL without the commas at its end
abbrev pub without_commas : List ℕ → List ℕ
without_commas [] = []
without_commas (c ∷ rest) = if are_commas (c ∷ rest) then [] else c ∷ without_commas rest

abbrev pub is_between : ℕ → Bool
is_between c = is_space c || c == 44

abbrev pub after_shorter : List ℕ → List ℕ → State
after_shorter url candidate = if nat_lt (length url) (length candidate) then Between else Descriptors false

-- the state after a URL, which has no descriptors if it ends with a comma
abbrev pub after_url : List ℕ → State
after_url url = after_shorter (without_commas url) url

-- the next URLs, and the state after them
pub data Next : Type 0 where
  Go : List (List ℕ) → State → Next

abbrev pub step : State → ℕ → Next
step Between c = if is_between c then Go [] Between else Go [] (Url (c ∷ []))
step (Url url) c = if is_space c then Go (without_commas url ∷ []) (after_url url) else Go [] (Url (url ++ c ∷ []))
step (Descriptors true) c = Go [] (Descriptors (not (c == 41)))
step (Descriptors false) c = if c == 44 then Go [] Between else Go [] (Descriptors (c == 40))

abbrev pub at_end : State → List (List ℕ)
at_end (Url url) = without_commas url ∷ []
at_end _ = []

abbrev pub follow : Next → (State → List (List ℕ)) → List (List ℕ)
follow (Go urls state) on = urls ++ on state

abbrev pub read : State → List ℕ → List (List ℕ)
read state [] = at_end state
read state (c ∷ rest) = follow (step state c) (λ state. read state rest)

abbrev pub candidates_of : List ℕ → List (List ℕ)
candidates_of text = read Between text

-- the bytes of a candidate's URL
abbrev pub is_unspaced : ℕ → Bool
is_unspaced c = not (is_space c)
