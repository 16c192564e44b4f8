-- The texts of `url()` and `@import` in a style sheet, found by patterns: `url(` or `@import`, in any case and not within a longer
-- name, and then a text in quotes; or `url(` and a text without quotes, parentheses and white space. Comments and other texts in
-- quotes name nothing. An escape ends neither a text nor a name.
use Rattle.std.specs.Prelude.{ℕ, zero, suc, ◌-◌, ◌==◌, ◌||◌, ◌&&◌, nat_le, not, Bool, true, false, if◌then◌else◌, List, [], ◌∷◌, length, map, take, Option, None, Some}
use Rattle.std.specs.Char.{is_ascii_alphanumeric}
use Rattle.html_links.specs.declared.style.Run.{Run}
use Rattle.html_links.specs.declared.style.Run.TheVariants as run
use Rattle.html_links.specs.declared.escapes.State.{State}
use Rattle.html_links.specs.declared.escapes.State.TheVariants as state
use Rattle.html_links.specs.Escapes.{is_break, is_escaped, state_after, unescaped}
use Rattle.html_links.specs.Shown.{following}
use Rattle.html_links.specs.Refresh.{after_letter, and_then, is_quote}

-- white space, including the vertical tab
abbrev pub is_wide_space : ℕ → Bool
is_wide_space c = (nat_le 9 c && nat_le c 13) || c == 32

abbrev pub in_plain : ℕ → Bool
in_plain c = not (is_wide_space c || is_quote c || c == 40 || c == 41)

-- a URL, the number of bytes from its first byte to the end of the sheet, and the bytes after it
pub record Found : Type 0 where
  pub url : List ℕ
  pub left : ℕ
  pub rest : List ℕ

abbrev pub found_with : List ℕ → ℕ → List ℕ → Found
found_with url left rest = record { url = url; left = left; rest = rest }

abbrev pub or_found : Option Found → Option Found → Option Found
or_found None other = other
or_found (Some f) other = Some f

-- the byte may be in a name, or before it as in `@import` and `#fff`
abbrev pub in_word : ℕ → Bool
in_word c = is_ascii_alphanumeric c || c == 45 || c == 95 || c == 92 || c == 35 || c == 64 || nat_le 128 c

-- the byte continues a run of this kind: a name, a URL without quotes, or a text in quotes of either kind
abbrev pub in_run : Run → ℕ → Bool
in_run run.Word c = in_word c
in_run run.Plain c = in_plain c
in_run run.Double c = not (c == 34 || is_break c)
in_run run.Single c = not (c == 39 || is_break c)

-- after the bytes of a state, this one continues the run, also as a part of an escape
abbrev pub continues : Run → State → ℕ → Bool
continues kind here c = is_escaped here c || in_run kind c

-- the bytes after such a run, from those after the bytes of a state
abbrev pub after_run : Run → State → List ℕ → List ℕ
after_run kind here [] = []
after_run kind here (c ∷ rest) = if continues kind here c then after_run kind (state_after here c) rest else c ∷ rest

-- the bytes before some at the end
abbrev pub before : List ℕ → List ℕ → List ℕ
before bytes left = take (length bytes - length left) bytes

-- The text up to its second quote, or to the end of the sheet. At a line break it is broken off, and no text.
abbrev pub closed : ℕ → List ℕ → List ℕ → Option Found
closed quote bytes [] = Some (found_with (before bytes []) (length bytes) [])
closed quote bytes (c ∷ left) = if c == quote then Some (found_with (before bytes (c ∷ left)) (length bytes) left) else None

abbrev pub run_in : ℕ → Run
run_in quote = if quote == 34 then run.Double else run.Single

-- a text in quotes
abbrev pub quoted : List ℕ → Option Found
quoted [] = None
quoted (c ∷ rest) = if is_quote c then closed c rest (after_run (run_in c) state.Plain rest) else None

abbrev pub after_closed : ℕ → List ℕ → List ℕ
after_closed quote [] = []
after_closed quote (c ∷ left) = if c == quote then left else c ∷ left

-- the bytes after it, or from the line break at which it is broken off
abbrev pub after_quoted : List ℕ → Option (List ℕ)
after_quoted [] = None
after_quoted (c ∷ rest) = if is_quote c then Some (after_closed c (after_run (run_in c) state.Plain rest)) else None

abbrev pub some_url : List ℕ → ℕ → List ℕ → Option Found
some_url [] left rest = None
some_url (c ∷ url) left rest = Some (found_with (c ∷ url) left rest)

abbrev pub plain : List ℕ → Option Found
plain bytes = some_url (before bytes (after_run run.Plain state.Plain bytes)) (length bytes) (after_run run.Plain state.Plain bytes)

abbrev pub in_brackets : List ℕ → Option Found
in_brackets bytes = or_found (quoted (following is_wide_space bytes)) (plain (following is_wide_space bytes))

-- the bytes after `url(`
abbrev pub after_url : List ℕ → Option (List ℕ)
after_url bytes =
    and_then (after_letter 117 bytes) (λ bytes. and_then (after_letter 114 bytes) (λ bytes. and_then (after_letter 108 bytes) (after_letter 40)))

-- the bytes after `@import`
abbrev pub after_import : List ℕ → Option (List ℕ)
after_import bytes =
    and_then (after_letter 64 bytes) (λ bytes. and_then (after_letter 105 bytes) (λ bytes. and_then (after_letter 109 bytes) (λ bytes. and_then (after_letter 112 bytes)
    (λ bytes. and_then (after_letter 111 bytes) (λ bytes. and_then (after_letter 114 bytes) (after_letter 116))))))

-- the bytes after a `/*`, which begins a comment
abbrev pub opened : List ℕ → Option (List ℕ)
opened bytes = and_then (after_letter 47 bytes) (after_letter 42)

-- the bytes after a comment, from bytes inside it; the flag says whether the byte before these is a `*`
abbrev pub past_comment : Bool → List ℕ → List ℕ
past_comment starred [] = []
past_comment starred (c ∷ rest) = if starred && c == 47 then rest else past_comment (c == 42) rest

abbrev pub found_after : Option (List ℕ) → Bool → List ℕ → Option Found
found_after (Some inner) imports bytes = in_brackets inner
found_after None imports bytes = if imports then quoted bytes else None

-- the URL with which the bytes begin; the flag says whether a text in quotes there would be that of an `@import`
abbrev pub found_at : Bool → List ℕ → Option Found
found_at imports bytes = found_after (after_url bytes) imports bytes

-- the bytes after the name that begins with a byte, or after a byte that begins no name
abbrev pub after_name : ℕ → List ℕ → List ℕ
after_name c rest = if in_word c then after_run run.Word (state_after state.Plain c) rest else rest

-- likewise with the flag: between an `@import` and its text only white space may be
abbrev pub pass_byte : Bool → List ℕ → List ℕ × Bool
pass_byte imports [] = ([], false)
pass_byte imports (c ∷ rest) = (after_name c rest, imports && is_wide_space c)

abbrev pub passed : Bool → List ℕ → Option (List ℕ) → Option (List ℕ) → Option (List ℕ) → List ℕ × Bool
passed imports bytes (Some comment) text word = (past_comment false comment, imports)
passed imports bytes None (Some rest) word = (rest, false)
passed imports bytes None None (Some rest) = (rest, true)
passed imports bytes None None None = pass_byte imports bytes

-- the bytes after those at the start that name no URL, and the flag
abbrev pub pass : Bool → List ℕ → List ℕ × Bool
pass imports bytes = passed imports bytes (opened bytes) (after_quoted bytes) (after_import bytes)

abbrev pub founds_after : Option Found → List ℕ × Bool → (Bool → List ℕ → List Found) → List Found
founds_after None left on = on left.1 left.0
founds_after (Some f) left on = f ∷ on false f.rest

-- the URLs in at most this number of bytes, one after another
abbrev pub founds_within : ℕ → Bool → List ℕ → List Found
founds_within zero imports bytes = []
founds_within (suc n) imports [] = []
founds_within (suc n) imports (c ∷ rest) = founds_after (found_at imports (c ∷ rest)) (pass imports (c ∷ rest)) (λ imports bytes. founds_within n imports bytes)

abbrev pub founds_of : Bool → List ℕ → List Found
founds_of imports bytes = founds_within (length bytes) imports bytes

abbrev pub url_of : Found → List ℕ
url_of f = unescaped f.url

abbrev pub left_of : Found → ℕ
left_of f = f.left

-- the texts of the URLs of a sheet, with their escapes decoded
abbrev pub style_links_of : List ℕ → List (List ℕ)
style_links_of text = map url_of (founds_of false text)

-- for each of them the number of bytes from it to the end of the sheet
abbrev pub style_lefts_of : List ℕ → List ℕ
style_lefts_of text = map left_of (founds_of false text)
