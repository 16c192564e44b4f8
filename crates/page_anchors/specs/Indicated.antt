-- Whether a document has the anchor that a fragment names: the indicated part of the HTML Standard. A route names no anchor, and is never missing.
use Rattle.std.specs.Prelude.{ℕ, ◌==◌, Bool, true, false, ◌&&◌, ◌||◌, List, [], ◌∷◌, codes, length, nat_eq, slice_index, if◌then◌else◌, IsSorted, bytes_eq}
use Rattle.std.specs.Cmp.Lexicographic.{slice_cmp}
use Rattle.std.specs.List.{list_any, starts_with}
use Rattle.std.specs.Ordering.{nat_cmp}
use Rattle.std.specs.Str.Lossy.{utf8_lossy}
use Rattle.percent_encoding.specs.Percent.{percent_encode, percent_decode}
use Rattle.page_anchors.specs.declared.indicated.TheConstants.{IN_FRAGMENT}

-- ---- ids

abbrev pub DoAscend : List (List ℕ) → Type 0
DoAscend ids = IsSorted (slice_cmp nat_cmp) ids

abbrev pub has_id : List (List ℕ) → List ℕ → Bool
has_id ids text = list_any (λ id. bytes_eq id text) ids

-- ---- the fragment

-- the text begins with `:~:`, which starts a fragment directive
abbrev pub begins_directive : List ℕ → Bool
begins_directive text = starts_with nat_eq text (codes ":~:")

-- the text before a fragment directive
abbrev pub before_directive : List ℕ → List ℕ
before_directive [] = []
before_directive (b ∷ bs) = if begins_directive (b ∷ bs) then [] else b ∷ before_directive bs

-- the fragment of a text as a URL parser writes it
abbrev pub fragment_of : List ℕ → List ℕ
fragment_of text = percent_encode IN_FRAGMENT text

-- the text after percent-decoding, as UTF-8
abbrev pub decoded_of : List ℕ → List ℕ
decoded_of fragment = utf8_lossy (percent_decode fragment)

-- ---- the anchor

abbrev pub is_letter : ℕ → ℕ → ℕ → Bool
is_letter b upper lower = (b == upper) || (b == lower)

-- `top`, in any ASCII case
abbrev pub is_top : List ℕ → Bool
is_top text =
    if length text == 3 then is_letter (slice_index text 0) 84 116 && is_letter (slice_index text 1) 79 111 && is_letter (slice_index text 2) 80 112 else false

-- `/` or `!` at the start, as in `#/page` and `#!page`: a route, which a script of the page reads. This is no rule of the Standard.
abbrev pub is_route : List ℕ → Bool
is_route [] = false
is_route (b ∷ bs) = (b == 47) || (b == 33)

abbrev pub has_decoded : List (List ℕ) → List ℕ → Bool
has_decoded ids text = if has_id ids text then true else (is_top text || is_route text)

abbrev pub decoded_has : List (List ℕ) → List ℕ → Bool
decoded_has ids fragment = has_decoded ids (decoded_of fragment)

abbrev pub has_fragment : List (List ℕ) → List ℕ → Bool
has_fragment ids fragment = if has_id ids fragment then true else decoded_has ids fragment

abbrev pub has_anchor : List (List ℕ) → List ℕ → Bool
has_anchor ids text = has_fragment ids (fragment_of text)

-- whether the text before the directive names an anchor of the document; an empty text names its top, which each document has
abbrev pub front_indicated : List (List ℕ) → List ℕ → Bool
front_indicated ids front = if length front == 0 then true else has_anchor ids front

abbrev pub is_indicated : List (List ℕ) → List ℕ → Bool
is_indicated ids text = front_indicated ids (before_directive text)
