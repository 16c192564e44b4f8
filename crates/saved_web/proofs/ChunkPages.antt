-- Pages in chunks, one after another.
use Rattle.saved_web.proofs.Prelude.{nat_tests, common_steps, ◌≡◌, ℕ, ◌+◌, ◌<◌, Bool, true, false, ◌||◌, List, ◌++◌, length, take, drop, get_or, Option, Some, None, refl, sym, ◌∙◌, append-nil, flat_map, option_or, or_parts, drop_more, map-append, take_more, bytes_eq-Decides, PageRead, urls, page_with, has}
use native.Mathlib.Omega.{arith}
use Rattle.std.proofs.lemmas.List.Concat.{flat_map-append}
use Rattle.saved_web.proofs.JoinedChunks.{has-append}
use Rattle.saved_web.proofs.ReadWeb.{with_url-append}

or_none : (o : Option PageRead) → o ≡ None → (later : Option PageRead) → option_or o later ≡ later
or_none o is later = grind arith

or_some : (o : Option PageRead) (x : PageRead) → o ≡ Some x → (later : Option PageRead) → option_or o later ≡ Some x
or_some o x is later = grind arith

at_chunk : (chunks : List (List PageRead)) (i : ℕ) (chunk : List PageRead) (url : List ℕ) → i < length chunks → chunk ≡ get_or chunks i chunk → page_with (flat_map (λ p. p) (drop i chunks)) url ≡ option_or (page_with chunk url) (page_with (flat_map (λ p. p) (drop (i + 1) chunks)) url)
at_chunk chunks i chunk url below is = grind (arith, drop_more, with_url-append)

-- a chunk without the URL is skipped
pub passed_chunk : (chunks : List (List PageRead)) (i : ℕ) (chunk : List PageRead) (url : List ℕ) → i < length chunks → chunk ≡ get_or chunks i chunk → page_with chunk url ≡ None → page_with (flat_map (λ p. p) (drop (i + 1) chunks)) url ≡ page_with (flat_map (λ p. p) (drop i chunks)) url
passed_chunk chunks i chunk url below is none =
    sym (at_chunk chunks i chunk url below is ∙ or_none (page_with chunk url) none (page_with (flat_map (λ p. p) (drop (i + 1) chunks)) url))

-- a chunk with the URL has the page
pub found_chunk : (chunks : List (List PageRead)) (i : ℕ) (chunk : List PageRead) (url : List ℕ) (x : PageRead) → i < length chunks → chunk ≡ get_or chunks i chunk → page_with chunk url ≡ Some x → page_with (flat_map (λ p. p) (drop i chunks)) url ≡ Some x
found_chunk chunks i chunk url x below is some =
    at_chunk chunks i chunk url below is ∙ or_some (page_with chunk url) x some (page_with (flat_map (λ p. p) (drop (i + 1) chunks)) url)

-- one more chunk
pages_more : (chunks : List (List PageRead)) (i : ℕ) (chunk : List PageRead) → i < length chunks → chunk ≡ get_or chunks i chunk → flat_map (λ p. p) (take (i + 1) chunks) ≡ flat_map (λ p. p) (take i chunks) ++ chunk
pages_more chunks i chunk below is = grind (arith, nat_tests, common_steps, take_more, flat_map-append, append-nil)

pub urls_more : (chunks : List (List PageRead)) (i : ℕ) (chunk : List PageRead) → i < length chunks → chunk ≡ get_or chunks i chunk → urls (flat_map (λ p. p) (take (i + 1) chunks)) ≡ urls (flat_map (λ p. p) (take i chunks)) ++ urls chunk
urls_more chunks i chunk below is = grind (arith, nat_tests, common_steps, pages_more, map-append)

chunk_more : (chunks : List (List PageRead)) (i : ℕ) (chunk : List PageRead) (url : List ℕ) → i < length chunks → chunk ≡ get_or chunks i chunk → has (flat_map (λ p. p) (take (i + 1) chunks)) url ≡ (has (flat_map (λ p. p) (take i chunks)) url || has chunk url)
chunk_more chunks i chunk url below is = grind (arith, nat_tests, common_steps, pages_more, has-append)

-- pages of which none has the URL, and one more chunk
pub none_in_more : (chunks : List (List PageRead)) (i : ℕ) (chunk other : List PageRead) → i < length chunks → chunk ≡ get_or chunks i chunk → ((url : List ℕ) → has other url ≡ true → has (flat_map (λ p. p) (take i chunks)) url ≡ false) → ((url : List ℕ) → has other url ≡ true → has chunk url ≡ false) → (url : List ℕ) → has other url ≡ true → has (flat_map (λ p. p) (take (i + 1) chunks)) url ≡ false
none_in_more chunks i chunk other below is before here url there =
    chunk_more chunks i chunk url below is ∙ (λ k. before url there k || here url there k)

pub none_of_more : (chunks : List (List PageRead)) (i : ℕ) (chunk others : List PageRead) → i < length chunks → chunk ≡ get_or chunks i chunk → ((url : List ℕ) → has (flat_map (λ p. p) (take i chunks)) url ≡ true → has others url ≡ false) → ((url : List ℕ) → has chunk url ≡ true → has others url ≡ false) → (url : List ℕ) → has (flat_map (λ p. p) (take (i + 1) chunks)) url ≡ true → has others url ≡ false
none_of_more chunks i chunk others below is before here url there =
    by_chunk (has (flat_map (λ p. p) (take i chunks)) url) (has chunk url) refl refl (sym (chunk_more chunks i chunk url below is) ∙ there)
  where
    by_chunk : (a b : Bool) → has (flat_map (λ p. p) (take i chunks)) url ≡ a → has chunk url ≡ b → (a || b) ≡ true → has others url ≡ false
    by_chunk true b is_a is_b e = before url is_a
    by_chunk false true is_a is_b e = here url is_b
    by_chunk false false is_a is_b e = absurd (cc)

-- one more page
pub none_with_more : (list : List PageRead) (i : ℕ) (page : PageRead) (others : List PageRead) → i < length list → page ≡ get_or list i page → ((url : List ℕ) → has (take i list) url ≡ true → has others url ≡ false) → has others page.url ≡ false → (url : List ℕ) → has (take (i + 1) list) url ≡ true → has others url ≡ false
none_with_more list i page others below is before here url there = grind (arith, nat_tests, common_steps, take_more, has-append, bytes_eq-Decides)

-- two halves of a list
pub none_in_halves : (list front back others : List PageRead) (first second : Bool) → front ++ back ≡ list → (first ≡ false → (url : List ℕ) → has front url ≡ true → has others url ≡ false) → (second ≡ false → (url : List ℕ) → has back url ≡ true → has others url ≡ false) → (first || second) ≡ false → (url : List ℕ) → has list url ≡ true → has others url ≡ false
none_in_halves list front back others first second whole before following none url there = grind (arith, has-append, or_parts)
