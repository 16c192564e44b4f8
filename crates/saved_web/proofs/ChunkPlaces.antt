-- Pages in chunks, by their indices among all pages.
use Rattle.saved_web.proofs.Prelude.{nat_tests, common_steps, ◌≡◌, ℕ, suc, ◌+◌, ◌<◌, List, [], ◌∷◌, ◌++◌, length, drop, get_or, slice_get, Option, Some, IfSome, SomeIff, sym, ap, subst, ◌∙◌, arith, flat_map, option_map, drop_more, length-map, slice_get-get_or, slice_get_within, index_of, found_at, page_there, get_front, PageRead, urls, page_with}
use Rattle.std.specs.Borrow.{Bor}
use Rattle.saved_web.proofs.ChunkPages.{found_chunk}

-- an element after the first list is one of the second
get_after : {X : Type 0} (xs ys : List X) (k : ℕ) → slice_get (xs ++ ys) (length xs + k) ≡ slice_get ys k
get_after [] ys k = let e : 0 + k ≡ k = omega arith in ap (slice_get ys) e
get_after (x ∷ xs) ys k = let e : suc (length xs) + k ≡ suc (length xs + k) = omega arith in ap (slice_get (x ∷ xs ++ ys)) e ∙ get_after xs ys k

-- the pages of the chunks from the i-th on
abbrev pub from_chunk : List (List PageRead) → ℕ → List PageRead
from_chunk chunks i = flat_map (λ chunk. chunk) (drop i chunks)

at_chunk : (chunks : List (List PageRead)) (i : ℕ) (chunk : List PageRead) → i < length chunks → chunk ≡ get_or chunks i chunk → from_chunk chunks i ≡ chunk ++ from_chunk chunks (i + 1)
at_chunk chunks i chunk below is = grind (arith, drop_more)

-- counted from the start of a chunk, an index after the chunk is larger by the number of the chunk's pages
pub passed_place : (chunks : List (List PageRead)) (i : ℕ) (chunk : List PageRead) (k : ℕ) → i < length chunks → chunk ≡ get_or chunks i chunk → slice_get (from_chunk chunks (i + 1)) k ≡ slice_get (from_chunk chunks i) (length chunk + k)
passed_place chunks i chunk k below is = grind (arith, nat_tests, common_steps, at_chunk, get_after)

pub found_place : (chunks : List (List PageRead)) (i : ℕ) (chunk : List PageRead) (k : ℕ) (page : PageRead) → i < length chunks → chunk ≡ get_or chunks i chunk → slice_get chunk k ≡ Some page → slice_get (from_chunk chunks i) k ≡ Some page
found_place chunks i chunk k page below is at = grind (arith, nat_tests, common_steps, at_chunk, get_front)

-- the page with the URL is at its index in the first chunk that has it
pub found_index : (chunks : List (List PageRead)) (i : ℕ) (chunk : List PageRead) (url : List ℕ) (k : ℕ) → i < length chunks → chunk ≡ get_or chunks i chunk → Some k ≡ index_of (urls chunk) url → slice_get (from_chunk chunks i) k ≡ page_with (from_chunk chunks i) url
found_index chunks i chunk url k below is found =
    let named : slice_get (urls chunk) k ≡ Some url = found_at (urls chunk) url k (sym found) in
    let within : k < length chunk = subst (λ n. k < n) (length-map chunk (λ (page : PageRead). page.url)) (slice_get_within (urls chunk) k url named) in
    let none : PageRead = record { url = []; following = [] } in
    let at : slice_get chunk k ≡ Some (get_or chunk k none) = slice_get-get_or chunk k none within in
    found_place chunks i chunk k (get_or chunk k none) below is at ∙ sym (found_chunk chunks i chunk url (get_or chunk k none) below is (page_there chunk url k found ∙ at))

-- the page that is borrowed from a chunk is the page at the index
pub lent_page : (chunk pages : List PageRead) (k : ℕ) (o : Option (Bor PageRead)) → option_map (λ page. page.now) o ≡ slice_get chunk k → ((page : PageRead) → slice_get chunk k ≡ Some page → slice_get pages k ≡ Some page) → (j : ℕ) (all : List PageRead) → slice_get pages k ≡ slice_get all j → IfSome o (λ page. slice_get all j ≡ Some page.now)
lent_page chunk pages k o at there j all same = grind arith

-- likewise, counted from all pages
pub passed_index : (chunks : List (List PageRead)) (all : List PageRead) (i before next : ℕ) (chunk : List PageRead) → i < length chunks → chunk ≡ get_or chunks i chunk → next ≡ before + length chunk
    → ((k : ℕ) → slice_get (from_chunk chunks i) k ≡ slice_get all (before + k)) → (k : ℕ) → slice_get (from_chunk chunks (i + 1)) k ≡ slice_get all (next + k)
passed_index chunks all i before next chunk below is sum at k =
    let same : before + (length chunk + k) ≡ next + k = omega arith in
    passed_place chunks i chunk k below is ∙ at (length chunk + k) ∙ ap (slice_get all) same

pub passed_rest : (chunks : List (List PageRead)) (shown : Option PageRead) (i k left : ℕ) (chunk : List PageRead) → i < length chunks → chunk ≡ get_or chunks i chunk → length chunk + left ≡ k → slice_get (from_chunk chunks i) k ≡ shown → slice_get (from_chunk chunks (i + 1)) left ≡ shown
passed_rest chunks shown i k left chunk below is sum at = grind (arith, passed_place)

pub summed_index : (all : List PageRead) (shown : Option PageRead) (error : Option ℕ) (P : Type 0) (sum : ℕ) → SomeIff error P sum → slice_get all sum ≡ shown → IfSome error (λ index. slice_get all index ≡ shown)
summed_index all shown error P sum is at = grind arith
