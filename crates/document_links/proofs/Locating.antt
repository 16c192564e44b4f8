-- The links of a text that were found, by their indices.
use Rattle.document_links.proofs.Prelude.{◌≡◌, ◌∙◌, ℕ, Option, None, Some, true, List, [], ◌∷◌, Result, IfOk, ap, arith, map, refl, subst, sym, clean, point_at}
use Rattle.std.specs.Borrow.{Bor}
use Rattle.std.specs.List.{All}
use Rattle.std.proofs.Common.{Ok, Err, ap₂, slice_index_or, string_bytes, suc}
use Rattle.std.proofs.lemmas.List.{get_or-take}
use Rattle.std.specs.Str.Lossy.{utf8_lossy}
use Rattle.html_links.specs.Links.{needed_texts}
use Rattle.html_links.specs.Positions.{needed_positions}
use Rattle.document_links.specs.declared.charset.Charset.{Charset}
use Rattle.document_links.specs.declared.places.TextPlace.{TextPlace}
use Rattle.document_links.specs.declared.text_kind.TextKind.{TextKind}
use Rattle.document_links.specs.Encoding.{is_known, links_in}
use Rattle.document_links.specs.LinkUrls.{AreUrlsIn, AreUrlsOf, HasNoBase, query_charset}
use Rattle.document_links.specs.Places.{ArePlacesIn, IsAmong, point_of_place, positions_in}
use Rattle.document_links.specs.Rooted.{all_rooted}

same_text : (texts all : List (List ℕ)) (needed : Option ℕ) (index : ℕ) → needed_texts needed texts ≡ needed_texts needed all → IsAmong needed index → slice_index_or texts index [] ≡ slice_index_or all index []
same_text texts all None index same among = ap (λ l. slice_index_or l index []) same
same_text texts all (Some n) index same among =
    sym (get_or-take n texts index [] among) ∙ ap (λ l. slice_index_or l index []) same ∙ get_or-take n all index [] among

same_position : (found all : List ℕ) (needed : Option ℕ) (index : ℕ) → needed_positions needed found ≡ needed_positions needed all → IsAmong needed index → slice_index_or found index 0 ≡ slice_index_or all index 0
same_position found all None index same among = ap (λ l. slice_index_or l index 0) same
same_position found all (Some n) index same among =
    sym (get_or-take n found index 0 among) ∙ ap (λ l. slice_index_or l index 0) same ∙ get_or-take n all index 0 among

same_positions : (found all : List ℕ) (needed : Option ℕ) (indices : List ℕ) → needed_positions needed found ≡ needed_positions needed all → All (IsAmong needed) indices →
    map (λ index. slice_index_or found index 0) indices ≡ map (λ index. slice_index_or all index 0) indices
same_positions found all needed [] same among = refl
same_positions found all needed (index ∷ rest) same among =
    ap₂ (λ x xs. x ∷ xs) (same_position found all needed index same (among 0 index (omega arith)))
    (same_positions found all needed rest same (λ k d within. among (suc k) d (omega arith)))

same_texts : (f : List ℕ → List ℕ) (texts all : List (List ℕ)) (needed : Option ℕ) (indices : List ℕ) → needed_texts needed texts ≡ needed_texts needed all → All (IsAmong needed) indices →
    map (λ index. f (slice_index_or texts index [])) indices ≡ map (λ index. f (slice_index_or all index [])) indices
same_texts f texts all needed [] same among = refl
same_texts f texts all needed (index ∷ rest) same among =
    ap₂ (λ x xs. x ∷ xs) (ap f (same_text texts all needed index same (among 0 index (omega arith))))
    (same_texts f texts all needed rest same (λ k d within. among (suc k) d (omega arith)))

pub places_of_links : (kind : TextKind) (charset : Charset) (text indices : List ℕ) (texts : List (List ℕ)) (positions : List ℕ) (needed : Option ℕ) (places : List TextPlace) →
    All (IsAmong needed) indices → (is_known charset ≡ true → needed_texts needed texts ≡ needed_texts needed (links_in kind text)) →
    (is_known charset ≡ true → needed_positions needed positions ≡ needed_positions needed (positions_in kind text)) →
    map point_of_place places ≡ map (λ index. point_at text (slice_index_or positions index 0)) indices →
    map (λ place. string_bytes place.written) places ≡ map (λ index. utf8_lossy (clean (slice_index_or texts index []))) indices → ArePlacesIn kind charset text indices places
places_of_links kind charset text indices texts positions needed places among known found placed written =
    record {
      position = λ index. slice_index_or positions index 0;
      placed = placed;
      positioned = λ is. same_positions positions (positions_in kind text) needed indices (found is) among;
      written = λ is. written ∙ same_texts (λ link. utf8_lossy (clean link)) texts (links_in kind text) needed indices (known is) among;
    }

pub of_links : {V E : Type 0} (items : V → List TextPlace) (kind : TextKind) (charset : Charset) (text indices : List ℕ) (texts : List (List ℕ)) (positions : List ℕ) (needed : Option ℕ) (r : Result V E) →
    All (IsAmong needed) indices → (is_known charset ≡ true → needed_texts needed texts ≡ needed_texts needed (links_in kind text)) →
    (is_known charset ≡ true → needed_positions needed positions ≡ needed_positions needed (positions_in kind text)) →
    IfOk r (λ places. map point_of_place (items places) ≡ map (λ index. point_at text (slice_index_or positions index 0)) indices) →
    IfOk r (λ places. map (λ place. string_bytes place.written) (items places) ≡ map (λ index. utf8_lossy (clean (slice_index_or texts index []))) indices) →
    IfOk r (λ places. ArePlacesIn kind charset text indices (items places))
of_links items kind charset text indices texts positions needed (Ok places) among known found placed written =
    places_of_links kind charset text indices texts positions needed (items places) among known found placed written
of_links items kind charset text indices texts positions needed (Err e) among known found placed written = tt

pub urls_of_links : (root : Option (Bor (List ℕ))) (page : List ℕ) (kind : TextKind) (charset : Charset) (text indices : List ℕ) (texts : List (List ℕ)) (needed : Option ℕ) (urls : List (Option (List ℕ))) →
    All (IsAmong needed) indices → (is_known charset ≡ true → needed_texts needed texts ≡ needed_texts needed (links_in kind text)) →
    (is_known charset ≡ true → HasNoBase kind text → AreUrlsOf (query_charset kind charset) page (all_rooted root (map (λ index. slice_index_or texts index []) indices)) urls) →
    AreUrlsIn root page kind charset text indices urls
urls_of_links root page kind charset text indices texts needed urls among found led = λ known none.
    subst (λ links. AreUrlsOf (query_charset kind charset) page (all_rooted root links) urls)
    (same_texts (λ link. link) texts (links_in kind text) needed indices (found known) among) (led known none)
