-- The texts that are written of links, one link after another.
use Rattle.document_links.proofs.Prelude.{◌≡◌, ◌∙◌, ℕ, ◌+◌, ◌<◌, ◌≤◌, Bool, true, false, List, [], ◌∷◌, ◌++◌, Result, length, take, get_or, refl, sym, ap, subst, arith, and_parts, clean, take_all, written}
use Rattle.std.proofs.Common.{append-nil, OnOk, Ok, Err}
use Rattle.std.proofs.lemmas.List.{flat_map_more, take_more}
use Rattle.document_links.specs.declared.charset.Charset.{Charset}
use Rattle.document_links.specs.Written.{AreTexts, AreTextsOf, AreTextsOfEach, AreWritten, IsOneMore, byte_count, can_write, has_room, keeps_query}

-- ---- one text more, or none

pub one_more : {V E : Type 0} (old new : List (List ℕ)) (text : List ℕ) (answer : Result V E) → OnOk answer (new ≡ old ++ text ∷ []) → OnOk answer (IsOneMore old new)
one_more old new text (Ok v) pushed = record { texts = text ∷ []; most = omega arith; all = pushed }
one_more old new text (Err e) pushed = tt

pub none_more : (old : List (List ℕ)) → IsOneMore old old
none_more old = record { texts = []; most = omega arith; all = sym (append-nil old) }

-- ---- those of each link

-- the texts of a link come after the others
record Follows (is_own : Bool) (text : List ℕ) (old new : List (List ℕ)) : Type 0 where
  texts : List (List ℕ)
  own : AreTextsOf is_own text texts
  all : new ≡ old ++ texts

follows : (is_own : Bool) (charset : Charset) (text : List ℕ) (old new : List (List ℕ)) → can_write charset text ≡ is_own → IsOneMore old new → (has_room (clean text) ≡ true → keeps_query charset (clean text) ≡ true → new ≡ old ++ written text ∷ []) → Follows is_own text old new
follows true charset text old new is more own =
    let both = and_parts (has_room (clean text)) (keeps_query charset (clean text)) is in
    record { texts = written text ∷ []; own = refl; all = own both.0 both.1 }
follows false charset text old new is more own = record { texts = more.texts; own = more.most; all = more.all }

each_more : (charset : Charset) (links : List (List ℕ)) (parts : List (List (List ℕ))) (link : List ℕ) (texts : List (List ℕ)) → AreTextsOfEach charset links parts → AreTextsOf (can_write charset link) link texts → AreTextsOfEach charset (links ++ link ∷ []) (parts ++ texts ∷ [])
each_more charset [] [] link texts each own = (own, tt)
each_more charset [] (part ∷ parts) link texts each own = absurd each
each_more charset (first ∷ links) [] link texts each own = absurd each
each_more charset (first ∷ links) (part ∷ parts) link texts each own = (each.0, each_more charset links parts link texts each.1 own)

pub none_written : (charset : Charset) (old : List (List ℕ)) → AreTexts charset old [] old
none_written charset old = record { parts = []; each = tt; all = sym (append-nil old) }

pub more_written : (charset : Charset) (old mid new links : List (List ℕ)) (i : ℕ) (link : List ℕ) → i < length links → link ≡ get_or links i [] → AreTexts charset old (take i links) mid → IsOneMore mid new
    → (has_room (clean link) ≡ true → keeps_query charset (clean link) ≡ true → new ≡ mid ++ written link ∷ []) → AreTexts charset old (take (i + 1) links) new
more_written charset old mid new links i link within is before more own =
    let next = follows (can_write charset link) charset link mid new refl more own in
    let front : take (i + 1) links ≡ take i links ++ link ∷ [] = take_more links i [] within ∙ ap (λ l. take i links ++ l ∷ []) (sym is) in
    record {
      parts = before.parts ++ next.texts ∷ [];
      each = subst (λ l. AreTextsOfEach charset l (before.parts ++ next.texts ∷ [])) (sym front) (each_more charset (take i links) before.parts link next.texts before.each next.own);
      all = next.all ∙ ap (λ l. l ++ next.texts) before.all ∙ flat_map_more (λ texts. texts) old before.parts next.texts;
    }

pub all_written : (charset : Charset) (old new links : List (List ℕ)) (limit i : ℕ) → length links ≤ i → AreTexts charset old (take i links) new → AreWritten charset old links new limit
all_written charset old new links limit i past texts = record { within = λ fits. subst (λ l. AreTexts charset old l new) (take_all i links past) texts }

pub past_limit : (charset : Charset) (old new links : List (List ℕ)) (limit : ℕ) → limit < byte_count new → AreWritten charset old links new limit
past_limit charset old new links limit past = record { within = λ fits. absurd (omega (arith, past, fits)) }
