-- What the lines of a log mean after the known lists have grown, and with one more line.
use Rattle.crawl_queues.proofs.Prelude.{common_steps, ◌≡◌, ℕ, zero, suc, List, [], ◌∷◌, ◌++◌, set, Some, slice_get, refl, ap, ◌∙◌, arith, sym, get_or_from_slice_get, Entry, LogLine, entry_at, says, line_of, log_of, Has, AreThere, AllStay, slice_index_or, no_entry}

pub entry_there : (lists : List (List Entry)) (q i : ℕ) (e : Entry) → Has lists q i e → entry_at lists q i ≡ e
entry_there lists q i e has =
    ap (λ (es : List Entry). slice_index_or es i no_entry) (get_or_from_slice_get lists q has.0 [] has.1) ∙ get_or_from_slice_get has.0 i e no_entry has.2

has_stays : (before after : List (List Entry)) (q i : ℕ) (e : Entry) → AllStay before after → Has before q i e → Has after q i e
has_stays before after q i e stay has = grind (arith, common_steps)

-- a line is also true of lists that contain all known entries
line_stays : (before after : List (List Entry)) (l : LogLine) → AllStay before after → ((e : Entry) × Has before l.queue l.index e) → line_of after l ≡ line_of before l
line_stays before after l stay there =
    ap (says l) (entry_there after l.queue l.index there.0 (has_stays before after l.queue l.index there.0 stay there.1) ∙ sym (entry_there before l.queue l.index there.0 there.1))

pub log_stays : (before after : List (List Entry)) (ls : List LogLine) → AllStay before after → AreThere before ls → log_of after ls ≡ log_of before ls
log_stays before after [] stay there = refl
log_stays before after (l ∷ ls) stay there = λ i. line_stays before after l stay there.0 i ∷ log_stays before after ls stay there.1 i

pub there_stays : (before after : List (List Entry)) (ls : List LogLine) → AllStay before after → AreThere before ls → AreThere after ls
there_stays before after [] stay there = tt
there_stays before after (l ∷ ls) stay there = grind (arith, common_steps, has_stays, there_stays before after ls stay there.1)

log_snoc : (lists : List (List Entry)) (ls : List LogLine) (l : LogLine) → log_of lists (ls ++ l ∷ []) ≡ log_of lists ls ++ line_of lists l ∷ []
log_snoc lists [] l = refl
log_snoc lists (x ∷ xs) l = ap (λ t. line_of lists x ∷ t) (log_snoc lists xs l)

-- one more line is about the entry at its index
pub line_more : (lists : List (List Entry)) (ls : List LogLine) (l : LogLine) (e : Entry) → Has lists l.queue l.index e → log_of lists (ls ++ l ∷ []) ≡ log_of lists ls ++ says l e ∷ []
line_more lists ls l e has = log_snoc lists ls l ∙ ap (λ x. log_of lists ls ++ says l x ∷ []) (entry_there lists l.queue l.index e has)

pub there_more : (lists : List (List Entry)) (ls : List LogLine) (l : LogLine) (e : Entry) → AreThere lists ls → Has lists l.queue l.index e → AreThere lists (ls ++ l ∷ [])
there_more lists [] l e there has = ((e, has), tt)
there_more lists (x ∷ xs) l e there has = (there.0, there_more lists xs l e there.1 has)

-- an element that is written again, unchanged
pub set_same : {X : Type 0} (xs : List X) (i : ℕ) (x : X) → slice_get xs i ≡ Some x → set xs i x ≡ xs
set_same [] i x e = refl
set_same (z ∷ zs) zero x e = let same : x ≡ z = cc in ap (λ y. y ∷ zs) same
set_same (z ∷ zs) (suc i) x e = ap (λ l. z ∷ l) (set_same zs i x e)
