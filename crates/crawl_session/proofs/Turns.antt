-- What is read, after an unfinished line, and what is answered of it.
use Rattle.crawl_session.proofs.Prelude.{◌≡◌, ℕ, inl, inr, List, [], ◌∷◌, ◌++◌, take, drop, Option, refl, sym, ap, subst, ◌∙◌, append_assoc, append-nil, take-append-drop, Appends, Consumes, lines, Consumes-trans, Consumes-all, Appends-trans, held_limit, IsUnfinished, AreWhole, Holds, AnswersWhole, Turns, Ends, ServesInput, ServesAll, SessionView}
use Rattle.crawl_session.proofs.Cuts.{lines_after, whole-append, tail_asks, front_asks, take_cut, unfinished-append}
use Rattle.crawl_session.proofs.Lines.{serves_none, serves_more, serves_alike}

-- no line ends in what was read
pub answers_none : (session : SessionView) (tail bytes held new_held : List ℕ) → Holds held tail → IsUnfinished bytes → new_held ≡ take held_limit (held ++ bytes) → AnswersWhole session tail bytes [] new_held session
answers_none session tail bytes held new_held holds unfinished is = record {
  front = [];
  rest = tail ++ bytes;
  split = refl;
  whole = inl refl;
  holds = record {
    beginning = is ∙ ap (λ h. take held_limit (h ++ bytes)) holds.beginning ∙ take_cut held_limit tail bytes;
    unfinished = unfinished-append tail bytes holds.unfinished unfinished;
  };
  serves = serves_none session;
}

-- some lines end in it: the first of them is that of which the beginning was held
pub answers_some : (old new : SessionView) (tail bytes text held new_held : List ℕ) (whole : ℕ) → Holds held tail → ((front : List ℕ) × (take whole bytes ≡ front ++ 10 ∷ [])) → IsUnfinished (drop whole bytes)
    → ServesAll old (lines (held ++ take whole bytes)) text new → new_held ≡ take held_limit (drop whole bytes) → AnswersWhole old tail bytes text new_held new
answers_some old new tail bytes text held new_held whole holds ends unfinished serves is =
    let same : held ++ take whole bytes ≡ take held_limit tail ++ (ends.0 ++ 10 ∷ []) = ap (λ h. h ++ take whole bytes) holds.beginning ∙ ap (λ c. take held_limit tail ++ c) ends.1 in
    let cut : ServesAll old (lines (take held_limit tail ++ (ends.0 ++ 10 ∷ []))) text new = subst (λ b. ServesAll old (lines b) text new) same serves in
    let full = serves_alike old (lines (take held_limit tail ++ (ends.0 ++ 10 ∷ []))) (lines (tail ++ (ends.0 ++ 10 ∷ []))) text new (front_asks old.settings tail ends.0 holds.unfinished) cut in
    record {
      front = tail ++ (ends.0 ++ 10 ∷ []);
      rest = drop whole bytes;
      split =
          ap (λ b. tail ++ b) (sym (take-append-drop whole bytes) ∙ ap (λ c. c ++ drop whole bytes) ends.1)
          ∙ sym (append_assoc tail (ends.0 ++ 10 ∷ []) (drop whole bytes));
      whole = inr (tail ++ ends.0, sym (append_assoc tail ends.0 (10 ∷ [])));
      holds = record { beginning = is; unfinished = unfinished };
      serves = full;
    }

-- the line that is unfinished at the end
pub serves_tail : (old : SessionView) (held tail text : List ℕ) (new : SessionView) → Holds held tail → ServesAll old (lines held) text new → ServesAll old (lines tail) text new
serves_tail old held tail text new holds serves =
    serves_alike old (lines (take held_limit tail)) (lines tail) text new (tail_asks old.settings tail holds.unfinished)
    (subst (λ h. ServesAll old (lines h) text new) holds.beginning serves)

-- ---- turn after turn

-- what was read so far: whole lines, which are answered, and an unfinished one
pub record Served (begun : SessionView) (input_old input_now out_old out_now : Option (List ℕ)) (held : List ℕ) (now : SessionView) : Type 0 where
  pub front : List ℕ
  pub tail : List ℕ
  pub text : List ℕ
  pub read : Consumes input_old input_now (front ++ tail)
  pub whole : AreWhole front
  pub holds : Holds held tail
  pub serves : ServesAll begun (lines front) text now
  pub written : Appends out_old out_now text

pub served_more : (begun : SessionView) (input_old input_mid input_new out_old out_mid out_new : Option (List ℕ)) (held new_held : List ℕ) (mid new : SessionView) → (so_far : Served begun input_old input_mid out_old out_mid held mid)
    → Turns mid so_far.tail input_mid input_new out_mid out_new new_held new → Served begun input_old input_new out_old out_new new_held new
served_more begun input_old input_mid input_new out_old out_mid out_new held new_held mid new so_far turns =
    let in_it = turns.answers_whole in
    let all : (so_far.front ++ so_far.tail) ++ turns.bytes ≡ (so_far.front ++ in_it.front) ++ in_it.rest =
    append_assoc so_far.front so_far.tail turns.bytes ∙ ap (λ b. so_far.front ++ b) in_it.split ∙ sym (append_assoc so_far.front in_it.front in_it.rest) in
    record {
      front = so_far.front ++ in_it.front;
      tail = in_it.rest;
      text = so_far.text ++ turns.text;
      read = subst (Consumes input_old input_new) all (Consumes-trans input_old input_mid input_new (so_far.front ++ so_far.tail) turns.bytes so_far.read turns.read);
      whole = whole-append so_far.front in_it.front so_far.whole in_it.whole;
      holds = in_it.holds;
      serves =
          subst (λ ls. ServesAll begun ls (so_far.text ++ turns.text) new) (sym (lines_after so_far.front in_it.front so_far.whole))
          (serves_more begun (lines so_far.front) so_far.text mid (lines in_it.front) turns.text new so_far.serves in_it.serves);
      written = Appends-trans out_old out_mid out_new so_far.text turns.text so_far.written turns.written;
    }

pub served_whole : (begun : SessionView) (input_old input_mid input_new out_old out_mid out_new : Option (List ℕ)) (held : List ℕ) (mid new : SessionView) → (so_far : Served begun input_old input_mid out_old out_mid held mid)
    → Ends mid so_far.tail input_mid input_new out_mid out_new new → ServesInput begun input_old out_old out_new new
served_whole begun input_old input_mid input_new out_old out_mid out_new held mid new so_far ends =
    let bytes = so_far.front ++ so_far.tail in
    record {
      bytes = bytes;
      text = so_far.text ++ ends.text;
      read = Consumes-all input_old input_new bytes [] bytes (subst (Consumes input_old input_new) (append-nil bytes) (Consumes-trans input_old input_mid input_new bytes [] so_far.read ends.at_end.0)) ends.at_end.1 refl;
      serves =
          subst (λ ls. ServesAll begun ls (so_far.text ++ ends.text) new) (sym (lines_after so_far.front so_far.tail so_far.whole))
          (serves_more begun (lines so_far.front) so_far.text mid (lines so_far.tail) ends.text new so_far.serves ends.serves);
      written = Appends-trans out_old out_mid out_new so_far.text ends.text so_far.written ends.written;
    }
