-- Lines that were given to a session, one after another, and the text of those that are needed.
use Rattle.crawl_session.proofs.Prelude.{◌≡◌, ℕ, Bool, true, false, if◌then◌else◌, List, [], ◌∷◌, ◌++◌, Option, refl, sym, ap, ◌∙◌, append_assoc, append-nil, arith, Appends, Appends-nil, Appends-trans, flat_map-append, Frontier, request_for, line_exchange, state_after, Settings, SessionView}
use Rattle.crawl_session.specs.Compacting.{Had, having, is_needed, needed, had_after, log_line, Gives, Compacts}
use Rattle.crawl_session.proofs.Lines.{state_after-append}

pub had_after-append : (settings : Settings) (had : Had) (state : Frontier) (front back : List (List ℕ)) → had_after settings had state (front ++ back) ≡ had_after settings (had_after settings had state front) (state_after settings state front) back
had_after-append settings had state [] back = refl
had_after-append settings had state (line ∷ more) back =
    let done = line_exchange settings state line in
    had_after-append settings (having had done.answer) done.state more back

pub needed-append : (settings : Settings) (had : Had) (state : Frontier) (front back : List (List ℕ)) → needed settings had state (front ++ back) ≡ needed settings had state front ++ needed settings (had_after settings had state front) (state_after settings state front) back
needed-append settings had state [] back = refl
needed-append settings had state (line ∷ more) back =
    let done = line_exchange settings state line in
    by_need (is_needed had (request_for settings line) done.answer) _ _ _ (needed-append settings (having had done.answer) done.state more back)
  where
    by_need : (b : Bool) (all front rest : List (List ℕ)) → all ≡ front ++ rest → (if b then line ∷ all else all) ≡ (if b then line ∷ front else front) ++ rest
    by_need true all front rest same = ap (λ l. line ∷ l) same
    by_need false all front rest same = same

-- what was done so far with lines: they were given, and the writer has the text of those that are needed
pub record SoFar (had : Had) (old : SessionView) (out_old : Option (List ℕ)) (all rest : List (List ℕ)) (next : Had) (mid : SessionView) (out : Option (List ℕ)) : Type 0 where
  pub front : List (List ℕ)
  pub split : all ≡ front ++ rest
  pub text : List ℕ
  pub written : Appends out_old out text
  pub compacts : Compacts had old front text next mid

pub so_far_none : (had : Had) (old : SessionView) (out : Option (List ℕ)) (all : List (List ℕ)) → SoFar had old out all all had old out
so_far_none had old out all = record {
  front = [];
  split = refl;
  text = [];
  written = Appends-nil out;
  compacts = record { settings = refl; comes = λ state shown. (refl, (refl, shown)) };
}

-- the text of a line, if it is needed
abbrev pub added : Bool → List ℕ → List ℕ
added b line = if b then log_line line else []

compacts_more : (had : Had) (old : SessionView) (front : List (List ℕ)) (text : List ℕ) (next : Had) (mid : SessionView) (line : List ℕ) (is : Bool) (last : Had) (new : SessionView)
    → Compacts had old front text next mid → Gives next mid line is last new → Compacts had old (front ++ line ∷ []) (text ++ added is line) last new
compacts_more had old front text next mid line is last new so_far one = grind (arith, flat_map-append, needed-append, had_after-append, state_after-append, append-nil)

-- lines, and more of them
pub compacts_both : (had : Had) (old : SessionView) (front : List (List ℕ)) (text : List ℕ) (next : Had) (mid : SessionView) (back : List (List ℕ)) (more : List ℕ) (last : Had) (new : SessionView)
    → Compacts had old front text next mid → Compacts next mid back more last new → Compacts had old (front ++ back) (text ++ more) last new
compacts_both had old front text next mid back more last new one two = grind (arith, flat_map-append, needed-append, had_after-append, state_after-append)

pub so_far_more : (had : Had) (old : SessionView) (out_old : Option (List ℕ)) (all rest : List (List ℕ)) (next : Had) (mid : SessionView) (out : Option (List ℕ)) (line : List ℕ) (more : List (List ℕ)) (is : Bool) (last : Had) (new : SessionView) (out_new : Option (List ℕ))
    → SoFar had old out_old all rest next mid out → rest ≡ line ∷ more → Gives next mid line is last new → Appends out out_new (added is line) → SoFar had old out_old all more last new out_new
so_far_more had old out_old all rest next mid out line more is last new out_new so_far cut one written = record {
  front = so_far.front ++ line ∷ [];
  split = so_far.split ∙ ap (λ l. so_far.front ++ l) cut ∙ sym (append_assoc so_far.front (line ∷ []) more);
  text = so_far.text ++ added is line;
  written = Appends-trans out_old out out_new so_far.text (added is line) so_far.written written;
  compacts = compacts_more had old so_far.front so_far.text next mid line is last new so_far.compacts one;
}
