-- Lines, one after another.
use Rattle.crawl_session.proofs.Prelude.{◌≡◌, ℕ, List, [], ◌∷◌, ◌++◌, Result, refl, sym, ap, ◌∙◌, append_assoc, arith, flat_map-append, Answer, Request, RequestError, Frontier, ServesAll, answered, line_exchange, answers, state_after, history_of, Settings, SessionView}
use Rattle.crawl_session.proofs.Cuts.{requests}

pub answers-append : (settings : Settings) (state : Frontier) (front back : List (List ℕ)) → answers settings state (front ++ back) ≡ answers settings state front ++ answers settings (state_after settings state front) back
answers-append settings state [] back = refl
answers-append settings state (line ∷ more) back = ap (λ l. (line_exchange settings state line).answer ∷ l) (answers-append settings (line_exchange settings state line).state more back)

pub state_after-append : (settings : Settings) (state : Frontier) (front back : List (List ℕ)) → state_after settings state (front ++ back) ≡ state_after settings (state_after settings state front) back
state_after-append settings state [] back = refl
state_after-append settings state (line ∷ more) back = state_after-append settings (line_exchange settings state line).state more back

pub history_of-append : (settings : Settings) (state : Frontier) (front back : List (List ℕ)) → history_of settings state (front ++ back) ≡ history_of settings state front ++ history_of settings (state_after settings state front) back
history_of-append settings state [] back = refl
history_of-append settings state (line ∷ more) back =
    let here = line_exchange settings state line in
    ap (λ l. here.history ++ l) (history_of-append settings here.state more back) ∙ sym (append_assoc here.history (history_of settings here.state more) (history_of settings (state_after settings here.state more) back))

-- ---- lines that ask alike are answered alike

answers_by : Frontier → List (Result Request RequestError) → List Answer
answers_by state [] = []
answers_by state (r ∷ rs) = (answered state r).answer ∷ answers_by (answered state r).state rs

state_by : Frontier → List (Result Request RequestError) → Frontier
state_by state [] = state
state_by state (r ∷ rs) = state_by (answered state r).state rs

answers_as : (settings : Settings) (state : Frontier) (ls : List (List ℕ)) → answers settings state ls ≡ answers_by state (requests settings ls)
unfolding answers_by
answers_as settings state [] = refl
answers_as settings state (line ∷ more) = ap (λ l. (line_exchange settings state line).answer ∷ l) (answers_as settings (line_exchange settings state line).state more)

state_as : (settings : Settings) (state : Frontier) (ls : List (List ℕ)) → state_after settings state ls ≡ state_by state (requests settings ls)
unfolding state_by
state_as settings state [] = refl
state_as settings state (line ∷ more) = state_as settings (line_exchange settings state line).state more

-- ---- serving

pub serves_none : (old : SessionView) → ServesAll old [] [] old
serves_none old = record { settings = refl; comes = λ state shown. (refl, shown) }

pub serves_more : (old : SessionView) (front : List (List ℕ)) (text : List ℕ) (mid : SessionView) (back : List (List ℕ)) (more : List ℕ) (new : SessionView)
    → ServesAll old front text mid → ServesAll mid back more new → ServesAll old (front ++ back) (text ++ more) new
serves_more old front text mid back more new first second = grind (arith, flat_map-append, answers-append, state_after-append)

pub serves_alike : (old : SessionView) (ls others : List (List ℕ)) (text : List ℕ) (new : SessionView) → requests old.settings ls ≡ requests old.settings others → ServesAll old ls text new → ServesAll old others text new
serves_alike old ls others text new same serves = grind (arith, answers_as, answers_by, state_as, state_by)
