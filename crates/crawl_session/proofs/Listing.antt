-- Lists of a session's URLs, one after another.
use Rattle.crawl_session.proofs.Prelude.{◌≡◌, ℕ, suc, ◌+◌, List, [], ◌∷◌, ◌++◌, Option, None, Result, Ok, Err, refl, sym, ap, subst, ◌∙◌, arith, append_assoc, append-nil, IfOk, Appends-trans, Row, Frontier, Listed, Lists, done_by, done_in, each_below, row_line, stats_at, stats_below, stats_in, then_list, Settings, SessionView}
use Rattle.std.proofs.lemmas.List.Concat.{flat_map-append}
use Rattle.crawl_session.specs.declared.list.ListForm.{ListForm}
use Rattle.crawl_session.specs.declared.list.ListForm.TheVariants as forms
use Rattle.crawl_session.specs.declared.serving.ServeError.{ServeError}

pub lists_both : (form : ListForm) (first second : Frontier → Listed) (old mid new : SessionView) (out_old out_mid out_new : Option (List ℕ)) → Lists form first old out_old out_mid mid → Lists form second mid out_mid out_new new
    → Lists form (λ state. then_list (first state) second) old out_old out_new new
lists_both form first second old mid new out_old out_mid out_new one two = record {
  text = one.text ++ two.text;
  written = Appends-trans out_old out_mid out_new one.text two.text one.written two.written;
  settings = two.settings ∙ one.settings;
  comes = λ state shown.
      let front = one.comes state shown in
      let back = two.comes (first state).state front.1 in (
        (λ i. front.0 i ++ back.0 i) ∙ sym (flat_map-append (row_line form) (first state).rows (second (first state).state).rows),
        back.1,
      );
}

-- one number more
pub each_more : (form : ListForm) (one : Frontier → ℕ → Listed) (n : ℕ) (old mid new : SessionView) (out_old out_mid out_new : Option (List ℕ)) → Lists form (each_below one n) old out_old out_mid mid → Lists form (λ state. one state n) mid out_mid out_new new
    → Lists form (each_below one (n + 1)) old out_old out_new new
each_more form one n old mid new out_old out_mid out_new before here =
    let next : suc n ≡ n + 1 = omega arith in
    subst (λ m. Lists form (each_below one m) old out_old out_new new) next (lists_both form (each_below one n) (λ state. one state n) old mid new out_old out_mid out_new before here)

-- the numbers of all queues, and of each
pub stats_more : (form : ListForm) (old mid new : SessionView) (out_old out_mid out_new : Option (List ℕ)) (result : Result (Unit {0}) ServeError) → form ≡ forms.Json → Lists form (λ state. stats_at state None) old out_old out_mid mid
    → IfOk result (λ _. Lists form (stats_below mid.settings.workers) mid out_mid out_new new) → IfOk result (λ _. Lists form (stats_in form old.settings.workers) old out_old out_new new)
stats_more forms.Json old mid new out_old out_mid out_new (Ok done) is one two =
    lists_both forms.Json (λ state. stats_at state None) (stats_below old.settings.workers) old mid new out_old out_mid out_new one (subst (λ (s : Settings). Lists forms.Json (stats_below s.workers) mid out_mid out_new new) one.settings two)
stats_more forms.Text old mid new out_old out_mid out_new (Ok done) is one two = absurd (cc)
stats_more form old mid new out_old out_mid out_new (Err why) is one two = tt

-- the same list by another name
lists_as : (form : ListForm) (first second : Frontier → Listed) (old new : SessionView) (out_old out_new : Option (List ℕ)) → ((state : Frontier) → first state ≡ second state) → Lists form first old out_old out_new new → Lists form second old out_old out_new new
lists_as form first second old new out_old out_new same one = grind arith

-- ---- the lines of a log

done_push : (settings : Settings) (front : List (List ℕ)) (line : List ℕ) (state : Frontier) → then_list (done_in settings front state) (done_by settings line) ≡ done_in settings (front ++ line ∷ []) state
done_push settings [] line state = ap (λ (rows : List Row). record { rows = rows; state = (done_by settings line state).state }) (sym (append-nil (done_by settings line state).rows))
done_push settings (first ∷ more) line state = grind (arith, done_push settings more line)

-- lines were given, and what came of them was listed
abbrev pub ListsFront : ListForm → SessionView → Option (List ℕ) → List (List ℕ) → List (List ℕ) → SessionView → Option (List ℕ) → Type 0
ListsFront form old out_old all rest mid out = (front : List (List ℕ)) × (all ≡ front ++ rest) × Lists form (done_in old.settings front) old out_old out mid

pub front_more : (form : ListForm) (old : SessionView) (out_old : Option (List ℕ)) (all rest : List (List ℕ)) (mid : SessionView) (out : Option (List ℕ)) (line : List ℕ) (more : List (List ℕ)) (new : SessionView) (out_new : Option (List ℕ))
    → ListsFront form old out_old all rest mid out → rest ≡ line ∷ more → Lists form (done_by mid.settings line) mid out out_new new → ListsFront form old out_old all more new out_new
front_more form old out_old all rest mid out line more new out_new so_far cut one =
    let front = so_far.0 in
    let settings = old.settings in
    let here : Lists form (done_by settings line) mid out out_new new = subst (λ (s : Settings). Lists form (done_by s line) mid out out_new new) so_far.2.settings one in
    let both = lists_both form (done_in settings front) (done_by settings line) old mid new out_old out out_new so_far.2 here in (
      front ++ line ∷ [],
      so_far.1 ∙ ap (λ l. front ++ l) cut ∙ sym (append_assoc front (line ∷ []) more),
      lists_as form (λ state. then_list (done_in settings front state) (done_by settings line)) (done_in settings (front ++ line ∷ [])) old new out_old out_new (done_push settings front line) both,
    )

done_append : (settings : Settings) (front back : List (List ℕ)) (state : Frontier) → then_list (done_in settings front state) (done_in settings back) ≡ done_in settings (front ++ back) state
done_append settings [] back state = refl
done_append settings (line ∷ more) back state = grind (arith, append_assoc, done_append settings more back)

-- more lines of the log
pub done_both : (form : ListForm) (old mid new : SessionView) (out_old out_mid out_new : Option (List ℕ)) (front back : List (List ℕ)) → Lists form (done_in old.settings front) old out_old out_mid mid → Lists form (done_in mid.settings back) mid out_mid out_new new
    → Lists form (done_in old.settings (front ++ back)) old out_old out_new new
done_both form old mid new out_old out_mid out_new front back one two =
    let settings = old.settings in
    let here : Lists form (done_in settings back) mid out_mid out_new new = subst (λ (s : Settings). Lists form (done_in s back) mid out_mid out_new new) one.settings two in
    let both = lists_both form (done_in settings front) (done_in settings back) old mid new out_old out_mid out_new one here in
    lists_as form (λ state. then_list (done_in settings front state) (done_in settings back)) (done_in settings (front ++ back)) old new out_old out_new (done_append settings front back) both
