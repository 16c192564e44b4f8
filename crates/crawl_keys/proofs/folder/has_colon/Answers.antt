use Rattle.crawl_keys.proofs.Prelude.{◌≡◌, ℕ, List, Bool, not, nat_lt, length, sym, ◌∙◌, ⊎_elim, arith, rules, list_any, position_or_len, cases_lt, le-ltb, lt-ltb, list_any_at, passes_at_first, prefix_len-le-length, is_colon}
use Rattle.crawl_keys.proofs.FolderLemmas.{none_from_first}
use Rattle.crawl_keys.proofs.folder.has_colon.Goals as goal

-- some byte passes if the first that passes is before the end
any_from_first : (p : ℕ → Bool) (l : List ℕ) → nat_lt (position_or_len p l) (length l) ≡ list_any p l
any_from_first p l =
    ⊎_elim
    (λ inside. lt-ltb _ _ inside ∙ sym (list_any_at p l (position_or_len p l) 0 inside (passes_at_first p l 0 inside)))
    (λ past. le-ltb _ _ past ∙ sym (none_from_first p l (let within = prefix_len-le-length (λ b. not (p b)) l in omega (arith, past, within))))
    (cases_lt (position_or_len p l) (length l))

pub returns : goal.returns
returns c =
    let place : c.len_before.result ≡ position_or_len is_colon c.args.text.now = search rules in
    (λ i. nat_lt (place i) (length (c.as_bytes-bytes.ensures.value i))) ∙ any_from_first is_colon c.args.text.now
