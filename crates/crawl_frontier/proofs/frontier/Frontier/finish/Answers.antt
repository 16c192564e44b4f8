use Rattle.crawl_frontier.proofs.Prelude.{◌∙◌, sym, ◌≡◌, ℕ, ◌<◌, ◌≤◌, List, [], length, map, ap, subst, arith, MatchResult, Entry, KeepsRule, IsBook, book_of, WorkerId, SenderId, Accounts, AccountId, AllKeepRule, FinishFails, AllAre, AgreeTo, CanCompare, KeepRuleBelow, LogsHold}
use Rattle.std.proofs.lemmas.Result.{MatchResult-weaker}
use Rattle.std.specs.declared.result.Result.{Result}
use Rattle.crawl_frontier.specs.declared.error.FinishError.{FinishError}
use Rattle.crawl_frontier.specs.declared.error.FinishError.TheVariants.{Disagree}
use Rattle.crawl_frontier.specs.declared.finish.settled.Settled.{Settled}
use Rattle.crawl_frontier.proofs.Gets.{get_within}
use Rattle.crawl_frontier.proofs.frontier.Frontier.finish.Goals as goal

-- after the books are compared, a run has its account or its error
module _ (workers : ℕ) (closed : List WorkerId) (senders : List SenderId) (s : Settled) (can : CanCompare workers closed senders s) where
  -- what a comparison requires
  pub askable : (lists : List (List Entry)) → lists ≡ s.lists.items
      → (s.least ≤ length lists) × AllAre (IsBook (length lists)) (map book_of s.books.items) × KeepRuleBelow (length lists) s.least lists × LogsHold s.least lists (map book_of s.books.items)
  askable lists same =
      subst (λ ls. (s.least ≤ length ls) × AllAre (IsBook (length ls)) (map book_of s.books.items) × KeepRuleBelow (length ls) s.least ls × LogsHold s.least ls (map book_of s.books.items)) (sym same)
      (can.within, can.books, can.rule, can.logs)

  pub compared : (least : ℕ) (lists : List (List Entry)) → lists ≡ s.lists.items → AgreeTo least s.least lists (map book_of s.books.items) → AgreeTo least s.least s.lists.items (map book_of s.books.items)
  compared least lists same agree = subst (λ ls. AgreeTo least s.least ls (map book_of s.books.items)) same agree

  pub all_keep_rule : (least : ℕ) → least ≤ s.least → s.workers ≤ least → AllKeepRule s.workers s.lists.items
  all_keep_rule least within le q es at =
      let lt = get_within s.lists.items q es at in
      subst (λ n. KeepsRule n q [] es) (can.len ∙ sym can.workers_are) (can.rule q es (omega (arith, lt, can.len, can.workers_are, within, le)) at)

  pub concluded : (least : ℕ) (r : Result AccountId FinishError) → AgreeTo least s.least s.lists.items (map book_of s.books.items)
      → MatchResult r (λ a. (s.workers ≤ least) × (a ≡ record { workers = s.workers; queues = s.lists.items })) (λ e. (least < s.workers) × (e ≡ Disagree least))
      → MatchResult r (λ a. (a.workers ≡ workers) × Accounts workers closed senders a.queues) (FinishFails workers closed senders)
  concluded least r agree answers = MatchResult-weaker r answers
      (λ a is. (
        ap (λ (b : AccountId). b.workers) is.1 ∙ can.workers_are,
        subst (λ (b : AccountId). Accounts workers closed senders b.queues) (sym is.1) (can.account least (omega (arith, is.0, can.workers_are)) agree),
      ))
      (λ e is. subst (FinishFails workers closed senders) (sym is.1) (can.error least (omega (arith, is.0, can.workers_are)) agree))

pub books_agree-least-requires-clause-least : goal.books_agree-least-requires-clause-least
books_agree-least-requires-clause-least g c = (askable g.K.Name.workers c.args.closed.items c.args.senders.items c.in_ok-workers.field-0 c.in_ok-workers.ensures c.as_slice.result.now c.as_slice.ensures.value).0

pub books_agree-least-requires-clause-books : goal.books_agree-least-requires-clause-books
books_agree-least-requires-clause-books g c = (askable g.K.Name.workers c.args.closed.items c.args.senders.items c.in_ok-workers.field-0 c.in_ok-workers.ensures c.as_slice.result.now c.as_slice.ensures.value).1

pub books_agree-least-requires-clause-rule : goal.books_agree-least-requires-clause-rule
books_agree-least-requires-clause-rule g c = (askable g.K.Name.workers c.args.closed.items c.args.senders.items c.in_ok-workers.field-0 c.in_ok-workers.ensures c.as_slice.result.now c.as_slice.ensures.value).2

pub books_agree-least-requires-clause-logs : goal.books_agree-least-requires-clause-logs
books_agree-least-requires-clause-logs g c = (askable g.K.Name.workers c.args.closed.items c.args.senders.items c.in_ok-workers.field-0 c.in_ok-workers.ensures c.as_slice.result.now c.as_slice.ensures.value).3

pub account_of-requires-clause-len : goal.account_of-requires-clause-len
account_of-requires-clause-len g c = let can = c.in_ok-workers.ensures in can.len ∙ sym can.workers_are

pub account_of-requires-clause-rule : goal.account_of-requires-clause-rule
account_of-requires-clause-rule g c =
    all_keep_rule g.K.Name.workers c.args.closed.items c.args.senders.items c.in_ok-workers.field-0 c.in_ok-workers.ensures c.books_agree-least.result c.books_agree-least.ensures.0

pub returns : goal.returns
returns g c =
    let closed = c.args.closed.items in
    let senders = c.args.senders.items in
    let s = c.in_ok-workers.field-0 in
    let can = c.in_ok-workers.ensures in
    let agree = compared g.K.Name.workers closed senders s can c.books_agree-least.result c.as_slice.result.now c.as_slice.ensures.value c.books_agree-least.ensures in
    concluded g.K.Name.workers closed senders s can c.books_agree-least.result c.account_of.result agree c.account_of.ensures
