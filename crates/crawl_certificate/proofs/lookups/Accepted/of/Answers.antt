use Rattle.crawl_certificate.proofs.Prelude.{rules, ◌≡◌, ◌+◌, List, [], ◌∷◌, ◌++◌, length, take, get_or, sym, ap, subst, ◌∙◌, arith, flat_map-append, take_more, take_all, append-nil, length_push, slice_get_within, get_or_from_slice_get, Entry, entries_in, AreFirsts}
use Rattle.crawl_certificate.proofs.Indices.{firsts_push}
use Rattle.crawl_certificate.proofs.Places.{length_pointed}
use Rattle.crawl_certificate.proofs.KeptRules.{KeptBelow, one_more_kept, account_queues, account_differs}
use Rattle.crawl_certificate.proofs.lookups.Accepted.of.Goals as goal

pub loop-queue-preserved : goal.loop-queue-preserved
loop-queue-preserved c =
    let queues = c.args.account.now.queues in
    let q = c.loop-queue.queue in
    let own = c.queue-entry-items.result.now in
    let below = slice_get_within queues q own c.queue-entry-items.ensures.entries in
    let found = get_or_from_slice_get queues q own own c.queue-entry-items.ensures.entries in
    let before = c.loop-queue.firsts.items in
    let entries = c.loop-queue.entries in
    let more : c.push.new.self.items ≡ before ++ c.len.result ∷ [] = c.in_ok-push.ensures.items in
    let is : c.len.result ≡ length (entries_in (take q queues)) = omega (arith, c.len.ensures, entries.ok.0, length_pointed entries.items, ap length c.loop-queue.invariant.listed) in
    record {
      listed =
          c.loop-entry.invariant
          ∙ ap (λ es. entries_in (take q queues) ++ es) (take_all c.loop-entry.entry-index own c.loop-entry-test.false ∙ sym (append-nil own) ∙ ap (λ es. es ++ []) (sym found))
          ∙ sym (flat_map-append (λ (es : List Entry). es) (take q queues) (get_or queues q own ∷ []))
          ∙ ap entries_in (sym (take_more queues q own below));
      kept = one_more_kept q c.args.account.now own c.loop-queue.invariant.kept c.queue-entry-items.ensures.entries c.queue-entry-items.ensures.rule;
      count = ap length more ∙ length_push before c.len.result ∙ ap (λ n. n + 1) c.loop-queue.invariant.count;
      first = subst (AreFirsts (q + 1) queues) (sym more) (firsts_push q queues before c.len.result own c.loop-queue.invariant.count is c.queue-entry-items.ensures.entries c.loop-queue.invariant.first);
    }

pub invariant_of-result : goal.invariant_of-result
invariant_of-result c =
    let last : c.loop-queue.queue ≡ c.args.account.now.workers = search rules in
    record {
      whole = c.loop-queue.invariant.listed ∙ ap (λ n. entries_in (take n c.args.account.now.queues)) last;
      queues = account_queues c.args.account.now (subst (λ n. KeptBelow n c.args.account.now) last c.loop-queue.invariant.kept);
      first = subst (λ n. AreFirsts n c.args.account.now.queues c.loop-queue.firsts.items) last c.loop-queue.invariant.first;
    }

pub returns-clause-apart : goal.returns-clause-apart
returns-clause-apart c =
    let last : c.loop-queue.queue ≡ c.args.account.now.workers = search rules in
    rw (c.loop-queue.invariant.listed, last) (account_differs c.args.account.now (account_queues c.args.account.now (subst (λ n. KeptBelow n c.args.account.now) last c.loop-queue.invariant.kept)))

pub returns-clause-queues : goal.returns-clause-queues
returns-clause-queues c =
    let last : c.loop-queue.queue ≡ c.args.account.now.workers = search rules in
    account_queues c.args.account.now (subst (λ n. KeptBelow n c.args.account.now) last c.loop-queue.invariant.kept)
