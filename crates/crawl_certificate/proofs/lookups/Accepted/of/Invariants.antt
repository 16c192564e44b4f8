use Rattle.crawl_certificate.proofs.Prelude.{◌≡◌, ◌++◌, length, take, entries_in, pointed, AreFirsts}
use Rattle.crawl_certificate.proofs.KeptRules.{KeptBelow}
use Rattle.crawl_certificate.proofs.lookups.Accepted.of.Given as goal

abbrev pub invariant-loop-entry : goal.invariant-loop-entry
invariant-loop-entry l = pointed l.entries.items ≡ entries_in (take l.queue l.account.queues) ++ take l.entry-index l.entry-items

abbrev pub invariant-loop-queue : goal.invariant-loop-queue
invariant-loop-queue l = record {
  listed : pointed l.entries.items ≡ entries_in (take l.queue l.account.queues);
  kept : KeptBelow l.queue l.account;
  count : length l.firsts.items ≡ l.queue;
  first : AreFirsts l.queue l.account.queues l.firsts.items;
}
