-- What follows from the turns of a worker.
use Rattle.crawl_workers.proofs.Prelude.{◌≡◌, ℕ, ◌+◌, ◌-◌, ◌^◌, ◌<◌, ◌≤◌, min, Bool, true, false, cond, List, [], ◌∷◌, ◌++◌, length, map, Option, None, Some, refl, sym, ap, subst, ◌∙◌, arith, All, count_by, flat_map, length-append, length-map, All-nil, All-append, All-cons, Page, PageResult, links_of, Entry, KeepsRule, BookId, WorkerId, Loss, LinkOffers, AllLogged, Grows, all_losses, no_losses, sum_of, with_loss, LinkResult, losses_by, with_losses, Outcome, Turn, IsTurn, AreTurns, IsAccountedFor, losses_at, found_at, entries_in, failed, unkept, kept, Fate, results_of, taken_in, most_lost_at, most_lost, Ran, IsTally, Progress, answers_few, answers_logged}
use Rattle.std.proofs.lemmas.Grind.{common_steps}
use Rattle.std.proofs.lemmas.List.Sums.{count_by-le-length, sum_by-append, sum_by-cons}
use Rattle.crawl_frontier.specs.declared.error.OfferError.TheVariants as refused
use Rattle.link_offers.specs.declared.losses.Loss.TheVariants as loss
use Rattle.link_offers.specs.declared.losses.Losses.{Losses}
use Rattle.link_offers.proofs.Logs.{grows_same, grows_on, all_logged_on}
use Rattle.crawl_workers.proofs.Outcomes.{continues_same}

-- ## The number of losses

sum_with : (why : Loss) (losses : Losses) (lost : ℕ) → lost ≡ sum_of losses → min (lost + 1) (2 ^ 64 - 1) ≡ sum_of (with_loss why losses)
sum_with why losses lost is = grind arith

-- the sum of losses is their number, up to the greatest u64
number_of : (why : List Loss) (losses : Losses) (lost : ℕ) → lost ≡ sum_of losses → min (lost + length why) (2 ^ 64 - 1) ≡ sum_of (with_losses why losses)
number_of [] losses lost is = is_least (2 ^ 64 - 1) (all_losses losses) lost is
  where
    is_least : (most n lost : ℕ) → lost ≡ min n most → min (lost + 0) most ≡ min n most
    is_least most n lost is = omega (arith, is)
number_of (why ∷ more) losses lost is =
    let first : min (lost + length (why ∷ more)) (2 ^ 64 - 1) ≡ min (min (lost + 1) (2 ^ 64 - 1) + length more) (2 ^ 64 - 1) = omega arith in
    first ∙ number_of more (with_loss why losses) (min (lost + 1) (2 ^ 64 - 1)) (sum_with why losses lost is)

-- ## URLs and links

-- a loss of a URL that was taken, and not of a link
abbrev is_of_url : Loss → Bool
is_of_url loss.Failed = true
is_of_url loss.Unkept = true
is_of_url _ = false

one_url_more : (most a b count : ℕ) →
    (min (a + 1) most + b + count < most → min (a + 1) most + b ≡ a + b + 1)
    × (a + min (b + 1) most + count < most → a + min (b + 1) most ≡ a + b + 1)
    × (a + b ≡ a + b + 0)
one_url_more most a b count = (λ less. omega (arith, less), λ less. omega (arith, less), omega arith)

url_more : (why : Loss) (l : Losses) (count : ℕ) → (with_loss why l).failed + (with_loss why l).unkept + count < 2 ^ 64 - 1
    → (with_loss why l).failed + (with_loss why l).unkept ≡ l.failed + l.unkept + cond (is_of_url why) 1 0
url_more why l count less = grind (arith, one_url_more)

urls_counted : (why : List Loss) (l : Losses) → (with_losses why l).failed + (with_losses why l).unkept < 2 ^ 64 - 1
    → (with_losses why l).failed + (with_losses why l).unkept ≡ l.failed + l.unkept + count_by is_of_url why
urls_counted [] l less = (one_url_more 0 l.failed l.unkept 0).2
urls_counted (why ∷ more) l less = grind (arith, common_steps, url_more, sum_by-cons, urls_counted more)

counted_append : (xs ys : List Loss) → count_by is_of_url (xs ++ ys) ≡ count_by is_of_url xs + count_by is_of_url ys
counted_append xs ys = sum_by-append (λ (x : Loss). cond (is_of_url x) 1 0) xs ys

answers_no_url : (link_results : List LinkResult) → count_by is_of_url (flat_map losses_by link_results) ≡ 0
answers_no_url [] = refl
answers_no_url (a ∷ link_results) = grind (arith, counted_append, answers_no_url link_results)

-- a URL has a result, or counts as lost
one_of_each : (meaning : List ℕ → Page) (url : List ℕ) (outcome : Outcome) → count_by is_of_url (losses_at outcome) + length (found_at meaning url outcome) ≡ 1
one_of_each meaning url failed = refl
one_of_each meaning url (unkept link_results) =
    let none = answers_no_url link_results in
    let cut : count_by is_of_url (losses_at (unkept link_results)) ≡ count_by is_of_url (flat_map losses_by link_results) + 1 = counted_append (flat_map losses_by link_results) (loss.Unkept ∷ []) in
    omega (arith, cut, none)
one_of_each meaning url (kept link_results) = let none = answers_no_url link_results in omega (arith, none)

-- ## Turns

abbrev losses_in : List Turn → List Loss
losses_in turns = flat_map (λ (t : Turn). losses_at t.1) turns

abbrev found_in : (List ℕ → Page) → List Turn → List PageResult
found_in meaning turns = flat_map (λ (t : Turn). found_at meaning t.0.url t.1) turns

turns_counted : (meaning : List ℕ → Page) (turns : List Turn) → count_by is_of_url (losses_in turns) + length (found_in meaning turns) ≡ length turns
turns_counted meaning [] = refl
turns_counted meaning (t ∷ ts) = grind (arith, one_of_each, counted_append, length-append, turns_counted meaning ts)

-- the outcome for a URL, as `Ran` states it
abbrev page_at : (List ℕ → Page) → List ℕ → Outcome → Option Page
page_at meaning url (kept link_results) = Some (meaning url)
page_at meaning url _ = None

abbrev fates_in : (List ℕ → Page) → List Turn → List Fate
fates_in meaning turns = map (λ (t : Turn). (t.0, page_at meaning t.0.url t.1)) turns

taken_same : (meaning : List ℕ → Page) (turns : List Turn) → taken_in (fates_in meaning turns) ≡ entries_in turns
taken_same meaning [] = refl
taken_same meaning (t ∷ ts) = ap (λ (es : List Entry). t.0 ∷ es) (taken_same meaning ts)

results_same : (meaning : List ℕ → Page) (turns : List Turn) → found_in meaning turns ≡ results_of (fates_in meaning turns)
results_same meaning [] = refl
results_same meaning ((e, failed) ∷ ts) = results_same meaning ts
results_same meaning ((e, unkept link_results) ∷ ts) = results_same meaning ts
results_same meaning ((e, kept link_results) ∷ ts) = ap (λ (rs : List PageResult). record { url = e.url; page = meaning e.url } ∷ rs) (results_same meaning ts)

pages_right : (meaning : List ℕ → Page) (turns : List Turn) → All (λ r. r.page ≡ meaning r.url) (found_in meaning turns)
pages_right meaning [] = All-nil (λ (r : PageResult). r.page ≡ meaning r.url)
pages_right meaning ((e, failed) ∷ ts) = pages_right meaning ts
pages_right meaning ((e, unkept link_results) ∷ ts) = pages_right meaning ts
pages_right meaning ((e, kept link_results) ∷ ts) = grind (arith, pages_right meaning ts)

-- a turn loses no more than the links that are allowed, and the URL if it has no result
turn_few : (workers : ℕ) (allowed : List ℕ → Bool) (meaning : List ℕ → Page) (b c : BookId) (e : Entry) (outcome : Outcome) → IsTurn workers allowed meaning b c e outcome
    → length (losses_at outcome) ≤ most_lost_at allowed (links_of (meaning e.url)) (page_at meaning e.url outcome)
turn_few workers allowed meaning b c e outcome turn = grind (arith, answers_few, length-append)

turns_few : (workers : ℕ) (allowed : List ℕ → Bool) (meaning : List ℕ → Page) (b c : BookId) (turns : List Turn) → AreTurns workers allowed meaning b c turns
    → length (losses_in turns) ≤ most_lost allowed meaning (fates_in meaning turns)
turns_few workers allowed meaning b c [] are = omega arith
turns_few workers allowed meaning b c (t ∷ ts) are =
    let one = turn_few workers allowed meaning b are.0 t.0 t.1 are.1 in
    let rest = turns_few workers allowed meaning are.0 c ts are.2 in
    let losses : length (losses_in (t ∷ ts)) ≡ length (losses_at t.1) + length (losses_in ts) = length-append (losses_at t.1) (losses_in ts) in
    let most : most_lost allowed meaning (fates_in meaning (t ∷ ts)) ≡ most_lost_at allowed (links_of (meaning t.0.url)) (page_at meaning t.0.url t.1) + most_lost allowed meaning (fates_in meaning ts) =
    sum_by-cons (λ (f : Fate). most_lost_at allowed (links_of (meaning f.0.url)) f.1) (t.0, page_at meaning t.0.url t.1) (fates_in meaning ts) in
    rw most (omega (arith, one, rest, losses))

turns_grow : (workers : ℕ) (allowed : List ℕ → Bool) (meaning : List ℕ → Page) (b c : BookId) (turns : List Turn) → AreTurns workers allowed meaning b c turns → Grows b c
turns_grow workers allowed meaning b c [] are = grows_same b c are
turns_grow workers allowed meaning b c (t ∷ ts) are = grind (arith, grows_on, turns_grow workers allowed meaning are.0 c ts are.2, continues_same)

-- the links of a turn that loses nothing have lines in the log at its end
turn_logged : (workers : ℕ) (allowed : List ℕ → Bool) (meaning : List ℕ → Page) (b c : BookId) (e : Entry) (outcome : Outcome) → IsTurn workers allowed meaning b c e outcome → length (losses_at outcome) ≡ 0
    → AllLogged workers allowed c.log (links_of (meaning e.url))
turn_logged workers allowed meaning b c e outcome turn none = grind (arith, length-append, answers_logged)

turns_logged : (workers : ℕ) (allowed : List ℕ → Bool) (meaning : List ℕ → Page) (b c : BookId) (turns : List Turn) → AreTurns workers allowed meaning b c turns → length (losses_in turns) ≡ 0
    → All (λ r. AllLogged workers allowed c.log (links_of r.page)) (found_in meaning turns)
turns_logged workers allowed meaning b c [] are none = All-nil (λ (r : PageResult). AllLogged workers allowed c.log (links_of r.page))
turns_logged workers allowed meaning b c (t ∷ ts) are none =
    let both : length (losses_in (t ∷ ts)) ≡ length (losses_at t.1) + length (losses_in ts) = length-append (losses_at t.1) (losses_in ts) in
    let logged = turn_logged workers allowed meaning b are.0 t.0 t.1 are.1 (omega (arith, both, none)) in
    let grown = all_logged_on workers allowed are.0 c (links_of (meaning t.0.url)) (turns_grow workers allowed meaning are.0 c ts are.2) logged in
    All-append (λ (r : PageResult). AllLogged workers allowed c.log (links_of r.page)) (found_at meaning t.0.url t.1) (found_in meaning ts)
    (found_logged t.0.url t.1 grown) (turns_logged workers allowed meaning are.0 c ts are.2 (omega (arith, both, none)))
  where
    found_logged : (url : List ℕ) (outcome : Outcome) → AllLogged workers allowed c.log (links_of (meaning url)) → All (λ (r : PageResult). AllLogged workers allowed c.log (links_of r.page)) (found_at meaning url outcome)
    found_logged url failed is = All-nil (λ (r : PageResult). AllLogged workers allowed c.log (links_of r.page))
    found_logged url (unkept link_results) is = All-nil (λ (r : PageResult). AllLogged workers allowed c.log (links_of r.page))
    found_logged url (kept link_results) is =
        All-cons (λ (r : PageResult). AllLogged workers allowed c.log (links_of r.page)) (record { url = url; page = meaning url }) [] is (All-nil (λ (r : PageResult). AllLogged workers allowed c.log (links_of r.page)))

-- ## An end

pub ran_by : (workers : ℕ) (allowed : List ℕ → Bool) (meaning : List ℕ → Page) (start now : WorkerId) (results : List PageResult) (offers : LinkOffers) (lost : ℕ)
    → lost ≡ sum_of offers.losses → Progress workers allowed meaning start now results offers
    → Ran workers allowed meaning start now results lost × IsTally start now results lost offers.losses × IsAccountedFor workers allowed meaning start now results offers.losses
ran_by workers allowed meaning start now results offers lost sum so_far =
    let accounted = so_far.accounted in
    let summed : lost ≡ min (0 + length (losses_in accounted.turns)) (2 ^ 64 - 1) = sum ∙ ap sum_of accounted.why ∙ sym (number_of (losses_in accounted.turns) no_losses 0 refl) in
    let number : lost ≡ min (length (losses_in accounted.turns)) (2 ^ 64 - 1) = omega (arith, summed) in
    let urls = turns_counted meaning accounted.turns in
    let some = count_by-le-length is_of_url (losses_in accounted.turns) in
    let found : length results ≡ length (found_in meaning accounted.turns) = ap (λ (rs : List PageResult). length rs) accounted.found in
    let taken : length now.taken ≡ length (start.taken ++ entries_in accounted.turns) = ap (λ (es : List Entry). length es) accounted.taken in
    let few = turns_few workers allowed meaning start.book now.book accounted.turns accounted.books in
    let fates : length (fates_in meaning accounted.turns) ≡ length accounted.turns = length-map accounted.turns (λ (t : Turn). (t.0, page_at meaning t.0.url t.1)) in (
      record {
        fates = fates_in meaning accounted.turns;
        queue = so_far.queue;
        taken = accounted.taken ∙ ap (λ (es : List Entry). start.taken ++ es) (sym (taken_same meaning accounted.turns));
        rule = subst (λ (es : List Entry). KeepsRule workers start.queue start.taken es) (sym (taken_same meaning accounted.turns)) so_far.rule;
        found = accounted.found ∙ results_same meaning accounted.turns;
        pages = rw accounted.found (pages_right meaning accounted.turns);
        counted = λ less. omega (arith, number, less, urls, some, found, fates);
        few = omega (arith, number, few);
        grows = turns_grow workers allowed meaning start.book now.book accounted.turns accounted.books;
        links = λ none. rw accounted.found (turns_logged workers allowed meaning start.book now.book accounted.turns accounted.books (omega (arith, number, none)));
      },
      record {
        all = sum;
        urls = λ less.
            let all = with_losses (losses_in accounted.turns) no_losses in
            let counted : all.failed + all.unkept ≡ 0 + 0 + count_by is_of_url (losses_in accounted.turns) = urls_counted (losses_in accounted.turns) no_losses (subst (λ (l : Losses). l.failed + l.unkept < 2 ^ 64 - 1) accounted.why less) in
            let failed : offers.losses.failed ≡ all.failed = ap (λ (l : Losses). l.failed) accounted.why in
            let unkept : offers.losses.unkept ≡ all.unkept = ap (λ (l : Losses). l.unkept) accounted.why in
            let entries : length (entries_in accounted.turns) ≡ length accounted.turns = length-map accounted.turns (λ (t : Turn). t.0) in
            let both = length-append start.taken (entries_in accounted.turns) in
            omega (arith, counted, failed, unkept, urls, found, taken, entries, both);
      },
      accounted,
    )
