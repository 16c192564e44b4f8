-- Crawls over pages that are the same for each URL that is reached.
use Rattle.crawl_certificate.proofs.Prelude.{◌≡◌, ℕ, Bool, List, [], ◌∷◌, ◌++◌, refl, sym, subst, ◌∙◌, All-contains, All-contains_itself, All-weaker, Contains, Page, PageResult, links_of, result_urls, IsCrawl}
use Rattle.std.specs.Prelude.{IsTrue}
use Rattle.crawl_certificate.specs.Reachable.{AgreeOnReached, Continues, IsWalk, Reachable}
use Rattle.crawl_certificate.proofs.Certified.{in_map}

-- ---- one URL further

goes_further : (page : List ℕ → Page) (allowed : List ℕ → Bool) (url : List ℕ) (rest : List (List ℕ)) (end next : List ℕ) → Continues page allowed url rest end → Contains (links_of (page end)) next → IsTrue (allowed next) → Continues page allowed url (rest ++ next ∷ []) next
goes_further page allowed url [] end next goes link allow = (subst (λ u. Contains (links_of (page u)) next) (sym goes) link, allow, refl)
goes_further page allowed url (one ∷ rest) end next goes link allow = (goes.0, goes.1, goes_further page allowed one rest end next goes.2 link allow)

walk_further : (page : List ℕ → Page) (allowed : List ℕ → Bool) (seeds walk : List (List ℕ)) (end next : List ℕ) → IsWalk page allowed seeds walk end → Contains (links_of (page end)) next → IsTrue (allowed next) → Reachable page allowed seeds next
walk_further page allowed seeds [] end next leads link allow = absurd leads
walk_further page allowed seeds (first ∷ rest) end next leads link allow = record {
  walk = first ∷ (rest ++ next ∷ []);
  leads = (leads.0, leads.1, goes_further page allowed first rest end next leads.2 link allow);
}

reach_next : (page : List ℕ → Page) (allowed : List ℕ → Bool) (seeds : List (List ℕ)) (url next : List ℕ) → Reachable page allowed seeds url → Contains (links_of (page url)) next → IsTrue (allowed next) → Reachable page allowed seeds next
reach_next page allowed seeds url next reach link allow = walk_further page allowed seeds reach.walk url next reach.leads link allow

reach_seed : (page : List ℕ → Page) (allowed : List ℕ → Bool) (seeds : List (List ℕ)) (url : List ℕ) → Contains seeds url → IsTrue (allowed url) → Reachable page allowed seeds url
reach_seed page allowed seeds url seed allow = record { walk = url ∷ []; leads = (seed, allow, refl) }

-- ---- the same walks

goes_there : (page other : List ℕ → Page) (allowed : List ℕ → Bool) (seeds : List (List ℕ)) → AgreeOnReached page other allowed seeds → (url : List ℕ) → Reachable page allowed seeds url → (rest : List (List ℕ)) (end : List ℕ) → Continues page allowed url rest end → Continues other allowed url rest end
goes_there page other allowed seeds agree url reach [] end goes = goes
goes_there page other allowed seeds agree url reach (next ∷ rest) end goes = (
  subst (λ p. Contains (links_of p) next) (sym (agree url reach)) goes.0,
  goes.1,
  goes_there page other allowed seeds agree next (reach_next page allowed seeds url next reach goes.0 goes.1) rest end goes.2,
)

goes_back : (page other : List ℕ → Page) (allowed : List ℕ → Bool) (seeds : List (List ℕ)) → AgreeOnReached page other allowed seeds → (url : List ℕ) → Reachable page allowed seeds url → (rest : List (List ℕ)) (end : List ℕ) → Continues other allowed url rest end → Continues page allowed url rest end
goes_back page other allowed seeds agree url reach [] end goes = goes
goes_back page other allowed seeds agree url reach (next ∷ rest) end goes =
    let link = subst (λ p. Contains (links_of p) next) (agree url reach) goes.0 in (
      link,
      goes.1,
      goes_back page other allowed seeds agree next (reach_next page allowed seeds url next reach link goes.1) rest end goes.2,
    )

walks_there : (page other : List ℕ → Page) (allowed : List ℕ → Bool) (seeds : List (List ℕ)) → AgreeOnReached page other allowed seeds → (walk : List (List ℕ)) (end : List ℕ) → IsWalk page allowed seeds walk end → IsWalk other allowed seeds walk end
walks_there page other allowed seeds agree [] end leads = leads
walks_there page other allowed seeds agree (first ∷ rest) end leads = (
  leads.0,
  leads.1,
  goes_there page other allowed seeds agree first (reach_seed page allowed seeds first leads.0 leads.1) rest end leads.2,
)

walks_back : (page other : List ℕ → Page) (allowed : List ℕ → Bool) (seeds : List (List ℕ)) → AgreeOnReached page other allowed seeds → (walk : List (List ℕ)) (end : List ℕ) → IsWalk other allowed seeds walk end → IsWalk page allowed seeds walk end
walks_back page other allowed seeds agree [] end leads = leads
walks_back page other allowed seeds agree (first ∷ rest) end leads = (
  leads.0,
  leads.1,
  goes_back page other allowed seeds agree first (reach_seed page allowed seeds first leads.0 leads.1) rest end leads.2,
)

-- ---- the same crawl

pub same_crawl : (page other : List ℕ → Page) (allowed : List ℕ → Bool) (seeds : List (List ℕ)) (pages : List PageResult) → AgreeOnReached page other allowed seeds → IsCrawl page allowed seeds pages → IsCrawl other allowed seeds pages
same_crawl page other allowed seeds pages agree own = record {
  ascends = own.ascends;
  means =
      All-weaker (Contains pages) (λ (r : PageResult). r.page ≡ other r.url)
      (λ r has.
      let reach = (own.reached r.url).0 (in_map (λ (x : PageResult). x.url) pages r has) in
      All-contains (λ (x : PageResult). x.page ≡ page x.url) pages r own.means has ∙ sym (agree r.url reach))
      pages (All-contains_itself pages);
  reached = λ url. (
    λ has.
        let reach = (own.reached url).0 has in
        record { walk = reach.walk; leads = walks_there page other allowed seeds agree reach.walk url reach.leads },
    λ reach. (own.reached url).1 (record { walk = reach.walk; leads = walks_back page other allowed seeds agree reach.walk url reach.leads }),
  );
}
