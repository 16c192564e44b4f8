use Rattle.crawl_certificate.proofs.Prelude.{◌≡◌, ◌==◌, Bool, true, ◌&&◌, take, if◌then◌else◌, All, Entry, allows, is_in, pointed, MarksOnly}
use Rattle.crawl_certificate.proofs.walk.are_founded.Given as goal

abbrev pub invariant-loop-index : goal.invariant-loop-index
invariant-loop-index l =
    (holds : Entry → Bool) → MarksOnly holds (pointed l.entries) l.marks → All (λ e. (allows l.filter e.url && (if e.hops == 0 then is_in l.seeds e.url else holds e)) ≡ true) (take l.index (pointed l.entries))
