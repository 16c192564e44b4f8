use Rattle.saved_site.proofs.Prelude.{◌≡◌, ℕ, List, ◌++◌, Option, arith, ap, subst, take, take_all, ◌∙◌, Appends, append_known, web_bytes}
use Rattle.std.proofs.KnownBytes.{Appends-trans}
use Rattle.saved_site.proofs.WebTexts.{bytes_more, room_ended}
use Rattle.saved_site.proofs.web_text.WebText.write.Goals as goal

pub pages-preserved : goal.pages-preserved
pages-preserved g c =
    let pages = c.deref-page-items.result.now in
    let i = c.pages.page-index in
    let old : Option (List ℕ) = g.O.Write.contents c.args.out.now in
    let before : Option (List ℕ) = append_known (g.O.Write.contents c.pages.out) c.pages.room.items in
    let after : Option (List ℕ) = append_known (g.O.Write.contents c.push_text.new.out) c.push_text.new.room.items in
    let same = ap (λ (t : List ℕ). web_bytes (take i pages) ++ t) c.as_bytes.ensures ∙ bytes_more pages i c.page-item.result c.pages-test.true c.page-item.is in
    subst (λ (t : List ℕ). Appends old after t) same (Appends-trans old before after _ _ c.pages.invariant c.in_ok-push_text.ensures)

pub returns : goal.returns
returns g c =
    let pages = c.deref-page-items.result.now in
    let old : Option (List ℕ) = g.O.Write.contents c.args.out.now in
    let new : Option (List ℕ) = g.O.Write.contents c.write_all.new.self in
    let all : take c.pages.page-index pages ≡ pages = take_all c.pages.page-index pages (omega (arith, c.pages-test.false)) in
    let same = ap web_bytes (all ∙ c.deref-page-items.ensures.value) ∙ c.self.view_is in
    let last = subst (λ (t : List ℕ). Appends (g.O.Write.contents c.pages.out) new t) c.as_slice.ensures.value c.in_ok-write_all.ensures.bytes in
    subst (λ (t : List ℕ). Appends old new t) same (room_ended old (g.O.Write.contents c.pages.out) new c.pages.room.items (web_bytes (take c.pages.page-index pages)) c.pages.invariant last)
