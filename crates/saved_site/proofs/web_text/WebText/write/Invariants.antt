use Rattle.saved_site.proofs.Prelude.{take, Appends, append_known, web_bytes}
use Rattle.saved_site.proofs.web_text.WebText.write.Given as goal

abbrev pub invariant-pages : goal.invariant-pages
invariant-pages g l =
    Appends (g.O.Write.contents l.fn.out) (append_known (g.O.Write.contents l.out) l.room.items) (web_bytes (take l.page-index l.page-items))
