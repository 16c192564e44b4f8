use Rattle.saved_site.proofs.site_reader.SiteReader.new.Goals as goal

pub invariant_of-result : goal.invariant_of-result
invariant_of-result g c = record { taken = λ page is. ∣ c.requires page is ∣₁ }
