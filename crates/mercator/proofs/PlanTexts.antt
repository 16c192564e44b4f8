-- What a crawl prints; and plans that ask for one text print one.
use Rattle.mercator.proofs.Prelude.{◌≡◌, ℕ, Bool, true, false, not, ◌&&◌, List, [], ◌∷◌, ◌++◌, Option, Some, None, Ok, String, Global, IsErr, IfSome, IsSomeAnd, ◌<◌, ◌≤◌, length, map, string_bytes, refl, sym, ap, subst, ◌∙◌, arith, IsPermutation, lines, result_urls, unreached_of, PageResult, AreCounts, allows, filter_of, is_good, crawl_of, is_bad_suffix, is_input, known_bytes, known_seeds, lists_input, suffixes_of, AreFiles, AskForOneCrawl, AskForOneReport, AskForOneText, FailsCrawl, Gains, IsCrawlOutput, OfFile, OfFiles, AreUnreached, CrawlPlan, pages_to_list, IsBegun, IsCrawlText, IsFound, IsTextOf, IsUnbegun, printed_with, CommandError, Crawled, Plan, same_number_lists}
use Rattle.std.specs.Bool.{if◌then◌else◌}
use Rattle.crawl_replay.specs.Replay.{IsReplay}
use Rattle.crawl_replay.specs.Script.{script_of}
use Rattle.crawl_report.proofs.OneOrder.{one_order}
use Rattle.mercator.specs.Limits.{most_input_bytes}
use Rattle.mercator.specs.declared.commands.error.CommandError.TheVariants as wrong
use Rattle.mercator.specs.declared.commands.planned.Plan.TheVariants as asks
use Rattle.std.proofs.lemmas.Option.{get_or_from_slice_get}
use Rattle.mercator.proofs.SiteCrawls.{one_site_crawl}

-- what is known of a file's bytes holds of them
of_known : (P : List ℕ → Type 0) (known : Option (List ℕ)) (bytes : List ℕ) → known ≡ Some bytes → OfFile known P → P bytes
of_known P known bytes is of = subst P (subst (λ k. IfSome k (λ b. of.bytes ≡ b)) is of.read) of.holds

-- the bytes of the FILE are those of the input
of_input : (P : List ℕ → Type 0) (file bytes : List ℕ) → is_input file ≡ true → OfFile (known_bytes file (Some bytes)) P → P bytes
of_input P file bytes is of = of_known P (known_bytes file (Some bytes)) bytes (ap (λ b. if b then Some bytes else None) is) of

-- a file with replies has a script
pub no_refusal : (known : Option (List ℕ)) (text : List ℕ) → OfFile known (λ bytes. IsReplay bytes text) → IsSomeAnd known (λ bytes. IsErr (script_of bytes)) → ⊥
no_refusal known text of refused = grind (arith, of_known)

-- of the input, and of no file of seeds
of_web : (P : List ℕ → List ℕ → Type 0) (crawl : CrawlPlan) (bytes : List ℕ) → is_input (string_bytes crawl.file) ≡ true → crawl.options.listed ≡ None → OfFiles crawl (Some bytes) P → P bytes []
of_web P crawl bytes is none of = grind (arith, of_known, of_input)

-- of two crawls that find the same pages, and ask for unreached ones or not, these are one list
one_unreached : (known others suffixes : List (List ℕ)) (pages those : List PageResult) (urls other : List (List ℕ)) → known ≡ others → pages ≡ those → AreUnreached known suffixes pages urls → AreUnreached others suffixes those other → urls ≡ other
one_unreached known others suffixes pages those urls other same_known same_pages own their =
    let both : unreached_of (allows suffixes) pages known ≡ unreached_of (allows suffixes) those others = λ i. unreached_of (allows suffixes) (same_pages i) (same_known i) in
    one_order (unreached_of (allows suffixes) those others) urls other (subst (λ us. IsPermutation us urls) both own.same) their.same own.ascends their.ascends

-- URLs have one list of counts
one_count : (workers : ℕ) (urls : List (List ℕ)) (counts others : List ℕ) → AreCounts workers urls counts → AreCounts workers urls others → counts ≡ others
one_count workers urls counts others own its =
    same_number_lists counts others (own.len ∙ sym its.len)
    (λ k within. let few : k < workers = subst (λ n. k < n) own.len within in
    get_or_from_slice_get counts k _ 0 (own.each k few) ∙ sym (get_or_from_slice_get others k _ 0 (its.each k few)))

-- what is printed of the same pages, counts and unreached pages with the same sections
one_print : (crawl other : CrawlPlan) (pages others : List PageResult) (counts their : List ℕ) (urls those : List (List ℕ)) → AskForOneReport crawl other → pages ≡ others → (if crawl.queues then counts else []) ≡ (if other.queues then their else []) → urls ≡ those
    → printed_with crawl pages counts urls ≡ printed_with other others their those
one_print crawl other pages others counts their urls those ask same_pages same_counts same_urls = grind arith

one_text : (crawl other : CrawlPlan) (bytes listed : List ℕ) (texts suffixes : List (List ℕ)) (text its : List ℕ) → AskForOneReport crawl other → crawl.queues ≡ other.queues → (crawl.queues ≡ true → crawl.workers ≡ other.workers)
    → IsCrawlText crawl.workers crawl bytes listed texts suffixes text → IsCrawlText other.workers other bytes listed texts suffixes its → text ≡ its
one_text crawl other bytes listed texts suffixes text its ask queued many own their =
    let pages : own.pages ≡ their.pages = one_site_crawl bytes listed texts suffixes own.pages their.pages own.crawl their.crawl in
    let urls : own.output.unreached ≡ their.output.unreached = one_unreached (pages_to_list crawl.options.sections (lines bytes)) (pages_to_list other.options.sections (lines bytes)) suffixes own.pages their.pages own.output.unreached their.output.unreached (ap (λ sections. pages_to_list sections (lines bytes)) ask.sections) pages own.output.unseen their.output.unseen in
    let counts = one_counts crawl.queues crawl.workers other.workers own.pages their.pages own.counts their.counts many pages own.counted their.counted ∙ ap (λ q. if q then their.counts else []) queued in
    own.output.written ∙ one_print crawl other own.pages their.pages own.counts their.counts own.output.unreached their.output.unreached ask pages counts urls ∙ sym their.output.written
  where
    one_counts : (queues : Bool) (workers others : ℕ) (pages those : List PageResult) (counts other : List ℕ) → (queues ≡ true → workers ≡ others) → pages ≡ those → AreCounts workers (result_urls pages) counts → AreCounts others (result_urls those) other
        → (if queues then counts else []) ≡ (if queues then other else [])
    one_counts false workers others pages those counts other many same own their = refl
    one_counts true workers others pages those counts other many same own their =
        one_count others (result_urls those) counts other (subst (λ n. AreCounts n (result_urls those) counts) (many refl) (subst (λ p. AreCounts workers (result_urls p) counts) same own)) their

-- what such crawls print of the same bytes
one_crawl : (crawl other : CrawlPlan) (bytes text its : List ℕ) → AskForOneCrawl crawl other → IsCrawlOutput crawl (Some bytes) text → IsCrawlOutput other (Some bytes) its → text ≡ its
one_crawl crawl other bytes text its ask own their =
    let (own_input, other_input, own_none, other_none, seeded, filtered, sections, queued, many) = ask in
    let texts = map string_bytes crawl.seeds.items in
    let suffixes = suffixes_of crawl.options.within in
    let first : IsCrawlText crawl.workers crawl bytes [] texts suffixes text = (of_web (λ b l. IsBegun b l texts × IsCrawlText crawl.workers crawl b l texts suffixes text) crawl bytes own_input own_none own.1).1 in
    let plain = (of_web (λ b l. IsBegun b l (map string_bytes other.seeds.items) × IsCrawlText other.workers other b l (map string_bytes other.seeds.items) (suffixes_of other.options.within) its) other bytes other_input other_none their.1).1 in
    let same_seeds = subst (λ t. IsCrawlText other.workers other bytes [] t (suffixes_of other.options.within) its) (sym seeded) plain in
    let second : IsCrawlText other.workers other bytes [] texts suffixes its = subst (λ s. IsCrawlText other.workers other bytes [] texts s its) (sym filtered) same_seeds in
    one_text crawl other bytes [] texts suffixes text its sections queued many first second

pub one_output : (plan other : Plan) (bytes before after its : List ℕ) → AskForOneText plan other → Gains plan (Some bytes) (Some before) (Some after) → Gains other (Some bytes) (Some before) (Some its) → after ≡ its
one_output (asks.Crawl workers max queues file seeds options) (asks.Crawl others most counts from those settings) bytes before after its ask own their =
    own.gained ∙ ap (λ t. before ++ t) (one_crawl (crawl_of workers max queues file seeds options) (crawl_of others most counts from those settings) bytes own.text their.text ask own.output their.output) ∙ sym their.gained
one_output plan other_plan bytes before after its ask own other = absurd ask

-- the filter of a crawl is that of its suffix, which is good
single : (suffix : List ℕ) (bad : Bool) (filter : List (List ℕ)) → not (is_good suffix) ≡ bad → filter_of (suffix ∷ []) ≡ Ok filter → (bad ≡ false) × (filter ≡ suffix ∷ [])
single suffix bad filter e is = grind arith

pub filter_is : (within : Option (String Global)) (filter : List (List ℕ)) → filter_of (suffixes_of within) ≡ Ok filter → (is_bad_suffix within ≡ false) × (filter ≡ suffixes_of within)
filter_is within filter is = grind (arith, single)

-- if the suffix is good, only a file that is the input reads the input
pub reads_neither : (bad any : Bool) → bad ≡ false → (not bad && any) ≡ false → any ≡ false
reads_neither bad any good unread = grind arith

-- by whether FILE and the file of seeds are the input
by_name : (own its : Bool) (before after : Option (List ℕ)) (bytes : List ℕ) → (own && its) ≡ false → (own ≡ false → after ≡ before)
    → IfSome (if its then after else None) (λ known. bytes ≡ known) → IfSome (if its then before else None) (λ known. bytes ≡ known)
by_name own its before after bytes one same known = grind arith

-- what is known of the file of seeds once FILE was read was known before: not both are the input
pub still_known : (file : List ℕ) (listed : Option (String Global)) (before after : Option (List ℕ)) (bytes : List ℕ) → (is_input file && lists_input listed) ≡ false → (is_input file ≡ false → after ≡ before)
    → IfSome (known_seeds listed after) (λ known. bytes ≡ known) → IfSome (known_seeds listed before) (λ known. bytes ≡ known)
still_known file listed before after bytes one same known = grind (arith, by_name)

-- the two files of a crawl, as they were read, one after the other
pub are_read : (crawl : CrawlPlan) (input after : Option (List ℕ)) (bytes list : List ℕ) → (is_input (string_bytes crawl.file) && lists_input crawl.options.listed) ≡ false
    → IfSome (known_bytes (string_bytes crawl.file) input) (λ known. bytes ≡ known) → length bytes ≤ most_input_bytes → (is_input (string_bytes crawl.file) ≡ false → after ≡ input)
    → IfSome (known_seeds crawl.options.listed after) (λ known. list ≡ known) → length list ≤ most_input_bytes → AreFiles crawl input bytes list
are_read crawl input after bytes list one read few same seeds short = grind (arith, still_known)

-- what holds of the bytes that were read holds of some that the files can have
of_files : (crawl : CrawlPlan) (input : Option (List ℕ)) (bytes list : List ℕ) (P : List ℕ → List ℕ → Type 0) → AreFiles crawl input bytes list → P bytes list → OfFiles crawl input P
of_files crawl input bytes list P are holds = grind arith

-- what is printed of what was found in these files, by this filter, is the text of the plan's crawl
pub output_of : (crawl : CrawlPlan) (input : Option (List ℕ)) (bytes list : List ℕ) (filter known : List (List ℕ)) (found : Crawled) (text : List ℕ) → (is_bad_suffix crawl.options.within ≡ false) × (filter ≡ suffixes_of crawl.options.within) → AreFiles crawl input bytes list
    → IsBegun bytes list (map string_bytes crawl.seeds.items) → IsFound crawl.workers bytes list (map string_bytes crawl.seeds.items) filter found → known ≡ pages_to_list crawl.options.sections (lines bytes) → IsTextOf crawl known filter found.result found.counts.items text
    → IsCrawlOutput crawl input text
output_of crawl input bytes list filter known found text suffix are begun own same written = grind (arith, of_files)

-- why nothing is found of the plan's files
fails : (crawl : CrawlPlan) (input : Option (List ℕ)) (error : CommandError) → is_bad_suffix crawl.options.within ≡ false
    → OfFiles crawl input (λ bytes list. IsUnbegun crawl.workers crawl.max bytes list (map string_bytes crawl.seeds.items) (suffixes_of crawl.options.within) error) → FailsCrawl crawl input error
fails crawl input error good of = grind arith

-- and of these files
pub fails_in_files : (crawl : CrawlPlan) (input : Option (List ℕ)) (bytes list : List ℕ) (filter : List (List ℕ)) (error : CommandError) → (is_bad_suffix crawl.options.within ≡ false) × (filter ≡ suffixes_of crawl.options.within) → AreFiles crawl input bytes list
    → IsUnbegun crawl.workers crawl.max bytes list (map string_bytes crawl.seeds.items) filter error → FailsCrawl crawl input error
fails_in_files crawl input bytes list filter error suffix are unbegun = grind (arith, fails, of_files)
