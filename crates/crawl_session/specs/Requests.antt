-- What a line asks of a frontier.
use Rattle.std.specs.Prelude.{ℕ, List, codes, if◌then◌else◌, Option, Some, None, ok_or, Result, Ok, Err, option_and_then, option_map, bytes_eq}
use Rattle.crawl_keys.specs.Assignment.{subqueue_of}
use Rattle.crawl_keys.specs.CanonicalText.{canonical, resolve}
use Rattle.crawl_keys.specs.HostFilter.{allows}
use Rattle.crawl_keys.specs.declared.error.KeyError.{KeyError}
use Rattle.crawl_keys.specs.declared.error.KeyError.TheVariants as key
use Rattle.crawl_replay.specs.Numbers.{number_of}
use Rattle.text_lines.specs.Lines.{text_of}
use Rattle.text_lines.specs.Fields.{at_space}
use Rattle.text_lines.specs.declared.lines.LineError.{LineError}
use Rattle.text_lines.specs.declared.lines.LineError.TheVariants.{TooLong, NotText}
use Rattle.crawl_session.specs.declared.request.Request.{Request}
use Rattle.crawl_session.specs.declared.request.Request.TheVariants.{Offer, Next, Again, Later, Done, EndSeeds, Stats, Seen}
use Rattle.crawl_session.specs.declared.request.RequestError.{RequestError}
use Rattle.crawl_session.specs.declared.request.RequestError.TheVariants as wrong

-- the error of a line that has no text, and of a text that has no canonical URL
abbrev pub of_line : LineError → RequestError
of_line (TooLong number) = wrong.LineTooLong
of_line (NotText number) = wrong.NotText

abbrev pub of_key : KeyError → RequestError
of_key key.NotUrl = wrong.NotUrl
of_key key.NotHttp = wrong.NotHttp
of_key key.NoMemory = wrong.NoMemory

-- a canonical URL, if the filter with these suffixes allows it, and the subqueue, of the given number, that its host key is assigned to
abbrev pub allowed : ℕ → List (List ℕ) → List ℕ → Result Request RequestError
allowed workers suffixes url =
    if allows suffixes url then Ok (Offer url (subqueue_of url workers)) else Err wrong.Filtered

-- likewise for a text that may have no canonical URL
abbrev pub offered : ℕ → List (List ℕ) → Result (List ℕ) KeyError → Result Request RequestError
offered workers suffixes (Err refusal) = Err (of_key refusal)
offered workers suffixes (Ok url) = allowed workers suffixes url

-- `offer URL`
abbrev pub offer_of : ℕ → List (List ℕ) → List ℕ → Result Request RequestError
offer_of workers suffixes text = offered workers suffixes (canonical text)

-- `link BASE TEXT`: the offer of the text resolved against the base; a base that has no canonical URL is answered as its offer is
abbrev pub linked : ℕ → List (List ℕ) → List ℕ → Result (List ℕ) KeyError → Result Request RequestError
linked workers suffixes text (Err refusal) = Err (of_key refusal)
linked workers suffixes text (Ok base) = offered workers suffixes (resolve base text)

abbrev pub link_of : ℕ → List (List ℕ) → Option (List ℕ × List ℕ) → Result Request RequestError
link_of workers suffixes None = Err wrong.BadLine
link_of workers suffixes (Some p) = linked workers suffixes p.1 (canonical p.0)

abbrev pub plain_request : List ℕ → Option Request
plain_request word =
    if bytes_eq word (codes "endseeds") then Some EndSeeds
    else if bytes_eq word (codes "stats") then Some (Stats None)
    else None

-- the numbers of `seen Q COUNT`
abbrev pub seen_numbers : List ℕ × List ℕ → Option Request
seen_numbers p = option_and_then (λ queue. option_map (Seen queue) (number_of 64 p.1)) (number_of 32 p.0)

abbrev pub seen_request : Option (List ℕ × List ℕ) → Option Request
seen_request parts = option_and_then seen_numbers parts

-- `next Q`, `again Q`, `later Q`, `done Q`, `stats Q`, `seen Q COUNT`
abbrev pub numbered_request : List ℕ → List ℕ → Option Request
numbered_request word number =
    if bytes_eq word (codes "next") then option_map Next (number_of 32 number)
    else if bytes_eq word (codes "again") then option_map Again (number_of 32 number)
    else if bytes_eq word (codes "later") then option_map Later (number_of 32 number)
    else if bytes_eq word (codes "done") then option_map Done (number_of 32 number)
    else if bytes_eq word (codes "stats") then option_map (λ queue. Stats (Some queue)) (number_of 32 number)
    else if bytes_eq word (codes "seen") then seen_request (at_space number)
    else None

abbrev pub request_from : ℕ → List (List ℕ) → List ℕ → Option (List ℕ × List ℕ) → Result Request RequestError
request_from workers suffixes text None = ok_or (plain_request text) wrong.BadLine
request_from workers suffixes text (Some p) =
    if bytes_eq p.0 (codes "offer") then offer_of workers suffixes p.1
    else if bytes_eq p.0 (codes "link") then link_of workers suffixes (at_space p.1)
    else ok_or (numbered_request p.0 p.1) wrong.BadLine

abbrev pub request_in : ℕ → List (List ℕ) → Result (List ℕ) LineError → Result Request RequestError
request_in workers suffixes (Ok text) = request_from workers suffixes text (at_space text)
request_in workers suffixes (Err line_error) = Err (of_line line_error)

-- what a line requests of a frontier with this number of workers whose filter has these suffixes, or why it requests nothing
abbrev pub request_of : ℕ → List (List ℕ) → List ℕ → Result Request RequestError
request_of workers suffixes line = request_in workers suffixes (text_of 1 line)
