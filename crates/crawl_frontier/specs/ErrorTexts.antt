-- The text that `{}` prints for each error.
use Rattle.std.specs.Prelude.{ℕ, List, codes}
use Rattle.crawl_frontier.specs.declared.error.FrontierError.{FrontierError}
use Rattle.crawl_frontier.specs.declared.error.FrontierError.TheVariants.{BadWorkers, BadLimit, NoMemory}
use Rattle.crawl_frontier.specs.declared.error.OfferError.{OfferError}
use Rattle.crawl_frontier.specs.declared.error.OfferError.TheVariants as offer
use Rattle.crawl_frontier.specs.declared.error.FinishError.{FinishError}
use Rattle.crawl_frontier.specs.declared.error.FinishError.TheVariants as finish

-- what each error prints
abbrev pub frontier_error_text : FrontierError → List ℕ
frontier_error_text BadWorkers = codes "workers not from 1 to 512"
frontier_error_text BadLimit = codes "maximum not from 1 to 2^40"
frontier_error_text NoMemory = codes "out of memory"

abbrev pub offer_error_text : OfferError → List ℕ
offer_error_text offer.Filtered = codes "not allowed by the filter"
offer_error_text offer.Closed = codes "gate closed"
offer_error_text offer.Full = codes "as many URLs pending as allowed"
offer_error_text (offer.Crossed own found) = codes "another sender has this id"
offer_error_text offer.TooFar = codes "more hops than an entry holds"
offer_error_text offer.NoMemory = codes "out of memory"

abbrev pub finish_error_text : FinishError → List ℕ
finish_error_text finish.MissingPart = codes "a worker or a sender is missing"
finish_error_text (finish.Unsettled word) = codes "gate not closed"
finish_error_text (finish.Disagree q) = codes "logs and entries of a subqueue differ"
finish_error_text finish.NoMemory = codes "out of memory"
