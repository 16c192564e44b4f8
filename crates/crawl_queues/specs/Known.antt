-- What contracts see of a seat of a list.
use Rattle.std.specs.Prelude.{List}
use Rattle.atomic_table.specs.Seated.{TableId}
use Rattle.crawl_queues.specs.declared.entry.Entry.{Entry}

-- the list's identity, and what is known of the list
pub record KnownList : Type 0 where
  pub list : TableId
  pub items : List Entry

abbrev pub owner_of : TableId → List Entry → KnownList
owner_of list items = record { list = list; items = items }

abbrev pub begins_with : TableId → List Entry → KnownList
begins_with list items = record { list = list; items = items }
