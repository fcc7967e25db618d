-- Which items of a capture each core is offered.
use Rattle.std.specs.Prelude.{ℕ, ◌==◌, Bool, true, List, [], ◌∷◌, ◌++◌, map, filter}
use Rattle.zy_capture.specs.declared.record.Record.{Record}
use Rattle.zy_capture.specs.declared.record.Record.TheVariants as Kinds
use Rattle.zy_rx.specs.declared.rx.Rx.{Rx}
use Rattle.zy_rx.specs.declared.rx.Rx.TheVariants.{Segment, Close, End}
use Rattle.zy_rx.specs.Flow.{home_of}

-- the item that offers a record
abbrev pub offered_item : Record → Rx
offered_item (Kinds.Segment s) = Segment s.conn s.bytes
offered_item (Kinds.Close conn) = Close conn

-- an item is for this one of `cores` cores: the core is the home of the item's connection
abbrev pub is_for : ℕ → ℕ → Rx → Bool
is_for cores core (Segment conn bytes) = home_of cores conn == core
is_for cores core (Close conn) = home_of cores conn == core
is_for cores core End = true

-- the items of records that are for a core, in the order of the records
abbrev pub items_for : ℕ → ℕ → List Record → List Rx
items_for cores core records = filter (is_for cores core) (map offered_item records)

-- all that a core is offered: the items of records that are for it, followed by the end
abbrev pub offered_to : ℕ → ℕ → List Record → List Rx
offered_to cores core records = items_for cores core records ++ End ∷ []
