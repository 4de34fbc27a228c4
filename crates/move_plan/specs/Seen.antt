-- What a shape and grants tell of a store, and the change of a note as numbers. This project's own, docs/FORMAT.md, "The key step".
use Rattle.std.specs.Prelude.{ℕ, [], map, length}
use Rattle.std.specs.List.{range_with_len}
use Rattle.cry_base.specs.Store.{Store, HolderEntry}
use Rattle.grant_book.specs.Granted.{Granted}
use Rattle.role_graph.specs.PublicStore.{public_store}
use Rattle.move_plan.specs.Change.{Change}
use Rattle.move_plan.specs.declared.change.Change.{Change as Declared}
use Rattle.move_plan.specs.declared.row.Row.{Row}

-- a holder whose key isn't told
abbrev pub keyless : ℕ → HolderEntry
keyless h = record { number = h; key = [] }

-- the store as everyone may see it: the tree without names and bytes, the grants, and the holders ever made by number
abbrev pub seen_store : Store → Granted → Store
seen_store tree granted = record (public_store tree granted.pairs) {
  holders = map keyless (range_with_len 1 (length granted.checks));
  holders_made = length granted.checks;
}

-- a change as the definitions have it: what stands in its lists
abbrev pub plain_change : Declared → Change
plain_change c = record {
  removed = c.removed.items;
  gone = c.gone.items;
  wanted = c.wanted;
  strict = c.strict.items;
  fresh = c.fresh;
  added = c.added.items;
  version = c.version;
}

-- a note's row as the definitions have it: a change without strict roles
abbrev pub plain_row : Row → Change
plain_row r = record {
  removed = r.removed.items;
  gone = r.gone.items;
  wanted = r.wanted;
  strict = [];
  fresh = r.fresh;
  added = r.added.items;
  version = r.version;
}
