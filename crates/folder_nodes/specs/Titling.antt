-- Rows of names, and what contracts see of them.
use Rattle.std.specs.Prelude.{◌≡◌, ℕ, List}
use Rattle.cry_base.specs.Sets.{In}
use Rattle.folder_nodes.specs.Digests.{name_digest}
use Rattle.folder_nodes.specs.Titles.{Title, MayBeNamed}
use Rattle.folder_nodes.specs.declared.titles.NameRow.{NameRow}

-- titles by number, and how many changes have their memory
pub record Booked : Type 0 where
  pub titles : List Title
  pub spare : ℕ

-- the row's number, and the bytes of its texts
abbrev pub title_of_row : NameRow → Title
title_of_row row = record { id = row.id; name = row.name.items; bytes = row.bytes.items }

-- the row has a name, or the root's, and the number that it is looked up by
abbrev pub IsNamed : NameRow → Type 0
IsNamed row = MayBeNamed row.name.items × (row.digest ≡ name_digest row.name.items)

-- all rows are so
abbrev pub AreNamed : List NameRow → Type 0
AreNamed rows = (r : NameRow) → In r rows → IsNamed r
