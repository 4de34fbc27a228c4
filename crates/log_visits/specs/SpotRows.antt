-- A table of spots: what stands in its rows, and where a head is found.
use Rattle.std.specs.Prelude.{ℕ, Bool, true, false, Option, None, Some, cond, get_or}
use Rattle.std.specs.HashMap.{get}
use Rattle.log_visits.specs.declared.spot_table.RecordSpot.{RecordSpot}
use Rattle.log_visits.specs.declared.spot_table.SpotTable.{SpotTable}

-- the spot in a head's row, where the row is that head's, and else the one that stands elsewhere
abbrev pub spot_in : {H : Type 0} → (H → H → Bool) → H → Option (H × RecordSpot) → Option RecordSpot → Option RecordSpot
spot_in same head None other = other
spot_in same head (Some row) other = cond (same row.0 head) (Some row.1) other

-- the spot of a head, by its row's number. Past the last row it stands elsewhere
abbrev pub spot_of : {H : Type 0} → (H → H → Bool) → (H → ℕ → ℕ) → SpotTable H → H → Option RecordSpot
spot_of same row_of t head = spot_in same head (get_or t.rows.items (row_of head t.files_from) None) (get same t.others head)

-- the row is there, and no other head has it
abbrev pub is_free : {H : Type 0} → (H → H → Bool) → H → Option (Option (H × RecordSpot)) → Bool
is_free same head None = false
is_free same head (Some None) = true
is_free same head (Some (Some row)) = same row.0 head
