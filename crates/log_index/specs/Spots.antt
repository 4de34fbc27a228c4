-- Where records stand. This project's own, docs/FORMAT.md, "The checkpoint".
use Rattle.std.specs.Prelude.{◌≡◌, ◌≤◌, ℕ}
use Rattle.cry_base.specs.declared.roles.Edge.{Edge}
use Rattle.index_format.specs.declared.rows.ContentRow.{ContentRow}
use Rattle.index_format.specs.declared.rows.LinkRow.{LinkRow}
use Rattle.log_index.specs.declared.objects.Object.{Object}
use Rattle.log_index.specs.declared.spots.ContentSpot.{ContentSpot}
use Rattle.log_index.specs.declared.spots.LinkSpot.{LinkSpot}
use Rattle.role_graph.specs.Roles.{role_id}

-- the row is of the edge, or of the folder, file or holder, and names a batch from 1 up to the last one

pub record IsRowOfEdge (last : ℕ) (e : Edge) (r : LinkRow) : Type 0 where
  pub kind : r.kind ≡ e.kind
  pub from_id : r.from_id ≡ role_id e.from
  pub to_id : r.to_id ≡ role_id e.to
  pub from_first : 1 ≤ r.batch
  pub to_last : r.batch ≤ last

pub record IsRowOfObject (last : ℕ) (o : Object) (r : ContentRow) : Type 0 where
  pub kind : r.kind ≡ o.kind
  pub object : r.object ≡ o.number
  pub from_first : 1 ≤ r.batch
  pub to_last : r.batch ≤ last

-- so is the spot

pub record IsSpotOfEdge (last : ℕ) (e : Edge) (s : LinkSpot) : Type 0 where
  pub edge : s.edge ≡ e
  pub from_first : 1 ≤ s.batch
  pub to_last : s.batch ≤ last

pub record IsSpotOfObject (last : ℕ) (o : Object) (s : ContentSpot) : Type 0 where
  pub kind : s.kind ≡ o.kind
  pub object : s.object ≡ o.number
  pub from_first : 1 ≤ s.batch
  pub to_last : s.batch ≤ last

-- the row that spells a spot

abbrev pub link_row_of : LinkSpot → LinkRow
link_row_of s = record {
  kind = s.edge.kind;
  from_id = role_id s.edge.from;
  to_id = role_id s.edge.to;
  batch = s.batch;
  index = s.index;
}

abbrev pub content_row_of : ContentSpot → ContentRow
content_row_of s = record { kind = s.kind; object = s.object; batch = s.batch; index = s.index }
