-- What is read of a body's rows.
use Rattle.std.proofs.Common.{◌≡◌, ◌≤◌, ℕ, List, map, refl, sym, ap, subst, ◌∙◌}
use Rattle.std.specs.List.{AllZip}
use Rattle.cry_base.specs.declared.roles.Edge.{Edge}
use Rattle.index_format.specs.Plain.{IndexBody, PlainState}
use Rattle.index_format.specs.Writable.{IsWritableBody}
use Rattle.index_format.specs.declared.head.IndexHead.{IndexHead}
use Rattle.index_format.specs.declared.rows.ContentRow.{ContentRow}
use Rattle.index_format.specs.declared.rows.LinkRow.{LinkRow}
use Rattle.log_index.specs.Objects.{objects_of}
use Rattle.log_index.specs.Plain.{plain_of}
use Rattle.log_index.specs.Sound.{IsReadAs, IsSoundBody, IsSoundCheckpoint}
use Rattle.log_index.specs.Spots.{IsRowOfEdge, IsRowOfObject, IsSpotOfEdge, IsSpotOfObject, content_row_of, link_row_of}
use Rattle.log_index.specs.declared.checkpoint.Checkpoint.{Checkpoint}
use Rattle.log_index.specs.declared.objects.Object.{Object}
use Rattle.move_plan.proofs.Seeing.{edges_seen}
use Rattle.public_fold.specs.Standing.{PublicView, public_store_of}
use Rattle.public_fold.specs.States.{IsReadFrom, state_store}
use Rattle.role_graph.specs.Edges.{edges}
use Rattle.role_graph.specs.PublicStore.{public_store}

same_store : (v : PublicView) (s : PlainState) → IsReadFrom v s → public_store_of v ≡ state_store s
same_store v s read = rw (read.tree, read.checks, read.pairs) refl

-- the edges that a state lists
own_edges : (v : PublicView) (es : List Edge) → es ≡ edges (public_store v.tree v.pairs) → es ≡ edges (public_store_of v)
own_edges v es e = e ∙ edges_seen v.tree (record { checks = v.checks; pairs = v.pairs; spare = 0 })

pub edges_read : (v : PublicView) (s : PlainState) (es : List Edge) → IsReadFrom v s → es ≡ edges (public_store v.tree v.pairs) → es ≡ edges (state_store s)
edges_read v s es read e = own_edges v es e ∙ ap edges (same_store v s read)

pub objects_read : (v : PublicView) (s : PlainState) (os : List Object) → IsReadFrom v s → os ≡ objects_of (public_store_of v) → os ≡ objects_of (state_store s)
objects_read v s os read e = e ∙ ap objects_of (same_store v s read)

-- no body is sound whose rows are no rows of its edges, or of its objects
pub other_links : (batch : ℕ) (v : PublicView) (b : IndexBody) (es : List Edge) (rows : List LinkRow) → IsReadFrom v b.state → es ≡ edges (public_store v.tree v.pairs) → rows ≡ b.links
    → (AllZip (IsRowOfEdge batch) es rows → ⊥) → IsSoundBody batch b → ⊥
other_links batch v b es rows read e same none is_sound = none (rw (edges_read v b.state es read e, same) is_sound.links)

pub other_contents : (batch : ℕ) (v : PublicView) (b : IndexBody) (os : List Object) (rows : List ContentRow) → IsReadFrom v b.state → os ≡ objects_of (public_store_of v) → rows ≡ b.contents
    → (AllZip (IsRowOfObject batch) os rows → ⊥) → IsSoundBody batch b → ⊥
other_contents batch v b os rows read e same none is_sound = none (rw (objects_read v b.state os read e, same) is_sound.contents)

pub body_is_sound : (batch : ℕ) (v : PublicView) (b : IndexBody) (es : List Edge) (os : List Object) → IsWritableBody b → IsReadFrom v b.state
    → es ≡ edges (public_store v.tree v.pairs) → os ≡ objects_of (public_store_of v) → AllZip (IsRowOfEdge batch) es b.links → AllZip (IsRowOfObject batch) os b.contents → IsSoundBody batch b
body_is_sound batch v b es os fits read e o links contents = record {
  writable = fits;
  state = read.sound;
  links = subst (λ (l : List Edge). AllZip (IsRowOfEdge batch) l b.links) (edges_read v b.state es read e) links;
  contents = subst (λ (l : List Object). AllZip (IsRowOfObject batch) l b.contents) (objects_read v b.state os read o) contents;
}

pub body_is_read : (head : IndexHead) (b : IndexBody) (c : Checkpoint) → IsReadFrom c.state b.state → c.batch ≡ head.batch → c.tag ≡ head.tag
    → b.links ≡ map link_row_of c.links.items → b.contents ≡ map content_row_of c.contents.items → IsReadAs (plain_of head b) c
body_is_read head b c read batch tag links contents = record {
  spells = record { batch = sym batch; tag = sym tag; body = record { state = read.spells; links = links; contents = contents } };
  state = read;
}

pub checkpoint_is_sound : (c : Checkpoint) (es : List Edge) (os : List Object) → 1 ≤ c.batch → es ≡ edges (public_store c.state.tree c.state.pairs) → os ≡ objects_of (public_store_of c.state)
    → AllZip (IsSpotOfEdge c.batch) es c.links.items → AllZip (IsSpotOfObject c.batch) os c.contents.items → IsSoundCheckpoint c
checkpoint_is_sound c es os first e o links contents = record {
  first = first;
  links = subst (λ (l : List Edge). AllZip (IsSpotOfEdge c.batch) l c.links.items) (own_edges c.state es e) links;
  contents = subst (λ (l : List Object). AllZip (IsSpotOfObject c.batch) l c.contents.items) o contents;
}
