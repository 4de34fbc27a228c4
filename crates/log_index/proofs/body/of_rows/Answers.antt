use Rattle.std.proofs.Common.{◌≡◌, refl, sym, ◌∙◌}
use Rattle.index_format.specs.Plain.{plain_body}
use Rattle.role_graph.specs.Edges.{edges}
use Rattle.role_graph.specs.PublicStore.{public_store}
use Rattle.log_index.proofs.Bodies.{body_is_read, body_is_sound, checkpoint_is_sound, other_contents, other_links}
use Rattle.log_index.proofs.body.of_rows.Goals as goal

pub returns-in_default-2-clause-found : goal.returns-in_default-2-clause-found
returns-in_default-2-clause-found c =
    let v = c.in-Some.state in
    let read = rw c.in-Some.is at c.in_ok-state.ensures in
    let own : edges (public_store c.shape.result.now.tree c.grants.result.now.pairs) ≡ edges (public_store v.tree v.pairs) = rw (c.shape.ensures, c.grants.ensures.pairs) refl in
    let none = rw c.in_default-2.is at c.in_ok-links.ensures in
    other_links c.args.head.now.batch v (plain_body c.args.rows.now) c.as_slice.result.now c.as_slice-2.result.now read (c.as_slice.ensures ∙ c.in_ok-edges.ensures ∙ own) c.as_slice-2.ensures none

pub returns-in_default-3-clause-found : goal.returns-in_default-3-clause-found
returns-in_default-3-clause-found c =
    let v = c.in-Some.state in
    let read = rw c.in-Some.is at c.in_ok-state.ensures in
    let none = rw c.in_default-3.is at c.in_ok-contents.ensures in
    other_contents c.args.head.now.batch v (plain_body c.args.rows.now) c.as_slice-3.result.now c.as_slice-4.result.now read (c.as_slice-3.ensures ∙ c.in_ok-objects.ensures) c.as_slice-4.ensures none

pub returns-clause-found : goal.returns-clause-found
returns-clause-found c =
    let v = c.in-Some.state in
    let b = plain_body c.args.rows.now in
    let batch = c.args.head.now.batch in
    let read = rw c.in-Some.is at c.in_ok-state.ensures in
    let own : edges (public_store c.shape.result.now.tree c.grants.result.now.pairs) ≡ edges (public_store v.tree v.pairs) = rw (c.shape.ensures, c.grants.ensures.pairs) refl in
    let links = rw c.in-Some-2.is at c.in_ok-links.ensures in
    let contents = rw c.in-Some-3.is at c.in_ok-contents.ensures in (
      body_is_sound batch v b c.as_slice.result.now c.as_slice-3.result.now c.requires.rows read (c.as_slice.ensures ∙ c.in_ok-edges.ensures ∙ own) (c.as_slice-3.ensures ∙ c.in_ok-objects.ensures)
          (rw (sym c.as_slice-2.ensures) links.0) (rw (sym c.as_slice-4.ensures) contents.0),
      body_is_read c.args.head.now b _ read refl refl (sym c.as_slice-2.ensures ∙ links.2) (sym c.as_slice-4.ensures ∙ contents.2),
    )

pub returns-clause-in_order : goal.returns-clause-in_order
returns-clause-in_order c =
    let v = c.in-Some.state in
    let own : edges (public_store c.shape.result.now.tree c.grants.result.now.pairs) ≡ edges (public_store v.tree v.pairs) = rw (c.shape.ensures, c.grants.ensures.pairs) refl in
    let links = rw c.in-Some-2.is at c.in_ok-links.ensures in
    let contents = rw c.in-Some-3.is at c.in_ok-contents.ensures in
    checkpoint_is_sound _ c.as_slice.result.now c.as_slice-3.result.now c.requires.first (c.as_slice.ensures ∙ c.in_ok-edges.ensures ∙ own) (c.as_slice-3.ensures ∙ c.in_ok-objects.ensures) links.1 contents.1
