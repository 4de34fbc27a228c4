use Rattle.std.proofs.Common.{subst}
use Rattle.cry_base.specs.Sets.{In}
use Rattle.cry_base.specs.Store.{GrantEntry}
use Rattle.folder_nodes.specs.Trees.{IsTree}
use Rattle.grant_book.specs.Granted.{AreOrdered, IsHolder}
use Rattle.index_format.specs.Plain.{plain_state}
use Rattle.role_graph.specs.Ascending.{IsAscending}
use Rattle.public_fold.specs.Standing.{PublicView}
use Rattle.public_fold.proofs.HeldRows.{rows_sound}
use Rattle.public_fold.proofs.state.PublicState.to_rows.Goals as goal

pub returns-clause-sound : goal.returns-clause-sound
returns-clause-sound c =
    let view = c.self.view_is in
    λ at links seen holds folded few.
    rows_sound c.args.self.now (plain_state c.in_ok-rows.rows) at links c.in_ok-rows.ensures.0 c.in_ok-rows.ensures.1
    (subst (λ (v : PublicView). IsTree v.tree) view c.is_tree.ensures)
    (subst (λ (v : PublicView). AreOrdered v.pairs) view c.pairs-pairs.ensures.ordered)
    (subst (λ (v : PublicView). (e : GrantEntry) → In e v.pairs → IsHolder v.checks e.holder) view c.pairs-pairs.ensures.made)
    (subst (λ (v : PublicView). IsAscending v.keys.dirty) view c.as_slice-marks.ensures.ascending)
    seen holds folded few
