use Rattle.std.proofs.Common.{◌≡◌, ◌∙◌, ap, rules, subst, sym}
use Rattle.cry_base.specs.Store.{Store}
use Rattle.folder_nodes.specs.Titles.{tree_store}
use Rattle.store_owner.specs.Deeds.{IsFound}
use Rattle.store_owner.specs.Owned.{OwnerView}
use Rattle.store_owner.proofs.owner.Owner.draft.Goals as goal

pub returns-clause-drafted : goal.returns-clause-drafted
returns-clause-drafted c = record {
  told = search rules;
  same_note = search rules;
  is_skeleton = search rules;
  can_settle = search rules;
  seen_then = search rules;
  fits = search rules;
  text_is = search rules;
  text_room = λ is. c.in-Ok.ensures.room (tree_store c.args.self.now.state.tree c.args.self.now.names) c.requires.found is;
  titles_are = search rules;
}

pub note-note-requires-clause-found : goal.note-note-requires-clause-found
note-note-requires-clause-found c =
    let o : OwnerView = c.args.self.now in
    let tree : c.shape-shape.result.now.tree ≡ o.state.tree = c.shape-shape.ensures ∙ ap (λ (x : OwnerView). x.state.tree) c.self.view_is in
    (o.names, subst (λ (t : Store). IsFound (tree_store t o.names) c.args.asked.now) (sym tree) c.requires.found)
