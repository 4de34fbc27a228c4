use Rattle.std.proofs.Common.{sym, ap, ◌∙◌}
use Rattle.std.specs.Option.{option_map}
use Rattle.record_format.specs.Told.{told_note}
use Rattle.public_fold.proofs.MayChange.{may_change_grants, may_change_tree, root_is, root_leaves, root_needed}
use Rattle.public_fold.proofs.RootAlone.{nothing_granted}
use Rattle.public_fold.proofs.changing.change_store.Goals as goal

pub returns-in-Some-clause-tree : goal.returns-in-Some-clause-tree
returns-in-Some-clause-tree c =
    let note = told_note c.args.note.now in
    let made = root_is note c.in-Some.root.value.tree (sym (ap (option_map (λ b. b.value.tree)) c.in-Some.is) ∙ c.requires.root) in
    (λ i. (c.into_inner.ensures i).tree) ∙ made.1 ∙ (root_leaves c.args.shape.now.tree c.args.grants.now.pairs c.args.grants.now.checks note made.0).0

pub returns-in-Some-clause-pairs : goal.returns-in-Some-clause-pairs
returns-in-Some-clause-pairs c =
    let note = told_note c.args.note.now in
    let made = root_is note c.in-Some.root.value.tree (sym (ap (option_map (λ b. b.value.tree)) c.in-Some.is) ∙ c.requires.root) in
    (nothing_granted c.requires.fits.0 c.args.shape.now.tree c.args.grants.now note c.requires.may_stand made.0 c.requires.fits.1).0
    ∙ (root_leaves c.args.shape.now.tree c.args.grants.now.pairs c.args.grants.now.checks note made.0).1

pub returns-in-Some-clause-checks : goal.returns-in-Some-clause-checks
returns-in-Some-clause-checks c =
    let note = told_note c.args.note.now in
    let made = root_is note c.in-Some.root.value.tree (sym (ap (option_map (λ b. b.value.tree)) c.in-Some.is) ∙ c.requires.root) in
    (nothing_granted c.requires.fits.0 c.args.shape.now.tree c.args.grants.now note c.requires.may_stand made.0 c.requires.fits.1).1
    ∙ (root_leaves c.args.shape.now.tree c.args.grants.now.pairs c.args.grants.now.checks note made.0).2

pub change_shape-requires : goal.change_shape-requires
change_shape-requires c =
    let other = root_needed (told_note c.args.note.now) (sym (ap (option_map (λ b. b.value.tree)) c.in_default.is) ∙ c.requires.root) in record {
      room = c.requires.shape_room;
      can = may_change_tree c.requires.fits.0 c.args.shape.now.tree c.args.grants.now (told_note c.args.note.now) c.requires.fits.1 other;
    }

pub change_grants-requires : goal.change_grants-requires
change_grants-requires c =
    let other = root_needed (told_note c.args.note.now) (sym (ap (option_map (λ b. b.value.tree)) c.in_default.is) ∙ c.requires.root) in record {
      room = c.requires.grants_room;
      can = may_change_grants c.requires.fits.0 c.args.shape.now.tree c.args.grants.now (told_note c.args.note.now) c.requires.fits.1 other;
    }
