use Rattle.std.proofs.Common.{sym, ◌∙◌, subst}
use Rattle.std.proofs.lemmas.Bool.{false≢true}
use Rattle.index_format.specs.Plain.{plain_state}
use Rattle.role_graph.specs.PublicStore.{FoldersBelow}
use Rattle.public_fold.specs.States.{tree_of}
use Rattle.public_fold.proofs.SoundParts.{granted_on, tree_below}
use Rattle.public_fold.proofs.state.PublicState.of_rows.Goals as goal

pub returns-in_default-2 : goal.returns-in_default-2
returns-in_default-2 c = λ sound. (rw c.in_default-2.is at c.in_ok-grants.ensures) sound.grants

pub returns-then-not-are_granted : goal.returns-then-not-are_granted
returns-then-not-are_granted c =
    let shape = rw c.in-Some.is at c.in_ok-shape.ensures in
    let grants = rw c.in-Some-2.is at c.in_ok-grants.ensures in
    λ sound. false≢true (sym c.if-not-are_granted.true ∙ c.are_granted.ensures.1 ((granted_on (plain_state c.args.rows.now) c.in-Some.shape.tree c.in-Some-2.grants shape.1 grants.1 grants.2).1 sound.granted))

pub sound_keys-requires-clause-granted : goal.sound_keys-requires-clause-granted
sound_keys-requires-clause-granted c = c.are_granted.ensures.0 c.if-not-are_granted.false

pub returns-in_default-3 : goal.returns-in_default-3
returns-in_default-3 c = λ sound. (rw c.in_default-3.is at c.in_ok-keys.ensures) sound.keys

pub sound_marks-requires-clause-below : goal.sound_marks-requires-clause-below
sound_marks-requires-clause-below c =
    let shape = rw c.in-Some.is at c.in_ok-shape.ensures in
    let numbers = c.are_sound_numbers.ensures.0 c.if-not-are_sound_numbers.false in
    subst FoldersBelow (sym shape.1) (tree_below (tree_of (plain_state c.args.rows.now)) shape.0 numbers.0.folders_made)

pub returns-in_default-4 : goal.returns-in_default-4
returns-in_default-4 c = λ sound. (rw c.in_default-4.is at c.in_ok-dirty.ensures) sound.marks

pub put_together-requires-clause-sound : goal.put_together-requires-clause-sound
put_together-requires-clause-sound c =
    let shape = rw c.in-Some.is at c.in_ok-shape.ensures in
    let grants = rw c.in-Some-2.is at c.in_ok-grants.ensures in
    let numbers = c.are_sound_numbers.ensures.0 c.if-not-are_sound_numbers.false in
    let keys = rw c.in-Some-3.is at c.in_ok-keys.ensures in
    let marks = rw c.in-Some-4.is at c.in_ok-dirty.ensures in record {
      writable = c.requires;
      small = numbers.0;
      version = numbers.1;
      tree = shape.0;
      grants = grants.0;
      granted = (granted_on (plain_state c.args.rows.now) c.in-Some.shape.tree c.in-Some-2.grants shape.1 grants.1 grants.2).0 (c.are_granted.ensures.0 c.if-not-are_granted.false);
      keys = keys.0;
      marks = marks.0;
    }
