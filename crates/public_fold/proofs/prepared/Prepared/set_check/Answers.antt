use Rattle.std.proofs.Common.{sym, ap, ◌∙◌, subst}
use Rattle.record_format.specs.Told.{told_note}
use Rattle.record_format.specs.declared.note.Note.{Note}
use Rattle.move_plan.specs.Fitting.{fits}
use Rattle.public_fold.specs.Fitted.{told_stand}
use Rattle.public_fold.specs.KeyStep.{is_strict}
use Rattle.public_fold.specs.Preparing.{PreparedView, keys_settled, root_made, settled}
use Rattle.public_fold.specs.Standing.{IsPublicOf, IsSeenAs, public_store_of}
use Rattle.public_fold.proofs.PreparedTold.{can_with, check_fits, check_root, check_seen, check_told, seen_then}
use Rattle.public_fold.proofs.prepared.Prepared.set_check.Goals as goal

pub invariant_of-self : goal.invariant_of-self
invariant_of-self c =
    c.self.invariant
    ∙ check_root c.self.inside.note c.args.check
    ∙ ap (λ (n : Note). root_made (told_note n)) (sym c.note_with-self-inside.ensures)

pub returns-clause-told : goal.returns-clause-told
returns-clause-told c = λ at.
    ap (λ (n : Note). told_stand at (told_note n)) c.note_with-self-inside.ensures
    ∙ check_told c.self.inside.note c.args.check at
    ∙ ap (λ (p : PreparedView). told_stand at (told_note p.note)) c.self.view_is

pub returns-clause-seen : goal.returns-clause-seen
returns-clause-seen c = λ v at sees.
    let old : PreparedView = record {
      note = c.self.inside.note;
      skeleton = c.self.inside.skeleton;
      gone = c.self.inside.left.gone.items;
      dirty = c.self.inside.left.dirty;
      epoch = c.self.inside.left.epoch;
      count = c.self.inside.left.count;
      version = c.self.inside.left.version;
    } in
    subst (λ (n : Note). IsPublicOf (seen_then v n) (keys_settled v.keys old) at) (sym c.note_with-self-inside.ensures)
    (check_seen v c.self.inside.note c.args.check (keys_settled v.keys old) at (subst (λ (p : PreparedView). IsSeenAs (settled v p) at) (sym c.self.view_is) sees))

pub returns-clause-can : goal.returns-clause-can
returns-clause-can c = λ v can.
    can_with v _ _
    (ap (λ (n : Note). fits (is_strict v.keys) (public_store_of v) (told_note n)) c.note_with-self-inside.ensures
    ∙ check_fits (is_strict v.keys) (public_store_of v) c.self.inside.note c.args.check
    ∙ ap (λ (p : PreparedView). fits (is_strict v.keys) (public_store_of v) (told_note p.note)) c.self.view_is)
    (returns-clause-told c) (returns-clause-seen c v) can
