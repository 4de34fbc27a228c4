use Rattle.std.proofs.Common.{◌≡◌, ◌≤◌, ◌+◌, ap, sym, ◌∙◌, subst}
use Rattle.cry_base.specs.Store.{Store}
use Rattle.move_plan.specs.Change.{row_change, parent_of_folder}
use Rattle.move_plan.specs.LookUps.{row_look_ups}
use Rattle.move_plan.specs.Seen.{seen_store}
use Rattle.record_format.specs.Noted.Note.{Root, NewHolder, NewFolder, NewFile, Rewrite, NameFile, NameFolder, DropFile, DropFolder, ShiftFile, ShiftFolder, Give, Take, StrictRoot, Upgrade}
use Rattle.record_format.specs.Told.{told_note}
use Rattle.move_plan.proofs.Noting.{holder_of, in_store, in_store_where, in_this_store, looked_up}
use Rattle.move_plan.proofs.Seeing.{parent_seen}
use Rattle.move_plan.proofs.row.row_of.Goals as goal

pub returns-in-Root-clause-row : goal.returns-in-Root-clause-row
unfolding told_note row_change
returns-in-Root-clause-row g c = in_this_store c.make_root.result (seen_store c.args.shape.now.tree c.args.grants.now) (told_note c.args.note.now) Root (ap told_note c.in-Root.is) c.make_root.ensures

pub returns-in-StrictRoot-clause-row : goal.returns-in-StrictRoot-clause-row
unfolding told_note row_change
returns-in-StrictRoot-clause-row g c = in_this_store c.make_root-in-StrictRoot.result (seen_store c.args.shape.now.tree c.args.grants.now) (told_note c.args.note.now) StrictRoot (ap told_note c.in-StrictRoot.is) c.make_root-in-StrictRoot.ensures

pub returns-in-Upgrade-clause-row : goal.returns-in-Upgrade-clause-row
unfolding told_note
returns-in-Upgrade-clause-row g c = in_store c.upgrade.result (seen_store c.args.shape.now.tree c.args.grants.now) (told_note c.args.note.now) Upgrade (ap told_note c.in-Upgrade.is) c.upgrade.ensures

pub returns-in-NewFolder-clause-row : goal.returns-in-NewFolder-clause-row
unfolding told_note
returns-in-NewFolder-clause-row g c = in_store c.make_folder.result (seen_store c.args.shape.now.tree c.args.grants.now) (told_note c.args.note.now) (NewFolder c.in-NewFolder.folder.0 c.in-NewFolder.parent.0) (ap told_note c.in-NewFolder.is) c.make_folder.ensures

pub returns-in-NewFile-clause-row : goal.returns-in-NewFile-clause-row
unfolding told_note
returns-in-NewFile-clause-row g c = in_store c.make_file.result (seen_store c.args.shape.now.tree c.args.grants.now) (told_note c.args.note.now) (NewFile c.in-NewFile.file.0 c.in-NewFile.folder.0) (ap told_note c.in-NewFile.is) c.make_file.ensures

pub returns-in-Rewrite-clause-row : goal.returns-in-Rewrite-clause-row
unfolding told_note
returns-in-Rewrite-clause-row g c = in_store c.rewrite.result (seen_store c.args.shape.now.tree c.args.grants.now) (told_note c.args.note.now) (Rewrite c.in-Rewrite.file.0) (ap told_note c.in-Rewrite.is) c.rewrite.ensures

pub returns-in-NameFile-clause-row : goal.returns-in-NameFile-clause-row
unfolding told_note
returns-in-NameFile-clause-row g c = in_store c.name_file.result (seen_store c.args.shape.now.tree c.args.grants.now) (told_note c.args.note.now) (NameFile c.in-NameFile.file.0) (ap told_note c.in-NameFile.is) c.name_file.ensures

pub returns-in-NameFolder-clause-row : goal.returns-in-NameFolder-clause-row
unfolding told_note
returns-in-NameFolder-clause-row g c = in_store c.name_folder.result (seen_store c.args.shape.now.tree c.args.grants.now) (told_note c.args.note.now) (NameFolder c.in-NameFolder.folder.0) (ap told_note c.in-NameFolder.is) c.name_folder.ensures

pub returns-in-Give-clause-row : goal.returns-in-Give-clause-row
unfolding told_note
returns-in-Give-clause-row g c =
    in_this_store c.give_number.result (seen_store c.args.shape.now.tree c.args.grants.now) (told_note c.args.note.now) (Give c.in-Give.holder.0 c.in-Give.folder.0) (ap told_note c.in-Give.is)
    c.give_number.ensures

pub returns-in-Take-clause-row : goal.returns-in-Take-clause-row
unfolding told_note
returns-in-Take-clause-row g c =
    looked_up c.take_number.result c.args.shape.now.tree c.args.grants.now (g.R.Adjacent.store c.args.roles.now) (told_note c.args.note.now) (Take c.in-Take.holder.0 c.in-Take.folder.0)
    (ap told_note c.in-Take.is) c.requires c.take_number.ensures.change

pub returns-in-Take-clause-steps : goal.returns-in-Take-clause-steps
unfolding told_note
returns-in-Take-clause-steps g c =
    subst (λ n. g.R.Adjacent.steps c.take_number.new.roles ≤ g.R.Adjacent.steps c.args.roles.now + row_look_ups (g.R.Adjacent.store c.args.roles.now) n) (sym (ap told_note c.in-Take.is)) c.take_number.ensures.steps

pub returns-in-NewHolder-clause-row : goal.returns-in-NewHolder-clause-row
unfolding told_note
returns-in-NewHolder-clause-row g c =
    let note = NewHolder c.in-NewHolder.holder.0 c.in-NewHolder.check in
    in_store c.make_holder.result (seen_store c.args.shape.now.tree c.args.grants.now) (told_note c.args.note.now) note (ap told_note c.in-NewHolder.is)
    (holder_of c.make_holder.result c.in-NewHolder.holder.0 c.in-NewHolder.check c.make_holder.ensures)

pub returns-in-DropFolder-clause-row : goal.returns-in-DropFolder-clause-row
unfolding told_note
returns-in-DropFolder-clause-row g c =
    looked_up c.drop_folder.result c.args.shape.now.tree c.args.grants.now (g.R.Adjacent.store c.args.roles.now) (told_note c.args.note.now) (DropFolder c.in-DropFolder.folder.0)
    (ap told_note c.in-DropFolder.is) c.requires c.drop_folder.ensures.change

pub returns-in-DropFolder-clause-steps : goal.returns-in-DropFolder-clause-steps
unfolding told_note
returns-in-DropFolder-clause-steps g c =
    subst (λ n. g.R.Adjacent.steps c.drop_folder.new.roles ≤ g.R.Adjacent.steps c.args.roles.now + row_look_ups (g.R.Adjacent.store c.args.roles.now) n) (sym (ap told_note c.in-DropFolder.is)) c.drop_folder.ensures.steps

pub returns-in-DropFile-clause-row : goal.returns-in-DropFile-clause-row
unfolding told_note
returns-in-DropFile-clause-row g c =
    looked_up c.drop_file.result c.args.shape.now.tree c.args.grants.now (g.R.Adjacent.store c.args.roles.now) (told_note c.args.note.now) (DropFile c.in-DropFile.file.0)
    (ap told_note c.in-DropFile.is) c.requires c.drop_file.ensures.change

pub returns-in-DropFile-clause-steps : goal.returns-in-DropFile-clause-steps
unfolding told_note
returns-in-DropFile-clause-steps g c =
    subst (λ n. g.R.Adjacent.steps c.drop_file.new.roles ≤ g.R.Adjacent.steps c.args.roles.now + row_look_ups (g.R.Adjacent.store c.args.roles.now) n) (sym (ap told_note c.in-DropFile.is)) c.drop_file.ensures.steps

pub returns-in-ShiftFile-clause-row : goal.returns-in-ShiftFile-clause-row
unfolding told_note
returns-in-ShiftFile-clause-row g c =
    in_this_store c.shift_file.result (seen_store c.args.shape.now.tree c.args.grants.now) (told_note c.args.note.now) (ShiftFile c.in-ShiftFile.file.0 c.in-ShiftFile.into.0) (ap told_note c.in-ShiftFile.is)
    c.shift_file.ensures

pub returns-in-ShiftFolder-clause-row : goal.returns-in-ShiftFolder-clause-row
unfolding told_note
returns-in-ShiftFolder-clause-row g c =
    let f = c.in-ShiftFolder.folder.0 in
    in_store_where c.move_folder.result (seen_store c.args.shape.now.tree c.args.grants.now) (λ s. c.parent_of-parent.result.0 ≡ parent_of_folder s f) (told_note c.args.note.now) (ShiftFolder c.in-ShiftFolder.folder.0 c.in-ShiftFolder.into.0) (ap told_note c.in-ShiftFolder.is)
    (c.parent_of-parent.ensures ∙ sym (parent_seen c.args.shape.now.tree c.args.grants.now f)) c.move_folder.ensures

pub drop_file-requires : goal.drop_file-requires
drop_file-requires g c = ap (λ (s : Store). s.grants) c.requires

pub take_number-requires : goal.take_number-requires
take_number-requires g c = ap (λ (s : Store). s.grants) c.requires
