use Rattle.cry_base.specs.Store.{Store}
use Rattle.record_format.specs.Told.{told_note}
use Rattle.move_plan.specs.Seen.{plain_row, seen_store}
use Rattle.move_plan.proofs.Inside.{change_is, row_within, strict_within}
use Rattle.move_plan.proofs.change.change_by.Goals as goal

pub returns-in_err-row-clause-steps : goal.returns-in_err-row-clause-steps
returns-in_err-row-clause-steps g c =
    row_within c.args.strict c.args.shape.now.tree c.args.grants.now (g.R.Adjacent.store c.args.roles.now) (told_note c.args.note.now)
    (g.R.Adjacent.steps c.args.roles.now) (g.R.Adjacent.steps c.row_of.new.roles) c.requires c.row_of.ensures.steps

pub returns-in_err-renewed-clause-steps : goal.returns-in_err-renewed-clause-steps
returns-in_err-renewed-clause-steps g c =
    strict_within c.args.strict c.args.shape.now.tree c.args.grants.now (g.R.Adjacent.store c.args.roles.now) (told_note c.args.note.now)
    (g.R.Adjacent.steps c.args.roles.now) (g.R.Adjacent.steps c.row_of.new.roles) c.requires c.row_of.ensures.steps
    (g.R.Adjacent.store c.row_of.new.roles) (plain_row c.in_ok-row.row) (g.R.Adjacent.steps c.strict_of.new.roles) c.row_of.ensures.same
    c.in_ok-row.ensures.row c.strict_of.ensures.steps

pub returns-clause-steps : goal.returns-clause-steps
returns-clause-steps g c =
    strict_within c.args.strict c.args.shape.now.tree c.args.grants.now (g.R.Adjacent.store c.args.roles.now) (told_note c.args.note.now)
    (g.R.Adjacent.steps c.args.roles.now) (g.R.Adjacent.steps c.row_of.new.roles) c.requires c.row_of.ensures.steps
    (g.R.Adjacent.store c.row_of.new.roles) (plain_row c.in_ok-row.row) (g.R.Adjacent.steps c.strict_of.new.roles) c.row_of.ensures.same
    c.in_ok-row.ensures.row c.strict_of.ensures.steps

pub returns-clause-change : goal.returns-clause-change
returns-clause-change g c =
    let s : Store = seen_store c.args.shape.now.tree c.args.grants.now in
    change_is c.args.strict s (told_note c.args.note.now) (plain_row c.in_ok-row.row) c.in_ok-renewed.renewed.items c.in_ok-row.ensures.row c.in_ok-renewed.ensures.roles
