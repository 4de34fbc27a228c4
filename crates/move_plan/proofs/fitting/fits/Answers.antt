use Rattle.std.proofs.Common.{◌≡◌, ◌∙◌, true, false, sym}
use Rattle.cry_base.specs.Store.{folder_entry}
use Rattle.move_plan.specs.Fitting.{fits, folder_stands, row_fits}
use Rattle.move_plan.specs.Seen.{seen_store}
use Rattle.record_format.specs.Told.{told_note}
use Rattle.move_plan.proofs.fitting.fits.Goals as goal

pub returns-then-row_fits : goal.returns-then-row_fits
unfolding fits folder_stands folder_entry
returns-then-row_fits c =
    let row : row_fits c.args.strict (seen_store c.args.shape.now.tree c.args.grants.now) (told_note c.args.note.now) ≡ true = sym c.row_fits.ensures ∙ c.if-row_fits.true in
    rw row c.has_root_for.ensures

pub returns-else-row_fits : goal.returns-else-row_fits
unfolding fits
returns-else-row_fits c =
    let row : row_fits c.args.strict (seen_store c.args.shape.now.tree c.args.grants.now) (told_note c.args.note.now) ≡ false = sym c.row_fits.ensures ∙ c.if-row_fits.false in
    rw row c.if-row_fits.false
