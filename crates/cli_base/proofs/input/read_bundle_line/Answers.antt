use Rattle.cli_base.proofs.InputLemmas.{alone_bundle, begins_bundle, ends_bundle}
use Rattle.cry_io.proofs.ToldLemmas.{told_again}
use Rattle.cli_base.proofs.input.read_bundle_line.Goals as goal

pub returns-in-Ok-end_of_input-clause-bytes : goal.returns-in-Ok-end_of_input-clause-bytes
returns-in-Ok-end_of_input-clause-bytes g c = λ x y was now.
    let left = g.S.Source.left in
    let again = told_again (left c.args.input.now) (left c.first_bundle.new.input) x c.first_bundle.ensures.told was in
    alone_bundle c.in-Ok.bundle x y
    (c.in-Ok-end_of_input.ensures.ends again.0 y again.1 now c.in-Ok.bundle x (c.in-Ok.ensures.begins x again.0 was again.1))

pub returns-clause-bytes : goal.returns-clause-bytes
returns-clause-bytes g c = λ x y was now.
    let left = g.S.Source.left in
    let again = told_again (left c.args.input.now) (left c.first_bundle.new.input) x c.first_bundle.ensures.told was in
    ends_bundle c.in-Err-end_of_input.fault c.in-Ok.bundle x y
    (c.in-Err-end_of_input.ensures.ends again.0 y again.1 now c.in-Ok.bundle x (c.in-Ok.ensures.begins x again.0 was again.1))

pub returns-in-Err-clause-bytes : goal.returns-in-Err-clause-bytes
returns-in-Err-clause-bytes g c = λ x y was now. begins_bundle c.in-Err.fault c.first_bundle.new.reader x y (c.in-Err.ensures.begins x y was now)
