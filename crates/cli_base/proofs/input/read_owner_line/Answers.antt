use Rattle.std.proofs.Common.{Err, List, Ok, ℕ, subst}
use Rattle.cry_base.specs.declared.client.Bundle.TheVariants.{Owner}
use Rattle.cry_io.proofs.ToldLemmas.{told_again}
use Rattle.cli_base.specs.Input.{IsBehindBundle}
use Rattle.cli_base.proofs.InputLemmas.{alone_owner, begins_owner, ends_owner, holder_refused}
use Rattle.cli_base.proofs.input.read_owner_line.Goals as goal

pub returns-in-Ok-Holder-clause-bytes : goal.returns-in-Ok-Holder-clause-bytes
returns-in-Ok-Holder-clause-bytes g c = λ x y was now.
    holder_refused c.in-Ok-Holder.field-0-0 c.in-Ok-Holder.field-0-1 c.first_bundle.new.reader x y
    (subst (λ bundle. IsBehindBundle bundle x c.first_bundle.new.reader y) c.in-Ok-Holder.field-0-is (c.in-Ok-Holder.ensures.begins x y was now))

pub returns-in-Err-clause-bytes : goal.returns-in-Err-clause-bytes
returns-in-Err-clause-bytes g c = λ x y was now. begins_owner c.in-Err.fault c.first_bundle.new.reader x y (c.in-Err.ensures.begins x y was now)

pub returns-in-Ok-clause-bytes : goal.returns-in-Ok-clause-bytes
returns-in-Ok-clause-bytes g c = λ x y was now.
    let left = g.S.Source.left in
    let again = told_again (left c.args.input.now) (left c.first_bundle.new.input) x c.first_bundle.ensures.told was in
    let behind = subst (λ bundle. IsBehindBundle bundle x c.first_bundle.new.reader again.0) c.in-Ok-Owner.field-0-is
    (c.in-Ok-Owner.ensures.begins x again.0 was again.1) in
    alone_owner c.in-Ok-Owner.key x y (c.in-Ok.ensures.ends again.0 y again.1 now (Owner c.in-Ok-Owner.key) x behind)

pub returns-clause-bytes : goal.returns-clause-bytes
returns-clause-bytes g c = λ x y was now.
    let left = g.S.Source.left in
    let again = told_again (left c.args.input.now) (left c.first_bundle.new.input) x c.first_bundle.ensures.told was in
    let behind = subst (λ bundle. IsBehindBundle bundle x c.first_bundle.new.reader again.0) c.in-Ok-Owner.field-0-is
    (c.in-Ok-Owner.ensures.begins x again.0 was again.1) in
    ends_owner c.in-Err-end_of_input.fault c.in-Ok-Owner.key x y
    (c.in-Err-end_of_input.ensures.ends again.0 y again.1 now (Owner c.in-Ok-Owner.key) x behind)
