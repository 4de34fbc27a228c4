use Rattle.std.proofs.Common.{arith}
use Rattle.index_format.specs.Plain.{plain_state}
use Rattle.index_format.proofs.FoundLaws.{found_is_spelled, spelled_is_found}
use Rattle.index_format.proofs.StateLaws.{state_field}
use Rattle.index_format.proofs.reading.read_plain_state.Goals as goal

pub returns-clause-found : goal.returns-clause-found
returns-clause-found c = found_is_spelled state_field (λ x. (plain_state x.0, x.1.now)) c.args.bytes.now c.state_of.result (λ i. omega (arith, c.type_inv.bytes i)) c.state_of.ensures

pub returns-clause-only : goal.returns-clause-only
returns-clause-only c = spelled_is_found state_field (λ x. (plain_state x.0, x.1.now)) c.args.bytes.now c.state_of.result c.state_of.ensures
