use Rattle.std.proofs.Common.{◌++◌, ◌*◌, ◌∙◌, ap, length, sym}
use Rattle.store_owner.proofs.KeyDraws.{bytes_gone, fault_counted, fault_told, filled_whole}
use Rattle.store_owner.proofs.key_room.KeyRoom.fill.Goals as goal

pub returns-in-Ok-clause-bytes : goal.returns-in-Ok-clause-bytes
returns-in-Ok-clause-bytes g c = λ x y was is.
    c.in-Ok.ensures.bytes x y was is
    ∙ ap (λ z. z ++ y) (sym (c.cut_keys.ensures.bytes ∙ c.as_slice.ensures ∙ filled_whole (length c.self.inside.bytes.items) c.draw.new.buf c.self.inside.bytes.items (c.draw.auto.buf ∙ ap length c.as_mut_slice.ensures.value)))

pub returns-clause-bytes : goal.returns-clause-bytes
returns-clause-bytes g c = λ x y was is.
    bytes_gone c.args.self (length c.as_mut_slice.result.now) (length c.as_slice-need.result.now) c.in-Err.fault c.fault_for.result c.draw.new.buf x y c.fault_for.ensures
    (ap length c.as_slice-need.ensures ∙ c.self.invariant.0 ∙ ap (λ n. 32 * n) c.self.view_is) (ap length c.as_mut_slice.ensures.value ∙ c.self.invariant.0 ∙ ap (λ n. 32 * n) c.self.view_is) c.in-Err.ensures.short (c.in-Err.ensures.bytes x y was is)

pub returns-clause-faults : goal.returns-clause-faults
returns-clause-faults g c =
    fault_told c.args.self (length c.as_mut_slice.result.now) (length c.as_slice-need.result.now) c.in-Err.fault c.fault_for.result c.fault_for.ensures
    (ap length c.as_slice-need.ensures ∙ c.self.invariant.0 ∙ ap (λ n. 32 * n) c.self.view_is) (ap length c.as_mut_slice.ensures.value ∙ c.self.invariant.0 ∙ ap (λ n. 32 * n) c.self.view_is) c.in-Err.ensures.short

pub returns-clause-counts : goal.returns-clause-counts
returns-clause-counts g c = fault_counted (length c.as_slice-need.result.now) _ _ c.in-Err.fault c.fault_for.result c.fault_for.ensures c.in-Err.ensures.counts
