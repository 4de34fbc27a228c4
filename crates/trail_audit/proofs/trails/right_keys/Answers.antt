use Rattle.std.proofs.Common.{◌≡◌, ◌<◌, ◌≤◌, List, get_or, length, take, ap, subst, ◌∙◌, arith}
use Rattle.std.proofs.lemmas.List.{take_all}
use Rattle.std.proofs.lemmas.Result.{err_from_is_err_and}
use Rattle.chacha_seal.specs.Keys.{KeyParts}
use Rattle.trail_audit.specs.Grouped.{HasGroups, key_source}
use Rattle.trail_audit.proofs.Followed.{first_kept, found_all, found_first, found_next, link_fault_under, taken_further}
use Rattle.trail_audit.proofs.Groups.{no_groups}
use Rattle.trail_audit.proofs.trails.right_keys.Goals as goal

pub loop-done-init : goal.loop-done-init
loop-done-init c = record {
  found = λ links has. found_first links c.args.bundle c.keep_key.new.known.keys.items
      (first_kept c.args.bundle c.new.result.items c.keep_key.new.known.keys.items c.new.ensures c.in_ok-keep_key.ensures.kept);
  grouped = c.in_ok-keep_key.ensures.grouped;
  openers = λ links has. no_groups key_source _ c.new-openers.ensures.empty;
}

pub returns-in_err-use_key-clause-fault : goal.returns-in_err-use_key-clause-fault
returns-in_err-use_key-clause-fault c =
    let p = err_from_is_err_and c.from_residual-in_err-use_key.result c.from_residual-in_err-use_key.ensures.1 in
    let keys = c.loop-done.known.keys.items in
    let done = c.loop-done.done in
    let key = c.index-as_slice-done.result in
    let within : done < length keys = omega (arith, c.loop-done-test.true, ap length c.as_slice.ensures) in
    let is : key ≡ get_or keys done key = c.index-as_slice-done.is ∙ ap (λ (ks : List KeyParts). get_or ks done key) c.as_slice-in-loop-done.ensures in
    rw (p.1, p.2) (λ links has. link_fault_under links c.args.bundle key done keys c.in_err-use_key.field-0.0 within is (c.loop-done.invariant.found links has) (c.in_err-use_key.ensures.fault links has))

pub loop-done-preserved : goal.loop-done-preserved
loop-done-preserved c =
    let keys = c.loop-done.known.keys.items in
    let done = c.loop-done.done in
    let key = c.index-as_slice-done.result in
    let within : done < length keys = omega (arith, c.loop-done-test.true, ap length c.as_slice.ensures) in
    let is : key ≡ get_or keys done key = c.index-as_slice-done.is ∙ ap (λ (ks : List KeyParts). get_or ks done key) c.as_slice-in-loop-done.ensures in
    record {
      found = λ links has. found_next links c.args.bundle done keys c.use_key.new.known.keys.items key within is (c.loop-done.invariant.found links has) (c.in_ok-use_key.ensures.grown links has);
      grouped = c.in_ok-use_key.ensures.grouped;
      openers = λ links has.
          subst (HasGroups key_source c.use_key.new.openers) (taken_further links done keys c.use_key.new.known.keys.items key within is (c.in_ok-use_key.ensures.grown links has))
          (c.in_ok-use_key.ensures.openers (take done keys) (c.loop-done.invariant.openers links has));
    }

pub returns-clause-grouped : goal.returns-clause-grouped
returns-clause-grouped c = λ links has.
    let keys = c.loop-done.known.keys.items in
    let past : length keys ≤ c.loop-done.done = omega (arith, c.loop-done-test.false, ap length c.as_slice.ensures) in
    subst (HasGroups key_source c.loop-done.openers) (take_all c.loop-done.done keys past) (c.loop-done.invariant.openers links has)

pub returns-clause-keys : goal.returns-clause-keys
returns-clause-keys c = λ links has.
    let past : length c.loop-done.known.keys.items ≤ c.loop-done.done = omega (arith, c.loop-done-test.false, ap length c.as_slice.ensures) in
    found_all links c.args.bundle c.loop-done.done c.loop-done.known.keys.items past (c.loop-done.invariant.found links has)
