use Rattle.std.proofs.Common.{◌≡◌, arith, map, Ok, sym, ap, subst, ◌∙◌}
use Rattle.chacha_seal.specs.Keys.{KeyParts}
use Rattle.commit_journal.specs.Placed.{plain_log, plain_placed}
use Rattle.log_visits.specs.Answering.{IsFault}
use Rattle.log_visits.proofs.Viewed.{of_bytes_alone}
use Rattle.store_owner.specs.Opened.{opened_of}
use Rattle.store_owner.specs.Owned.{OwnerView}
use Rattle.store_owner.proofs.OpenedBehind.{behind_fails, behind_opens, behind_sound}
use Rattle.store_owner.proofs.opening.owner_behind.Goals as goal

pub at-requires : goal.at-requires
at-requires c =
    let key = c.args.key in
    let a = c.in-Ok.ensures.answer in
    let bytes = ap (λ (k : KeyParts). k.bytes) c.owner.ensures in
    let is : opened_of key (plain_log c.args.opened.placed) ≡ Ok a.0 =
    ap (λ xs. opened_of key (map plain_placed xs)) (sym c.as_slice.ensures) ∙ ap (λ b. opened_of b (map plain_placed c.as_slice.result.now)) (sym bytes) ∙ a.1
    in
    record {
      sound = behind_sound key c.args.opened c.in-Ok.contents c.args.limits.store_bytes c.args.limits.file_bytes a.0 c.requires.opened c.requires.epochs c.requires.count c.requires.last
          c.requires.files is a.2 c.in-Ok.ensures.present c.in-Ok.ensures.sized;
      within = omega arith;
    }

pub returns-in-Ok-clause-answer : goal.returns-in-Ok-clause-answer
returns-in-Ok-clause-answer c =
    let key = c.args.key in
    let a = c.in-Ok.ensures.answer in
    let bytes = ap (λ (k : KeyParts). k.bytes) c.owner.ensures in
    let is : opened_of key (plain_log c.args.opened.placed) ≡ Ok a.0 =
    ap (λ xs. opened_of key (map plain_placed xs)) (sym c.as_slice.ensures) ∙ ap (λ b. opened_of b (map plain_placed c.as_slice.result.now)) (sym bytes) ∙ a.1
    in
    behind_opens key (plain_log c.args.opened.placed) c.in-Ok.contents c.at.result a.0 is a.2 c.in-Ok.ensures.present
    (ap (λ (o : OwnerView). o.state) c.at.ensures) (ap (λ (o : OwnerView). o.names) c.at.ensures) (ap (λ (o : OwnerView). o.ring) c.at.ensures)

pub open_fault-requires : goal.open_fault-requires
open_fault-requires c = of_bytes_alone c.in-Err.fault (opened_of c.owner.result.bytes (map plain_placed c.as_slice.result.now)) c.in-Err.ensures.answer

pub returns-in-Err-clause-answer : goal.returns-in-Err-clause-answer
returns-in-Err-clause-answer c =
    let key = c.args.key in
    let bytes = ap (λ (k : KeyParts). k.bytes) c.owner.ensures in
    let is : IsFault c.in-Err.fault (opened_of key (plain_log c.args.opened.placed)) =
    subst (λ xs. IsFault c.in-Err.fault (opened_of key (map plain_placed xs))) c.as_slice.ensures
    (subst (λ b. IsFault c.in-Err.fault (opened_of b (map plain_placed c.as_slice.result.now))) bytes c.in-Err.ensures.answer)
    in
    behind_fails key (plain_log c.args.opened.placed) c.open_fault.result c.in-Err.fault c.open_fault.ensures is
