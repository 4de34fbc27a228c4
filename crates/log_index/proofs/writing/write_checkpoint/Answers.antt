use Rattle.std.proofs.Common.{◌≡◌, ℕ, true, false, List, [], ◌∷◌, length, Option, Some, inl, inr, ⊎_elim, subst}
use Rattle.batch_log.specs.Handing.{Hands, IsStage}
use Rattle.batch_log.proofs.WrittenMoments.{on_err}
use Rattle.cry_io.specs.Stops.{Torn, Written}
use Rattle.log_index.proofs.Made.{one_file}
use Rattle.log_index.proofs.writing.write_checkpoint.Goals as goal

some_is : (a b : List ℕ) (o : Option (List ℕ)) → o ≡ Some a → o ≡ Some b → b ≡ a
some_is a b o p q = cc

pub returns-in_err-file-clause-hands : goal.returns-in_err-file-clause-hands
unfolding IsStage
returns-in_err-file-clause-hands g c = λ p spells x shown s left at.
    let now = g.met.E.Disk.only_now c.args.side.now s left at in
    inl (inl (some_is x s (g.E.Disk.shown c.args.side.now) shown now.0))

pub returns-in_err-write_and_sync-clause-torn : goal.returns-in_err-write_and_sync-clause-torn
returns-in_err-write_and_sync-clause-torn g c =
    let file = one_file c.args.checkpoint.now c.args.owner.now.bytes c.as_slice.result.now c.in_ok-file.file.items c.as_slice.ensures c.in_ok-file.ensures in
    on_err c.from_residual-in_err-write_and_sync.result (λ x y was now p spells.
    subst (λ bytes. Torn 0 (length bytes) x y) (file p spells) (c.in_err-write_and_sync.ensures.torn x y was now))

pub returns-in_err-write_and_sync-clause-hands : goal.returns-in_err-write_and_sync-clause-hands
returns-in_err-write_and_sync-clause-hands g c =
    let file = one_file c.args.checkpoint.now c.args.owner.now.bytes c.as_slice.result.now c.in_ok-file.file.items c.as_slice.ensures c.in_ok-file.ensures in
    λ p spells x was s left at. ⊎_elim (λ u. inl u) (λ u. inr (c.from_residual-in_err-write_and_sync.ensures.0, u.1, u.2))
    (subst (λ bytes. Hands (record { place = 0; bytes = bytes } ∷ []) (true ≡ true) (g.E.Disk.shown c.args.side.now) (g.E.Disk.shown c.write_and_sync.new.disk)
    (g.E.Disk.since c.write_and_sync.new.disk (g.E.Disk.moment c.args.side.now))) (file p spells) c.in_err-write_and_sync.ensures.hands x was s left at)

pub returns-clause-written : goal.returns-clause-written
returns-clause-written g c =
    let file = one_file c.args.checkpoint.now c.args.owner.now.bytes c.as_slice.result.now c.in_ok-file.file.items c.as_slice.ensures c.in_ok-file.ensures in
    λ x y was now p spells. subst (λ bytes. Written 0 bytes x y) (file p spells) (c.in_ok-write_and_sync.ensures.written x y was now)

pub returns-clause-hands : goal.returns-clause-hands
returns-clause-hands g c =
    let file = one_file c.args.checkpoint.now c.args.owner.now.bytes c.as_slice.result.now c.in_ok-file.file.items c.as_slice.ensures c.in_ok-file.ensures in
    λ p spells. subst (λ bytes. Hands (record { place = 0; bytes = bytes } ∷ []) (false ≡ true) (g.E.Disk.shown c.args.side.now) (g.E.Disk.shown c.write_and_sync.new.disk)
    (g.E.Disk.since c.write_and_sync.new.disk (g.E.Disk.moment c.args.side.now))) (file p spells) c.in_ok-write_and_sync.ensures.hands
