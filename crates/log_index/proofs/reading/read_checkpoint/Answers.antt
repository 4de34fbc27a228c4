use Rattle.std.proofs.Common.{◌<◌, inl, inr, ◌∙◌, arith}
use Rattle.log_index.proofs.Bytes.{no_head_none_shown, shown_long, too_short_none_shown}
use Rattle.log_index.proofs.Finding.{found_in_file}
use Rattle.log_index.proofs.reading.read_checkpoint.Goals as goal

pub returns-in_default-clause-found : goal.returns-in_default-clause-found
returns-in_default-clause-found g c = λ s is.
    let sized = g.met.E.Disk.size_is_shown c.args.side.now s is in
    elim c.in_default.ensures.found [
      | inl short ↦ inl (λ p shown. omega (arith, short, sized, shown_long c.args.owner.now.bytes s p shown))
      | inr rose ↦ inr rose
    ]

pub returns-in_default-2-clause-found : goal.returns-in_default-2-clause-found
returns-in_default-2-clause-found g c = λ s is.
    let front = c.in-Some.ensures.found in
    let none = rw c.in_default-2.is at c.in_ok-head.ensures in
    inl (no_head_none_shown c.args.owner.now.bytes s c.in-Some.front (front.1 s is) none)

pub returns-in_default-3-clause-found : goal.returns-in_default-3-clause-found
returns-in_default-3-clause-found g c = λ s is.
    let sized = g.met.E.Disk.size_is_shown c.args.side.now s is in
    let front = c.in-Some.ensures.found in
    let head = rw c.in-Some-2.is at c.in_ok-head.ensures in
    let missed = rw c.in_default-3.is at c.in_ok-behind.ensures.found in
    let size = c.in-Some.ensures.read_only.same_size in
    elim missed [
      | inl short ↦ inl (too_short_none_shown c.args.owner.now.bytes s c.in-Some.front c.in-Some-2.head (front.1 s is) head (omega (arith, short, sized, size)))
      | inr rose ↦ inr (omega (arith, rose, c.in-Some.ensures.counts))
    ]

pub returns-clause-found : goal.returns-clause-found
returns-clause-found g c =
    let front = c.in-Some.ensures.found in
    let head = rw c.in-Some-2.is at c.in_ok-head.ensures in
    let behind = rw c.in-Some-3.is at c.in_ok-behind.ensures.found in
    found_in_file c.args.owner.now.bytes c.in-Some.front c.deref.result.now c.in-Some-2.head (g.E.Disk.shown c.args.side.now) (g.E.Disk.faults c.args.side.now < g.E.Disk.faults c.read_behind.new.side) c.checkpoint_in.result
    (λ s is. (
      front.1 s is,
      c.deref.ensures.value ∙ behind.2 s (c.in-Some.ensures.read_only.same_bytes ∙ is),
      omega (arith, behind.1, c.in-Some.ensures.read_only.same_size, g.met.E.Disk.size_is_shown c.args.side.now s is),
    )) head c.checkpoint_in.ensures.found
