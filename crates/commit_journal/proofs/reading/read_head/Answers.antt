use Rattle.std.proofs.Common.{◌≡◌, ◌+◌, ◌-◌, cond, take, drop, Err, Ok, ap, ◌∙◌, arith}
use Rattle.std.proofs.lemmas.List.{length-drop}
use Rattle.commit_journal.specs.Answering.{Damaged}
use Rattle.commit_journal.proofs.Judged.{head_short, head_tested}
use Rattle.commit_journal.proofs.reading.read_head.Goals as goal

pub returns-then-size-past-clause-answer : goal.returns-then-size-past-clause-answer
returns-then-size-past-clause-answer g c = λ s is.
    let sized = g.met.D.Disk.size_is_shown c.args.disk.now s is in
    head_short c.args.past.now (drop c.args.past.now.at s)
    (omega (arith, sized, c.size-size.ensures, length-drop c.args.past.now.at s))

pub returns-then-not-is_batch-clause-answer : goal.returns-then-not-is_batch-clause-answer
returns-then-not-is_batch-clause-answer g c = λ s is.
    let past = c.args.past.now in
    let head = c.head_of-head.result in
    let sized = g.met.D.Disk.size_is_shown c.args.disk.now s is in
    let same : past.at + 13 - past.at ≡ 13 = omega arith in
    head_tested past (drop past.at s) c.read_at.new.buf head (c.size-size.result - past.at) c.is_batch.result
    (c.in_ok-read_at.ensures.bytes s is ∙ ap (λ n. take n (drop past.at s)) same) c.head_of-head.ensures
    (omega (arith, sized, c.size-size.ensures, length-drop past.at s)) c.is_batch.ensures.exact
    ∙ ap (λ b. cond b (Ok head) (Err (Damaged past.at))) c.if-not-is_batch.true

pub returns-clause-answer : goal.returns-clause-answer
returns-clause-answer g c = λ s is.
    let past = c.args.past.now in
    let head = c.head_of-head.result in
    let sized = g.met.D.Disk.size_is_shown c.args.disk.now s is in
    let same : past.at + 13 - past.at ≡ 13 = omega arith in
    head_tested past (drop past.at s) c.read_at.new.buf head (c.size-size.result - past.at) c.is_batch.result
    (c.in_ok-read_at.ensures.bytes s is ∙ ap (λ n. take n (drop past.at s)) same) c.head_of-head.ensures
    (omega (arith, sized, c.size-size.ensures, length-drop past.at s)) c.is_batch.ensures.exact
    ∙ ap (λ b. cond b (Ok head) (Err (Damaged past.at))) c.if-not-is_batch.false
