use Rattle.file_disks.proofs.Parts.{range_known}
use Rattle.file_disks.proofs.known.Known.find.Goals as goal

pub returns-clause-bytes : goal.returns-clause-bytes
returns-clause-bytes c = λ s is.
    let has = c.has.ensures c.if-not-has.false in
    range_known _ _ s _ _ c.args.place c.args.len c.deref.ensures.value is.1 has.0 has.1
