use Rattle.record_format.proofs.Lengths.{texts_short}
use Rattle.record_format.proofs.writing.put_payload.Goals as goal

pub put_contents-requires-clause-fit : goal.put_contents-requires-clause-fit
put_contents-requires-clause-fit c =
    rw c.as_slice-contents.ensures (texts_short c.args.payload.now.contents.items c.requires.spellable.contents)
