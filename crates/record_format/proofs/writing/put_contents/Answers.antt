use Rattle.std.proofs.Common.{arith, ap}
use Rattle.record_format.specs.Plain.{plain_content}
use Rattle.record_format.specs.Sizes.{content_size}
use Rattle.record_format.proofs.Lengths.{contents_room}
use Rattle.record_format.proofs.writing.put_contents.Goals as goal

pub put_content-requires-clause-room : goal.put_content-requires-clause-room
put_content-requires-clause-room c =
    let room = contents_room c.args.contents.now c.loop-content.content-index c.content-item.result c.loop-content-test.true in
    omega (arith, room, ap (λ r. content_size (plain_content r)) c.content-item.is)
