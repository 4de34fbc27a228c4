use Rattle.std.proofs.Common.{arith, ap, length}
use Rattle.index_format.proofs.writing.plain_state_len.Goals as goal

pub returns-clause-small : goal.returns-clause-small
returns-clause-small c =
    let few = c.requires in
    let folders = ap length c.as_slice.ensures in
    let files = ap length c.as_slice-2.ensures in
    let grants = ap length c.as_slice-3.ensures in
    let keys = ap length c.as_slice-4.ensures in
    let marks = ap length c.as_slice-5.ensures in
    omega (arith, few.folders, few.files, few.grants, few.keys, few.marks, folders, files, grants, keys, marks, c.counted_len.ensures, c.counted_len-2.ensures, c.counted_len-3.ensures, c.counted_len-4.ensures, c.counted_len-5.ensures, c.checks_len.ensures.small, c.len.ensures.size)
