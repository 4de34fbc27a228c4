use Rattle.std.proofs.Common.{◌+◌, ◌<◌, ◌≤◌, ◌&&◌, length, drop, sym, ap, ◌∙◌, arith}
use Rattle.record_format.specs.declared.link.LinkRecord.{LinkRecord}
use Rattle.public_fold.specs.Fitted.{are_due, has_link_head}
use Rattle.public_fold.specs.Records.{Link}
use Rattle.public_fold.proofs.DueLists.{link_all, link_past, not_as_many}
use Rattle.public_fold.proofs.fitting.are_links.Goals as goal

pub returns-then-heads-records : goal.returns-then-heads-records
returns-then-heads-records c = sym (not_as_many _ _ has_link_head c.args.heads.now c.args.records.now c.if-heads-records.true)

pub returns-then-not-is_link : goal.returns-then-not-is_link
returns-then-not-is_link c =
    let within : c.loop-i.i < length c.args.records.now = omega (arith, c.if-heads-records.false, c.loop-i-test.true) in
    ap (λ t. t && are_due has_link_head (drop (c.loop-i.i + 1) c.args.heads.now) (drop (c.loop-i.i + 1) c.args.records.now)) (sym c.if-not-is_link.true)
    ∙ link_past Link LinkRecord has_link_head c.args.heads.now c.args.records.now c.loop-i.i c.index-heads-i.result _ c.is_link.result _
    c.loop-i-test.true within c.index-heads-i.is c.is_link.ensures c.loop-i.invariant

pub loop-i-preserved : goal.loop-i-preserved
loop-i-preserved c =
    let within : c.loop-i.i < length c.args.records.now = omega (arith, c.if-heads-records.false, c.loop-i-test.true) in
    ap (λ t. t && are_due has_link_head (drop (c.loop-i.i + 1) c.args.heads.now) (drop (c.loop-i.i + 1) c.args.records.now)) (sym c.if-not-is_link.false)
    ∙ link_past Link LinkRecord has_link_head c.args.heads.now c.args.records.now c.loop-i.i c.index-heads-i.result _ c.is_link.result _
    c.loop-i-test.true within c.index-heads-i.is c.is_link.ensures c.loop-i.invariant

pub returns : goal.returns
returns c =
    let heads : length c.args.heads.now ≤ c.loop-i.i = omega (arith, c.loop-i-test.false) in
    let records : length c.args.records.now ≤ c.loop-i.i = omega (arith, c.if-heads-records.false, c.loop-i-test.false) in
    sym (link_all Link LinkRecord has_link_head c.args.heads.now c.args.records.now c.loop-i.i heads records) ∙ c.loop-i.invariant
