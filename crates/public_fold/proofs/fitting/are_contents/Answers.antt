use Rattle.std.proofs.Common.{◌+◌, ◌<◌, ◌≤◌, ◌&&◌, length, drop, map, sym, ap, ◌∙◌, arith}
use Rattle.record_format.specs.Plain.{PlainContent, plain_content}
use Rattle.record_format.specs.declared.content.ContentRecord.{ContentRecord}
use Rattle.public_fold.specs.Fitted.{are_due}
use Rattle.public_fold.specs.Heads.{is_content_of}
use Rattle.public_fold.specs.declared.heads.ContentHead.{ContentHead}
use Rattle.public_fold.proofs.DueLists.{as_long, content_past, due_all, not_as_many}
use Rattle.public_fold.proofs.fitting.are_contents.Goals as goal

pub returns-then-heads-records : goal.returns-then-heads-records
returns-then-heads-records c =
    sym (not_as_many _ _ is_content_of c.args.heads.now (map plain_content c.args.records.now) (λ e. c.if-heads-records.true (e ∙ as_long _ _ plain_content c.args.records.now)))

pub returns-then-not-is_content : goal.returns-then-not-is_content
returns-then-not-is_content c =
    let within : c.loop-i.i < length c.args.records.now = omega (arith, c.if-heads-records.false, c.loop-i-test.true) in
    ap (λ t. t && are_due is_content_of (drop (c.loop-i.i + 1) c.args.heads.now) (map plain_content (drop (c.loop-i.i + 1) c.args.records.now))) (sym c.if-not-is_content.true)
    ∙ content_past ContentHead PlainContent ContentRecord is_content_of plain_content c.args.heads.now c.args.records.now c.loop-i.i _ c.index-records-i.result c.is_content.result _
    c.loop-i-test.true within c.index-records-i.is c.is_content.ensures c.loop-i.invariant

pub loop-i-preserved : goal.loop-i-preserved
loop-i-preserved c =
    let within : c.loop-i.i < length c.args.records.now = omega (arith, c.if-heads-records.false, c.loop-i-test.true) in
    ap (λ t. t && are_due is_content_of (drop (c.loop-i.i + 1) c.args.heads.now) (map plain_content (drop (c.loop-i.i + 1) c.args.records.now))) (sym c.if-not-is_content.false)
    ∙ content_past ContentHead PlainContent ContentRecord is_content_of plain_content c.args.heads.now c.args.records.now c.loop-i.i _ c.index-records-i.result c.is_content.result _
    c.loop-i-test.true within c.index-records-i.is c.is_content.ensures c.loop-i.invariant

pub returns : goal.returns
returns c =
    let heads : length c.args.heads.now ≤ c.loop-i.i = omega (arith, c.loop-i-test.false) in
    let records : length c.args.records.now ≤ c.loop-i.i = omega (arith, c.if-heads-records.false, c.loop-i-test.false) in
    sym (due_all ContentHead PlainContent ContentRecord is_content_of plain_content c.args.heads.now c.args.records.now c.loop-i.i heads records) ∙ c.loop-i.invariant
