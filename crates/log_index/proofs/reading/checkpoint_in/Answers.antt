use Rattle.std.proofs.Common.{List, ℕ, ◌++◌, sym, ap, ◌∙◌, arith}
use Rattle.hmac_seal.specs.Hmac.{hmac}
use Rattle.index_format.specs.Plain.{plain_body}
use Rattle.log_index.specs.Plain.{index_tag_key}
use Rattle.log_index.proofs.Finding.{no_first_batch, no_rows, other_tag, rows_are_file}
use Rattle.log_index.proofs.reading.checkpoint_in.Goals as goal

pub returns-then-head-eq0-clause-found : goal.returns-then-head-eq0-clause-found
returns-then-head-eq0-clause-found c =
    no_first_batch c.args.owner.now.bytes c.args.front.now c.args.behind.now c.args.head.now c.told-front c.requires.head c.if-head-eq0.true

pub returns-then-not-is_tagged-clause-found : goal.returns-then-not-is_tagged-clause-found
returns-then-not-is_tagged-clause-found c =
    let owner = c.args.owner.now.bytes in
    let front = c.args.front.now in
    let tag_of = λ (body : List ℕ). hmac (index_tag_key owner) (front ++ body) in
    other_tag owner front c.args.behind.now c.args.head.now c.told-front c.requires.head
    (λ is.
    let right = c.is_tagged.ensures.1 (c.split_at.ensures.back ∙ is ∙ ap tag_of (sym c.split_at.ensures.front)) in
    let wrong = c.if-not-is_tagged.true in
    absurd cc)

pub returns-in_default-clause-found : goal.returns-in_default-clause-found
returns-in_default-clause-found c =
    let none = rw c.in_default.is at c.in_ok-rows.ensures in
    no_rows c.args.owner.now.bytes c.args.front.now c.args.behind.now c.args.head.now c.told-front c.requires.head (λ b fits is. none b fits (c.split_at.ensures.front ∙ is))

pub returns-clause-found : goal.returns-clause-found
returns-clause-found c =
    let owner = c.args.owner.now.bytes in
    let front = c.args.front.now in
    let tag_of = λ (body : List ℕ). hmac (index_tag_key owner) (front ++ body) in
    let tagged = c.is_tagged.ensures.0 c.if-not-is_tagged.false in
    let rows = rw c.in-Some.is at c.in_ok-rows.ensures in
    let first = c.if-head-eq0.false in
    rows_are_file owner front c.args.behind.now c.args.head.now (plain_body c.in-Some.rows) c.of_rows.result c.fits-front c.told-front c.requires.head c.requires.long (omega (arith, first))
    rows.0 (sym c.split_at.ensures.front ∙ rows.1) (sym c.split_at.ensures.back ∙ tagged ∙ ap tag_of c.split_at.ensures.front) c.of_rows.ensures.found
