use Rattle.std.proofs.Common.{◌++◌, List, ℕ, map, ap, sym, ◌∙◌}
use Rattle.std.proofs.lemmas.List.{append-nil}
use Rattle.std.proofs.lemmas.Result.{on_ok_weaker}
use Rattle.trail_audit.specs.Derived.{PlainSeen, plain_seen, text_shown}
use Rattle.trail_audit.proofs.Revealed.{nothing_shown, one_shown}
use Rattle.trail_audit.proofs.contents.see_with.Goals as goal

pub returns-then-not-is_sealed_by-clause-seen : goal.returns-then-not-is_sealed_by-clause-seen
returns-then-not-is_sealed_by-clause-seen c =
    let old = map plain_seen c.args.seen.now.items in
    sym (ap (λ (s : List PlainSeen). old ++ s) (nothing_shown c.args.found.now c.args.key.now (sym c.is_sealed_by.ensures ∙ c.if-not-is_sealed_by.true)) ∙ append-nil old)

pub returns-clause-seen : goal.returns-clause-seen
returns-clause-seen c =
    let old = map plain_seen c.args.seen.now.items in
    let found = c.args.found.now in
    on_ok_weaker c.see_text.result
    (λ seen.
    seen
    ∙ ap (λ (t : List ℕ). old ++ text_shown found.batch found.content t) c.in_ok-text.ensures.text
    ∙ ap (λ (s : List PlainSeen). old ++ s) (sym (one_shown found c.args.key.now (sym c.is_sealed_by.ensures ∙ c.if-not-is_sealed_by.false))))
    c.see_text.ensures.seen
