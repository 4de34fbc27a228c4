use Rattle.std.proofs.Common.{◌<◌, ◌^◌, ◌++◌, ◌∷◌, [], Ok, sym, subst, ◌∙◌, arith}
use Rattle.std.proofs.lemmas.Result.{on_ok_weaker}
use Rattle.commit_journal.specs.Placed.{plain_body, plain_placed}
use Rattle.public_fold.specs.Standing.{IsSeenAs}
use Rattle.log_visits.specs.Answering.{AnswersBy, IsFault}
use Rattle.log_visits.specs.Folding.{stand_behind}
use Rattle.holder_client.specs.Reads.{HasReadTo}
use Rattle.holder_client.proofs.Adding.{added, follows_on, has_folded, misfit_met, misfit_stays, none_from}
use Rattle.log_visits.proofs.Starts.{starts_grow, starts_next}
use Rattle.holder_client.proofs.log_reader.Reader.take.Goals as goal

pub returns-then-is_some-clause-read : goal.returns-then-is_some-clause-read
returns-then-is_some-clause-read c = λ log read epochs batch.
    misfit_stays c.args.self.now log (plain_placed c.args.placed.now) c.args.self.now.misfit (sym c.is_some.ensures ∙ c.if-is_some.true) read

pub take_batch-requires : goal.take_batch-requires
take_batch-requires c =
    let log = c.requires.next.0 in
    let reader = c.args.self.now in
    record { next = follows_on reader log (plain_placed c.args.placed.now) (has_folded reader log reader.misfit (sym c.is_some.ensures ∙ c.if-is_some.false) c.requires.next.1) c.requires.next.2 }

pub keep-requires-clause-from_one : goal.keep-requires-clause-from_one
keep-requires-clause-from_one c = omega (arith, c.requires.next.3)

pub returns-in-Ok-clause-read : goal.returns-in-Ok-clause-read
returns-in-Ok-clause-read c =
    on_ok_weaker c.keep.result
    (λ kept log read epochs batch.
    let old = c.args.self.now in
    let new = c.keep.new.self in
    let fits = sym c.is_some.ensures ∙ c.if-is_some.false in
    let has = has_folded old log old.misfit fits read in
    let small : c.args.placed.now.batch < 2 ^ 32 = omega arith in
    subst (λ m. HasReadTo m new (log ++ plain_placed c.args.placed.now ∷ [])) (sym (c.keep.ensures.misfit ∙ none_from old.misfit fits))
    (added old new log (plain_placed c.args.placed.now) has epochs batch small
    (λ at seen. subst (λ s. AnswersBy (λ (u : Unit {0}) behind. IsSeenAs s behind) (Ok tt) (stand_behind at c.args.placed.now.place (plain_body c.args.placed.now.body))) (sym c.keep.ensures.state) (c.in-Ok.ensures.answer at seen))
    (λ at folds seen. kept log at batch has.index has.checks folds (subst (λ s. IsSeenAs s at) c.keep.ensures.state seen))))
    c.keep.ensures.kept

pub returns-in-Err-Damaged-clause-read : goal.returns-in-Err-Damaged-clause-read
returns-in-Err-Damaged-clause-read c = λ log read epochs batch.
    let old = c.args.self.now in
    misfit_met old log (plain_placed c.args.placed.now) c.in-Err-Damaged.at (has_folded old log old.misfit (sym c.is_some.ensures ∙ c.if-is_some.false) read) (λ at seen. subst (λ fault. IsFault fault (stand_behind at c.args.placed.now.place (plain_body c.args.placed.now.body))) c.in-Err-Damaged.field-0-is (c.in-Err-Damaged.ensures.answer at seen))

pub returns-then-is_some-clause-starts : goal.returns-then-is_some-clause-starts
returns-then-is_some-clause-starts c = λ starts have number next. starts_grow c.args.self.now.index.contents starts (c.args.start.now ∷ []) have

pub returns-in-Ok-clause-starts : goal.returns-in-Ok-clause-starts
returns-in-Ok-clause-starts c =
    on_ok_weaker c.keep.result
    (λ kept starts have number next.
    let start = c.args.start.now in
    kept (starts ++ start ∷ []) (starts_grow c.args.self.now.index.contents starts (start ∷ []) have) (starts_next starts start c.args.placed.now.batch number next))
    c.keep.ensures.starts

pub returns-in-Err-Damaged-clause-starts : goal.returns-in-Err-Damaged-clause-starts
returns-in-Err-Damaged-clause-starts c = λ starts have number next. starts_grow c.args.self.now.index.contents starts (c.args.start.now ∷ []) have
