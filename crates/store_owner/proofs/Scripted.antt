-- An owner who answers a command goes on as the session does.
use Rattle.std.proofs.Common.{◌≡◌, ◌<◌, inl, inr, ℕ, ◌*◌, ◌+◌, suc, cond, List, [], ◌∷◌, ◌++◌, true, length, take, drop, Option, Some, None, Ok, arith, refl, sym, ap, subst, ◌∙◌, length-append}
use Rattle.std.specs.Prelude.{All, is_some}
use Rattle.std.proofs.Math.Seq.{take-append_seam, drop-append_seam}
use Rattle.std.proofs.lemmas.Bool.{false≢true}
use Rattle.std.proofs.lemmas.List.{drop-drop}
use Rattle.std.proofs.lemmas.List.Elements.{All-head, All-nil, All-tail}
use Rattle.commit_journal.specs.Standing.{StandsWhole}
use Rattle.cry_base.specs.Requests.{Request}
use Rattle.public_fold.specs.Journal.Entry.{Session, Did}
use Rattle.cry_base.specs.declared.commands.Refusal.{Refusal}
use Rattle.cry_base.specs.declared.commands.Reply.{Reply}
use Rattle.cry_base.specs.declared.commands.Reply.TheVariants as replies
use Rattle.cry_base.specs.declared.limits.Limits.{Limits}
use Rattle.journal_bytes.specs.Bytes.{batches_of}
use Rattle.journal_bytes.specs.Script.{Going, accepted_going, answer, done_reply, draws_of, journal_then, keys_from, line_going, line_reply}
use Rattle.store_owner.specs.Applying.{Answers, IsDone}
use Rattle.store_owner.specs.Drawing.{joined}
use Rattle.store_owner.specs.Owned.{IsOwnerOf, OwnerView, limits_in}
use Rattle.store_owner.specs.Sessions.{AnswersBehind, GoesOn, StandsAt, with_draws}
use Rattle.store_owner.specs.Tallied.{CountsCommand, CountsOne, KeepsCount, counted_in}
use Rattle.store_owner.proofs.OwnerGoesOn.{not_refused}
use Rattle.store_owner.proofs.Tallies.{counts_on}
use Rattle.store_owner.specs.Deeds.Deed.{Commanded}
use Rattle.store_owner.specs.Stopping.{ComesToRest}

abbrev pub Whole : List ℕ → Type 0
Whole key = length key ≡ 32

apart : (key : List ℕ) (keys : List (List ℕ)) (after : List ℕ) → joined (key ∷ keys) ++ after ≡ key ++ (joined keys ++ after)
apart [] keys after = refl
apart (byte ∷ key) keys after = ap (λ bytes. byte ∷ bytes) (apart key keys after)

-- the keys are the pieces of the bytes in turn, and the other bytes stand behind them
pub keys_again : (drawn : List (List ℕ)) (after : List ℕ) → All Whole drawn → keys_from (length drawn) (joined drawn ++ after) ≡ drawn
unfolding keys_from
keys_again [] after whole = refl
keys_again (key ∷ keys) after whole =
    let split = apart key keys after in
    let front : take 32 (key ++ (joined keys ++ after)) ≡ key = subst (λ n. take n (key ++ (joined keys ++ after)) ≡ key) (All-head Whole key keys whole) (take-append_seam key (joined keys ++ after)) in
    let rest : drop 32 (key ++ (joined keys ++ after)) ≡ joined keys ++ after = subst (λ n. drop n (key ++ (joined keys ++ after)) ≡ joined keys ++ after) (All-head Whole key keys whole) (drop-append_seam key (joined keys ++ after)) in
    ap (λ bytes. take 32 bytes ∷ keys_from (length keys) (drop 32 bytes)) split
    ∙ ap (λ x. x ∷ keys_from (length keys) (drop 32 (key ++ (joined keys ++ after)))) front
    ∙ ap (λ bytes. key ∷ keys_from (length keys) bytes) rest
    ∙ ap (λ ks. key ∷ ks) (keys_again keys after (All-tail Whole key keys whole))

pub rest_again : (drawn : List (List ℕ)) (after : List ℕ) → All Whole drawn → drop (32 * length drawn) (joined drawn ++ after) ≡ after
rest_again [] after whole = refl
rest_again (key ∷ keys) after whole =
    let count : 32 * suc (length keys) ≡ 32 + 32 * length keys = omega arith in
    let rest : drop 32 (key ++ (joined keys ++ after)) ≡ joined keys ++ after = subst (λ n. drop n (key ++ (joined keys ++ after)) ≡ joined keys ++ after) (All-head Whole key keys whole) (drop-append_seam key (joined keys ++ after)) in
    ap (λ n. drop n (joined (key ∷ keys) ++ after)) count
    ∙ ap (λ bytes. drop (32 + 32 * length keys) bytes) (apart key keys after)
    ∙ sym (drop-drop (32 * length keys) 32 (key ++ (joined keys ++ after)))
    ∙ ap (λ bytes. drop (32 * length keys) bytes) rest
    ∙ rest_again keys after (All-tail Whole key keys whole)

-- what is told stays told
still_told : (after before : Option (List ℕ)) (x : List ℕ) → is_some after ≡ is_some before → before ≡ Some x → (y : List ℕ) × (after ≡ Some y)
still_told (Some y) before x same e = (y, refl)
still_told None before x same e = absurd (false≢true (same ∙ ap is_some e))

module _ (limits : Limits) (key : List ℕ) (g : Going) (r : Request) (old new : OwnerView) (left_before left_after was shows : Option (List ℕ))
    (might may : List ℕ → Type 0) (since : List ℕ → List ℕ → Type 0) (stands : StandsAt limits key g old was) where
  -- the owner's answer is the session's
  limited : (o : Option Refusal) → answer (limits_in old) g.journal old.journal.has_epoch r ≡ o → answer limits g.journal g.begun r ≡ o
  limited o e = subst (λ (l : Limits). answer l g.journal g.begun r ≡ o) stands.has_limits (subst (λ b. answer (limits_in old) g.journal b r ≡ o) stands.has_begun e)

  abbrev Goes : Reply → Type 0
  Goes reply = (h : Going) × GoesOn limits g h r reply left_before left_after × StandsAt limits key h new shows × AnswersBehind g h old new was shows
      × ComesToRest key g.journal h.journal was shows might may since × KeepsCount (Commanded r) reply old new g.journal h.journal

  same_bytes : (x y : List ℕ) → left_after ≡ left_before → left_before ≡ Some x → left_after ≡ Some y → x ≡ y
  same_bytes x y left before after = let both = sym before ∙ sym left ∙ after in cc

  refused : (why : Refusal) → answer (limits_in old) g.journal old.journal.has_epoch r ≡ Some why → new ≡ old → ComesToRest old.key g.journal g.journal was shows might may since
      → left_after ≡ left_before → shows ≡ was → Goes (replies.Refused why)
  unfolding line_reply line_going
  refused why is same rests left shown =
      let e = limited (Some why) is in
      let end = ap (λ (o : OwnerView). o.journal.end) same in
      let at_old : StandsAt limits key g old shows = subst (λ (s : Option (List ℕ)). StandsAt limits key g old s) (sym shown) stands in (
        g,
        record {
          drawn = [];
          drawn_sizes = All-nil (λ (key : List ℕ). length key ≡ 32);
          next_bytes = λ x y before after. same_bytes x y left before after;
          goes = λ rest. ap (line_going (with_draws g rest) r) e;
          replied = λ rest. ap (line_reply (with_draws g rest) r) e;
        },
        subst (λ (o : OwnerView). StandsAt limits key g o shows) (sym same) at_old,
        record {
          behind = λ x y a b. let one : y ≡ x = cc in ap (λ bytes. drop new.journal.end bytes) one;
          further = omega (arith, end);
          no_shorter = omega arith;
          unchanged = inl shown;
        },
        subst (λ k. ComesToRest k g.journal g.journal was shows might may since) stands.has_key rests,
        λ kept all. kept ∙ all,
      )

  -- one who was asked a command that is accepted counts it
  abbrev Counting : Reply → Type 0
  Counting reply = CountsCommand (Ok reply) (Commanded r) old new → CountsOne (Commanded r) old new

  done : (reply : Reply) → IsDone g.journal (Commanded r) reply old new left_before left_after was shows might may since → is_some shows ≡ is_some was → Counting reply → Goes reply
  unfolding line_reply line_going accepted_going
  done reply is disk_told counting =
      let e = limited None is.accepted in
      let disk = still_told shows was stands.disk_stands.0 disk_told stands.disk_stands.1 in
      let then : List (List ℕ) → List ℕ → Going = λ keys draws. record { journal = journal_then g.journal g.begun r keys; begun = true; draws = draws } in
      let keys : (rest : List ℕ) → keys_from (draws_of g.journal r) (joined is.drawn ++ rest) ≡ is.drawn = λ rest.
      ap (λ n. keys_from n (joined is.drawn ++ rest)) (sym is.drawn_count) ∙ keys_again is.drawn rest is.drawn_sizes in
      let left : (rest : List ℕ) → drop (32 * draws_of g.journal r) (joined is.drawn ++ rest) ≡ rest = λ rest.
      ap (λ n. drop (32 * n) (joined is.drawn ++ rest)) (sym is.drawn_count) ∙ rest_again is.drawn rest is.drawn_sizes in
      let journal : journal_then g.journal old.journal.has_epoch r is.drawn ≡ journal_then g.journal g.begun r is.drawn = ap (λ b. journal_then g.journal b r is.drawn) stands.has_begun in
      let at_old : StandsWhole old.key (batches_of old.key g.journal) stands.disk_stands.0 =
      subst (λ k. StandsWhole k (batches_of k g.journal) stands.disk_stands.0) (sym stands.has_key) stands.disk_stands.2 in
      let whole : StandsWhole old.key (batches_of old.key (journal_then g.journal old.journal.has_epoch r is.drawn)) disk.0 =
      is.disk_stands stands.disk_stands.0 disk.0 stands.disk_stands.1 disk.1 at_old in
      let before : (x : List ℕ) → was ≡ Some x → StandsWhole old.key (batches_of old.key g.journal) x = λ x a.
      let one : stands.disk_stands.0 ≡ x = let both = sym stands.disk_stands.1 ∙ a in cc in
      subst (StandsWhole old.key (batches_of old.key g.journal)) one at_old in
      let session = cond g.begun [] (Session ∷ []) in
      let longer : length g.journal < length (journal_then g.journal g.begun r is.drawn) =
      omega (arith, length-append (g.journal ++ session) (Did r is.drawn ∷ []), length-append g.journal session) in (
        then is.drawn [],
        record {
          drawn = is.drawn;
          drawn_sizes = is.drawn_sizes;
          next_bytes = is.next_bytes;
          goes = λ rest.
              ap (line_going (with_draws g (joined is.drawn ++ rest)) r) e
              ∙ ap (λ ks. then ks (drop (32 * draws_of g.journal r) (joined is.drawn ++ rest))) (keys rest) ∙ ap (then is.drawn) (left rest);
          replied = λ rest.
              ap (line_reply (with_draws g (joined is.drawn ++ rest)) r) e ∙ ap (λ ks. done_reply g.journal r ks) (keys rest) ∙ sym is.reply_is;
        },
        record {
          owner_is = subst (λ m. IsOwnerOf m new) journal is.owner_is;
          has_key = is.same_key ∙ stands.has_key;
          has_limits = is.same_limits ∙ stands.has_limits;
          has_begun = is.has_begun;
          disk_stands = (disk.0, disk.1, subst (λ m. StandsWhole key (batches_of key m) disk.0) journal (subst (λ k. StandsWhole k (batches_of k (journal_then g.journal old.journal.has_epoch r is.drawn)) disk.0) stands.has_key whole));
        },
        record {
          behind = λ x y a b. is.disk_behind x y a b (before x a);
          further = is.further;
          no_shorter = omega (arith, longer);
          unchanged = inr longer;
        },
        subst (λ m. ComesToRest key g.journal m was shows might may since) journal
            (subst (λ k. ComesToRest k g.journal (journal_then g.journal old.journal.has_epoch r is.drawn) was shows might may since) stands.has_key is.comes_to_rest),
        λ counts all. counts_on g.journal (Commanded r) is.drawn old new stands.owner_is (not_refused g.journal (Commanded r) old is.accepted).0 (counting counts) all ∙ ap counted_in journal,
      )

pub answered_counting : (limits : Limits) (key : List ℕ) (g : Going) (r : Request) (reply : Reply) (old new : OwnerView) (left_before left_after was shows : Option (List ℕ))
    (might may : List ℕ → Type 0) (since : List ℕ → List ℕ → Type 0)
    → StandsAt limits key g old was → Answers (Ok reply) g.journal (Commanded r) old new left_before left_after was shows might may since
    → is_some shows ≡ is_some was → ((why : Refusal) → reply ≡ replies.Refused why → (left_after ≡ left_before) × (shows ≡ was))
    → (h : Going) × GoesOn limits g h r reply left_before left_after × StandsAt limits key h new shows × AnswersBehind g h old new was shows
    × ComesToRest key g.journal h.journal was shows might may since × KeepsCount (Commanded r) reply old new g.journal h.journal
answered_counting limits key g r replies.Done old new left_before left_after was shows might may since stands is disk_told kept =
    done limits key g r old new left_before left_after was shows might may since stands replies.Done is disk_told (λ one. one)
answered_counting limits key g r (replies.Made holder drawn) old new left_before left_after was shows might may since stands is disk_told kept =
    done limits key g r old new left_before left_after was shows might may since stands (replies.Made holder drawn) is disk_told (λ one. one)
answered_counting limits key g r (replies.Refused why) old new left_before left_after was shows might may since stands is disk_told kept =
    refused limits key g r old new left_before left_after was shows might may since stands why is.0 is.1 is.2 (kept why refl).0 (kept why refl).1

pub answered : (limits : Limits) (key : List ℕ) (g : Going) (r : Request) (reply : Reply) (old new : OwnerView) (left_before left_after was shows : Option (List ℕ))
    (might may : List ℕ → Type 0) (since : List ℕ → List ℕ → Type 0)
    → StandsAt limits key g old was → Answers (Ok reply) g.journal (Commanded r) old new left_before left_after was shows might may since
    → is_some shows ≡ is_some was → ((why : Refusal) → reply ≡ replies.Refused why → (left_after ≡ left_before) × (shows ≡ was))
    → (h : Going) × GoesOn limits g h r reply left_before left_after × StandsAt limits key h new shows × AnswersBehind g h old new was shows
    × ComesToRest key g.journal h.journal was shows might may since
answered limits key g r reply old new left_before left_after was shows might may since stands is disk_told kept =
    let all = answered_counting limits key g r reply old new left_before left_after was shows might may since stands is disk_told kept in (all.0, all.1, all.2, all.3, all.4)
