-- The commands of one line, answered one after another up to the first that is refused.
use Rattle.std.proofs.Common.{◌≡◌, ◌≢◌, ◌<◌, ◌≤◌, ℕ, zero, suc, ◌+◌, Bool, true, false, List, [], ◌∷◌, ◌++◌, length, drop, map, get_or, Option, Result, Ok, Err, inl, inr, append_assoc, arith, refl, sym, ap, subst, ◌∙◌}
use Rattle.std.specs.Prelude.{is_some}
use Rattle.std.proofs.lemmas.List.{append-nil}
use Rattle.cry_base.specs.declared.commands.Refusal.{Refusal}
use Rattle.cry_base.specs.declared.commands.Reply.{Reply}
use Rattle.cry_base.specs.declared.commands.Reply.TheVariants.{Done, Made, Refused}
use Rattle.cry_base.specs.Requests.{Request}
use Rattle.cry_io.specs.Told.{WhereBothTold}
use Rattle.cry_io.proofs.ToldLemmas.{told_again}
use Rattle.group_book.specs.Replacing.{replacement}
use Rattle.script_text.specs.Printing.{spell_reply}
use Rattle.script_text.specs.Tasks.Task.{Does, Replaces}
use Rattle.cli_sessions.specs.Script.{Answered, AnswersEach, AnswersLine, AnswersOne, EachAnswered, IsAsked, IsReplacement, LineAnswered, PrintsReplies, is_refusal, spell_replies}
use Rattle.cli_sessions.specs.Script.Answered.{Begun, Then}
use Rattle.cli_sessions.proofs.ScriptLemmas.{one_is_cut, prints_more, same_told, spell_one}
use Rattle.cli_sessions.specs.declared.script.ScriptFault.{ScriptFault}
use Rattle.store_owner.specs.declared.apply_fault.ApplyFault.{ApplyFault}
use Rattle.cli_sessions.specs.declared.script.ScriptFault.TheVariants.{BadLine, ReadFault, WriteFault, OutOfMemory, Applying}

pub drop_next : {A B : Type 0} (f : A → B) (xs : List A) (i : ℕ) (x : A) → i < length xs → x ≡ get_or xs i x → drop i (map f xs) ≡ f x ∷ drop (i + 1) (map f xs)
drop_next f [] i x h at = absurd (let none : ⊥ = omega (arith, h) in none)
drop_next f (y ∷ ys) zero x h at = ap (λ z. f z ∷ map f ys) (sym at)
drop_next f (y ∷ ys) (suc i) x h at =
    let far : suc (i + 1) ≡ suc i + 1 = omega arith in
    drop_next f ys i x (omega (arith, h)) at ∙ ap (λ n. f x ∷ drop n (map f (y ∷ ys))) far

pub drop_all : {A B : Type 0} (f : A → B) (xs : List A) (i : ℕ) → length xs ≤ i → drop i (map f xs) ≡ []
drop_all f [] zero h = refl
drop_all f [] (suc i) h = refl
drop_all f (y ∷ ys) zero h = absurd (let none : ⊥ = omega (arith, h) in none)
drop_all f (y ∷ ys) (suc i) h = drop_all f ys i (omega (arith, h))

-- an accepted reply, behind which the next command is asked
abbrev pub IsAccepted : Reply → Type 0
IsAccepted Done = Unit {0}
IsAccepted (Made holder key) = Unit {0}
IsAccepted (Refused why) = ⊥

pub accepted_is : (reply : Reply) → is_refusal reply ≡ false → IsAccepted reply
accepted_is Done is = tt
accepted_is (Made holder key) is = tt
accepted_is (Refused why) is = cc

pub refused_is : (reply : Reply) → is_refusal reply ≡ true → (why : Refusal) × (reply ≡ Refused why)
refused_is Done is = absurd cc
refused_is (Made holder key) is = absurd cc
refused_is (Refused why) is = (why, refl)

next_asked : (cut : Bool) (command : Request) (commands block : List Request) (reply : Reply) (replies : List Reply) → IsAccepted reply → IsAsked cut commands block replies
    → IsAsked cut (command ∷ commands) (command ∷ block) (reply ∷ replies)
next_asked cut command commands block Done replies accepted is = (refl, is)
next_asked cut command commands block (Made holder key) replies accepted is = (refl, is)
next_asked cut command commands block (Refused why) replies accepted is = absurd accepted

-- the last one that is asked
last_asked : (command : Request) (commands : List Request) (reply : Reply) → IsAsked true (command ∷ commands) (command ∷ []) (reply ∷ [])
last_asked command [] Done = (refl, tt)
last_asked command (next ∷ commands) Done = (refl, refl)
last_asked command [] (Made holder key) = (refl, tt)
last_asked command (next ∷ commands) (Made holder key) = (refl, refl)
last_asked command commands (Refused why) = (refl, refl)

only_asked : (command : Request) (reply : Reply) → IsAsked false (command ∷ []) (command ∷ []) (reply ∷ [])
only_asked command Done = (refl, tt)
only_asked command (Made holder key) = (refl, tt)
only_asked command (Refused why) = (refl, refl)

not_none : {A : Type 0} (xs : List A) (x : A) → xs ++ x ∷ [] ≢ []
not_none [] x is = cc
not_none (y ∷ ys) x is = cc

whole_asked : (commands block : List Request) (replies : List Reply) → IsAsked false commands block replies → commands ≢ [] → block ≢ []
whole_asked [] block replies is some = absurd (some refl)
whole_asked (c ∷ commands) [] replies is some = absurd cc
whole_asked (c ∷ commands) (b ∷ block) replies is some = λ e. cc

module _ (X : Type 0) (Step : X → Request → Reply → X → Type 0) (Fails : X → Request → ApplyFault → X → Type 0) (Stand : X → ℕ → List Request → Type 0) where
  -- a command's line
  pub one_answered : (x y : X) (r : Request) (reply : Reply) (before after : Option (List ℕ)) → AnswersOne Step Fails (Ok reply) x r y before after
      → AnswersLine Step Fails Stand (Ok tt) x (Does r) y before after
  one_answered x y r reply before after answer = record {
    block = r ∷ [];
    replies = reply ∷ [];
    went = record { commands = r ∷ []; stands_for = refl; asked = only_asked r reply; some_asked = λ e. cc; stands = Then Begun answer.0 };
    printed = λ b a was is. answer.1 b a was is ∙ ap (λ text. b ++ text) (sym (spell_one reply));
  }

  pub one_met : (x y : X) (r : Request) (fault : ScriptFault) (before after : Option (List ℕ)) → AnswersOne Step Fails (Err fault) x r y before after
      → AnswersLine Step Fails Stand (Err fault) x (Does r) y before after
  one_met x y r (BadLine line) before after answer = absurd answer
  one_met x y r ReadFault before after answer = absurd answer
  one_met x y r WriteFault before after answer = record {
    block = r ∷ [];
    replies = answer.0 ∷ [];
    went = record { commands = r ∷ []; stands_for = refl; asked = last_asked r [] answer.0; some_asked = λ e. cc; stands = Then Begun answer.1 };
    printed = λ b a was is. let cut = answer.2 b a was is in one_is_cut answer.0 cut.0 b a cut.1;
  }
  one_met x y r OutOfMemory before after answer = inr (record {
    block = r ∷ [];
    replies = answer.0 ∷ [];
    went = record { commands = r ∷ []; stands_for = refl; asked = last_asked r [] answer.0; some_asked = λ e. cc; stands = Then Begun answer.1 };
    printed = λ b a was is. one_is_cut answer.0 0 b a (same_told before b a was (sym answer.2 ∙ is) ∙ sym (append-nil b));
  })
  one_met x y r (Applying fault) before after answer = record {
    block = r ∷ [];
    replies = [];
    went = record { commands = r ∷ []; stands_for = refl; asked = (refl, refl, refl); some_asked = λ e. cc; stands = (x, [], r, refl, Begun, answer.0) };
    printed = λ b a was is. same_told before b a was (sym answer.1 ∙ is) ∙ sym (append-nil b);
  }

  some_commands : (n : ℕ) (commands : List Request) → IsReplacement n commands → commands ≢ []
  unfolding replacement
  some_commands n [] (inl is) = absurd cc
  some_commands n [] (inr is) = absurd (let none = is.2 in cc)
  some_commands n (c ∷ commands) is = λ e. cc

  -- the line of a replacement
  replaced : (cut : Bool) (result : Result (Unit {0}) ScriptFault) (x y : X) (n : ℕ) (commands : List Request) (before after : Option (List ℕ)) → Stand x n commands → IsReplacement n commands
      → commands ≢ [] → EachAnswered Step Fails cut result x commands y before after → LineAnswered Step Fails Stand cut result x (Replaces n) y before after
  replaced cut result x y n commands before after stands form some each = record {
    block = each.block;
    replies = each.replies;
    went = record { commands = commands; stands_for = (stands, form); asked = each.asked; some_asked = each.some_asked some; stands = each.stands };
    printed = each.printed;
  }

  pub replacing : (x y : X) (n : ℕ) (commands : List Request) (result : Result (Unit {0}) ScriptFault) (before after : Option (List ℕ)) → Stand x n commands → IsReplacement n commands
      → AnswersEach Step Fails result x commands y before after → AnswersLine Step Fails Stand result x (Replaces n) y before after
  replacing x y n commands (Ok tt) before after stands form each = replaced false (Ok tt) x y n commands before after stands form (some_commands n commands form) each
  replacing x y n commands (Err (BadLine line)) before after stands form each = absurd each
  replacing x y n commands (Err ReadFault) before after stands form each = absurd each
  replacing x y n commands (Err WriteFault) before after stands form each = replaced true (Err WriteFault) x y n commands before after stands form (some_commands n commands form) each
  replacing x y n commands (Err OutOfMemory) before after stands form each = inr (replaced true (Err OutOfMemory) x y n commands before after stands form (some_commands n commands form) each)
  replacing x y n commands (Err (Applying fault)) before after stands form each = replaced true (Err (Applying fault)) x y n commands before after stands form (some_commands n commands form) each

module _ (X : Type 0) (Step : X → Request → Reply → X → Type 0) (Fails : X → Request → ApplyFault → X → Type 0) (start : X) (commands : List Request) (out_first : Option (List ℕ)) where
  -- what was answered of them so far, and what is left
  pub record EachGoing (x : X) (rest : List Request) (out : Option (List ℕ)) : Type 0 where
    pub block : List Request
    pub replies : List Reply
    pub answered : Answered Step start block replies x
    pub onward : (cut : Bool) (more : List Request) (some : List Reply) → IsAsked cut rest more some → IsAsked cut commands (block ++ more) (replies ++ some)
    pub printed : WhereBothTold out_first out (λ before after. after ≡ before ++ spell_replies replies)
    pub told : is_some out ≡ is_some out_first

  module _ (x : X) (rest : List Request) (out : Option (List ℕ)) (going : EachGoing x rest out) where
    -- there is no command more
    pub each_end : rest ≡ [] → AnswersEach Step Fails (Ok tt) start commands x out_first out
    each_end none =
        let asked : IsAsked false commands (going.block ++ []) (going.replies ++ []) = going.onward false [] [] (subst (λ l. IsAsked false l [] []) (sym none) tt) in
        let whole : IsAsked false commands going.block going.replies =
        subst (λ l. IsAsked false commands l going.replies) (append-nil going.block) (subst (λ l. IsAsked false commands (going.block ++ []) l) (append-nil going.replies) asked) in
        record {
          block = going.block;
          replies = going.replies;
          asked = whole;
          some_asked = whole_asked commands going.block going.replies whole;
          stands = going.answered;
          printed = going.printed;
        }

    module _ (next : Request) (left : List Request) (rest_is : rest ≡ next ∷ left) (y : X) (out_last : Option (List ℕ)) where
      asked_to : (cut : Bool) (more : List Request) (some : List Reply) → IsAsked cut (next ∷ left) more some → IsAsked cut commands (going.block ++ more) (going.replies ++ some)
      asked_to cut more some is = going.onward cut more some (subst (λ l. IsAsked cut l more some) (sym rest_is) is)

      prints_all : (result : Result (Unit {0}) ScriptFault) (some : List Reply) → WhereBothTold out out_last (PrintsReplies result some)
          → WhereBothTold out_first out_last (PrintsReplies result (going.replies ++ some))
      prints_all result some prints = λ b a was is.
          let again = told_again out_first out b going.told was in
          prints_more result going.replies some b again.0 a (going.printed b again.0 was again.1) (prints again.0 a again.1 is)

      prints_one : (reply : Reply) → WhereBothTold out out_last (λ b a. a ≡ b ++ spell_reply reply) → WhereBothTold out out_last (PrintsReplies (Ok tt) (reply ∷ []))
      prints_one reply prints = λ b a was is. prints b a was is ∙ ap (λ text. b ++ text) (sym (spell_one reply))

      -- the next one is accepted
      pub each_next : (reply : Reply) → IsAccepted reply → AnswersOne Step Fails (Ok reply) x next y out out_last → is_some out_last ≡ is_some out → EachGoing y left out_last
      each_next reply accepted answer told = record {
        block = going.block ++ next ∷ [];
        replies = going.replies ++ reply ∷ [];
        answered = Then going.answered answer.0;
        onward = λ cut more some is.
            subst (λ l. IsAsked cut commands l ((going.replies ++ reply ∷ []) ++ some)) (sym (append_assoc going.block (next ∷ []) more))
            (subst (λ l. IsAsked cut commands (going.block ++ (next ∷ more)) l) (sym (append_assoc going.replies (reply ∷ []) some))
            (asked_to cut (next ∷ more) (reply ∷ some) (next_asked cut next left more reply some accepted is)));
        printed = prints_all (Ok tt) (reply ∷ []) (prints_one reply answer.1);
        told = told ∙ going.told;
      }

      -- or refused
      pub each_refused : (reply : Reply) → is_refusal reply ≡ true → AnswersOne Step Fails (Ok reply) x next y out out_last → AnswersEach Step Fails (Ok tt) start commands y out_first out_last
      each_refused reply refused answer =
          let why = refused_is reply refused in
          record {
            block = going.block ++ next ∷ [];
            replies = going.replies ++ reply ∷ [];
            asked = asked_to false (next ∷ []) (reply ∷ []) (subst (λ a. IsAsked false (next ∷ left) (next ∷ []) (a ∷ [])) (sym why.1) (refl, refl));
            some_asked = λ some. not_none going.block next;
            stands = Then going.answered answer.0;
            printed = prints_all (Ok tt) (reply ∷ []) (prints_one reply answer.1);
          }

      -- or meets a fault
      pub each_met : (fault : ScriptFault) → AnswersOne Step Fails (Err fault) x next y out out_last → AnswersEach Step Fails (Err fault) start commands y out_first out_last
      each_met (BadLine line) answer = absurd answer
      each_met ReadFault answer = absurd answer
      each_met WriteFault answer = record {
        block = going.block ++ next ∷ [];
        replies = going.replies ++ answer.0 ∷ [];
        asked = asked_to true (next ∷ []) (answer.0 ∷ []) (last_asked next left answer.0);
        some_asked = λ some. not_none going.block next;
        stands = Then going.answered answer.1;
        printed = prints_all (Err WriteFault) (answer.0 ∷ []) (λ b a was is. let cut = answer.2 b a was is in one_is_cut answer.0 cut.0 b a cut.1);
      }
      each_met OutOfMemory answer = record {
        block = going.block ++ next ∷ [];
        replies = going.replies ++ answer.0 ∷ [];
        asked = asked_to true (next ∷ []) (answer.0 ∷ []) (last_asked next left answer.0);
        some_asked = λ some. not_none going.block next;
        stands = Then going.answered answer.1;
        printed = prints_all (Err OutOfMemory) (answer.0 ∷ []) (λ b a was is. one_is_cut answer.0 0 b a (same_told out b a was (sym answer.2 ∙ is) ∙ sym (append-nil b)));
      }
      each_met (Applying fault) answer = record {
        block = going.block ++ next ∷ [];
        replies = going.replies;
        asked = subst (λ l. IsAsked true commands (going.block ++ next ∷ []) l) (append-nil going.replies) (asked_to true (next ∷ []) [] (refl, refl, refl));
        some_asked = λ some. not_none going.block next;
        stands = (x, going.block, next, refl, going.answered, answer.0);
        printed = λ b a was is. going.printed b a was (sym answer.1 ∙ is);
      }

  pub each_at_start : EachGoing start commands out_first
  each_at_start = record {
    block = [];
    replies = [];
    answered = Begun;
    onward = λ cut more some is. is;
    printed = λ b a was is. same_told out_first b a was is ∙ sym (append-nil b);
    told = refl;
  }
