-- What a reader's input hands in, line by line.
use Rattle.std.proofs.Common.{◌≡◌, ◌≢◌, ℕ, List, [], ◌∷◌, ◌++◌, Option, None, Some, Ok, Err, inl, inr, append_assoc, arith, refl, sym, ap, subst, ◌∙◌, length-append}
use Rattle.std.specs.Prelude.{is_some, ok_or}
use Rattle.std.proofs.lemmas.List.{append-nil}
use Rattle.std.proofs.lemmas.List.Elements.{All-nil}
use Rattle.cry_base.specs.Listed.{Listed}
use Rattle.cry_base.specs.declared.client.Bundle.{Bundle}
use Rattle.cry_base.specs.declared.client.Bundle.TheVariants.{Holder, Owner}
use Rattle.cry_base.specs.declared.ids.HolderId.{HolderId}
use Rattle.script_text.specs.Reading.{bundle_of}
use Rattle.cli_base.specs.Input.{BeginsInput, BeginsWith, EndsInput, IsBehindBundle, IsUnjudgedBy, ReadsInput, ReadsOwner, TakesLines, alone, bundle_before, bundle_in, input_answer, key_before, owner_answer, owner_in, owner_key}
use Rattle.script_text.specs.Cutting.{IsOneLine}
use Rattle.cli_base.specs.Lines.{Gives, InputLine, IsCutOff, IsUnended, LineState, Takes, bytes_ahead, input_limit, lines_ahead, lines_of}
use Rattle.cli_base.specs.Lines.InputLine.{Whole, TooLong}
use Rattle.cli_base.specs.declared.lines.Next.{Next}
use Rattle.cli_base.specs.declared.lines.Next.TheVariants.{Line, End, PastLimit}
use Rattle.cli_base.specs.declared.input.InputFault.{InputFault}
use Rattle.cli_base.specs.declared.input.InputFault.TheVariants.{BadLine, Failed, OutOfMemory}

-- a reader that has read nothing yet
abbrev pub fresh_reader : LineState
fresh_reader = record { line = []; piece = []; room = input_limit; given = 0 }

last_nil : (front back : List ℕ) → front ++ back ≡ [] → back ≡ []
last_nil [] back none = none
last_nil (byte ∷ front) back none = cc

-- nothing is to come, so nothing is left
pub nothing_left : (s : LineState) (left : List ℕ) → bytes_ahead s left ≡ [] → left ≡ []
nothing_left s left none = last_nil s.piece left (last_nil s.line (s.piece ++ left) none)

-- the bytes of one line are taken
pub taken_one : (next : Next) (old new : LineState) (before left : List ℕ) → Takes next old new before (bytes_ahead new left) → TakesLines 1 before left
taken_one (Line number bytes) old new before left takes =
    elim takes.cut [
      | inl cut ↦ record {
        front = bytes.items ++ 10 ∷ [];
        ahead = new.piece;
        taken = cut.0 ∙ ap (λ l. bytes.items ++ 10 ∷ (l ++ (new.piece ++ left))) takes.begins ∙ sym (append_assoc bytes.items (10 ∷ []) (new.piece ++ left));
        of_lines = inr (bytes.items, [], takes.one, refl, refl);
        few = takes.few;
      }
      | inr whole ↦ record {
        front = bytes.items;
        ahead = [];
        taken = whole.0 ∙ sym (append-nil bytes.items) ∙ ap (λ l. bytes.items ++ l) (sym (nothing_left new left whole.1));
        of_lines = inl takes.one;
        few = omega arith;
      }
    ]
taken_one End old new before left takes = record {
  front = [];
  ahead = [];
  taken = takes.0 ∙ sym (nothing_left new left takes.1);
  of_lines = inl (All-nil (λ byte. byte ≢ 10));
  few = omega arith;
}
taken_one (PastLimit number) old new before left takes = record {
  front = new.line;
  ahead = new.piece;
  taken = sym takes.same;
  of_lines = takes.one;
  few = takes.few;
}

-- and those of a line before them
behind_taken : (line typed before left : List ℕ) (room rest : ℕ) → IsOneLine line → IsCutOff line room rest typed before → TakesLines 1 before left → TakesLines 2 typed left
behind_taken line typed before left room rest one cut t =
    elim cut [
      | inl split ↦ record {
        front = line ++ 10 ∷ t.front;
        ahead = t.ahead;
        taken = split.0 ∙ ap (λ b. line ++ 10 ∷ b) t.taken ∙ sym (append_assoc line (10 ∷ t.front) (t.ahead ++ left));
        of_lines = inr (line, t.front, one, refl, t.of_lines);
        few = t.few;
      }
      | inr whole ↦ record {
        front = line;
        ahead = [];
        taken = whole.0 ∙ sym (append-nil line)
            ∙ ap (λ l. line ++ l) (sym (last_nil t.ahead left (last_nil t.front (t.ahead ++ left) (sym t.taken ∙ whole.1))));
        of_lines = inl one;
        few = omega arith;
      }
    ]

-- ---- the first line

first_taken : (next : Next) (old new : LineState) (typed left : List ℕ) → old ≡ fresh_reader → Takes next old new (bytes_ahead old typed) (bytes_ahead new left) → TakesLines 1 typed left
first_taken next old new typed left first takes =
    taken_one next fresh_reader new typed left (subst (λ s. Takes next s new (bytes_ahead s typed) (bytes_ahead new left)) first takes)

pub first_is_bundle : (bundle : Bundle) (number : ℕ) (bytes : Listed ℕ) (old new : LineState) (typed left : List ℕ) → old ≡ fresh_reader → bundle_of bytes.items ≡ Some bundle
    → Gives (Line number bytes) (lines_ahead old typed) (lines_ahead new left) → Takes (Line number bytes) old new (bytes_ahead old typed) (bytes_ahead new left)
    → IsBehindBundle bundle typed new left
first_is_bundle bundle number bytes old new typed left first is gives takes = record {
  line = bytes.items;
  is_bundle = is;
  lines_are = subst (λ s. Gives (Line number bytes) (lines_ahead s typed) (lines_ahead new left)) first gives;
  one = takes.one;
  cut = subst (λ (s : LineState). IsCutOff bytes.items s.room new.room (bytes_ahead s typed) (bytes_ahead new left)) first takes.cut;
  taken = first_taken (Line number bytes) old new typed left first takes;
}

first_answer : (lines : List InputLine) (old : LineState) (typed : List ℕ) → old ≡ fresh_reader → lines_ahead old typed ≡ lines → bundle_in lines ≡ Err 1 → input_answer typed ≡ Err 1
unfolding input_answer
first_answer lines old typed first are bad = ap (λ s. bundle_in (lines_ahead s typed)) (sym first) ∙ ap bundle_in are ∙ bad

pub first_is_bad : (number : ℕ) (bytes : Listed ℕ) (old new : LineState) (typed left : List ℕ) → old ≡ fresh_reader → bundle_of bytes.items ≡ None
    → Gives (Line number bytes) (lines_ahead old typed) (lines_ahead new left) → Takes (Line number bytes) old new (bytes_ahead old typed) (bytes_ahead new left)
    → BeginsInput (Err (BadLine 1)) typed new left
first_is_bad number bytes old new typed left first bad gives takes = (
  refl,
  first_answer (Whole bytes.items ∷ lines_ahead new left) old typed first gives (ap (λ o. bundle_before o (lines_ahead new left)) bad),
  first_taken (Line number bytes) old new typed left first takes,
)

pub first_is_none : (old new : LineState) (typed left : List ℕ) → old ≡ fresh_reader
    → Gives End (lines_ahead old typed) (lines_ahead new left) → Takes End old new (bytes_ahead old typed) (bytes_ahead new left)
    → BeginsInput (Err (BadLine 1)) typed new left
first_is_none old new typed left first gives takes =
    (refl, first_answer [] old typed first gives.0 refl, first_taken End old new typed left first takes)

pub first_is_long : (number : ℕ) (old new : LineState) (typed left : List ℕ) → old ≡ fresh_reader
    → Gives (PastLimit number) (lines_ahead old typed) (lines_ahead new left) → Takes (PastLimit number) old new (bytes_ahead old typed) (bytes_ahead new left)
    → BeginsInput (Err (BadLine 1)) typed new left
first_is_long number old new typed left first gives takes =
    (refl, first_answer (TooLong ∷ []) old typed first gives.0 refl, first_taken (PastLimit number) old new typed left first takes)

pub first_failed : (old new : LineState) (typed left : List ℕ) → old ≡ fresh_reader → IsUnended new → bytes_ahead new left ≡ bytes_ahead old typed → new.room ≡ old.room
    → BeginsInput (Err Failed) typed new left
first_failed old new typed left first unended same room =
    let same_typed : new.line ++ (new.piece ++ left) ≡ typed = subst (λ s. bytes_ahead new left ≡ bytes_ahead s typed) first same in
    let same_room : new.room ≡ input_limit = subst (λ (s : LineState). new.room ≡ s.room) first room in (
      new.line,
      sym same_typed ∙ ap (λ p. new.line ++ (p ++ left)) unended.all,
      unended.one,
      omega (arith, unended.within, same_room),
    )

-- ---- what stands behind it

-- the lines of the input
begins_with : (bundle : Bundle) (typed before : List ℕ) (old : LineState) (lines : List InputLine) → IsBehindBundle bundle typed old before
    → lines_ahead old before ≡ lines → BeginsWith bundle lines typed
begins_with bundle typed before old lines behind are =
    record { line = behind.line; is_bundle = behind.is_bundle; lines_are = behind.lines_are ∙ ap (λ l. Whole behind.line ∷ l) are }

pub second_is_none : (bundle : Bundle) (typed before left : List ℕ) (old new : LineState) → IsBehindBundle bundle typed old before
    → Gives End (lines_ahead old before) (lines_ahead new left) → Takes End old new (bytes_ahead old before) (bytes_ahead new left)
    → EndsInput (Ok tt) bundle typed left
second_is_none bundle typed before left old new behind gives takes = (
  begins_with bundle typed before old [] behind gives.0,
  nothing_left new left takes.1,
  elim behind.cut [
    | inl split ↦ inr (behind.line, bytes_ahead old before, behind.one, split.0, takes.0)
    | inr whole ↦ inl (subst IsOneLine (sym whole.0) behind.one)
  ],
)

second_taken : (next : Next) (bundle : Bundle) (typed before left : List ℕ) (old new : LineState) → IsBehindBundle bundle typed old before
    → Takes next old new (bytes_ahead old before) (bytes_ahead new left) → TakesLines 2 typed left
second_taken next bundle typed before left old new behind takes =
    behind_taken behind.line typed (bytes_ahead old before) left input_limit old.room behind.one behind.cut (taken_one next old new (bytes_ahead old before) left takes)

pub second_is_line : (number : ℕ) (bytes : Listed ℕ) (bundle : Bundle) (typed before left : List ℕ) (old new : LineState) → IsBehindBundle bundle typed old before
    → Gives (Line number bytes) (lines_ahead old before) (lines_ahead new left) → Takes (Line number bytes) old new (bytes_ahead old before) (bytes_ahead new left)
    → EndsInput (Err (BadLine 2)) bundle typed left
second_is_line number bytes bundle typed before left old new behind gives takes = (
  refl,
  (Whole bytes.items, lines_ahead new left, begins_with bundle typed before old (Whole bytes.items ∷ lines_ahead new left) behind gives),
  second_taken (Line number bytes) bundle typed before left old new behind takes,
)

pub second_is_long : (number : ℕ) (bundle : Bundle) (typed before left : List ℕ) (old new : LineState) → IsBehindBundle bundle typed old before
    → Gives (PastLimit number) (lines_ahead old before) (lines_ahead new left) → Takes (PastLimit number) old new (bytes_ahead old before) (bytes_ahead new left)
    → EndsInput (Err (BadLine 2)) bundle typed left
second_is_long number bundle typed before left old new behind gives takes = (
  refl,
  (TooLong, [], begins_with bundle typed before old (TooLong ∷ []) behind gives.0),
  second_taken (PastLimit number) bundle typed before left old new behind takes,
)

pub second_failed : (bundle : Bundle) (typed before left : List ℕ) (old new : LineState) → IsBehindBundle bundle typed old before
    → IsUnended new → bytes_ahead new left ≡ bytes_ahead old before → new.room ≡ old.room → EndsInput (Err Failed) bundle typed left
second_failed bundle typed before left old new behind unended same room =
    let line : List ℕ = behind.line in
    let rest : new.line ++ left ≡ bytes_ahead old before = ap (λ p. new.line ++ (p ++ left)) (sym unended.all) ∙ same in
    elim behind.cut [
      | inl split ↦ (
        line ++ 10 ∷ new.line,
        split.0 ∙ ap (λ b. line ++ 10 ∷ b) (sym rest) ∙ sym (append_assoc line (10 ∷ new.line) left),
        record {
          within = omega (arith, split.1, room, unended.within, length-append line (10 ∷ new.line));
          lines = inr (record {
            line = line;
            second = new.line;
            bytes_are = refl;
            line_is_one = behind.one;
            second_is_one = unended.one;
            may_stand = behind.is_bundle;
          });
        },
      )
      | inr whole ↦ (
        line,
        whole.0 ∙ sym (append-nil line) ∙ ap (λ l. line ++ l) (sym (nothing_left new left (same ∙ whole.1))),
        record { within = whole.2; lines = inl behind.one },
      )
    ]

-- ---- a whole input

unjudged_more : {May More : List ℕ → Type 0} → ((line : List ℕ) → May line → More line) → (given : List ℕ) → IsUnjudgedBy May given
    → IsUnjudgedBy More given
unjudged_more more given is = record {
  within = is.within;
  lines = elim is.lines [
    | inl one ↦ inl one
    | inr past ↦ inr (record {
      line = past.line;
      second = past.second;
      bytes_are = past.bytes_are;
      line_is_one = past.line_is_one;
      second_is_one = past.second_is_one;
      may_stand = more past.line past.may_stand;
    })
  ];
}

bundle_told : (bundle : Bundle) (lines : List InputLine) (typed : List ℕ) → BeginsWith bundle lines typed → input_answer typed ≡ alone bundle lines
unfolding input_answer
bundle_told bundle lines typed begins = ap bundle_in begins.lines_are ∙ ap (λ o. bundle_before o lines) begins.is_bundle

owner_told : (bundle : Bundle) (lines : List InputLine) (typed : List ℕ) → BeginsWith bundle lines typed
    → owner_answer typed ≡ key_before (owner_key (Some bundle)) lines
unfolding owner_answer
owner_told bundle lines typed begins = ap owner_in begins.lines_are ∙ ap (λ o. key_before (owner_key o) lines) begins.is_bundle

-- the first line is bad for the owner where it is bad for anybody
bad_before : (o : Option Bundle) (lines : List InputLine) → bundle_before o lines ≡ Err 1 → key_before (owner_key o) lines ≡ Err 1
bad_before None lines bad = refl
bad_before (Some bundle) [] bad = absurd cc
bad_before (Some bundle) (line ∷ lines) bad = let two : ◌≡◌ {A = ℕ} 2 1 = cc in absurd (omega (arith, two))

bad_for_owner : (lines : List InputLine) → bundle_in lines ≡ Err 1 → owner_in lines ≡ Err 1
bad_for_owner [] bad = refl
bad_for_owner (TooLong ∷ lines) bad = refl
bad_for_owner (Whole line ∷ lines) bad = bad_before (bundle_of line) lines bad

pub begins_bundle : (fault : InputFault) (reader : LineState) (typed left : List ℕ) → BeginsInput (Err fault) typed reader left → ReadsInput (Err fault) typed left
begins_bundle (BadLine line) reader typed left begins = (begins.1 ∙ ap Err (sym begins.0), subst (λ n. TakesLines n typed left) (sym begins.0) begins.2)
begins_bundle Failed reader typed left begins = (begins.0, begins.1, record { within = begins.3; lines = inl begins.2 })
begins_bundle OutOfMemory reader typed left begins = tt

pub ends_bundle : (fault : InputFault) (bundle : Bundle) (typed left : List ℕ) → EndsInput (Err fault) bundle typed left → ReadsInput (Err fault) typed left
ends_bundle (BadLine line) bundle typed left ends = (
  bundle_told bundle (ends.1.0 ∷ ends.1.1) typed ends.1.2 ∙ ap Err (sym ends.0),
  subst (λ n. TakesLines n typed left) (sym ends.0) ends.2,
)
ends_bundle Failed bundle typed left ends = (ends.0, ends.1, unjudged_more (λ line is. ap is_some is) ends.0 ends.2)
ends_bundle OutOfMemory bundle typed left ends = tt

pub alone_bundle : (bundle : Bundle) (typed left : List ℕ) → EndsInput (Ok tt) bundle typed left → ReadsInput (Ok bundle) typed left
alone_bundle bundle typed left ends = (bundle_told bundle [] typed ends.0, ends.1, ends.2)

-- ---- an owner's

pub begins_owner : (fault : InputFault) (reader : LineState) (typed left : List ℕ) → BeginsInput (Err fault) typed reader left → ReadsOwner (Err fault) typed left
unfolding input_answer owner_answer
begins_owner (BadLine line) reader typed left begins = (
  bad_for_owner (lines_of input_limit typed) begins.1 ∙ ap Err (sym begins.0),
  subst (λ n. TakesLines n typed left) (sym begins.0) begins.2,
)
begins_owner Failed reader typed left begins = (begins.0, begins.1, record { within = begins.3; lines = inl begins.2 })
begins_owner OutOfMemory reader typed left begins = tt

pub ends_owner : (fault : InputFault) (key : List ℕ) (typed left : List ℕ) → EndsInput (Err fault) (Owner key) typed left → ReadsOwner (Err fault) typed left
ends_owner (BadLine line) key typed left ends = (
  owner_told (Owner key) (ends.1.0 ∷ ends.1.1) typed ends.1.2 ∙ ap Err (sym ends.0),
  subst (λ n. TakesLines n typed left) (sym ends.0) ends.2,
)
ends_owner Failed key typed left ends = (ends.0, ends.1, unjudged_more (λ line is. ap (λ o. is_some (owner_key o)) is) ends.0 ends.2)
ends_owner OutOfMemory key typed left ends = tt

pub alone_owner : (key : List ℕ) (typed left : List ℕ) → EndsInput (Ok tt) (Owner key) typed left → ReadsOwner (Ok key) typed left
alone_owner key typed left ends = (owner_told (Owner key) [] typed ends.0, ends.1, ends.2)

-- a holder's line is bad
pub holder_refused : (holder : HolderId) (key : List ℕ) (reader : LineState) (typed left : List ℕ) → IsBehindBundle (Holder holder key) typed reader left
    → ReadsOwner (Err (BadLine 1)) typed left
holder_refused holder key reader typed left behind = (
  owner_told (Holder holder key) (lines_ahead reader left) typed
      (record { line = behind.line; is_bundle = behind.is_bundle; lines_are = behind.lines_are }),
  behind.taken,
)

-- ---- a bundle that was read or refused

pub read_as : {E : Type 0} (o : Option Bundle) (bad : E) (bundle : Bundle) → Ok bundle ≡ ok_or o bad → o ≡ Some bundle
read_as (Some found) bad bundle is = cc
read_as None bad bundle is = cc

pub refused_as : {E : Type 0} (o : Option Bundle) (bad told : E) → Err told ≡ ok_or o bad → o ≡ None
refused_as (Some found) bad told is = cc
refused_as None bad told is = refl
