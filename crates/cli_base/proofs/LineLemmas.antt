-- The lines of bytes that are cut at a newline, or go past the limit.
use Rattle.std.proofs.Common.{Bool, nat_lt, Result, Ok, Err, Option, Some, None, ◌≡◌, ◌≢◌, inl, inr, ℕ, zero, suc, ◌+◌, ◌-◌, ◌<◌, ◌≤◌, true, false, cond, List, [], ◌∷◌, ◌++◌, length, take, append_assoc, arith, refl, sym, ap, subst, ◌∙◌, length-append}
use Rattle.std.proofs.lemmas.Bool.Decides.{nat_tests}
use Rattle.std.proofs.lemmas.List.{append-nil}
use Rattle.std.proofs.lemmas.List.Elements.{All-head, All-tail}
use Rattle.std.specs.Prelude.{IfOk, OnErr, is_some}
use Rattle.std.specs.List.{count_by}
use Rattle.cry_base.specs.Listed.{Listed}
use Rattle.cry_base.specs.declared.memory.OutOfMemory.{OutOfMemory}
use Rattle.script_text.specs.Cutting.{EndsLine, IsOneLine, is_newline, line_over}
use Rattle.cli_base.specs.Lines.{InputLine, IsCutOff, LineState, Takes, TakesOff, read_ahead, Gives, GivesFrom, GivesCut, GivesHeld, FeedsLine, KeepsAhead, AreOfLines, Numbers, Within, IsUnended, begun_with, lines_of, bytes_ahead, lines_ahead}
use Rattle.cli_base.specs.declared.lines.Next.{Next}
use Rattle.cli_base.specs.declared.lines.Next.TheVariants.{Line, End, PastLimit}
use Rattle.cli_base.specs.Lines.InputLine.{Whole, TooLong}

abbrev Other : ℕ → Type 0
Other byte = byte ≢ 10

no_newline : (byte : ℕ) → byte ≢ 10 → is_newline byte ≡ false
no_newline byte other = grind (arith, nat_tests)

pub no_lines : (room : ℕ) → lines_of room [] ≡ []
unfolding lines_of
no_lines zero = refl
no_lines (suc room) = refl

-- a byte more before the first newline
more : (room byte : ℕ) (bytes : List ℕ) → byte ≢ 10 → lines_of (suc room) (byte ∷ bytes) ≡ begun_with byte (lines_of room bytes)
unfolding lines_of
more room byte bytes other =
    ap (λ b. cond b (Whole [] ∷ lines_of room bytes) (begun_with byte (lines_of room bytes))) (no_newline byte other)

-- a line that ends in a newline
pub cut_lines : (room : ℕ) (line rest : List ℕ) (after : ℕ) → IsOneLine line → room ≡ after + (length line + 1)
    → lines_of room (line ++ 10 ∷ rest) ≡ Whole line ∷ lines_of after rest
unfolding lines_of
cut_lines zero line rest after one is = absurd (omega (arith, is))
cut_lines (suc room) [] rest after one is = ap (λ n. Whole [] ∷ lines_of n rest) (let same : room ≡ after = omega (arith, is) in same)
cut_lines (suc room) (byte ∷ line) rest after one is =
    more room byte (line ++ 10 ∷ rest) (All-head Other byte line one)
    ∙ ap (begun_with byte) (cut_lines room line rest after (All-tail Other byte line one) (omega (arith, is)))

-- a line that ends with the input
pub last_lines : (room byte : ℕ) (line : List ℕ) → IsOneLine (byte ∷ line) → length line < room
    → lines_of room (byte ∷ line) ≡ Whole (byte ∷ line) ∷ []
unfolding lines_of
last_lines zero byte line one within = absurd (omega (arith, within))
last_lines (suc room) byte [] one within =
    more room byte [] (All-head Other byte [] one) ∙ ap (begun_with byte) (no_lines room)
last_lines (suc room) byte (next ∷ line) one within =
    more room byte (next ∷ line) (All-head Other byte (next ∷ line) one)
    ∙ ap (begun_with byte) (last_lines room next line (All-tail Other byte (next ∷ line) one) (omega (arith, within)))

-- a line that is too long without its end
pub long_lines : (room : ℕ) (line rest : List ℕ) → IsOneLine line → room < length line → lines_of room (line ++ rest) ≡ TooLong ∷ []
unfolding lines_of
long_lines room [] rest one long = absurd (omega (arith, long))
long_lines zero (byte ∷ line) rest one long = refl
long_lines (suc room) (byte ∷ line) rest one long =
    more room byte (line ++ rest) (All-head Other byte line one)
    ∙ ap (begun_with byte) (long_lines room line rest (All-tail Other byte line one) (omega (arith, long)))

-- a line that is too long with a byte more
pub full_lines : (room : ℕ) (line : List ℕ) (last : ℕ) (rest : List ℕ) → IsOneLine line → room ≤ length line
    → lines_of room (line ++ last ∷ rest) ≡ TooLong ∷ []
unfolding lines_of
full_lines zero [] last rest one long = refl
full_lines zero (byte ∷ line) last rest one long = refl
full_lines (suc room) [] last rest one long = absurd (omega (arith, long))
full_lines (suc room) (byte ∷ line) last rest one long =
    more room byte (line ++ last ∷ rest) (All-head Other byte line one)
    ∙ ap (begun_with byte) (full_lines room line last rest (All-tail Other byte line one) (omega (arith, long)))

-- the first newline of bytes is one place

newline_apart : (line rest : List ℕ) → IsOneLine (line ++ 10 ∷ rest) → ⊥
newline_apart [] rest one = All-head Other 10 rest one refl
newline_apart (byte ∷ line) rest one = newline_apart line rest (All-tail Other byte (line ++ 10 ∷ rest) one)

same_rest : (line other rest more : List ℕ) → IsOneLine line → IsOneLine other → line ++ 10 ∷ rest ≡ other ++ 10 ∷ more → rest ≡ more
same_rest [] [] rest more one two is = cc
same_rest [] (byte ∷ other) rest more one two is =
    let ten : byte ≡ 10 = cc in
    absurd (All-head Other byte other two ten)
same_rest (byte ∷ line) [] rest more one two is =
    let ten : byte ≡ 10 = cc in
    absurd (All-head Other byte line one ten)
same_rest (byte ∷ line) (next ∷ other) rest more one two is =
    same_rest line other rest more (All-tail Other byte line one) (All-tail Other next other two) cc

-- bytes of one line have no more behind its newline
pub nothing_behind : (bytes line rest : List ℕ) → AreOfLines 1 bytes → IsOneLine line → bytes ≡ line ++ 10 ∷ rest → rest ≡ []
nothing_behind bytes line rest lines one is =
    elim lines [
      | inl whole ↦ absurd (newline_apart line rest (subst IsOneLine is whole))
      | inr cut ↦ same_rest line cut.0 rest cut.1 one cut.2 (sym is ∙ cut.3) ∙ cut.4
    ]

back_one : (front back : List ℕ) → IsOneLine (front ++ back) → IsOneLine back
back_one [] back one = one
back_one (byte ∷ front) back one = back_one front back (All-tail Other byte (front ++ back) one)

-- the front of one line doesn't end
pub no_line_ends : (front back : List ℕ) → IsOneLine (front ++ back) → EndsLine front → front ≡ []
no_line_ends [] back one ends = refl
no_line_ends (byte ∷ []) back one ends = absurd (All-head Other byte back one ends)
no_line_ends (byte ∷ next ∷ front) back one ends =
    let none : next ∷ front ≡ [] = no_line_ends (next ∷ front) back (All-tail Other byte (next ∷ (front ++ back)) one) ends in
    absurd (omega (arith, ap length none))

pub some_bytes : (bytes : List ℕ) → bytes ≢ [] → 1 ≤ length bytes
some_bytes [] some = absurd (some refl)
some_bytes (byte ∷ bytes) some = omega arith

-- how much was fed

tells_if : (b : Bool) (line : ℕ) → is_some (cond b (Some line) None) ≡ b
tells_if true line = refl
tells_if false line = refl

pub fed_past : (limit : ℕ) (fed : List ℕ) → is_some (line_over limit fed) ≡ true → limit < length fed
fed_past limit fed is =
    let test : nat_lt limit (length fed) ≡ true = sym (tells_if (nat_lt limit (length fed)) (count_by is_newline (take limit fed) + 1)) ∙ is in
    grind (arith, nat_tests)

pub fed_within : (limit : ℕ) (fed : List ℕ) → is_some (line_over limit fed) ≡ false → length fed ≤ limit
fed_within limit fed is =
    let test : nat_lt limit (length fed) ≡ false = sym (tells_if (nat_lt limit (length fed)) (count_by is_newline (take limit fed) + 1)) ∙ is in
    grind (arith, nat_tests)

-- of the state before, the room alone matters to what is taken
pub takes_same_room : (next : Next) (old other new : LineState) (before after : List ℕ) → old.room ≡ other.room → Takes next old new before after → Takes next other new before after
takes_same_room (Line number bytes) old other new before after same takes = record {
  one = takes.one;
  begins = takes.begins;
  few = takes.few;
  cut = subst (λ room. IsCutOff bytes.items room new.room before after) same takes.cut;
}
takes_same_room End old other new before after same takes = takes
takes_same_room (PastLimit number) old other new before after same takes = takes

-- what a reader gives

-- a line that goes past the limit
pub past_limit : (s : LineState) → AreOfLines 1 s.line → s.room < length s.line → length s.piece ≤ read_ahead → GivesFrom (PastLimit (s.given + 1)) s s
past_limit s lines past few = record {
  gives = λ left. (
    elim lines [
      | inl one ↦ long_lines s.room s.line (s.piece ++ left) one past
      | inr cut ↦ ap (λ l. lines_of s.room (l ++ (s.piece ++ left))) cut.3
          ∙ ap (λ b. lines_of s.room b) (append_assoc cut.0 (10 ∷ cut.1) (s.piece ++ left))
          ∙ full_lines s.room cut.0 10 (cut.1 ++ (s.piece ++ left)) cut.2
          (omega (arith, past, ap length cut.3, length-append cut.0 (10 ∷ cut.1), ap length cut.4))
    ],
    refl,
  );
  takes = λ left. record { same = refl; one = lines; few = few };
  number = (refl, refl);
  room = refl;
}

pub same_state : (line bytes piece other : List ℕ) (room same given too : ℕ) → line ≡ bytes → piece ≡ other → room ≡ same → given ≡ too
    → ◌≡◌ {A = LineState} (record { line = line; piece = piece; room = room; given = given }) (record { line = bytes; piece = other; room = same; given = too })
same_state line bytes piece other room same given too is_line is_piece is_room is_given =
    ap (λ (x : List ℕ). let state : LineState = record { line = x; piece = piece; room = room; given = given } in state) is_line
    ∙ ap (λ (x : List ℕ). let state : LineState = record { line = bytes; piece = x; room = room; given = given } in state) is_piece
    ∙ ap (λ (x : ℕ). let state : LineState = record { line = bytes; piece = other; room = x; given = given } in state) is_room
    ∙ ap (λ (x : ℕ). let state : LineState = record { line = bytes; piece = other; room = same; given = x } in state) is_given

-- a line that ended is cut off
pub line_cut : (s new : LineState) (bytes : Listed ℕ) → AreOfLines 1 s.line → IsOneLine bytes.items → s.line ≡ bytes.items ++ 10 ∷ new.line
    → s.room ≡ new.room + (length bytes.items + 1) → new.piece ≡ s.piece → new.given ≡ s.given + 1 → length s.piece ≤ read_ahead
    → GivesFrom (Line (s.given + 1) bytes) s new
line_cut s new bytes lines one is room piece given few =
    let line : List ℕ = bytes.items in
    let ahead : (left : List ℕ) → bytes_ahead s left ≡ line ++ 10 ∷ bytes_ahead new left =
    λ left. ap (λ l. l ++ (s.piece ++ left)) is ∙ append_assoc line (10 ∷ new.line) (s.piece ++ left)
    ∙ ap (λ p. line ++ 10 ∷ (new.line ++ (p ++ left))) (sym piece)
    in
    record {
      gives = λ left. ap (λ b. lines_of s.room b) (ahead left) ∙ cut_lines s.room line (bytes_ahead new left) new.room one room;
      takes = λ left. record {
        one = one;
        begins = nothing_behind s.line line new.line lines one is;
        few = omega (arith, few, ap length piece);
        cut = inl (ahead left, room);
      };
      number = (refl, given);
      room = (omega (arith, room), omega (arith, room));
    }

-- the front of the piece was fed

pub fed_keeps : (s m : LineState) → FeedsLine s m → KeepsAhead s m
fed_keeps s m feeds = record {
  bytes = λ left. ap (λ l. l ++ (m.piece ++ left)) feeds.line ∙ append_assoc s.line feeds.front (m.piece ++ left)
      ∙ ap (λ p. s.line ++ p) (sym (append_assoc feeds.front m.piece left)) ∙ ap (λ p. s.line ++ (p ++ left)) (sym feeds.piece);
  room = feeds.room;
  given = feeds.given;
}

gives_fed : (next : Next) (s m new : LineState) → KeepsAhead s m → GivesFrom next m new → GivesFrom next s new
gives_fed next s m new keeps gives = record {
  gives = λ left. subst (λ before. Gives next before (lines_ahead new left))
      (ap (λ b. lines_of m.room b) (keeps.bytes left) ∙ ap (λ n. lines_of n (bytes_ahead s left)) keeps.room) (gives.gives left);
  takes = λ left. takes_same_room next m s new (bytes_ahead s left) (bytes_ahead new left) keeps.room
      (subst (λ before. Takes next m new before (bytes_ahead new left)) (keeps.bytes left) (gives.takes left));
  number = subst (λ n. Numbers next n new.given) keeps.given gives.number;
  room = subst (λ n. Within next n new.room) keeps.room gives.room;
}

nothing_cut : (s m new : LineState) → FeedsLine s m → GivesCut None m new → GivesHeld None s new
nothing_cut s m new feeds cut =
    let same : m.line ≡ new.line = ap (λ x. x.line) (sym cut.2) in
    let one : IsOneLine feeds.front = back_one s.line feeds.front (subst IsOneLine feeds.line (subst IsOneLine (sym same) cut.0)) in
    let none : m.piece ≡ [] = feeds.whole one in
    let all : feeds.front ≡ s.piece = sym (append-nil feeds.front) ∙ ap (λ p. feeds.front ++ p) (sym none) ∙ sym feeds.piece in (
      record { all = ap (λ x. x.piece) cut.2 ∙ none; one = cut.0; within = cut.1 },
      cut.2 ∙ same_state m.line (s.line ++ s.piece) m.piece [] m.room s.room m.given s.given
          (feeds.line ∙ ap (λ f. s.line ++ f) all) none feeds.room feeds.given,
    )

held_fed : (held : Option Next) (s m new : LineState) → FeedsLine s m → GivesCut held m new → GivesHeld held s new
held_fed (Some next) s m new feeds cut = gives_fed next s m new (fed_keeps s m feeds) cut
held_fed None s m new feeds cut = nothing_cut s m new feeds cut

pub held_after : (result : Result (Option Next) OutOfMemory) (s m new : LineState) → FeedsLine s m → IfOk result (λ cut. GivesCut cut m new)
    → IfOk result (λ held. GivesHeld held s new)
held_after (Ok held) s m new feeds cut = held_fed held s m new feeds cut
held_after (Err fault) s m new feeds cut = cut

pub kept_after : (result : Result (Option Next) OutOfMemory) (s m new : LineState) → FeedsLine s m → OnErr result (new ≡ m) → OnErr result (KeepsAhead s new)
kept_after (Ok held) s m new feeds same = same
kept_after (Err fault) s m new feeds same = subst (λ x. KeepsAhead s x) (sym same) (fed_keeps s m feeds)

-- a line that ends with the input
no_bytes_ahead : (s : LineState) → s.piece ≡ [] → s.line ≡ [] → bytes_ahead s [] ≡ []
no_bytes_ahead s piece line = ap (λ l. l ++ (s.piece ++ [])) line ∙ ap (λ p. p ++ []) piece

nothing_ahead : (s : LineState) → s.piece ≡ [] → s.line ≡ [] → lines_ahead s [] ≡ []
nothing_ahead s piece line = ap (λ l. lines_of s.room (l ++ (s.piece ++ []))) line ∙ ap (λ p. lines_of s.room (p ++ [])) piece ∙ no_lines s.room

pub ends_without_line : (s : LineState) → IsUnended s → s.line ≡ [] → Gives End (lines_ahead s []) (lines_ahead s [])
ends_without_line s unended none = (nothing_ahead s unended.all none, nothing_ahead s unended.all none)

pub takes_no_line : (s : LineState) → IsUnended s → s.line ≡ [] → Takes End s s (bytes_ahead s []) (bytes_ahead s [])
takes_no_line s unended none = (no_bytes_ahead s unended.all none, no_bytes_ahead s unended.all none)

pub lines_of_whole : (room : ℕ) (line : List ℕ) → IsOneLine line → 1 ≤ length line → length line ≤ room → lines_of room line ≡ Whole line ∷ []
lines_of_whole room [] one some within = absurd (omega (arith, some))
lines_of_whole room (byte ∷ line) one some within = last_lines room byte line one (omega (arith, within))

-- what is given of a source that ended
pub record GivesLast (next : Next) (old new : LineState) : Type 0 where
  pub gives : Gives next (lines_ahead old []) (lines_ahead new [])
  pub takes : Takes next old new (bytes_ahead old []) (bytes_ahead new [])
  pub number : Numbers next old.given new.given
  pub room : Within next old.room new.room

pub line_at_end : (s new : LineState) (bytes : Listed ℕ) → IsUnended s → 1 ≤ length s.line → bytes.items ≡ s.line
    → new ≡ record { line = []; piece = s.piece; room = s.room - length s.line; given = s.given + 1 } → GivesLast (Line (s.given + 1) bytes) s new
line_at_end s new bytes unended some is new_is =
    let lines : lines_ahead s [] ≡ Whole s.line ∷ [] =
    ap (λ p. lines_of s.room (s.line ++ (p ++ []))) unended.all ∙ ap (lines_of s.room) (append-nil s.line)
    ∙ lines_of_whole s.room s.line unended.one some unended.within
    in
    let none : lines_ahead new [] ≡ [] = nothing_ahead new (ap (λ x. x.piece) new_is ∙ unended.all) (ap (λ x. x.line) new_is) in
    let whole : bytes_ahead s [] ≡ s.line = ap (λ p. s.line ++ (p ++ [])) unended.all ∙ append-nil s.line in
    let no_piece_left : new.piece ≡ [] = ap (λ x. x.piece) new_is ∙ unended.all in
    let left : new.room ≡ s.room - length s.line = ap (λ x. x.room) new_is in
    record {
      gives = lines ∙ ap (λ b. Whole b ∷ []) (sym is) ∙ ap (λ ls. Whole bytes.items ∷ ls) (sym none);
      takes = subst (λ l. TakesOff l s new (bytes_ahead s []) (bytes_ahead new [])) (sym is) (record {
        one = unended.one;
        begins = ap (λ x. x.line) new_is;
        few = omega (arith, ap length no_piece_left);
        cut = inr (whole, no_bytes_ahead new no_piece_left (ap (λ x. x.line) new_is), unended.within);
      });
      number = (refl, ap (λ x. x.given) new_is);
      room = (omega (arith, ap length is, left, unended.within), omega (arith, left, some, unended.within));
    }

-- no lines, no bytes

some_lines : (byte : ℕ) (lines : List InputLine) → begun_with byte lines ≡ [] → ⊥
some_lines byte [] is = cc
some_lines byte (Whole bytes ∷ lines) is = cc
some_lines byte (TooLong ∷ lines) is = cc

pub lines_of_some : (room byte : ℕ) (bytes : List ℕ) → lines_of room (byte ∷ bytes) ≡ [] → ⊥
unfolding lines_of
lines_of_some zero byte bytes is = cc
lines_of_some (suc room) byte bytes is =
    elim (is_newline byte) as (λ b. cond b (Whole [] ∷ lines_of room bytes) (begun_with byte (lines_of room bytes)) ≡ [] → ⊥) [
      | true ↦ λ none. cc
      | false ↦ λ none. some_lines byte (lines_of room bytes) none
    ] is

no_bytes : (room : ℕ) (bytes : List ℕ) → lines_of room bytes ≡ [] → length bytes ≡ 0
no_bytes room [] none = refl
no_bytes room (byte ∷ bytes) none = absurd (lines_of_some room byte bytes none)

-- what is given of the bytes held is no end
pub held_is_no_end : (s new : LineState) → GivesFrom End s new → ⊥
held_is_no_end s new gives =
    let none : length (s.line ++ (s.piece ++ 0 ∷ [])) ≡ 0 = no_bytes s.room (s.line ++ (s.piece ++ 0 ∷ [])) (gives.gives (0 ∷ [])).0 in
    absurd (omega (arith, none, length-append s.line (s.piece ++ 0 ∷ []), length-append s.piece (0 ∷ [])))

-- between two reads

-- the piece was put behind the line, and the next was read
pub read_on : (l h r : LineState) (m y : List ℕ) → h ≡ record { line = l.line ++ l.piece; piece = []; room = l.room; given = l.given }
    → r ≡ record { line = h.line; piece = r.piece; room = h.room; given = h.given } → m ≡ r.piece ++ y → bytes_ahead l m ≡ bytes_ahead r y
read_on l h r m y kept read is =
    let line : r.line ≡ l.line ++ l.piece = ap (λ x. x.line) read ∙ ap (λ x. x.line) kept in
    sym (append_assoc l.line l.piece m) ∙ ap (λ z. (l.line ++ l.piece) ++ z) is ∙ ap (λ z. z ++ (r.piece ++ y)) (sym line)

-- nothing came
pub nothing_read : (piece m y : List ℕ) → length piece ≡ 0 → m ≡ [] → m ≡ piece ++ y → y ≡ []
nothing_read [] m y none gone is = sym is ∙ gone
nothing_read (byte ∷ piece) m y none gone is = absurd (omega (arith, none))
