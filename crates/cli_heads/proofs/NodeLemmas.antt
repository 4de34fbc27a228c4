-- The hashes of lines that are taken one after another.
use Rattle.std.proofs.Common.{◌≡◌, ◌⊎◌, ◌+◌, ℕ, List, [], ◌∷◌, ◌++◌, length, Option, Some, None, Result, Ok, Err, inl, inr}
use Rattle.std.proofs.Common.{append_assoc, arith, refl, sym, ap, subst, ◌∙◌, length-append}
use Rattle.std.specs.Prelude.{ok_or}
use Rattle.std.proofs.lemmas.List.{append-nil}
use Rattle.cry_base.specs.Listed.{Listed}
use Rattle.cry_io.specs.Told.{WhereBothTold}
use Rattle.script_text.specs.Cutting.{IsOneLine}
use Rattle.script_text.specs.Reading.{node_of}
use Rattle.cli_base.specs.Lines.{AreOfLines, Gives, InputLine, LineState, Numbers, Takes}
use Rattle.cli_base.specs.Lines.{bytes_ahead, input_limit, lines_ahead, lines_of}
use Rattle.cli_base.specs.Lines.InputLine.{Whole, TooLong}
use Rattle.cli_base.specs.declared.input.InputFault.{InputFault}
use Rattle.cli_base.specs.declared.input.InputFault.TheVariants.{BadLine, Failed, OutOfMemory}
use Rattle.cli_base.specs.declared.lines.Next.TheVariants.{Line, End, PastLimit}
use Rattle.cli_base.proofs.InputLemmas.{fresh_reader, nothing_left, taken_one}
use Rattle.cli_base.proofs.LineLemmas.{no_lines}
use Rattle.cli_base.proofs.TakenLines.{takes_front}
use Rattle.cli_heads.specs.ProofLines.{AreNodeLines, IsBadFirst, IsUnjudgedProof, NextNode, ReadsProof, TakesNode}
use Rattle.cli_heads.specs.ProofLines.{node_before, proof_in, proof_typed}

-- these hashes, and then those that are handed in behind them
abbrev behind : List (List ℕ) → Result (List (List ℕ)) ℕ → Result (List (List ℕ)) ℕ
behind nodes (Ok more) = Ok (nodes ++ more)
behind nodes (Err line) = Err line

behind_none : (answer : Result (List (List ℕ)) ℕ) → answer ≡ behind [] answer
behind_none (Ok nodes) = refl
behind_none (Err line) = refl

behind_one : (nodes : List (List ℕ)) (node : List ℕ) (number : ℕ) (answer : Result (List (List ℕ)) ℕ)
    → behind nodes (node_before (Some node) number answer) ≡ behind (nodes ++ node ∷ []) answer
behind_one nodes node number (Ok more) = ap (λ l. Ok l) (sym (append_assoc nodes (node ∷ []) more))
behind_one nodes node number (Err line) = refl

-- ---- the lines of the hashes that were taken

node_lines_more : (nodes : List (List ℕ)) (front node line : List ℕ) → AreNodeLines nodes front → IsOneLine line → node_of line ≡ Some node
    → AreNodeLines (nodes ++ node ∷ []) (front ++ (line ++ 10 ∷ []))
node_lines_more [] front node line are one is = (line, [], one, is, ap (λ f. f ++ (line ++ 10 ∷ [])) are, refl)
node_lines_more (first ∷ nodes) front node line are one is = (
  are.0,
  are.1 ++ (line ++ 10 ∷ []),
  are.2,
  are.3,
  ap (λ f. f ++ (line ++ 10 ∷ [])) are.4 ∙ append_assoc are.0 (10 ∷ are.1) (line ++ 10 ∷ []),
  node_lines_more nodes are.1 node line are.5 one is,
)

node_lines_are : (nodes : List (List ℕ)) (front : List ℕ) → AreNodeLines nodes front → AreOfLines (length nodes) front
node_lines_are [] front are = are
node_lines_are (node ∷ nodes) front are = inr (are.0, are.1, are.2, are.4, node_lines_are nodes are.1 are.5)

-- ---- between two lines

-- what was taken are whole lines of these hashes
pub record AreWhole (nodes : List (List ℕ)) (typed : List ℕ) (now : LineState) (left : List ℕ) : Type 0 where
  pub front : List ℕ
  pub are_nodes : AreNodeLines nodes front
  pub typed_is : typed ≡ front ++ bytes_ahead now left
  pub room : input_limit ≡ length front + now.room

-- or the last of them ended with the input
pub record AreAll (typed : List ℕ) (now : LineState) (left : List ℕ) : Type 0 where
  pub unjudged : IsUnjudgedProof typed
  pub none : bytes_ahead now left ≡ []

-- the hashes that were taken, and where the reader stands behind them
pub record Going (nodes : List (List ℕ)) (typed : List ℕ) (now : LineState) (left : List ℕ) : Type 0 where
  pub count : now.given ≡ length nodes
  pub lines : proof_typed typed ≡ behind nodes (proof_in (length nodes) (lines_ahead now left))
  pub bytes : AreWhole nodes typed now left ⊎ AreAll typed now left

fresh_lines : (typed : List ℕ) → proof_typed typed ≡ behind [] (proof_in 0 (lines_ahead fresh_reader typed))
unfolding proof_typed
fresh_lines typed = behind_none (proof_in 0 (lines_of input_limit typed))

going_fresh : (typed : List ℕ) → Going [] typed fresh_reader typed
going_fresh typed = record {
  count = refl;
  lines = fresh_lines typed;
  bytes = inl (record { front = []; are_nodes = refl; typed_is = refl; room = refl });
}

same_told : (told : Option (List ℕ)) (x y : List ℕ) → told ≡ Some x → told ≡ Some y → y ≡ x
same_told told x y one other = let both = sym one ∙ other in cc

pub going_at_start : (nodes : List (List ℕ)) (now : LineState) (left : Option (List ℕ)) → nodes ≡ [] → now ≡ fresh_reader
    → WhereBothTold left left (λ typed middle. Going nodes typed now middle)
going_at_start nodes now left none is = λ x y was then.
    subst (λ ns. Going ns x now y) (sym none) (subst (λ s. Going [] x s y) (sym is)
    (subst (λ z. Going [] x fresh_reader z) (sym (same_told left x y was then)) (going_fresh x)))

nothing_ahead : (now : LineState) (left : List ℕ) (line : InputLine) (lines : List InputLine) → bytes_ahead now left ≡ []
    → lines_ahead now left ≡ line ∷ lines → ⊥
nothing_ahead now left line lines none are =
    let contradiction : [] ≡ line ∷ lines = sym (no_lines now.room) ∙ ap (lines_of now.room) (sym none) ∙ are in cc

bytes_on : (nodes : List (List ℕ)) (node typed middle after : List ℕ) (now new : LineState) → AreWhole nodes typed now middle
    → TakesNode node now new middle after → AreWhole (nodes ++ node ∷ []) typed new after ⊎ AreAll typed new after
bytes_on nodes node typed middle after now new whole takes =
    elim takes.cut [
      | inl split ↦ inl (record {
        front = whole.front ++ (takes.line ++ 10 ∷ []);
        are_nodes = node_lines_more nodes whole.front node takes.line whole.are_nodes takes.one takes.is_node;
        typed_is = whole.typed_is ∙ ap (λ b. whole.front ++ b) (split.0 ∙ sym (append_assoc takes.line (10 ∷ []) (bytes_ahead new after)))
            ∙ sym (append_assoc whole.front (takes.line ++ 10 ∷ []) (bytes_ahead new after));
        room = omega (arith, whole.room, split.1, length-append whole.front (takes.line ++ 10 ∷ []), length-append takes.line (10 ∷ []));
      })
      | inr last ↦
          let typed_is : typed ≡ whole.front ++ takes.line = whole.typed_is ∙ ap (λ b. whole.front ++ b) last.0 in
          inr (record {
            unjudged = record {
              nodes = nodes;
              front = whole.front;
              last = takes.line;
              within = omega (arith, whole.room, last.2, ap length typed_is, length-append whole.front takes.line);
              bytes_are = typed_is;
              are_nodes = whole.are_nodes;
              last_is_one = takes.one;
            };
            none = last.1;
          })
    ]

pub going_on : (nodes : List (List ℕ)) (node typed middle after : List ℕ) (now new : LineState) → Going nodes typed now middle
    → TakesNode node now new middle after → Going (nodes ++ node ∷ []) typed new after
going_on nodes node typed middle after now new going takes =
    let more : length (nodes ++ node ∷ []) ≡ length nodes + 1 = length-append nodes (node ∷ []) in
    let number : ℕ = length nodes + 1 in
    let rest : Result (List (List ℕ)) ℕ = proof_in number (lines_ahead new after) in
    record {
      count = takes.given ∙ ap (λ n. n + 1) going.count ∙ sym more;
      lines = going.lines ∙ ap (λ l. behind nodes (proof_in (length nodes) l)) takes.lines_are
          ∙ ap (λ o. behind nodes (node_before o number rest)) takes.is_node ∙ behind_one nodes node number rest
          ∙ ap (λ n. behind (nodes ++ node ∷ []) (proof_in n (lines_ahead new after))) (sym more);
      bytes = elim going.bytes [
        | inl whole ↦ bytes_on nodes node typed middle after now new whole takes
        | inr all ↦ absurd (nothing_ahead now middle (Whole takes.line) (lines_ahead new after) all.none takes.lines_are)
      ];
    }

-- ---- how it ends

pub ends_there : (nodes : List (List ℕ)) (typed middle left : List ℕ) (now : LineState) → Going nodes typed now middle
    → lines_ahead now middle ≡ [] → proof_typed typed ≡ Ok nodes
ends_there nodes typed middle left now going none =
    going.lines ∙ ap (λ l. behind nodes (proof_in (length nodes) l)) none ∙ ap (λ l. Ok l) (append-nil nodes)

bad_first : (given : ℕ) (lines : List InputLine) → IsBadFirst lines → proof_in given lines ≡ Err (given + 1)
bad_first given [] bad = absurd bad
bad_first given (Whole line ∷ lines) bad = ap (λ o. node_before o (given + 1) (proof_in (given + 1) lines)) bad
bad_first given (TooLong ∷ lines) bad = refl

bad_ahead : (now : LineState) (left : List ℕ) (lines : List InputLine) → lines_ahead now left ≡ lines → bytes_ahead now left ≡ []
    → IsBadFirst lines → ⊥
bad_ahead now left [] are none bad = bad
bad_ahead now left (line ∷ lines) are none bad = nothing_ahead now left line lines none are

stops_at_bad : (nodes : List (List ℕ)) (line : ℕ) (typed middle left : List ℕ) (now new : LineState) → Going nodes typed now middle
    → NextNode (Err (BadLine line)) now new middle left → ReadsProof (Err (BadLine line)) typed left
stops_at_bad nodes line typed middle left now new going next =
    let number : line ≡ length nodes + 1 = next.0 ∙ ap (λ n. n + 1) going.count in (
      going.lines ∙ ap (behind nodes) (bad_first (length nodes) (lines_ahead now middle) next.1) ∙ ap (λ n. Err n) (sym number),
      elim going.bytes [
        | inl whole ↦ takes_front (length nodes) 1 line whole.front (bytes_ahead now middle) typed left number
            (node_lines_are nodes whole.front whole.are_nodes) whole.typed_is next.2
        | inr all ↦ absurd (bad_ahead now middle (lines_ahead now middle) refl all.none next.1)
      ],
    )

stops_failed : (nodes : List (List ℕ)) (typed middle left : List ℕ) (now new : LineState) → Going nodes typed now middle
    → NextNode (Err Failed) now new middle left → ReadsProof (Err Failed) typed left
stops_failed nodes typed middle left now new going next =
    elim going.bytes [
      | inl whole ↦ (
        whole.front ++ new.line,
        whole.typed_is ∙ ap (λ b. whole.front ++ b) (sym next.1 ∙ ap (λ p. new.line ++ (p ++ left)) next.0.all)
            ∙ sym (append_assoc whole.front new.line left),
        record {
          nodes = nodes;
          front = whole.front;
          last = new.line;
          within = omega (arith, whole.room, next.0.within, next.2, length-append whole.front new.line);
          bytes_are = refl;
          are_nodes = whole.are_nodes;
          last_is_one = next.0.one;
        },
      )
      | inr all ↦ (
        typed,
        sym (append-nil typed) ∙ ap (λ l. typed ++ l) (sym (nothing_left new left (next.1 ∙ all.none))),
        all.unjudged,
      )
    ]

pub stops_there : (fault : InputFault) (nodes : List (List ℕ)) (typed middle left : List ℕ) (now new : LineState)
    → Going nodes typed now middle → NextNode (Err fault) now new middle left → ReadsProof (Err fault) typed left
stops_there (BadLine line) nodes typed middle left now new going next = stops_at_bad nodes line typed middle left now new going next
stops_there Failed nodes typed middle left now new going next = stops_failed nodes typed middle left now new going next
stops_there OutOfMemory nodes typed middle left now new going next = tt

-- ---- the next line

pub next_is_node : (node : List ℕ) (number : ℕ) (bytes : Listed ℕ) (old new : LineState) (before left : List ℕ)
    → node_of bytes.items ≡ Some node
    → Gives (Line number bytes) (lines_ahead old before) (lines_ahead new left)
    → Takes (Line number bytes) old new (bytes_ahead old before) (bytes_ahead new left) → Numbers (Line number bytes) old.given new.given
    → NextNode (Ok (Some node)) old new before left
next_is_node node number bytes old new before left is gives takes numbers = record {
  line = bytes.items;
  is_node = is;
  lines_are = gives;
  one = takes.one;
  cut = takes.cut;
  given = numbers.1 ∙ numbers.0;
}

pub next_is_none : (old new : LineState) (before left : List ℕ) → Gives End (lines_ahead old before) (lines_ahead new left)
    → Takes End old new (bytes_ahead old before) (bytes_ahead new left) → NextNode (Ok None) old new before left
next_is_none old new before left gives takes = (gives.0, nothing_left new left takes.1)

pub next_is_bad : (number : ℕ) (bytes : Listed ℕ) (old new : LineState) (before left : List ℕ) → node_of bytes.items ≡ None
    → Gives (Line number bytes) (lines_ahead old before) (lines_ahead new left)
    → Takes (Line number bytes) old new (bytes_ahead old before) (bytes_ahead new left) → Numbers (Line number bytes) old.given new.given
    → NextNode (Err (BadLine number)) old new before left
next_is_bad number bytes old new before left bad gives takes numbers = (
  numbers.0,
  subst IsBadFirst (sym gives) bad,
  taken_one (Line number bytes) old new (bytes_ahead old before) left takes,
)

pub next_is_long : (number : ℕ) (old new : LineState) (before left : List ℕ)
    → Gives (PastLimit number) (lines_ahead old before) (lines_ahead new left)
    → Takes (PastLimit number) old new (bytes_ahead old before) (bytes_ahead new left) → Numbers (PastLimit number) old.given new.given
    → NextNode (Err (BadLine number)) old new before left
next_is_long number old new before left gives takes numbers = (
  numbers.0,
  subst IsBadFirst (sym gives.0) tt,
  taken_one (PastLimit number) old new (bytes_ahead old before) left takes,
)

-- ---- a hash that was read or refused

pub read_as : {E : Type 0} (o : Option (List ℕ)) (bad : E) (node : List ℕ) → Ok node ≡ ok_or o bad → o ≡ Some node
read_as (Some found) bad node is = cc
read_as None bad node is = cc

pub refused_as : {E : Type 0} (o : Option (List ℕ)) (bad told : E) → Err told ≡ ok_or o bad → o ≡ None
refused_as (Some found) bad told is = cc
refused_as None bad told is = refl
