-- How long the printed lines are.
use Rattle.std.proofs.Common.{◌≡◌, ℕ, ◌+◌, ◌*◌, List, length, arith, length-append}
use Rattle.std.specs.Fmt.{decimal}
use Rattle.script_text.specs.Printing.{owner_line, path_line, file_line, holder_line, refused_line}
use Rattle.cry_base.specs.declared.commands.Refusal.{Refusal}
use Rattle.cry_base.specs.Refusals.{word_of}
use Rattle.script_text.specs.Seats.{of_line, pinned_line, seat_word, unserved_line}
use Rattle.script_text.specs.declared.seats.SeatRefusal.{SeatRefusal}
use Rattle.script_text.specs.SeenLines.{seen_file_line, seen_folder_line, seen_front}
use Rattle.script_text.proofs.HexText.{length-hex_of}

pub length-owner_line : (key : List ℕ) → length (owner_line key) ≡ 2 * length key + 7
unfolding owner_line
length-owner_line key = simp (length-append, length-hex_of) (omega arith)

pub length-path_line : (word path : List ℕ) → length (path_line word path) ≡ length word + length path + 1
unfolding path_line
length-path_line word path = simp length-append (omega arith)

pub length-file_line : (path bytes : List ℕ) → length (file_line path bytes) ≡ length path + 2 * length bytes + 7
unfolding file_line
length-file_line path bytes = simp (length-append, length-hex_of) (omega arith)

pub length-holder_line : (holder : ℕ) (key : List ℕ) → length (holder_line holder key) ≡ length (decimal holder) + 2 * length key + 9
unfolding holder_line
length-holder_line holder key = simp (length-append, length-hex_of) (omega arith)

pub length-refused_line : (why : Refusal) → length (refused_line why) ≡ length (word_of why) + 9
unfolding refused_line
length-refused_line why = simp length-append (omega arith)

-- all of them
pub ruleset lengths = (length-owner_line, length-path_line, length-file_line, length-holder_line, length-refused_line, length-hex_of)

pub length-seen_front : (word batch id name : List ℕ) → length (seen_front word batch id name) ≡ length word + length batch + length id + length name + 2
unfolding seen_front
length-seen_front word batch id name = simp length-append (omega arith)

pub length-seen_folder_line : (batch id name : List ℕ) → length (seen_folder_line batch id name) ≡ length batch + length id + length name + 10
unfolding seen_folder_line seen_front
length-seen_folder_line batch id name = simp length-append (omega arith)

pub length-seen_file_line : (batch id name bytes : List ℕ) → length (seen_file_line batch id name bytes) ≡ length batch + length id + length name + 2 * length bytes + 9
unfolding seen_file_line seen_front
length-seen_file_line batch id name bytes = simp (length-append, length-hex_of) (omega arith)

pub length-of_line : (word : List ℕ) (one all : ℕ) → length (of_line word one all) ≡ length word + length (decimal one) + length (decimal all) + 5
unfolding of_line
length-of_line word one all = simp length-append (omega arith)

pub length-pinned_line : (pinned : ℕ) → length (pinned_line pinned) ≡ length (decimal pinned) + 8
unfolding pinned_line
length-pinned_line pinned = simp length-append (omega arith)

pub length-unserved_line : (why : SeatRefusal) → length (unserved_line why) ≡ length (seat_word why) + 9
unfolding unserved_line
length-unserved_line why = simp length-append (omega arith)

-- those of sessions
pub ruleset seat_lengths = (length-of_line, length-pinned_line, length-unserved_line)

-- those of an audit
pub ruleset seen_lengths = (length-seen_front, length-seen_folder_line, length-seen_file_line, length-hex_of)
