-- A reply is printed as it is defined to be spelled.
use Rattle.std.proofs.Common.{◌≡◌, ℕ, List, [], ◌∷◌, ◌++◌, map, append_assoc, codes, refl, sym, ap, ◌∙◌}
use Rattle.std.specs.List.{flat_map}
use Rattle.cry_base.specs.Texts.{ended_lines, hex_of}
use Rattle.cry_base.specs.declared.client.Line.{Line}
use Rattle.cry_base.specs.declared.client.Line.TheVariants as lines
use Rattle.holder_client.specs.Lines.{plain_line}
use Rattle.log_visits.specs.View.{spell_line, spell_view}
use Rattle.script_text.specs.Printing.{file_line, path_line}
use Rattle.script_text.specs.Printing as printing
use Rattle.script_text.specs.Seats.{end_line, spell_seat_reply}
use Rattle.script_text.specs.declared.seats.SeatReply.{SeatReply}
use Rattle.script_text.specs.declared.seats.SeatReply.TheVariants as replies
use Rattle.session_laws.specs.Answers.{plain_reply}
use Rattle.session_laws.specs.Serving.{spell_plain_reply}

-- the end of a line may be counted to the line, or to what follows
ended : (word path rest : List ℕ) → (word ++ (path ++ 10 ∷ [])) ++ rest ≡ (word ++ path) ++ 10 ∷ rest
ended word path rest =
    append_assoc word (path ++ 10 ∷ []) rest
    ∙ ap (λ l. word ++ l) (append_assoc path (10 ∷ []) rest)
    ∙ sym (append_assoc word path (10 ∷ rest))

one_line : (line : Line) (rest : List ℕ) → printing.spell_line line ++ rest ≡ spell_line (plain_line line) ++ 10 ∷ rest
unfolding path_line file_line spell_line
one_line (lines.Ancestor path) rest = ended (codes "ancestor ") path.items rest
one_line (lines.Folder path) rest = ended (codes "folder ") path.items rest
one_line (lines.File path bytes) rest =
    let body : List ℕ = path.items ++ 32 ∷ hex_of bytes.items in
    ap (λ (l : List ℕ). (codes "file " ++ l) ++ rest) (sym (append_assoc path.items (32 ∷ hex_of bytes.items) (10 ∷ [])))
    ∙ ended (codes "file ") body rest

lines_of_view : (view : List Line) → flat_map printing.spell_line view ≡ spell_view (map plain_line view)
unfolding spell_view ended_lines
lines_of_view [] = refl
lines_of_view (line ∷ view) =
    one_line line (flat_map printing.spell_line view)
    ∙ ap (λ rest. spell_line (plain_line line) ++ 10 ∷ rest) (lines_of_view view)

pub reply_printed : (reply : SeatReply) → spell_plain_reply (plain_reply reply) ≡ spell_seat_reply reply
unfolding spell_plain_reply
reply_printed (replies.Begun seat pinned) = refl
reply_printed (replies.HasRead read pinned) = refl
reply_printed (replies.HasPinned pinned) = refl
reply_printed (replies.Shown view) = ap (λ l. l ++ end_line) (sym (lines_of_view view.items))
reply_printed (replies.Refused why) = refl
