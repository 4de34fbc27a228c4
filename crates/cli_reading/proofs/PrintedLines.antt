-- What is shown, line by line, is spelled as it is defined to be.
use Rattle.std.proofs.Common.{refl, ◌≡◌, ℕ, List, [], ◌∷◌, ◌++◌, map, append_assoc, codes, sym, ap, ◌∙◌}
use Rattle.std.specs.List.{flat_map}
use Rattle.cry_base.specs.Texts.{hex_of, ended_lines}
use Rattle.cry_base.specs.declared.client.Line.{Line}
use Rattle.cry_base.specs.declared.client.Line.TheVariants as lines
use Rattle.cry_base.specs.declared.client.Seen.{Seen}
use Rattle.holder_client.specs.Lines.{plain_line}
use Rattle.log_visits.specs.View.{spell_line, spell_view}
use Rattle.script_text.specs.Printing.{path_line, file_line}
use Rattle.script_text.specs.Printing as printing
use Rattle.script_text.specs.SeenLines.{spell_seen}
use Rattle.trail_audit.specs.Derived.{plain_seen}
use Rattle.cli_reading.specs.Promises.Audit.{seen_text}

-- the end of a line may be counted to the line, or to what follows
ended : (word path rest : List ℕ) → (word ++ (path ++ 10 ∷ [])) ++ rest ≡ (word ++ path) ++ 10 ∷ rest
ended word path rest =
    append_assoc word (path ++ 10 ∷ []) rest
    ∙ ap (λ l. word ++ l) (append_assoc path (10 ∷ []) rest)
    ∙ sym (append_assoc word path (10 ∷ rest))

printed_plain : (line : Line) (rest : List ℕ) → printing.spell_line line ++ rest ≡ spell_line (plain_line line) ++ 10 ∷ rest
unfolding path_line file_line spell_line
printed_plain (lines.Ancestor path) rest = ended (codes "ancestor ") path.items rest
printed_plain (lines.Folder path) rest = ended (codes "folder ") path.items rest
printed_plain (lines.File path bytes) rest =
    let body : List ℕ = path.items ++ 32 ∷ hex_of bytes.items in
    ap (λ (l : List ℕ). (codes "file " ++ l) ++ rest) (sym (append_assoc path.items (32 ∷ hex_of bytes.items) (10 ∷ [])))
    ∙ ended (codes "file ") body rest

-- the lines of a view
pub spelled_view : (view : List Line) → flat_map printing.spell_line view ≡ spell_view (map plain_line view)
unfolding spell_view ended_lines
spelled_view [] = refl
spelled_view (line ∷ view) =
    printed_plain line (flat_map printing.spell_line view)
    ∙ ap (λ rest. spell_line (plain_line line) ++ 10 ∷ rest) (spelled_view view)

-- those of an audit
pub spelled_sights : (seen : List Seen) → flat_map spell_seen seen ≡ seen_text (map plain_seen seen)
unfolding seen_text
spelled_sights [] = refl
spelled_sights (one ∷ seen) = ap (λ rest. spell_seen one ++ rest) (spelled_sights seen)
