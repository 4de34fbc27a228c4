-- How the figures of a session are printed. This project's own, docs/PROGRAM.md, "The program".
use Rattle.std.specs.Prelude.{ℕ, List, [], ◌∷◌, ◌++◌, codes}
use Rattle.std.specs.Fmt.{decimal}
use Rattle.store_owner.specs.declared.tally.Tally.{Tally}

-- five lines, each of a word and a number
abbrev pub spell_figures : Tally → List ℕ
spell_figures t =
    codes "commands " ++ (decimal t.commands ++ (10 ∷ codes "links " ++ (decimal t.links ++ (10 ∷ codes "contents " ++ (decimal t.contents
    ++ (10 ∷ codes "dirty " ++ (decimal t.dirty ++ (10 ∷ codes "bytes " ++ (decimal t.bytes ++ 10 ∷ [])))))))))
