-- Worked rows of generated scripts: their lines were computed elsewhere, by a program of a few lines in another language.
use Rattle.std.specs.Prelude.{ℕ, List, [], ◌∷◌, codes, map}
use Rattle.std.specs.Fmt.{digits}
use Rattle.cry_base.specs.Texts.{hex_digit, hex_of}
use Rattle.store_gen.specs.Rule.{change_of, drawn_requests, first}
use Rattle.store_gen.specs.Spelling.{spelled}

-- the first lines that are drawn behind the opening
unfoldable pub first_lines : ℕ → ℕ → List (List ℕ)
first_lines count seed = map spelled (drawn_requests count (first seed))

-- the first hundred of the seed 7
unfoldable pub hundred : List (List ℕ)
hundred =
    codes "write /d7/f5 ca" ∷ codes "move /d7/t7 /d3" ∷ codes "grant 3 /d0" ∷ codes "grant 4 /d0"
    ∷ codes "grant 2 /d4" ∷ codes "move /d1/t1 /d2" ∷ codes "write /d4/f6 df" ∷ codes "write /d2/f1 9c"
    ∷ codes "grant 2 /d5" ∷ codes "write /d3/f7 53" ∷ codes "move /d2/t1 /d3" ∷ codes "grant 4 /d1"
    ∷ codes "write /d0/f4 98" ∷ codes "write /d0/f7 2a" ∷ codes "move /d6/t6 /d4" ∷ codes "write /d1/f2 fc"
    ∷ codes "move /d4/t6 /d5" ∷ codes "move /d3/t1 /d4" ∷ codes "write /d6/f2 b8" ∷ codes "grant 2 /d7"
    ∷ codes "write /d4/f5 37" ∷ codes "revoke 4 /d0" ∷ codes "write /d3/f3 13" ∷ codes "write /d1/f3 23"
    ∷ codes "move /d5/t6 /d3" ∷ codes "write /d0/f7 e0" ∷ codes "write /d4/f5 81" ∷ codes "move /d4/t4 /d2"
    ∷ codes "grant 4 /d2" ∷ codes "write /d0/f7 e5" ∷ codes "write /d4/f6 5b" ∷ codes "move /d3/t6 /d5"
    ∷ codes "write /d3/f2 39" ∷ codes "grant 1 /d5" ∷ codes "move /d5/t6 /d7" ∷ codes "grant 1 /d1"
    ∷ codes "grant 3 /d4" ∷ codes "grant 3 /d5" ∷ codes "write /d2/f6 fb" ∷ codes "write /d4/f6 f2"
    ∷ codes "move /d7/t6 /d0" ∷ codes "move /d3/t3 /d5" ∷ codes "write /d0/f2 01" ∷ codes "write /d1/f2 bb"
    ∷ codes "write /d6/f2 1f" ∷ codes "write /d4/f6 d5" ∷ codes "write /d0/f6 a9" ∷ codes "write /d0/f2 0b"
    ∷ codes "write /d1/f5 60" ∷ codes "write /d5/f4 10" ∷ codes "write /d2/f7 68" ∷ codes "write /d7/f5 ca"
    ∷ codes "grant 1 /d6" ∷ codes "write /d6/f1 89" ∷ codes "write /d5/f5 0e" ∷ codes "move /d5/t5 /d2"
    ∷ codes "write /d0/f4 bf" ∷ codes "write /d0/f2 89" ∷ codes "write /d1/f3 9f" ∷ codes "move /d2/t5 /d1"
    ∷ codes "revoke 2 /d7" ∷ codes "grant 2 /d2" ∷ codes "revoke 1 /d1" ∷ codes "write /d2/f7 b0"
    ∷ codes "revoke 2 /d5" ∷ codes "move /d2/t4 /d3" ∷ codes "write /d2/f5 af" ∷ codes "grant 2 /d1"
    ∷ codes "write /d4/f7 98" ∷ codes "write /d1/f2 9a" ∷ codes "move /d3/t4 /d6" ∷ codes "write /d3/f2 3e"
    ∷ codes "write /d3/f4 e2" ∷ codes "move /d4/t1 /d5" ∷ codes "write /d4/f0 37" ∷ codes "grant 4 /d6"
    ∷ codes "write /d3/f4 02" ∷ codes "revoke 2 /d2" ∷ codes "write /d1/f5 af" ∷ codes "write /d3/f3 a6"
    ∷ codes "write /d4/f2 5c" ∷ codes "grant 2 /d7" ∷ codes "write /d0/f6 fb" ∷ codes "write /d0/f5 4b"
    ∷ codes "move /d0/t0 /d2" ∷ codes "move /d3/t7 /d7" ∷ codes "write /d1/f2 c3" ∷ codes "move /d5/t1 /d3"
    ∷ codes "move /d7/t7 /d2" ∷ codes "grant 3 /d1" ∷ codes "move /d0/t6 /d4" ∷ codes "grant 4 /d0"
    ∷ codes "move /d4/t6 /d2" ∷ codes "write /d1/f4 0e" ∷ codes "write /d4/f5 88" ∷ codes "write /d3/f0 1b"
    ∷ codes "grant 1 /d1" ∷ codes "write /d6/f6 b1" ∷ codes "grant 3 /d6" ∷ codes "grant 3 /d7" ∷ []

-- opens every word of a script to a computation
unfoldable pub generated : Unit {0}
unfolding digits hex_digit hex_of change_of drawn_requests first first_lines hundred
generated = tt
