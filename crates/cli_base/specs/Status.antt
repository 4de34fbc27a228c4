-- How the program ends. This project's own, docs/PROGRAM.md, "The program".
use Rattle.std.specs.Prelude.{ℕ, List, [], ◌∷◌, ◌++◌, Bool, true, false, codes}
use Rattle.std.specs.Fmt.{decimal}
use Rattle.cli_base.specs.declared.status.Status.{Status}
use Rattle.cli_base.specs.declared.status.Status.TheVariants.{Done, Usage, BadScript, ReadFault, WriteFault, DiskFault, RandomFault}
use Rattle.cli_base.specs.declared.status.Status.TheVariants.{RandomShort, NotAStore, Damaged, WrongKey, Tampered, OutOfMemory}
use Rattle.cli_base.specs.declared.status.Status.TheVariants.{NotBlank, NoHolder, Unseen, NeedsUpgrade, AlreadyNew}
use Rattle.cli_base.specs.declared.status.Status.TheVariants.{Behind, Forked, BadProof}

-- the exit status
abbrev pub code_of : Status → ℕ
code_of Done = 0
code_of Usage = 2
code_of (BadScript line) = 3
code_of ReadFault = 4
code_of WriteFault = 5
code_of DiskFault = 6
code_of RandomFault = 7
code_of (RandomShort left need) = 8
code_of NotAStore = 9
code_of (Damaged at) = 10
code_of WrongKey = 11
code_of (Tampered batch at) = 12
code_of OutOfMemory = 13
code_of NotBlank = 14
code_of (NoHolder known) = 15
code_of Unseen = 16
code_of NeedsUpgrade = 17
code_of AlreadyNew = 18
code_of (Behind have want) = 19
code_of (Forked batches) = 20
code_of BadProof = 21

-- a text as a whole line of standard error
abbrev pub told_line : List ℕ → List ℕ
told_line text = codes "cryptree: " ++ (text ++ 10 ∷ [])

-- what is said on standard error, nothing for Done
abbrev pub line_of : Status → List ℕ
line_of Done = []
line_of Usage = told_line (codes "usage")
line_of (BadScript line) = codes "cryptree: bad script line " ++ (decimal line ++ 10 ∷ [])
line_of ReadFault = told_line (codes "read fault")
line_of WriteFault = told_line (codes "write fault")
line_of DiskFault = told_line (codes "disk fault")
line_of RandomFault = told_line (codes "random fault")
line_of (RandomShort left need) = codes "cryptree: random " ++ (decimal left ++ (codes " of " ++ (decimal need ++ 10 ∷ [])))
line_of NotAStore = told_line (codes "not a store")
line_of (Damaged at) = codes "cryptree: damaged at " ++ (decimal at ++ 10 ∷ [])
line_of WrongKey = told_line (codes "wrong key")
line_of (Tampered batch at) = codes "cryptree: tampered batch " ++ (decimal batch ++ (codes " at " ++ (decimal at ++ 10 ∷ [])))
line_of OutOfMemory = told_line (codes "out of memory")
line_of NotBlank = told_line (codes "not blank")
line_of (NoHolder known) = codes "cryptree: no holder, " ++ (decimal known ++ (codes " known" ++ 10 ∷ []))
line_of Unseen = told_line (codes "unseen")
line_of NeedsUpgrade = told_line (codes "needs upgrade")
line_of AlreadyNew = told_line (codes "already version 2")
line_of (Behind have want) = codes "cryptree: behind, " ++ (decimal have ++ (codes " of " ++ (decimal want ++ 10 ∷ [])))
line_of (Forked batches) = codes "cryptree: forked at " ++ (decimal batches ++ 10 ∷ [])
line_of BadProof = told_line (codes "bad proof")

-- how the program ends before it draws
abbrev pub is_before_draw : Status → Bool
is_before_draw Usage = true
is_before_draw NotBlank = true
is_before_draw OutOfMemory = true
is_before_draw _ = false

-- how it ends before it writes the disk
abbrev pub is_before_write : Status → Bool
is_before_write RandomFault = true
is_before_write (RandomShort left need) = true
is_before_write status = is_before_draw status

-- how `make` may end
abbrev pub is_make_answer : Status → Bool
is_make_answer Done = true
is_make_answer WriteFault = true
is_make_answer DiskFault = true
is_make_answer RandomFault = true
is_make_answer (RandomShort left need) = true
is_make_answer OutOfMemory = true
is_make_answer NotBlank = true
is_make_answer _ = false

-- how it ends before it prints
abbrev pub is_before_print : Status → Bool
is_before_print (BadScript line) = true
is_before_print ReadFault = true
is_before_print NotAStore = true
is_before_print (Damaged at) = true
is_before_print WrongKey = true
is_before_print (Tampered batch at) = true
is_before_print DiskFault = true
is_before_print (NoHolder known) = true
is_before_print Unseen = true
is_before_print NeedsUpgrade = true
is_before_print AlreadyNew = true
is_before_print (Behind have want) = true
is_before_print (Forked batches) = true
is_before_print BadProof = true
is_before_print status = is_before_write status
