-- What has a content. This project's own, docs/FORMAT.md, "The checkpoint".
use Rattle.std.specs.Prelude.{ℕ, List, ◌++◌, map}
use Rattle.cry_base.specs.Store.{Store}
use Rattle.log_index.specs.declared.objects.Object.{Object}

abbrev pub folder_object : ℕ → Object
folder_object f = record { kind = 1; number = f }

abbrev pub file_object : ℕ → Object
file_object x = record { kind = 2; number = x }

abbrev pub holder_object : ℕ → Object
holder_object h = record { kind = 3; number = h }

-- the folders and the files that stand, and the holders ever made
abbrev pub objects_of : Store → List Object
objects_of s =
    map (λ e. folder_object e.id) s.folders
    ++ (map (λ e. file_object e.id) s.files ++ map (λ e. holder_object e.number) s.holders)
