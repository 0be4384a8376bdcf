-- Files in memory as plain data: what stands under a name, and what is told of it.
use Rattle.std.specs.Prelude.{◌≡◌, ℕ, List, [], ◌∷◌, Bool, true, false, if◌then◌else◌, map, Vec, String}
use Rattle.std.specs.List.{list_any}
use Rattle.std.specs.Prelude.{nat_eq}
use Rattle.std.specs.Str.{bytes_eq}
use Rattle.std.specs.String.{string_bytes}
use Rattle.std.specs.declared.alloc.Global.{Global}
use Rattle.wy_port.specs.declared.files.LoadFault.{LoadFault}
use Rattle.wy_port.specs.declared.files.LoadFault.TheVariants.{Absent, TooLong, Failed, NoMemory}
use Rattle.wy_port.specs.declared.files.SaveFault.{SaveFault}
use Rattle.wy_port.specs.declared.files.SaveFault.TheVariants.{Failed as FailedToSave, NoMemory as NoMemoryToSave}
use Rattle.wy_port.specs.Told.{Told}
use Rattle.wy_port.specs.Told.Told.{Unknown, Lacking, Holding}

-- files, each a name and its bytes, the newest first; the names that a failed save left untold; the numbers of the calls that fail; and the counts of calls, faults and misses
pub record FilesState : Type 0 where
  pub files : List (List ℕ × List ℕ)
  pub untold : List (List ℕ)
  pub fails : List ℕ
  pub calls : ℕ
  pub load_faults : ℕ
  pub save_faults : ℕ
  pub misses : ℕ

-- the names and the bytes of these files
abbrev pub plain_files : List (String Global × Vec ℕ Global) → List (List ℕ × List ℕ)
plain_files files = map (λ f. (string_bytes f.0, f.1.items)) files

-- the bytes of these names
abbrev pub plain_names : List (String Global) → List (List ℕ)
plain_names names = map (λ n. string_bytes n) names

-- what stands under the name: the bytes of the first file that has it
abbrev pub file_at : List (List ℕ × List ℕ) → List ℕ → Told
file_at [] name = Lacking
file_at (f ∷ files) name = if bytes_eq f.0 name then Holding f.1 else file_at files name

-- whether the name is one of these
abbrev pub is_among : List (List ℕ) → List ℕ → Bool
is_among [] name = false
is_among (n ∷ names) name = if bytes_eq n name then true else is_among names name

-- whether a file has the name
abbrev pub has_file : List (List ℕ × List ℕ) → List ℕ → Bool
has_file [] name = false
has_file (f ∷ files) name = if bytes_eq f.0 name then true else has_file files name

-- whether no name stands twice
abbrev pub are_different : List (List ℕ × List ℕ) → Bool
are_different [] = true
are_different (f ∷ files) = if has_file files f.0 then false else are_different files

-- what is told of a name: nothing after a failed save, and else what stands there
abbrev pub told_of : FilesState → List ℕ → Told
told_of s name = if is_among s.untold name then Unknown else file_at s.files name

-- whether the next call is listed as one that fails
abbrev pub fails_next : FilesState → Bool
fails_next s = list_any (λ number. nat_eq number s.calls) s.fails

-- a load has failed exactly where it was listed
abbrev pub FailsAsListed : Bool → LoadFault → Type 0
FailsAsListed listed Absent = listed ≡ false
FailsAsListed listed TooLong = listed ≡ false
FailsAsListed listed Failed = listed ≡ true
FailsAsListed listed NoMemory = listed ≡ false

-- a save has failed only where it was listed; want of memory may come first
abbrev pub FailsToSaveAsListed : Bool → SaveFault → Type 0
FailsToSaveAsListed listed FailedToSave = listed ≡ true
FailsToSaveAsListed listed NoMemoryToSave = Unit {0}
