-- What the outside is to the program: files that are read and replaced whole, and a sink that takes bytes.
use Rattle.std.specs.Prelude.{◌≡◌, ◌≢◌, ◌⊎◌, ◌-◌, ◌^◌, ◌<◌, ◌≤◌, ℕ, List, [], ◌∷◌, ◌++◌, length, take, nat_eq, if◌then◌else◌, Option, Some, None, option_map, ⊤}
use lib.Pointwise.{pointwise}

-- names of files with their bytes; of several of one name the first counts
abbrev pub FileList : Type 0
FileList = List (List ℕ × List ℕ)

-- the bytes of the file of this name, if it is there
abbrev pub bytes_named : FileList → List ℕ → Option (List ℕ)
bytes_named [] name = None
bytes_named (file ∷ files) name = if pointwise nat_eq file.0 name then Some file.1 else bytes_named files name

-- the bytes are those of the file of this name, where the list is told
abbrev pub AreOfFile : Option FileList → List ℕ → List ℕ → Type 0
AreOfFile None name bytes = ⊤
AreOfFile (Some files) name bytes = bytes_named files name ≡ Some bytes

-- there is no file of this name, where the list is told
abbrev pub IsAbsent : Option FileList → List ℕ → Type 0
IsAbsent None name = ⊤
IsAbsent (Some files) name = bytes_named files name ≡ None

-- the one file has these bytes, and every other is as it was
pub record IsSet (old new : FileList) (name bytes : List ℕ) : Type 0 where
  pub named : bytes_named new name ≡ Some bytes
  pub others : (other : List ℕ) → other ≢ name → bytes_named new other ≡ bytes_named old other

abbrev pub IsReplaced : Option FileList → Option FileList → List ℕ → List ℕ → Type 0
IsReplaced None None name bytes = ⊤
IsReplaced None (Some new) name bytes = ⊥
IsReplaced (Some old) None name bytes = ⊥
IsReplaced (Some old) (Some new) name bytes = IsSet old new name bytes

-- a count's last value, at which it stands still
abbrev pub last_count : ℕ
last_count = 2 ^ 64 - 1

-- a count of failures rose: it is greater, or stands at its last value
abbrev pub Rose : ℕ → ℕ → Type 0
Rose old new = (old < new) ⊎ (new ≡ last_count)

-- all of the bytes were taken, or a front of them
abbrev pub Takes : Option (List ℕ) → Option (List ℕ) → List ℕ → Type 0
Takes old new bytes = new ≡ option_map (λ taken. taken ++ bytes) old

pub record TakesFront (old new : Option (List ℕ)) (bytes : List ℕ) : Type 0 where
  pub count : ℕ
  pub within : count ≤ length bytes
  pub front : Takes old new (take count bytes)
