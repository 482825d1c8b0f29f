-- The power that device steps are taken from.
use Rattle.std.specs.Prelude.{◌≡◌, ◌≤◌, ◌+◌, ℕ, Bool, true, Option, Some, None, nat_lt, if◌then◌else◌}

-- how many steps a power was made with, none for one that always lasts, and how many it has given;
-- one that always lasts keeps no count
pub record Supply : Type 0 where
  pub given : Option ℕ
  pub taken : ℕ

-- whether `taken` of the given steps leave any
abbrev pub is_left : Option ℕ → ℕ → Bool
is_left None taken = true
is_left (Some given) taken = nat_lt taken given

-- whether a step is left
abbrev pub is_on : Supply → Bool
is_on p = is_left p.given p.taken

-- `taken` after one more step is asked for
abbrev pub taken_after : Option ℕ → ℕ → ℕ
taken_after None taken = taken
taken_after (Some given) taken = if nat_lt taken given then taken + 1 else taken

-- after one step, where one is left
abbrev pub stepped : Supply → Supply
stepped p = record { given = p.given; taken = taken_after p.given p.taken }

-- From old to new at most n steps were taken, and a power that is on now was on before.
pub record Steps (n : ℕ) (old new : Supply) : Type 0 where
  pub given : new.given ≡ old.given
  pub on_before : is_on new ≡ true → is_on old ≡ true
  pub later : old.taken ≤ new.taken
  pub bound : new.taken ≤ old.taken + n
