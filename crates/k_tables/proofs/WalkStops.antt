-- A walk that stops at a name.
use Rattle.std.proofs.Common.{◌≡◌, ℕ, suc, ◌<◌, Bool, true, false, List, ◌∷◌, length, get_or, drop, Option, Some, None, sym, ◌∙◌, ap}
use Rattle.std.specs.Prelude.{Result, Ok, Err, if◌then◌else◌}
use Rattle.std.proofs.Math.Seq.{drop-cons}
use Rattle.posix_types.specs.declared.reply.Errno.{Errno}
use Rattle.posix_tables.specs.declared.nodes.DirEntry.{DirEntry}
use Rattle.posix_tables.specs.Names.{child_of, downward, walk_from}

stops : (directory : ℕ → Bool) (o : Option ℕ) (onward : ℕ → Result ℕ Errno) (errno : Errno)
    → Err errno ≡ downward directory o (λ node. Ok node) → Err errno ≡ downward directory o onward
stops directory None onward errno is = is
stops directory (Some node) onward errno is = by (directory node) is
  where
    by : (b : Bool) → Err errno ≡ (if b then Ok node else Err Errno.ENOTDIR) → Err errno ≡ (if b then onward node else Err Errno.ENOTDIR)
    by true is = cc
    by false is = is

pub walk-stops : (directory : ℕ → Bool) (entries : List DirEntry) (at : ℕ) (path : List (List ℕ)) (i : ℕ) (name : List ℕ) (errno : Errno)
    → i < length path → name ≡ get_or path i name → Err errno ≡ downward directory (child_of entries at name) (λ node. Ok node)
    → Err errno ≡ walk_from directory entries at (drop i path)
walk-stops directory entries at path i name errno within is stop =
    let rest : drop i path ≡ name ∷ drop (suc i) path = drop-cons path i name within ∙ ap (λ n. n ∷ drop (suc i) path) (sym is) in
    stops directory (child_of entries at name) (λ node. walk_from directory entries node (drop (suc i) path)) errno stop
    ∙ sym (ap (walk_from directory entries at) rest)
