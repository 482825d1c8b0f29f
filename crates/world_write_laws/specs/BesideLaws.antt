-- The laws of a file that is written or is anew where no job is out, each as one statement.
use Rattle.std.specs.Prelude.{◌≡◌, ℕ, List, [], ◌∷◌, ◌++◌, slice_set}
use Rattle.world_step_laws.specs.world_model.pm_model.Words.{Words}
use Rattle.world_step_laws.specs.world_model.layout_model.declared.lines.Draft.{Draft}
use Rattle.world_step_laws.specs.world_model.image_model.Volume.{Volume}
use Rattle.world_step_laws.specs.world_model.posix_tables.declared.nodes.Node.{Node}
use Rattle.world_step_laws.specs.world_model.posix_spec.Run.{after_call}
use Rattle.world_step_laws.specs.world_model.posix_spec.State.{Fits, State}
use Rattle.world_step_laws.specs.world_model.Jobs.{unfinished_call, HoldsWhole, Job, live_claims}
use Rattle.world_step_laws.specs.world_model.Stands.{IsSane, LogStands, number}
use Rattle.world_step_laws.specs.Worlds.{IsWorld}
use Rattle.world_write_laws.specs.Places.{WritesBeside, WritesInPlace}
use Rattle.world_write_laws.specs.Renews.{claims_beside, Renews}
use Rattle.world_write_laws.specs.Resizes.{HasAlone}

-- bytes of a file are written where they lie, and maybe others in blocks that no other file has; the next state has them
abbrev pub KeepsInPlaceBeside : Type 0
KeepsInPlaceBeside =
    (v : Volume) (claims : List (ℕ × Draft)) (f g : Words) (numbers : List ℕ) (s new : State) (count ino : ℕ) (bytes : List ℕ) (published : ℕ)
    → IsWorld v claims [] f numbers s count → WritesBeside v (live_claims v claims) f g ino bytes → Fits new → new.entries ≡ s.entries → new.shape ≡ s.shape
    → new.nodes ≡ slice_set s.nodes (number numbers ino) (Node.File (record { bytes = bytes; published = published }))
    → IsWorld v claims [] g numbers new count

-- the one job finishes: its entry is claimed, and then bytes of its file are written in place, so that the file has its whole bytes;
-- its call has acted
abbrev pub KeepsFinishedInPlaceBeside : Type 0
KeepsFinishedInPlaceBeside =
    (v : Volume) (claims : List (ℕ × Draft)) (j : Job) (f g : Words) (numbers : List ℕ) (s : State) (count slot : ℕ)
    → IsWorld v claims (j ∷ []) f numbers s count → HoldsWhole v f j.draft j.found
    → WritesBeside v (live_claims v (claims ++ (slot, j.draft) ∷ [])) f g j.draft.ino j.whole
    → IsWorld v (claims ++ (slot, j.draft) ∷ []) [] g numbers (after_call s (unfinished_call j)) count

-- words that change in blocks of one file alone change in no block that another file has
abbrev pub PlaceIsBeside : Type 0
PlaceIsBeside =
    (v : Volume) (live : List Draft) (f g : Words) (ino : ℕ) (bytes : List ℕ) → IsSane v → LogStands v live → WritesInPlace v live f g ino bytes → WritesBeside v live f g ino bytes

-- A file is anew, relinked, cut or lengthened, whatever was staged of it: by its own map it has the bytes of the next state. Its claims
-- are gone.
abbrev pub KeepsRenewed : Type 0
KeepsRenewed =
    (v w : Volume) (claims : List (ℕ × Draft)) (f : Words) (numbers : List ℕ) (s new : State) (count ino : ℕ) (bytes : List ℕ) (published : ℕ)
    → IsWorld v claims [] f numbers s count → Renews v w claims ino → HasAlone w f ino bytes → Fits new → new.entries ≡ s.entries → new.shape ≡ s.shape
    → new.nodes ≡ slice_set s.nodes (number numbers ino) (Node.File (record { bytes = bytes; published = published }))
    → IsWorld w (claims_beside ino claims) [] f numbers new count
