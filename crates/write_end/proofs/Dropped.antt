-- A job that has no slot is dropped: what is put back without it is put back with it.
use Rattle.std.proofs.Common.{◌≡◌, ◌∷◌, ◌++◌, ◌∙◌, [], ℕ, List, Option, Some, None, refl, ap, sym, subst, inl, inr}
use Rattle.oplog_entry.specs.pm_model.declared.Cell.{Cell}
use Rattle.oplog_entry.specs.pm_model.Parts.{put_back}
use Rattle.oplog_entry.specs.pm_model.Words.{Words}
use Rattle.oplog_entry.specs.layout_model.Journal.{journaled}
use Rattle.oplog_entry.specs.layout_model.declared.lines.Draft.{Draft}
use Rattle.oplog_entry.specs.image_model.Volume.{Volume}
use Rattle.in_place.specs.k_split_laws.list_laws.Members.{In}
use Rattle.in_place.specs.k_split_laws.posix_types.declared.item.Item.{Item}
use Rattle.in_place.specs.k_split_laws.posix_spec.Run.{Unfinished}
use Rattle.in_place.specs.k_split_laws.posix_spec.State.{State}
use Rattle.in_place.specs.live_model.write_jobs.world_image_laws.Back.{IsPutBack, jobs_in_log}
use Rattle.in_place.specs.live_model.write_jobs.world_image_laws.Promised.{IsKept}
use Rattle.in_place.specs.write_plan.eof_laws.log_checkpoint.world_model.Jobs.{unfinished_call, Job}
use Rattle.in_place.specs.write_plan.eof_laws.log_checkpoint.world_model.Lines.{AreJobLines, IsTaken}
use Rattle.in_place.specs.write_plan.eof_laws.log_checkpoint.world_model.Shown.{AreFilled}
use Rattle.write_end.specs.Lost.{HoldLost, IsKeptLost}
use Rattle.std.specs.Prelude.{map}

-- the slots, with none for the job behind these
with_none : List Job → List (Option ℕ) → List (Option ℕ)
with_none [] slots = None ∷ slots
with_none (x ∷ a) [] = []
with_none (x ∷ a) (o ∷ slots) = o ∷ with_none a slots

filled_with_none : (v : Volume) (f : Words) (a : List Job) (j : Job) (b : List Job) (slots : List (Option ℕ)) → AreFilled v f (a ++ b) slots → AreFilled v f (a ++ j ∷ b) (with_none a slots)
unfolding with_none
filled_with_none v f [] j b slots filled = filled
filled_with_none v f (x ∷ a) j b [] filled = tt
filled_with_none v f (x ∷ a) j b (None ∷ slots) filled = filled_with_none v f a j b slots filled
filled_with_none v f (x ∷ a) j b (Some slot ∷ slots) filled = (filled.0, filled_with_none v f a j b slots filled.1)

lines_with_none : (v : Volume) (cells : ℕ → Cell) (first : Words) (a : List Job) (j : Job) (b : List Job) (slots : List (Option ℕ)) → AreJobLines v cells first (a ++ b) slots → AreJobLines v cells first (a ++ j ∷ b) (with_none a slots)
unfolding with_none
lines_with_none v cells first [] j b slots are = are
lines_with_none v cells first (x ∷ a) j b [] are = tt
lines_with_none v cells first (x ∷ a) j b (None ∷ slots) are = lines_with_none v cells first a j b slots are
lines_with_none v cells first (x ∷ a) j b (Some slot ∷ slots) are = (are.0, lines_with_none v cells first a j b slots are.1)

taken_with_none : (a : List Job) (j : Job) (b : List Job) (slots : List (Option ℕ)) (n : ℕ) → IsTaken (a ++ b) slots n → IsTaken (a ++ j ∷ b) (with_none a slots) n
unfolding with_none
taken_with_none [] j b slots n is = is
taken_with_none (x ∷ a) j b [] n is = absurd is
taken_with_none (x ∷ a) j b (None ∷ slots) n is = taken_with_none a j b slots n is
taken_with_none (x ∷ a) j b (Some slot ∷ slots) n (inl same) = inl same
taken_with_none (x ∷ a) j b (Some slot ∷ slots) n (inr rest) = inr (taken_with_none a j b slots n rest)

-- it is none of those whose entry may stand in the log
in_log_with_none : (a : List Job) (j : Job) (b : List Job) (slots : List (Option ℕ)) → jobs_in_log (with_none a slots) (a ++ j ∷ b) ≡ jobs_in_log slots (a ++ b)
unfolding with_none
in_log_with_none [] j b slots = refl
in_log_with_none (x ∷ a) j b [] = refl
in_log_with_none (x ∷ a) j b (None ∷ slots) = in_log_with_none a j b slots
in_log_with_none (x ∷ a) j b (Some slot ∷ slots) = ap (λ jobs. x ∷ jobs) (in_log_with_none a j b slots)

put_with_none : (v : Volume) (d : List Cell) (back : ℕ → Cell) (first : Words) (claims : List (ℕ × Draft)) (a : List Job) (j : Job) (b : List Job) (slots : List (Option ℕ)) (image : Words)
    → IsPutBack v d back first claims (a ++ b) slots image → IsPutBack v d back first claims (a ++ j ∷ b) (with_none a slots) image
put_with_none v d back first claims a j b slots image is = record {
  lines = record {
    claimed = is.lines.claimed;
    out = lines_with_none v (put_back d back) first a j b slots is.lines.out;
    others = λ slot below free none. is.lines.others slot below free (λ taken. none (taken_with_none a j b slots slot taken));
    old = is.lines.old;
  };
  image_is = is.image_is;
  honest = is.honest;
  filled = filled_with_none v (journaled image) a j b slots is.filled;
}

-- one that claimed none holds none
held_by_none : (v : Volume) (cells : ℕ → Cell) (slot_of : ℕ → Option ℕ) (a : List Job) (j : Job) (b : List Job) → slot_of j.draft.ino ≡ None → HoldLost v cells (a ++ b) [] slot_of → HoldLost v cells (a ++ j ∷ b) [] slot_of
held_by_none v cells slot_of [] j b none hold = (none, hold)
held_by_none v cells slot_of (x ∷ a) j b none hold = (hold.0, held_by_none v cells slot_of a j b none hold.1)

held_with_none : (v : Volume) (cells : ℕ → Cell) (slot_of : ℕ → Option ℕ) (a : List Job) (j : Job) (b : List Job) (slots : List (Option ℕ)) → slot_of j.draft.ino ≡ None → HoldLost v cells (a ++ b) slots slot_of
    → HoldLost v cells (a ++ j ∷ b) (with_none a slots) slot_of
unfolding with_none
held_with_none v cells slot_of [] j b slots none hold = ((λ slot had. absurd (never slot (sym none ∙ had))), hold) where
  never : (slot : ℕ) → None ≡ Some slot → ⊥
  never slot is = cc
held_with_none v cells slot_of (x ∷ a) j b [] none hold = (hold.0, held_by_none v cells slot_of a j b none hold.1)
held_with_none v cells slot_of (x ∷ a) j b (o ∷ slots) none hold = (hold.0, held_with_none v cells slot_of a j b slots none hold.1)

-- THE PROMISE STAYS without it.
pub kept_without : (v : Volume) (d : List Cell) (first : Words) (claims : List (ℕ × Draft)) (a : List Job) (j : Job) (b : List Job) (slot_of : ℕ → Option ℕ) (start : State) (history : List Item) (last : List Unfinished)
    → slot_of j.draft.ino ≡ None → IsKeptLost v d first claims (a ++ j ∷ b) slot_of start history last → IsKeptLost v d first claims (a ++ b) slot_of start history last
kept_without v d first claims a j b slot_of start history last none kept back slots image is hold =
    subst (λ jobs. IsKept v.geometry start history (map unfinished_call jobs ++ last) image) (in_log_with_none a j b slots)
    (kept back (with_none a slots) image (put_with_none v d back first claims a j b slots image is) (held_with_none v (put_back d back) slot_of a j b slots none hold))

-- Where fewer jobs claimed a slot, no more is asked.
pub held_by_fewer : (v : Volume) (cells : ℕ → Cell) (old new : ℕ → Option ℕ) → ((ino slot : ℕ) → old ino ≡ Some slot → new ino ≡ Some slot) → (jobs : List Job) (slots : List (Option ℕ)) → HoldLost v cells jobs slots new → HoldLost v cells jobs slots old
held_by_fewer v cells old new more [] slots hold = tt
held_by_fewer v cells old new more (j ∷ jobs) [] hold = (by (old j.draft.ino) refl, held_by_fewer v cells old new more jobs [] hold.1) where
  by : (o : Option ℕ) → old j.draft.ino ≡ o → old j.draft.ino ≡ None
  by None is = is
  by (Some slot) is = absurd (never (sym hold.0 ∙ more j.draft.ino slot is)) where
    never : None ≡ Some slot → ⊥
    never same = cc
held_by_fewer v cells old new more (j ∷ jobs) (o ∷ slots) hold = ((λ slot had. hold.0 slot (more j.draft.ino slot had)), held_by_fewer v cells old new more jobs slots hold.1)

-- a job that is left was there
pub left_in : (a : List Job) (j : Job) (b : List Job) (x : Job) → In x (a ++ b) → In x (a ++ j ∷ b)
left_in [] j b x is = inr is
left_in (y ∷ a) j b x (inl same) = inl same
left_in (y ∷ a) j b x (inr rest) = inr (left_in a j b x rest)
