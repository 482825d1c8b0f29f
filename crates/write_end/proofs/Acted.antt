-- The calls of the jobs that may have acted, where an image is kept with those of the jobs that have a slot.
use Rattle.std.proofs.Common.{◌≡◌, ◌++◌, ◌∷◌, [], ℕ, Bool, true, false, cond, List, Option, Some, None, refl, subst, inl, inr}
use Rattle.std.specs.Prelude.{filter, map}
use Rattle.oplog_entry.specs.pm_model.Words.{Words}
use Rattle.oplog_entry.specs.layout_model.Places.{Geometry}
use Rattle.in_place.specs.k_split_laws.list_laws.Members.{In}
use Rattle.in_place.specs.k_split_laws.posix_types.declared.call.Mode.{Mode}
use Rattle.in_place.specs.k_split_laws.posix_types.declared.item.Item.{Item}
use Rattle.in_place.specs.k_split_laws.posix_types.declared.tree.TreeEntry.{TreeEntry}
use Rattle.in_place.specs.k_split_laws.posix_spec.Run.{after_call, Unfinished, run}
use Rattle.in_place.specs.k_split_laws.posix_spec.State.{State}
use Rattle.in_place.specs.live_model.write_jobs.world_image_laws.crash_spec.Permitted.{StronglyPermitted}
use Rattle.in_place.specs.live_model.write_jobs.world_image_laws.crash_spec.Strict.{StrictFrom}
use Rattle.in_place.specs.live_model.write_jobs.world_image_laws.crash_spec.Sync.{SyncFrom}
use Rattle.in_place.specs.live_model.write_jobs.world_image_laws.Back.{calls_in_log}
use Rattle.in_place.specs.live_model.write_jobs.world_image_laws.Promised.{IsKept}
use Rattle.in_place.specs.write_plan.eof_laws.log_checkpoint.world_model.Jobs.{Job, unfinished_call}
use Rattle.in_place.specs.live_model.Standing.{AreJobsOf, JobOut}
use Rattle.write_end.specs.Ends.{begun_by}

-- The test holds for each job that has a slot.
abbrev pub HoldsOfSlots : (JobOut → Bool) → (Job → Option ℕ) → List JobOut → List Job → Type 0
HoldsOfSlots acts slot_of pending jobs = (p : JobOut) (j : Job) (slot : ℕ) → In p pending → In j jobs → j.draft ≡ p.draft → slot_of j ≡ Some slot → acts p ≡ true

module _ (acts : JobOut → Bool) (slot_of : Job → Option ℕ) (last : List Unfinished) (left : List TreeEntry) where
  abbrev acted : List JobOut → List Unfinished
  acted pending = map begun_by (filter acts pending) ++ last

  abbrev in_log : List Job → List Unfinished
  in_log jobs = calls_in_log (map slot_of jobs) jobs ++ last

  -- the first job, by its slot and by the test
  abbrev first_in_log : Option ℕ → Job → List Job → List Unfinished
  first_in_log o j jobs = calls_in_log (o ∷ map slot_of jobs) (j ∷ jobs) ++ last

  abbrev first_acted : Bool → JobOut → List JobOut → List Unfinished
  first_acted b p pending = map begun_by (cond b (p ∷ filter acts pending) (filter acts pending)) ++ last

  same_call : (p : JobOut) (j : Job) → j.who ≡ p.who → j.call ≡ p.call → unfinished_call j ≡ begun_by p
  same_call p j who call i = (who i, call i)

  never : (b : Bool) → b ≡ true → b ≡ false → ⊥
  never b holds fails = cc

  strict_acted : (s : State) (pending : List JobOut) (jobs : List Job) → AreJobsOf pending jobs → HoldsOfSlots acts slot_of pending jobs → StrictFrom s (in_log jobs) left → StrictFrom s (acted pending) left
  strict_acted s [] [] are holds is = is
  strict_acted s [] (j ∷ jobs) are holds is = absurd are
  strict_acted s (p ∷ pending) [] are holds is = absurd are
  strict_acted s (p ∷ pending) (j ∷ jobs) are holds is =
      by (λ t. strict_acted t pending jobs are.3 (λ q k slot at there same some. holds q k slot (inr at) (inr there) same some)) (slot_of j) refl (acts p) refl is where
        by : ((t : State) → StrictFrom t (in_log jobs) left → StrictFrom t (acted pending) left) → (o : Option ℕ) → slot_of j ≡ o → (b : Bool) → acts p ≡ b → StrictFrom s (first_in_log o j jobs) left → StrictFrom s (first_acted b p pending) left
        by rest None none true own one = inr (rest s one)
        by rest None none false own one = rest s one
        by rest (Some slot) some true own (inl acts_now) = inl (rest (after_call s (begun_by p)) (subst (λ (c : Unfinished). StrictFrom (after_call s c) (in_log jobs) left) (same_call p j are.0 are.1) acts_now))
        by rest (Some slot) some true own (inr idle) = inr (rest s idle)
        by rest (Some slot) some false own one = absurd (never (acts p) (holds p j slot (inl refl) (inl refl) are.2 some) own)

  sync_acted : (s : State) (pending : List JobOut) (jobs : List Job) → AreJobsOf pending jobs → HoldsOfSlots acts slot_of pending jobs → SyncFrom s (in_log jobs) left → SyncFrom s (acted pending) left
  sync_acted s [] [] are holds is = is
  sync_acted s [] (j ∷ jobs) are holds is = absurd are
  sync_acted s (p ∷ pending) [] are holds is = absurd are
  sync_acted s (p ∷ pending) (j ∷ jobs) are holds is =
      by (λ t. sync_acted t pending jobs are.3 (λ q k slot at there same some. holds q k slot (inr at) (inr there) same some)) (slot_of j) refl (acts p) refl is where
        first : ((t : State) → SyncFrom t (in_log jobs) left → SyncFrom t (acted pending) left) → SyncFrom s (begun_by p ∷ in_log jobs) left → SyncFrom s (begun_by p ∷ acted pending) left
        first rest (inl whole) = inl (rest (after_call s (begun_by p)) whole)
        first rest (inr (inl part)) = inr (inl (part.0, part.1, rest part.0 part.2))
        first rest (inr (inr idle)) = inr (inr (rest s idle))

        by : ((t : State) → SyncFrom t (in_log jobs) left → SyncFrom t (acted pending) left) → (o : Option ℕ) → slot_of j ≡ o → (b : Bool) → acts p ≡ b → SyncFrom s (first_in_log o j jobs) left → SyncFrom s (first_acted b p pending) left
        by rest None none true own one = inr (inr (rest s one))
        by rest None none false own one = rest s one
        by rest (Some slot) some true own one = first rest (subst (λ (c : Unfinished). SyncFrom s (c ∷ in_log jobs) left) (same_call p j are.0 are.1) one)
        by rest (Some slot) some false own one = absurd (never (acts p) (holds p j slot (inl refl) (inl refl) are.2 some) own)

-- AN IMAGE IS KEPT WITH THE CALLS OF THESE JOBS unfinished, where it is kept with those that have a slot.
pub kept_of_acted : (g : Geometry) (start : State) (history : List Item) (acts : JobOut → Bool) (slot_of : Job → Option ℕ) (pending : List JobOut) (jobs : List Job) (last : List Unfinished) (image : Words) → (start.mode ≡ Mode.Posix → pending ≡ [])
    → AreJobsOf pending jobs → HoldsOfSlots acts slot_of pending jobs → IsKept g start history (calls_in_log (map slot_of jobs) jobs ++ last) image → IsKept g start history (map begun_by (filter acts pending) ++ last) image
kept_of_acted g start history acts slot_of pending jobs last image jobless are holds is =
    record { checked = is.checked; geometry = is.geometry; tree = is.tree; permitted = λ left tree_is. by start.mode refl left (is.permitted left tree_is) } where
      alike : (pending : List JobOut) (jobs : List Job) → AreJobsOf pending jobs → pending ≡ [] → calls_in_log (map slot_of jobs) jobs ≡ map begun_by (filter acts pending)
      alike [] [] are none = refl
      alike [] (j ∷ jobs) are none = absurd are
      alike (p ∷ pending) jobs are none = cc

      by : (m : Mode) → start.mode ≡ m → (left : List TreeEntry) → StronglyPermitted m start history (calls_in_log (map slot_of jobs) jobs ++ last) left → StronglyPermitted m start history (map begun_by (filter acts pending) ++ last) left
      by Mode.Strict own left permitted = strict_acted acts slot_of last left (run start history) pending jobs are holds permitted
      by Mode.Sync own left permitted = sync_acted acts slot_of last left (run start history) pending jobs are holds permitted
      by Mode.Posix own left permitted = subst (λ cs. StronglyPermitted Mode.Posix start history (cs ++ last) left) (alike pending jobs are (jobless own)) permitted
