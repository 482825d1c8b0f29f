-- Memory for the run of a write.
use Rattle.std.specs.Prelude.{◌≡◌, ◌≢◌, ◌≤◌, ◌<◌, ◌+◌, ◌⊎◌, ℕ, List, [], ◌∷◌, length, None, slice_index, IsSome, refl}
use Rattle.std.proofs.Common.{arith, ap, ◌∙◌, sym, subst, inl, inr}
use Rattle.block_counts.specs.Counts.{blocks_for}
use Rattle.write_plan.specs.layout_model.declared.lines.Draft.{Draft}
use Rattle.write_plan.specs.layout_model.Places.{data_blocks}
use Rattle.write_plan.specs.eof_laws.Ends.{FilesEnd}
use Rattle.write_plan.specs.image_model.Volume.{extents, inode, Volume}
use Rattle.write_plan.specs.extent_model.Extents.{disk_at}
use Rattle.write_plan.specs.file_overlay.Runs.{staged_at}
use Rattle.write_plan.specs.file_table.Files.{Files, runs_in, size_in, spare_in}
use Rattle.live_step_laws.specs.live_model.Flying.{IsFlying}
use Rattle.live_step_laws.specs.world_model.HeldLaws.{AreSizes}
use Rattle.write_plan.specs.k_split_model.View.{View}
use Rattle.write_plan.specs.list_laws.Members.{In}
use Rattle.live_step_laws.specs.live_model.Overlays.{IsOverlayOf}
use Rattle.posix_types.specs.declared.call.Mode.{Mode}
use Rattle.posix_types.specs.declared.call.Who.{Who}
use Rattle.posix_tables.specs.Room.{write_need}
use Rattle.live_step_laws.specs.staging_files.Keeps.{Staged}
use Rattle.live_step_laws.specs.world_model.TreeRules.{used_below}
use Rattle.live_step_laws.specs.world_model.Jobs.{Job, live_claims}
use Rattle.live_step_laws.specs.world_model.Stands.{is_used}
use Rattle.live_step_laws.specs.live_model.Standing.{AreJobsOf, file_state, JobOut}
use Rattle.write_plan.specs.declared.asks.asking.Target.{Target}
use Rattle.write_plan.specs.Asks.{room_in}
use Rattle.write_begin.specs.Goes.{Goes, HasRoom, KeepsMaps}
use Rattle.write_begin.proofs.Maps.{line_same}
use Rattle.write_begin.proofs.Steps.{Onward}

-- The files are those before but for the room that is spare in one line.
pub record SparesOthers (ino : ℕ) (files then : Files) : Type 0 where
  pub runs : (other : ℕ) → runs_in then other ≡ runs_in files other
  pub sizes : then.sizes ≡ files.sizes
  pub spares : (other : ℕ) → other ≢ ino → spare_in then other ≡ spare_in files other

-- the job of one that is kept as out
pub job_of_pending : (pending : List JobOut) (jobs : List Job) → AreJobsOf pending jobs → (p : JobOut) → In p pending → (j : Job) × In j jobs × (j.draft ≡ p.draft) × (j.who ≡ p.who)
job_of_pending [] jobs are p is = absurd is
job_of_pending (q ∷ pending) [] are p is = absurd are
job_of_pending (q ∷ pending) (j ∷ jobs) are p (inl same) = (j, inl refl, are.2 ∙ ap (λ (y : JobOut). y.draft) same, are.0 ∙ ap (λ (y : JobOut). y.who) same)
job_of_pending (q ∷ pending) (j ∷ jobs) are p (inr behind) = let rest = job_of_pending pending jobs are.3 p behind in (rest.0, inr rest.1, rest.2, rest.3)

-- the file has its line
pub line_there : (mode : Mode) (k : View) (staging : Staged) (files : Files) (who : Who) (target : Target) (x : List ℕ) → Goes mode k staging files who target x → target.ino < length files.sizes
line_there mode k staging files who target x goes =
    let file = goes.stands.open_are_files target.ino goes.opened in
    let below = used_below k.volume target.ino (ap is_used file) in
    let count = goes.stands.sizes.count in
    omega (arith, below, count)

-- ---- memory

module _ (mode : Mode) (k : View) (staging : Staged) (files then : Files) (who : Who) (target : Target) (x : List ℕ) (spares : SparesOthers target.ino files then) where
  not_own : (goes : Goes mode k staging files who target x) → (p : JobOut) → In p goes.kept.pending → p.draft.ino ≢ target.ino
  not_own goes p is own =
      let j = job_of_pending goes.kept.pending goes.stands.jobs goes.stands.jobs_are p is in
      goes.others j.0 j.1 (ap (λ (d : Draft). d.ino) j.2 ∙ own)

  flying : (goes : Goes mode k staging files who target x) → IsFlying k.volume k.cells goes.kept.claims goes.stands.jobs (file_state then) goes.stands.numbers goes.s goes.stands.count
  flying goes = record {
    device = goes.stands.flying.device;
    whole = goes.stands.flying.whole;
    out = goes.stands.flying.out;
    home = goes.stands.flying.home;
    overlays = λ ino file.
        subst (λ n. IsOverlayOf k.volume (live_claims k.volume goes.kept.claims) ino (runs_in then ino) n) (ap (λ sizes. slice_index sizes ino) (sym spares.sizes))
        (subst (λ rs. IsOverlayOf k.volume (live_claims k.volume goes.kept.claims) ino rs (size_in files ino)) (sym (spares.runs ino)) (goes.stands.flying.overlays ino file));
  }

  pub spared : (goes : Goes mode k staging files who target x) → Onward mode k k staging staging files then who target x goes
  spared goes = record {
    now = record {
      count = goes.stands.count;
      few = goes.stands.few;
      numbers = goes.stands.numbers;
      jobs = goes.stands.jobs;
      jobs_are = goes.stands.jobs_are;
      order = goes.stands.order;
      unbatched = goes.stands.unbatched;
      on = goes.stands.on;
      geometry = goes.stands.geometry;
      flying = flying goes;
      lines = record { lent = goes.stands.lines.lent; old = goes.stands.lines.old };
      quiet = goes.stands.quiet;
      blocks = goes.stands.blocks;
      callers = goes.stands.callers;
      spare = λ p is. subst (λ n. 3 ≤ n) (sym (spares.spares p.draft.ino (not_own goes p is))) (goes.stands.spare p is);
      tables = goes.stands.tables;
      open_are_files = goes.stands.open_are_files;
      ordered = goes.stands.ordered;
      sizes = subst (AreSizes k.volume (live_claims k.volume goes.kept.claims)) (sym spares.sizes) goes.stands.sizes;
      bare = λ ino kind. spares.runs ino ∙ goes.stands.bare ino kind;
      staged = goes.stands.staged;
      agrees = goes.stands.agrees;
      free_single = goes.stands.free_single;
      drafts = goes.stands.drafts;
      low = goes.stands.low;
      claims_out = goes.stands.claims_out;
      jobs_out = goes.stands.jobs_out;
      owed = goes.stands.owed;
    };
    jobs_are = refl;
    numbers_are = refl;
    present = λ block. subst (λ rs. IsSome (disk_at (extents k.volume target.ino) block) ⊎ IsSome (staged_at rs block)) (sym (spares.runs target.ino));
  }

-- nothing comes to lie past the end of a file,
ends_spared : (ino : ℕ) (v : Volume) (files then : Files) → SparesOthers ino files then → FilesEnd v files → FilesEnd v then
ends_spared own v files then spares ends = record {
  maps = λ ino block file past. ends.maps ino block file (subst (λ (sizes : List ℕ). blocks_for (slice_index sizes ino) ≤ block) spares.sizes past);
  runs = λ ino run is.
      subst (λ (sizes : List ℕ). run.file_block + run.count ≤ blocks_for (slice_index sizes ino)) (sym spares.sizes) (ends.runs ino run (subst (In run) (spares.runs ino) is));
}

-- and all maps are kept
pub maps_spared : (ino : ℕ) (v : Volume) (files then : Files) → SparesOthers ino files then → KeepsMaps v v files then None
maps_spared own v files then spares = record {
  kinds = λ ino. refl;
  lines = λ ino file. line_same (inode v ino) (inode v ino) refl;
  maps = λ ino file other. refl;
  runs = spares.runs;
  sizes = spares.sizes;
  ends = ends_spared own v files then spares;
  base = refl;
}

-- It leaves the room that there is.
pub room_spared : (mode : Mode) (v : Volume) (files then : Files) (target : Target) (len : ℕ) → SparesOthers target.ino files then → HasRoom mode v files target len → HasRoom mode v then target len
room_spared mode v files then target len spares has = record {
  ends = ends_spared target.ino v files then spares has.ends;
  room =
      subst (λ n. write_need mode target.size target.start (target.start + len) ≤ n) (ap (λ (sizes : List ℕ). room_in (data_blocks v.geometry) (record files { sizes = sizes })) (sym spares.sizes))
      has.room;
}
