-- A finished write leaves nothing past the end of its file.
use Rattle.std.specs.Prelude.{◌≡◌, ◌≢◌, ◌⊎◌, ◌≤◌, ◌<◌, ◌+◌, ℕ, Bool, List, [], ◌∷◌, ◌++◌, length, max, None, refl}
use Rattle.std.proofs.Common.{arith, ap, ◌∙◌, sym, subst, inl, inr}
use Rattle.std.proofs.lemmas.Bool.{cases_eq}
use Rattle.file_table.specs.block_counts.Counts.{blocks_for}
use Rattle.file_table.specs.pm_model.ImageLaws.{IsImage-words_of}
use Rattle.file_table.specs.pm_model.Images.{words_of}
use Rattle.file_table.specs.pm_model.Words.{Words}
use Rattle.log_checkpoint.specs.k_plans.layout_model.declared.lines.Draft.{Draft}
use Rattle.log_checkpoint.specs.k_plans.layout_model.declared.lines.Kind.{Kind}
use Rattle.log_checkpoint.specs.k_plans.layout_model.declared.lines.Kind.TheVariants.{Directory, File, Free, Staging}
use Rattle.log_checkpoint.specs.k_plans.layout_model.Journal.{journaled}
use Rattle.log_checkpoint.specs.k_plans.layout_model.Places.{Geometry}
use Rattle.log_checkpoint.specs.k_plans.image_model.Volume.{extents, inode, Volume}
use Rattle.file_table.specs.extent_model.Extents.{disk_at}
use Rattle.eof_laws.specs.Ends.{DraftEnds, FilesEnd}
use Rattle.file_table.specs.file_overlay.declared.runs.Run.{Run}
use Rattle.file_table.specs.Files.{runs_in, size_in}
use Rattle.log_checkpoint.specs.k_plans.k_split_model.View.{View}
use Rattle.log_checkpoint.specs.list_laws.Members.{In}
use Rattle.live_model.specs.posix_laws.FitsLaws.{length-overwritten}
use Rattle.log_checkpoint.specs.k_plans.posix_tables.declared.nodes.Node.{Node}
use Rattle.log_checkpoint.specs.k_plans.posix_tables.Nodes.{bytes_of, node_at}
use Rattle.log_checkpoint.specs.k_plans.posix_tables.Open.{Tables}
use Rattle.live_model.specs.posix_spec.State.{State}
use Rattle.live_model.specs.Overlays.{IsOverlayOf, run_of}
use Rattle.live_model.proofs.OverlaysOverlays.{lays_beside, lays_entry}
use Rattle.live_model.specs.world_model.JobLaws.{live_claims-more, live_file, live_used}
use Rattle.live_model.specs.world_model.Latest.{AreBelow-Consecutive}
use Rattle.live_model.specs.world_model.Jobs.{Job, JobsStand, JobStands, live_claims}
use Rattle.live_model.specs.world_model.Stands.{entries_of, FileStands, NodeStands, number}
use Rattle.live_model.specs.world_step_laws.Worlds.{IsWorld}
use Rattle.live_model.specs.Standing.{AreJobsOf, Kept, JobOut, StandsAt}
use Rattle.eof_laws.specs.FinishesLaws.{EndFinished, LeavesNoShorter}

-- ---- the job of a write that is out

record IsJobOf (p : JobOut) (jobs : List Job) : Type 0 where
  job : Job
  there : In job jobs
  draft : job.draft ≡ p.draft

job_of : (pending : List JobOut) (jobs : List Job) (p : JobOut) → AreJobsOf pending jobs → In p pending → IsJobOf p jobs
job_of [] jobs p are is = absurd is
job_of (q ∷ pending) [] p are is = absurd are
job_of (q ∷ pending) (j ∷ jobs) p are (inl same) = record { job = j; there = inl refl; draft = are.2 ∙ ap (λ (x : JobOut). x.draft) same }
job_of (q ∷ pending) (j ∷ jobs) p are (inr rest) = let its = job_of pending jobs p are.3 rest in record { job = its.job; there = inr its.there; draft = its.draft }

job_stands : (v : Volume) (live : List Draft) (f : Words) (numbers : List ℕ) (s : State) (jobs : List Job) (j : Job) → JobsStand v live f numbers s jobs → In j jobs → JobStands v live f numbers s j
job_stands v live f numbers s [] j out is = absurd is
job_stands v live f numbers s (i ∷ jobs) j out (inl same) = subst (JobStands v live f numbers s) same out.0
job_stands v live f numbers s (i ∷ jobs) j out (inr behind) = job_stands v live f numbers s jobs j out.2 behind

file_bytes : (v : Volume) (live : List Draft) (f : Words) (ino : ℕ) (kind : Kind) (node : Node) → kind ≡ File → NodeStands v live f ino kind node → FileStands v live f ino (bytes_of node)
file_bytes v live f ino Free node file is = absurd is
file_bytes v live f ino Staging node file is = absurd is
file_bytes v live f ino Directory node file is = cc
file_bytes v live f ino File Node.Gone file is = absurd is
file_bytes v live f ino File Node.Directory file is = absurd is
file_bytes v live f ino File (Node.File x) file is = is

more_blocks : (a b : ℕ) → a ≤ b → blocks_for a ≤ blocks_for b
more_blocks a b le = omega (arith, le)

module _ (g : Geometry) (k : View) (t : Tables) (kept : Kept) (lines : Bool) (n : ℕ) (s : State) (p : JobOut) (stands : StandsAt g k t kept lines n s) (there : In p kept.pending) where
  abbrev v : Volume
  v = k.volume

  abbrev live : List Draft
  live = live_claims k.volume kept.claims

  world : IsWorld k.volume kept.claims stands.jobs (journaled (words_of k.cells)) stands.numbers s stands.count
  world = stands.flying.device.world (words_of k.cells) (IsImage-words_of k.cells)

  its : IsJobOf p stands.jobs
  its = job_of kept.pending stands.jobs p stands.jobs_are there

  job_is : JobStands k.volume (live_claims k.volume kept.claims) (journaled (words_of k.cells)) stands.numbers s its.job
  job_is = job_stands v live (journaled (words_of k.cells)) stands.numbers s stands.jobs its.job world.valid.out its.there

  -- of the job
  longer : size_in kept.files its.job.draft.ino ≤ its.job.draft.size
  longer =
      let ino : ℕ = its.job.draft.ino in
      let file = live_file v its.job.draft job_is.alive in
      let was = file_bytes v live (journaled (words_of k.cells)) ino (inode v ino).kind (node_at s.nodes (number stands.numbers ino)) file (world.valid.stands.nodes.each ino (live_used v its.job.draft job_is.alive)) in
      let kept_size = (stands.flying.overlays ino file).size_is in
      let whole = ap (λ (xs : List ℕ). length xs) job_is.puts.whole_is in
      let long = length-overwritten (bytes_of (node_at s.nodes job_is.puts.put.node)) job_is.puts.put.place job_is.puts.put.bytes in
      let node = ap (λ m. length (bytes_of (node_at s.nodes m))) job_is.puts.node_is in
      omega (arith, job_is.size, job_is.part.size, whole, long, node, was.size, kept_size)

  pub no_shorter : size_in kept.files p.draft.ino ≤ p.draft.size
  no_shorter = subst (λ (d : Draft). size_in kept.files d.ino ≤ d.size) its.draft longer

  abbrev d : Draft
  d = p.draft

  alive : JobStands k.volume (live_claims k.volume kept.claims) (journaled (words_of k.cells)) stands.numbers s (record its.job { draft = p.draft })
  alive = subst (λ (x : Draft). JobStands v live (journaled (words_of k.cells)) stands.numbers s (record its.job { draft = x })) its.draft job_is

  -- what lies over the file of the entry, once it is claimed
  laid_own : IsOverlayOf k.volume (live_claims k.volume kept.claims ++ p.draft ∷ []) p.draft.ino (runs_in kept.files p.draft.ino ++ run_of p.draft ∷ []) p.draft.size
  laid_own =
      lays_entry v live d (runs_in kept.files d.ino) (size_in kept.files d.ino)
      (AreBelow-Consecutive (inode v d.ino).applied d.order (entries_of d.ino live) (world.valid.stands.log.orders d.ino) (omega (arith, alive.order)))
      (stands.flying.overlays d.ino (live_file v d alive.alive))

  laid_other : (ino : ℕ) → ino ≢ p.draft.ino → (inode k.volume ino).kind ≡ File → IsOverlayOf k.volume (live_claims k.volume kept.claims ++ p.draft ∷ []) ino (runs_in kept.files ino) (size_in kept.files ino)
  laid_other ino other file = lays_beside v live d ino (runs_in kept.files ino) (size_in kept.files ino) (λ same. other (sym same)) (stands.flying.overlays ino file)

  module _ (l : View) (u : Tables) (then : Kept) (after : Bool) (m slot : ℕ) (new : State) (draft_ends : DraftEnds p.draft) (same : l.volume ≡ k.volume) (claims : then.claims ≡ kept.claims ++ (slot, p.draft) ∷ []) (now : StandsAt g l u then after m new)
      (ends : FilesEnd k.volume kept.files) where
    lives : live_claims l.volume then.claims ≡ live_claims k.volume kept.claims ++ p.draft ∷ []
    lives = (λ i. live_claims (same i) (claims i)) ∙ live_claims-more v kept.claims slot d alive.alive

    over : (ino : ℕ) → (inode k.volume ino).kind ≡ File → IsOverlayOf k.volume (live_claims k.volume kept.claims ++ p.draft ∷ []) ino (runs_in then.files ino) (size_in then.files ino)
    over ino file =
        let is = now.flying.overlays ino (ap (λ (x : Volume). (inode x ino).kind) same ∙ file) in
        let there : IsOverlayOf k.volume (live_claims l.volume then.claims) ino (runs_in then.files ino) (size_in then.files ino) =
        subst (λ x. IsOverlayOf x (live_claims l.volume then.claims) ino (runs_in then.files ino) (size_in then.files ino)) same is
        in
        subst (λ ds. IsOverlayOf k.volume ds ino (runs_in then.files ino) (size_in then.files ino)) lives there

    -- of the file itself, and of others
    own_runs : runs_in then.files p.draft.ino ≡ runs_in kept.files p.draft.ino ++ run_of p.draft ∷ []
    own_runs = (over d.ino (live_file v d alive.alive)).runs_are ∙ sym laid_own.runs_are

    own_size : size_in then.files p.draft.ino ≡ p.draft.size
    own_size = (over d.ino (live_file v d alive.alive)).size_is ∙ sym laid_own.size_is

    other_runs : (ino : ℕ) → ino ≢ p.draft.ino → (inode k.volume ino).kind ≡ File → runs_in then.files ino ≡ runs_in kept.files ino
    other_runs ino other file = (over ino file).runs_are ∙ sym (laid_other ino other file).runs_are

    other_size : (ino : ℕ) → ino ≢ p.draft.ino → (inode k.volume ino).kind ≡ File → size_in then.files ino ≡ size_in kept.files ino
    other_size ino other file = (over ino file).size_is ∙ sym (laid_other ino other file).size_is

    grows : (ino : ℕ) → (inode k.volume ino).kind ≡ File → size_in kept.files ino ≤ size_in then.files ino
    grows ino file = elim (cases_eq ino p.draft.ino) [
      | inl own ↦ subst (λ x. size_in kept.files x ≤ size_in then.files x) (sym own) (omega (arith, no_shorter, own_size))
      | inr other ↦ omega (arith, other_size ino other file)
    ]

    last_or_before : (xs : List Run) (run other : Run) → In other (xs ++ run ∷ []) → In other xs ⊎ (other ≡ run)
    last_or_before [] run other (inl here) = inr (sym here)
    last_or_before [] run other (inr none) = absurd none
    last_or_before (x ∷ xs) run other (inl here) = inl (inl here)
    last_or_before (x ∷ xs) run other (inr behind) = elim (last_or_before xs run other behind) [ inl before ↦ inl (inr before) | inr last ↦ inr last ]

    laid_end : (run : Run) → In run (runs_in kept.files p.draft.ino) ⊎ (run ≡ run_of p.draft) → run.file_block + run.count ≤ blocks_for (size_in then.files p.draft.ino)
    laid_end run (inl before) = omega (arith, ends.runs d.ino run before, more_blocks (size_in kept.files d.ino) (size_in then.files d.ino) (grows d.ino (live_file v d alive.alive)))
    laid_end run (inr last) =
        subst (λ (r : Run). r.file_block + r.count ≤ blocks_for (size_in then.files d.ino)) (sym last) (subst (λ x. d.file_block + d.count ≤ blocks_for x) (sym own_size) draft_ends)

    runs_end : (ino : ℕ) (run : Run) → (inode k.volume ino).kind ≡ File → In run (runs_in then.files ino) → run.file_block + run.count ≤ blocks_for (size_in then.files ino)
    runs_end ino run file is = elim (cases_eq ino p.draft.ino) [
      | inl own ↦
          subst (λ x. run.file_block + run.count ≤ blocks_for (size_in then.files x)) (sym own)
          (laid_end run (last_or_before (runs_in kept.files d.ino) (run_of d) run (subst (In run) (ap (runs_in then.files) own ∙ own_runs) is)))
      | inr other ↦
          subst (λ x. run.file_block + run.count ≤ blocks_for x) (sym (other_size ino other file)) (ends.runs ino run (subst (In run) (other_runs ino other file) is))
    ]

    by_kind : (ino : ℕ) (run : Run) (kind : Kind) → (inode k.volume ino).kind ≡ kind → In run (runs_in then.files ino) → run.file_block + run.count ≤ blocks_for (size_in then.files ino)
    by_kind ino run File is inside = runs_end ino run is inside
    by_kind ino run Free is inside = absurd (subst (In run) (now.bare ino (λ file. (let never : Free ≡ File = sym is ∙ (sym (ap (λ (x : Volume). (inode x ino).kind) same) ∙ file) in cc))) inside)
    by_kind ino run Directory is inside = absurd (subst (In run) (now.bare ino (λ file. (let never : Directory ≡ File = sym is ∙ (sym (ap (λ (x : Volume). (inode x ino).kind) same) ∙ file) in cc))) inside)
    by_kind ino run Staging is inside = absurd (subst (In run) (now.bare ino (λ file. (let never : Staging ≡ File = sym is ∙ (sym (ap (λ (x : Volume). (inode x ino).kind) same) ∙ file) in cc))) inside)

    pub finished : FilesEnd l.volume then.files
    finished = subst (λ x. FilesEnd x then.files) (sym same) (record {
      maps = λ ino block file behind. ends.maps ino block file (omega (arith, behind, more_blocks (size_in kept.files ino) (size_in then.files ino) (grows ino file)));
      runs = λ ino run inside. by_kind ino run (inode k.volume ino).kind refl inside;
    })

pub leaves_no_shorter : LeavesNoShorter
leaves_no_shorter g k t kept lines n s p stands there = no_shorter g k t kept lines n s p stands there

pub end_finished : EndFinished
end_finished g k l t u kept then lines after n m s new slot p stands there draft_ends same claims now ends =
    finished g k t kept lines n s p stands there l u then after m slot new draft_ends same claims now ends
