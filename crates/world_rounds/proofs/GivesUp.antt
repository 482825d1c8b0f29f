-- A job of the parts of a World is given up while the power is on.
use Rattle.std.specs.Prelude.{◌≡◌, ◌<◌, ◌+◌, ◌/◌, ◌%◌, ◌^◌, ℕ, true, false, List, length, Some, refl}
use Rattle.std.proofs.Common.{arith, ap, ◌∙◌, sym, subst, inl, inr, Global, Vec}
use Rattle.std.proofs.lemmas.Bool.{cases_Bool}
use Rattle.world_parts.specs.pm_model.Cells.{cell, is_lent}
use Rattle.world_parts.specs.layout_model.declared.lines.Draft.{Draft}
use Rattle.world_parts.specs.layout_model.declared.lines.Kind.TheVariants.{Staging}
use Rattle.world_parts.specs.layout_model.Places.{Geometry, is_data_block, log_line}
use Rattle.world_parts.specs.image_model.Volume.{inode}
use Rattle.world_parts.specs.list_laws.Members.{In}
use Rattle.world_parts.specs.k_split_model.View.{View}
use Rattle.world_parts.specs.world_view_laws.oplog_entry.declared.claims.Full.{Full}
use Rattle.posix_types.specs.declared.call.Who.{Who}
use Rattle.world_parts.specs.in_flight.staging_files.GivesUp.{IsGivenBack}
use Rattle.world_parts.specs.in_flight.staging_files.Keeps.{Staged}
use Rattle.world_parts.specs.in_flight.world_model.Jobs.{IsStagedIn, Job}
use Rattle.world_parts.specs.in_flight.live_model.Standing.{JobOut, reserved_run, StandsAt}
use Rattle.world_parts.proofs.in_flight_proofs.CountsJobs.{its_job, stood, world_now}
use Rattle.world_parts.specs.in_flight.live_model.Jobs.{without}
use Rattle.world_parts.proofs.world_view_laws_proofs.Ending.{can_give_up, give_view, given_on, has, homes_on, left_of, no_both, others_given_on, standing, without_one}
use Rattle.world_parts.proofs.world_view_laws_proofs.write_end_proofs.Apart.{stands_apart}
use Rattle.world_parts.proofs.world_view_laws_proofs.write_end_proofs.Jobs.{block_of, in_data_block, pending_of, staged_of}
use Rattle.world_parts.proofs.world_view_laws_proofs.write_end_proofs.k_split_proofs.LogLaws.{data_beside}
use Rattle.world_parts.specs.world_view_laws.declared.views.over.Over.{Over}
use Rattle.world_parts.specs.world_view_laws.write_end.Blocks.{AreBlocksHome}
use Rattle.world_parts.specs.world_view_laws.write_end.Ends.{CanGiveUp, given_up, HasJob, LeavesGivenUp}
use Rattle.world_parts.specs.world_view_laws.Begins.{IsFilledOut, OthersStay}
use Rattle.world_parts.specs.world_view_laws.Jobs.{GivesUp, over_by}
use Rattle.world_parts.specs.world_view_laws.Views.{disk_of, IsWorldOver, kept_of, state_of, WorldView}
use Rattle.world_parts.specs.write_jobs.Jobs.{FilledView}
use Rattle.world_parts.specs.declared.parts.Parts.{Parts}
use Rattle.world_parts.specs.Seen.{IsKept, seen}
use Rattle.world_rounds.proofs.Finishes.{callers}

module _ (p : Parts) (kept : IsKept p) (awake : p.lost ≡ false) (out : p.lines_out ≡ true) (job : FilledView) (q : JobOut) (is_out : IsFilledOut (seen p) q job) where
  pub may_give_up : CanGiveUp p.k job p.staging
  may_give_up = can_give_up p.k p.tables.tables p.staging p.files (seen p) kept.world awake out q job is_out

  pub few_given : p.given_up + 1 < 2 ^ 32
  few_given = let most = kept.world.counted.out in omega (arith, most)

  module _ (full : Full) (over : Over) (over_is : over ≡ over_by p.over full) (k : View) (staging : Staged) (pending : Vec JobOut Global) (left : pending.items ≡ without job.who p.pending.items) (k_is : k ≡ record p.k { cells = k.cells }) (runs : length staging.out + 1 ≡ length p.staging.out) (run_back : IsGivenBack (reserved_run job.draft) p.staging staging)
      (leaves : (one : HasJob p.k job) → one.kept.staging ≡ p.staging → LeavesGivenUp p.k job one k staging) where
    abbrev pub given_parts : Parts
    given_parts = record p { k = k; staging = staging; pending = pending; over = Some over; given_up = p.given_up + 1 }

    left_so : LeavesGivenUp p.k job (has p.k p.tables.tables p.staging p.files (seen p) kept.world awake out q job is_out) k staging
    left_so = leaves (has p.k p.tables.tables p.staging p.files (seen p) kept.world awake out q job is_out) refl

    pending_is : without q.who p.pending.items ≡ pending.items
    pending_is = ap (λ (w : Who). without w p.pending.items) (sym is_out.who) ∙ sym left

    view_is : give_view p.k p.tables.tables p.staging p.files (seen p) kept.world awake out q job is_out full k staging ≡ seen given_parts
    view_is = λ i. record (seen given_parts) { pending = pending_is i; over = Some (sym over_is i) }

    one_less : length pending.items + 1 ≡ length p.pending.items
    one_less = ap (λ (xs : List JobOut). length xs + 1) (sym pending_is) ∙ without_one q.who p.pending.items q (callers p kept awake out job q is_out) is_out.there refl

    pub given_kept : IsKept given_parts
    given_kept = record {
      world = subst (IsWorldOver k p.tables.tables staging p.files) view_is (given_on p.k p.tables.tables p.staging p.files (seen p) kept.world awake out q job is_out full k staging k_is runs left_so);
      counts = kept.counts;
      room = record {
        items = λ on. omega (arith, kept.room.items awake, one_less);
        claims_on = λ on. omega (arith, kept.room.claims_on awake, one_less);
        claims_off = λ off lines. no_both p.lost off awake _;
        empty = kept.room.empty;
        calls = omega (arith, kept.room.calls, one_less);
      };
    }

    -- ITS BLOCKS ARE AT HOME
    now : StandsAt p.geometry k p.tables.tables (given_up (kept_of (seen p) p.staging p.files) q staging) true (length p.history.items) (state_of (seen p))
    now = left_so.stands

    was : StandsAt p.geometry p.k p.tables.tables (kept_of (seen p) p.staging p.files) true (length p.history.items) (state_of (seen p))
    was = standing p.k p.tables.tables p.staging p.files (seen p) kept.world awake out q job is_out

    in_data : (b : ℕ) → In b q.blocks → is_data_block p.k.volume.geometry b ≡ true
    in_data b at =
        let its = its_job p.geometry p.k p.tables.tables (kept_of (seen p) p.staging p.files) true (length p.history.items) (state_of (seen p)) was q is_out.there in
        let stands = stood p.geometry p.k p.tables.tables (kept_of (seen p) p.staging p.files) true (length p.history.items) (state_of (seen p)) was its.job its.there in
        let kind = subst (λ (d : Draft). (inode p.k.volume d.staging).kind ≡ Staging) its.draft stands.staging in
        let place = staged_of p.k.volume q b (was.blocks q is_out.there) at in
        in_data_block p.k.volume (world_now p.geometry p.k p.tables.tables (kept_of (seen p) p.staging p.files) true (length p.history.items) (state_of (seen p)) was).valid.stands.sane q.draft place.0 b kind place.2

    no_log : (i : ℕ) → In (i / 512) q.blocks → (slot : ℕ) → slot < k.volume.geometry.log → i / 8 ≡ log_line k.volume.geometry slot → ⊥
    no_log i at slot below place =
        let same : k.volume.geometry ≡ p.k.volume.geometry = ap (λ (x : View). x.volume.geometry) k_is in
        let line : i / 8 ≡ log_line p.k.volume.geometry slot = place ∙ ap (λ (g : Geometry). log_line g slot) same in
        let few : slot < p.k.volume.geometry.log = subst (λ (g : Geometry). slot < g.log) same below in
        data_beside p.k.volume (i / 512) (i % 512) (in_data (i / 512) at) (omega arith) (record { from = omega (arith, line); below = omega (arith, line, few) })

    no_job : (i : ℕ) → In (i / 512) q.blocks → (j : Job) → In j now.jobs → IsStagedIn k.volume j.draft (i / 512) → ⊥
    no_job i at j there staged =
        let its = pending_of (without q.who p.pending.items) now.jobs j now.jobs_are there in
        let other = left_of q.who p.pending.items its.0 its.1 in
        (stands_apart p.geometry p.k p.tables.tables (kept_of (seen p) p.staging p.files) true (length p.history.items) (state_of (seen p)) q job.loans was is_out.there is_out.blocks).1
        its.0 (i / 512) other.0 other.1 at (block_of k.volume its.0 (i / 512) (now.blocks its.0 its.1) (subst (λ (d : Draft). IsStagedIn k.volume d (i / 512)) its.2 staged))

    pub home_now : AreBlocksHome q.blocks k.cells
    home_now i at = elim (cases_Bool (is_lent (cell k.cells i))) [
      | inl lent ↦ elim (now.flying.home i lent) [ inl (slot, below, place) ↦ absurd (no_log i at slot below place) | inr (j, there, staged) ↦ absurd (no_job i at j there staged) ]
      | inr home ↦ home
    ]

    pub given_so : GivesUp full q (seen p) (seen given_parts)
    given_so = record {
      new_is = sym view_is;
      disk = λ on. ap (λ (x : View). disk_of x p.tables.tables staging p.files) k_is;
      run_back = λ on. subst (λ (d : Draft). IsGivenBack (reserved_run d) p.staging staging) is_out.draft run_back;
      back = home_now;
      homes = homes_on p.k p.tables.tables p.staging p.files (seen p) kept.world awake out q job is_out (seen given_parts);
      stay = subst (λ (v : WorldView). OthersStay (seen p) v q.who) view_is (others_given_on p.k p.tables.tables p.staging p.files (seen p) kept.world awake out q job is_out full k staging k_is runs left_so);
    }
