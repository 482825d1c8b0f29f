-- A job of a World landed while the power is on, in strict or in sync mode; its front is written, or the power goes on the way.
use Rattle.std.specs.Prelude.{◌≡◌, ◌≢◌, ◌+◌, ◌/◌, ◌++◌, ℕ, true, false, List, [], ◌∷◌, length, refl}
use Rattle.std.proofs.Common.{arith, ap, ◌∙◌, sym, subst, inl, inr}
use Rattle.std.proofs.lemmas.Bool.{cases_lt}
use Rattle.file_calls.specs.eof_laws.pm_model.Cells.{cell, is_lent}
use Rattle.in_flight.specs.file_table.Files.{Files}
use Rattle.in_flight.specs.k_split_model.View.{View}
use Rattle.file_calls.specs.eof_laws.list_laws.Members.{In}
use Rattle.file_calls.specs.eof_laws.posix_types.declared.call.Mode.{Mode}
use Rattle.file_calls.specs.eof_laws.posix_tables.Open.{Tables}
use Rattle.in_flight.specs.pm_model.Frames.{SameLent}
use Rattle.in_flight.specs.pm_model.Powers.{is_on, Supply}
use Rattle.in_flight.specs.posix_spec.Run.{Unfinished}
use Rattle.in_flight.specs.staging_files.Keeps.{Staged}
use Rattle.in_flight.specs.live_model.Standing.{JobOut}
use Rattle.in_flight.specs.write_jobs.Jobs.{FilledView}
use Rattle.write_end.specs.in_place.Placing.{CanPlace, LosesPlacing, Places}
use Rattle.in_flight.specs.k_journal.declared.outcomes.Commit.{Commit}
use Rattle.write_end.specs.Blocks.{AreBlocksHome, AreBlocksOut}
use Rattle.write_end.specs.Ends.{HasJob, LeavesFinished}
use Rattle.write_end.specs.Landing.{front_bytes, front_end, front_start, HasLanded, IsFrontAnswer}
use Rattle.write_end.specs.LosingLaws.{claimed_by}
use Rattle.write_end.specs.Lost.{IsLostWith}
use Rattle.write_end.proofs.Cut.{finishes_cut}
use Rattle.write_end.proofs.Ended.{comes_home_alone}
use Rattle.write_end.proofs.Going.{found_lost, lost_alike}
use Rattle.write_end.proofs.Homes.{has_blocks_out}
use Rattle.write_end.proofs.Landed.{front_finishes, landed_is_finished, landed_may_place}
use Rattle.world_view_laws.proofs.Modes.{geometry_now}
use Rattle.world_view_laws.proofs.Ending.{has, homes_on, mode_is, no_both, other, standing}
use Rattle.world_view_laws.proofs.Losing.{size_now}
use Rattle.world_view_laws.specs.Begins.{IsFilledOut, OthersStay}
use Rattle.world_view_laws.specs.Jobs.{LosesFinish}
use Rattle.world_view_laws.specs.Views.{AreCounted, disk_of, IsLost, IsLostOut, IsWorldOver, kept_of, state_of, WorldView}

module _ (k : View) (t : Tables) (staging : Staged) (files : Files) (w : WorldView) (world : IsWorldOver k t staging files w) (on : w.lost ≡ false) (out : w.lines_out ≡ true)
    (p : JobOut) (job : FilledView) (is_out : IsFilledOut w p job) (slot : ℕ) (m : View) (u : Tables) (laid : Files) (same : m ≡ record k { cells = m.cells })
    (landed : HasLanded k job (has k t staging files w world on out p job is_out) slot m u laid) where
  abbrev one : HasJob k job
  one = has k t staging files w world on out p job is_out

  -- IN STRICT MODE its call has acted.
  pub leaves_strict : w.start.mode ≡ Mode.Strict → LeavesFinished k job one slot m u laid
  leaves_strict strict = landed_is_finished k m job one slot u laid (mode_is k t staging files w world on out p job is_out ∙ strict) landed

  -- ---- in sync mode

  module _ (sync : w.start.mode ≡ Mode.Sync) where
    in_sync : one.s.mode ≡ Mode.Sync
    in_sync = mode_is k t staging files w world on out p job is_out ∙ sync

    -- its front may be written
    pub can_place : CanPlace m laid p.draft.ino (front_start p.draft p.call) (front_bytes p.draft p.call)
    can_place = landed_may_place k m job one slot u laid in_sync landed

    module _ (l : View) where
      -- WITH IT WRITTEN its call has acted,
      pub leaves_sync : IsFrontAnswer m l laid p.draft p.call Commit.Done → LeavesFinished k job one slot l u laid
      leaves_sync done = let now = front_finishes k m l job one slot u laid in_sync landed done in record { stands = now.0; numbers = now.1; words = landed.words }

      -- and of K-Split the cells alone are others.
      pub same_sync : IsFrontAnswer m l laid p.draft p.call Commit.Done → l ≡ record k { cells = l.cells }
      same_sync done = elim (cases_lt (front_start p.draft p.call) (front_end p.draft)) [
        | inl front ↦ placed (done.0 front)
        | inr none ↦ subst (λ (x : View). (let y : View = record k { cells = x.cells } in x ≡ y)) (sym (done.1 (λ front. omega (arith, front, none)))) same
      ] where
        placed : Places m l laid p.draft.ino (front_start p.draft p.call) (front_bytes p.draft p.call) → l ≡ record k { cells = l.cells }
        placed places = places.same ∙ ap (λ (x : View). (let y : View = record x { cells = l.cells } in y)) same

      -- THE POWER GOES on the way: its blocks are at home, its claim counts, and it stays out.
      module _ (cut : IsFrontAnswer m l laid p.draft p.call Commit.PowerLost) where
        loses : LosesPlacing m l laid p.draft.ino (front_start p.draft p.call) (front_bytes p.draft p.call)
        loses = cut.1

        pub same_lent : SameLent m.cells l.cells
        same_lent = (loses.left can_place.t can_place.now can_place.placing).lent

        found : IsLostWith k.volume k.cells (kept_of w staging files) w.start w.history []
        found =
            found_lost w.geometry k t (kept_of w staging files) (length w.history) w.start w.history (other k t staging files w world on out p job is_out) (standing k t staging files w world on out p job is_out)
            (world.going on).spelled

        alone : AreBlocksHome p.blocks m.cells × ((q : JobOut) (i : ℕ) → In q w.pending → q.who ≢ p.who → In (i / 512) q.blocks → cell m.cells i ≡ cell k.cells i)
        alone = comes_home_alone k.volume k.cells m.cells (kept_of w staging files) w.start w.history [] p job found landed.home

        pub back_home : AreBlocksHome p.blocks l.cells
        back_home i at = same_lent i ∙ alone.0 i at

        still_out : (q : JobOut) → In q w.pending → q.who ≢ p.who → AreBlocksOut q.blocks l.cells
        still_out q there apart i at =
            same_lent i ∙ ap is_lent (alone.1 q i there apart at)
            ∙ has_blocks_out w.geometry k t (kept_of w staging files) (length w.history) (state_of w) q (standing k t staging files w world on out p job is_out) there i at

        abbrev pub cut_view : WorldView
        cut_view = record w { claims = w.claims ++ (slot, p.draft) ∷ []; acts = w.acts + 1; disk = disk_of l u staging laid; lost = true }

        lost_with : IsLostWith k.volume l.cells (kept_of cut_view staging laid) w.start w.history w.unfinished
        lost_with =
            subst (λ (us : List Unfinished). IsLostWith k.volume l.cells (kept_of cut_view staging laid) w.start w.history us) (sym (world.going on).none_unfinished)
            (lost_alike k.volume l.cells (claimed_by (kept_of w staging files) slot p) (kept_of cut_view staging laid) w.start w.history [] refl refl refl
            (finishes_cut k m l job one slot u laid w.start w.history sync refl (world.going on).spelled landed cut))

        cut_out : IsLostOut staging laid cut_view
        cut_out = let still = world.going on in record {
          volume = k.volume;
          geometry = geometry_now k t staging files w still;
          base = sym still.base;
          none_home = still.none_home;
          size = (loses.left can_place.t can_place.now can_place.placing).size ∙ landed.home.back.size ∙ size_now k t staging files w world on;
          at = lost_with;
        }

        counted : AreCounted cut_view
        counted = record {
          settled = world.counted.settled;
          fresh = world.counted.fresh;
          out = world.counted.out;
          claimed = λ still. no_both true refl still _;
          late = world.counted.late;
          acts = omega (arith, world.counted.acts_on on);
          acts_on = λ still. no_both true refl still _;
          acts_going = λ still. no_both true refl still _;
          low = world.counted.low;
        }

        -- THE WORLD THEN
        pub cut_world : IsWorldOver l u staging laid cut_view
        cut_world = record {
          mode = world.mode;
          few = world.few;
          threads = world.threads;
          spelled = world.spelled;
          legal = world.legal;
          scripted = world.scripted;
          open_calls = world.open_calls;
          counted = counted;
          disk_is = refl;
          going = λ still. no_both true refl still _;
          gone = λ lost. subst (IsLost staging laid cut_view) (sym out) cut_out;
        }

        others_cut : OthersStay w cut_view p.who
        others_cut = (
          λ q its apart is. record { there = is.there; who = is.who; draft = is.draft; blocks = is.blocks; words = is.words; lent = still_out q is.there apart },
          λ q its apart is. record { there = is.there; who = is.who; draft = is.draft; blocks = is.blocks; words = is.words; lent = still_out q is.there apart },
        )

        -- AND WHAT IT LOST
        pub cut_loses : (power : Supply) → is_on power ≡ false → LosesFinish slot p w cut_view power
        cut_loses power off = record {
          off = inr off;
          new_is = refl;
          first_one = λ still. refl;
          later_one = λ lost. no_both w.lost lost on _;
          back = back_home;
          homes = homes_on k t staging files w world on out p job is_out cut_view;
          stay = others_cut;
        }
