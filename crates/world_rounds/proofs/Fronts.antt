-- A write of the parts of a World landed while the power is on, and its front is written, or cut off.
use Rattle.std.specs.Prelude.{◌≡◌, ◌≢◌, ◌≤◌, ◌+◌, ◌*◌, ◌/◌, ◌++◌, ℕ, true, false, [], ◌∷◌, length, slice_index, vec_len, refl}
use Rattle.std.specs.Vec.{vec_capacity}
use Rattle.std.proofs.Common.{Global, Vec, arith, ap, ◌∙◌, sym, subst, length-append}
use Rattle.world_parts.specs.pm_model.Cells.{cell, is_lent}
use Rattle.world_parts.specs.pm_model.Powers.{is_on, Supply}
use Rattle.world_parts.specs.layout_model.declared.lines.Draft.{Draft}
use Rattle.world_parts.specs.file_table.Files.{Files}
use Rattle.world_parts.specs.k_split_model.View.{View}
use Rattle.world_parts.specs.list_laws.Members.{In}
use Rattle.posix_types.specs.declared.call.Call.{Call}
use Rattle.posix_types.specs.declared.call.Mode.{Mode}
use Rattle.world_parts.specs.in_flight.live_model.Standing.{JobOut}
use Rattle.world_parts.specs.in_flight.world_image_laws.Starts.{has_setting}
use Rattle.world_parts.specs.write_jobs.Jobs.{FilledView}
use Rattle.world_parts.specs.world_view_laws.file_calls.open_files.State.{OpenState}
use Rattle.world_parts.specs.world_view_laws.write_end.in_place.Placing.{CanPlace}
use Rattle.world_parts.specs.k_journal.declared.outcomes.Commit.{Commit}
use Rattle.world_parts.specs.world_view_laws.write_end.Ends.{HasJob, HasWrite, LeavesFinished}
use Rattle.world_parts.specs.world_view_laws.write_end.Landing.{front_bytes, front_end, front_start, HasLanded, IsFrontAnswer}
use Rattle.world_parts.specs.world_view_laws.Begins.{IsFilledOut}
use Rattle.world_parts.specs.world_view_laws.Jobs.{LosesFinish}
use Rattle.world_parts.specs.world_view_laws.Views.{IsWorldOver, WorldView}
use Rattle.world_parts.proofs.world_view_laws_proofs.Ending.{begins_within, first_block, has, has_write, no_both, other}
use Rattle.world_parts.proofs.world_view_laws_proofs.Landing.{back_home, can_place, cut_loses, cut_view, cut_world, leaves_strict, leaves_sync, same_lent, same_sync}
use Rattle.world_parts.proofs.Losing.{out_within}
use Rattle.world_parts.specs.declared.parts.Parts.{Parts}
use Rattle.world_parts.specs.Seen.{blocks_out, IsKept, seen}
use Rattle.world_rounds.proofs.Lost.{fewer, lent_before}

-- a mode that is neither is sync
sync_of : (m : Mode) → m ≢ Mode.Posix → m ≢ Mode.Strict → m ≡ Mode.Sync
sync_of Mode.Strict _ weak = absurd (weak refl)
sync_of Mode.Sync _ _ = refl
sync_of Mode.Posix apart _ = absurd (apart refl)

module _ (p : Parts) (kept : IsKept p) (awake : p.lost ≡ false) (out : p.lines_out ≡ true) (job : FilledView) (q : JobOut) (is_out : IsFilledOut (seen p) q job) where
  start_is : (seen p).start.mode ≡ p.mode
  start_is = (has_setting p.tree p.shape p.mode).1

  weak_sync : p.mode ≢ Mode.Strict → (seen p).start.mode ≡ Mode.Sync
  weak_sync weak = start_is ∙ sync_of p.mode (λ posix. other p.k p.tables.tables p.staging p.files (seen p) kept.world awake out q job is_out (start_is ∙ posix)) weak

  -- the entry's blocks begin within the file
  pub ends_within : (draft : Draft) → draft ≡ job.draft → front_end draft ≤ draft.size
  ends_within draft draft_is = subst (λ (d : Draft). front_end d ≤ d.size) (sym (draft_is ∙ is_out.draft)) (begins_within p.k p.tables.tables p.staging p.files (seen p) kept.world awake out q job is_out)

  -- ---- it landed

  module _ (slot : ℕ) (call : Call) (call_is : call ≡ q.call) (draft : Draft) (draft_is : draft ≡ job.draft) (m : View) (files : OpenState) (laid : Files) (m_is : m ≡ record p.k { cells = m.cells })
      (lands : (one : HasJob p.k job) → HasWrite p.k job p.tables.tables p.files call one → HasLanded p.k job one slot m files.tables laid) where
    landed : HasLanded p.k job (has p.k p.tables.tables p.staging p.files (seen p) kept.world awake out q job is_out) slot m files.tables laid
    landed =
        lands (has p.k p.tables.tables p.staging p.files (seen p) kept.world awake out q job is_out)
        (subst (λ (c : Call). HasWrite p.k job p.tables.tables p.files c (has p.k p.tables.tables p.staging p.files (seen p) kept.world awake out q job is_out)) (sym call_is)
        (has_write p.k p.tables.tables p.staging p.files (seen p) kept.world awake out q job is_out))

    -- the front of the entry and call that are passed is that of the job
    of_job : (F : Draft → Call → Type 0) → F draft call → F q.draft q.call
    of_job F it = subst (λ (d : Draft). F d q.call) (draft_is ∙ is_out.draft) (subst (F draft) call_is it)

    of_passed : (F : Draft → Call → Type 0) → F q.draft q.call → F draft call
    of_passed F it = subst (F draft) (sym call_is) (subst (λ (d : Draft). F d q.call) (sym (draft_is ∙ is_out.draft)) it)

    -- OUTSIDE STRICT MODE its front may be written.
    pub may_write : p.mode ≢ Mode.Strict → CanPlace m laid draft.ino (front_start draft call) (front_bytes draft call)
    may_write weak =
        of_passed (λ d c. CanPlace m laid d.ino (front_start d c) (front_bytes d c))
        (can_place p.k p.tables.tables p.staging p.files (seen p) kept.world awake out q job is_out slot m files.tables laid m_is landed (weak_sync weak))

    module _ (l : View) where
      -- ITS FRONT IS WRITTEN, or it has none to write: its call has acted.
      module _ (none : p.mode ≡ Mode.Strict → l ≡ m) (done : p.mode ≢ Mode.Strict → IsFrontAnswer m l laid draft call Commit.Done) where
        pub front_left : LeavesFinished p.k job (has p.k p.tables.tables p.staging p.files (seen p) kept.world awake out q job is_out) slot l files.tables laid
        front_left = by p.mode refl where
          weakly : (mode : Mode) → p.mode ≡ mode → mode ≢ Mode.Strict → LeavesFinished p.k job (has p.k p.tables.tables p.staging p.files (seen p) kept.world awake out q job is_out) slot l files.tables laid
          weakly mode is weak =
              let weak_now : p.mode ≢ Mode.Strict = λ strict. weak (sym is ∙ strict) in
              leaves_sync p.k p.tables.tables p.staging p.files (seen p) kept.world awake out q job is_out slot m files.tables laid m_is landed (weak_sync weak_now) l
              (of_job (λ d c. IsFrontAnswer m l laid d c Commit.Done) (done weak_now))

          by : (mode : Mode) → p.mode ≡ mode → LeavesFinished p.k job (has p.k p.tables.tables p.staging p.files (seen p) kept.world awake out q job is_out) slot l files.tables laid
          by Mode.Strict is =
              subst (λ (x : View). LeavesFinished p.k job (has p.k p.tables.tables p.staging p.files (seen p) kept.world awake out q job is_out) slot x files.tables laid) (sym (none is))
              (leaves_strict p.k p.tables.tables p.staging p.files (seen p) kept.world awake out q job is_out slot m files.tables laid m_is landed (start_is ∙ is))
          by Mode.Sync is = weakly Mode.Sync is (λ never. cc)
          by Mode.Posix is = weakly Mode.Posix is (λ never. cc)

        pub front_same : l ≡ record p.k { cells = l.cells }
        front_same = by p.mode refl where
          weakly : (mode : Mode) → p.mode ≡ mode → mode ≢ Mode.Strict → l ≡ record p.k { cells = l.cells }
          weakly mode is weak =
              let weak_now : p.mode ≢ Mode.Strict = λ strict. weak (sym is ∙ strict) in
              same_sync p.k p.tables.tables p.staging p.files (seen p) kept.world awake out q job is_out slot m files.tables laid m_is landed (weak_sync weak_now) l
              (of_job (λ d c. IsFrontAnswer m l laid d c Commit.Done) (done weak_now))

          by : (mode : Mode) → p.mode ≡ mode → l ≡ record p.k { cells = l.cells }
          by Mode.Strict is = subst (λ (x : View). (let y : View = record p.k { cells = x.cells } in x ≡ y)) (sym (none is)) m_is
          by Mode.Sync is = weakly Mode.Sync is (λ never. cc)
          by Mode.Posix is = weakly Mode.Posix is (λ never. cc)

      -- THE POWER GOES in it.
      module _ (weak : p.mode ≢ Mode.Strict) (cut : IsFrontAnswer m l laid draft call Commit.PowerLost) (claims : Vec (ℕ × Draft) Global) (claimed : claims.items ≡ p.claims.items ++ (slot, job.draft) ∷ [])
          (capacity : vec_capacity claims ≡ vec_capacity p.claims) where
        abbrev pub cut_parts : Parts
        cut_parts = record p { k = l; tables = files; files = laid; claims = claims; acts = p.acts + 1; lost = true }

        cut_job : IsFrontAnswer m l laid q.draft q.call Commit.PowerLost
        cut_job = of_job (λ d c. IsFrontAnswer m l laid d c Commit.PowerLost) cut

        abbrev then_view : WorldView
        then_view = cut_view p.k p.tables.tables p.staging p.files (seen p) kept.world awake out q job is_out slot m files.tables laid m_is landed (weak_sync weak) l cut_job

        view_is : then_view ≡ seen cut_parts
        view_is = λ i. record (seen cut_parts) { claims = (ap (λ (d : Draft). p.claims.items ++ (slot, d) ∷ []) (sym is_out.draft) ∙ sym claimed) i }

        home_then : is_lent (cell l.cells (512 * slice_index q.blocks 0)) ≡ false
        home_then =
            back_home p.k p.tables.tables p.staging p.files (seen p) kept.world awake out q job is_out slot m files.tables laid m_is landed (weak_sync weak) l cut_job (512 * slice_index q.blocks 0) own_word where
              own_word : In (512 * slice_index q.blocks 0 / 512) q.blocks
              own_word = subst (λ b. In b q.blocks) (omega arith) (first_block p.k p.tables.tables p.staging p.files (seen p) kept.world awake out q job is_out)

        lent_then : (i : ℕ) → is_lent (cell l.cells i) ≡ true → is_lent (cell p.k.cells i) ≡ true
        lent_then i lent =
            lent_before job.loans job.words p.k.cells m.cells landed.home.holds landed.home.back i
            (sym (same_lent p.k p.tables.tables p.staging p.files (seen p) kept.world awake out q job is_out slot m files.tables laid m_is landed (weak_sync weak) l cut_job i) ∙ lent)

        one_fewer : blocks_out l.cells p.pending.items + 1 ≤ blocks_out p.k.cells p.pending.items
        one_fewer =
            fewer (λ (x : JobOut). is_lent (cell p.k.cells (512 * slice_index x.blocks 0))) (λ (x : JobOut). is_lent (cell l.cells (512 * slice_index x.blocks 0))) p.pending.items
            (λ x at lent. lent_then (512 * slice_index x.blocks 0) lent) q is_out.there (is_out.lent (512 * slice_index q.blocks 0) own_word) home_then where
              own_word : In (512 * slice_index q.blocks 0 / 512) q.blocks
              own_word = subst (λ b. In b q.blocks) (omega arith) (first_block p.k p.tables.tables p.staging p.files (seen p) kept.world awake out q job is_out)

        len : vec_len claims ≡ vec_len p.claims + 1
        len = omega (arith, claims.ok.0, p.claims.ok.0, ap length claimed, length-append p.claims.items ((slot, job.draft) ∷ []))

        pub cut_kept : IsKept cut_parts
        cut_kept = record {
          world = subst (IsWorldOver l files.tables p.staging laid) view_is
              (cut_world p.k p.tables.tables p.staging p.files (seen p) kept.world awake out q job is_out slot m files.tables laid m_is landed (weak_sync weak) l cut_job);
          counts = kept.counts;
          room = record {
            items = λ on. no_both true refl on _;
            claims_on = λ on. no_both true refl on _;
            claims_off = λ lost lines. omega (arith, kept.room.claims_on awake, out_within p kept awake, one_fewer, len, capacity);
            empty = kept.room.empty;
            calls = kept.room.calls;
          };
        }

        pub cut_so : (power : Supply) → is_on power ≡ false → LosesFinish slot q (seen p) (seen cut_parts) power
        cut_so power off =
            subst (λ (v : WorldView). LosesFinish slot q (seen p) v power) view_is
            (cut_loses p.k p.tables.tables p.staging p.files (seen p) kept.world awake out q job is_out slot m files.tables laid m_is landed (weak_sync weak) l cut_job power off)
