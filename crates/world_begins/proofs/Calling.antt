-- A call that is not logged, at the parts of a World.
use Rattle.std.specs.Prelude.{◌≡◌, ◌+◌, ℕ, true, false, length, Option, Some, None, sum_by, refl}
use Rattle.std.proofs.Common.{ap, ◌∙◌, sym, subst}
use Rattle.pm_lines.specs.pm_model.Powers.{is_on, Supply}
use Rattle.world_parts.specs.file_table.Files.{Files}
use Rattle.world_parts.specs.k_split_model.View.{View}
use Rattle.posix_types.specs.declared.call.Call.{Call}
use Rattle.posix_types.specs.declared.call.Who.{Who}
use Rattle.posix_types.specs.declared.handle.Handle.{Handle}
use Rattle.posix_types.specs.declared.item.Outcome.{Outcome}
use Rattle.call_laws.specs.file_truncate.Truncates as truncates
use Rattle.call_laws.proofs.Running.{built_beside, built_unput, call_loses, call_lost, item_with_outcome, ran, returns, spent_by, stands_by}
use Rattle.call_laws.proofs.Staying.{going_now, lacks_ends, lacks_over, stands_now}
use Rattle.call_laws.proofs.Truncating.{truncate_lacks, truncate_loses, truncate_lost, truncate_room, truncate_spent, truncate_stands, truncate_unput}
use Rattle.world_parts.specs.in_flight.live_model.Standing.{JobOut, StandsAt}
use Rattle.world_parts.specs.in_flight.live_model.world_model.JobLaws.{needs}
use Rattle.call_laws.specs.write_begin.Needs.{JobsNeed, need_by}
use Rattle.world_parts.specs.world_view_laws.declared.views.over.Over.{Over}
use Rattle.world_parts.specs.world_view_laws.Begins.{EndsRound, LacksBeside, LosesCall, Publishes, Returns}
use Rattle.world_parts.specs.world_view_laws.eof_laws.Ends.{FilesEnd}
use Rattle.world_parts.specs.world_view_laws.file_calls.Built.{IsBuilt}
use Rattle.world_parts.specs.world_view_laws.file_calls.Answers.{Answers, IsSpent, KeepsEnds, LeavesDevice, Loses}
use Rattle.world_parts.specs.world_view_laws.Views.{Disk, disk_of, kept_of, state_of, WorldView}
use Rattle.world_parts.specs.declared.parts.Parts.{Parts}
use Rattle.world_parts.specs.Adds.{IsAdded}
use Rattle.world_parts.specs.Seen.{IsKept, seen}
use Rattle.world_begins.specs.Turns.{IsTurn}
use Rattle.world_begins.specs.Runs.{HasRoom, IsRoomAsked}
use Rattle.world_begins.proofs.Turning.{needs_are, off_kept, off_seen, over_kept, over_seen, returned_kept, returned_seen}

-- what it publishes is said of what stands below alone
published_then : (who : Who) (call : Call) (old new then : WorldView) → then.disk ≡ new.disk → Publishes who call old new → Publishes who call old then
published_then who (Call.Fsync h) old new then disk published = subst (λ (e : Disk). Publishes who (Call.Fsync h) old (record new { disk = e })) (sym disk) published
published_then who (Call.Mkdir p) old new then disk published = tt
published_then who (Call.Rmdir p) old new then disk published = tt
published_then who (Call.Unlink p) old new then disk published = tt
published_then who (Call.Rename p q) old new then disk published = tt
published_then who (Call.Open h p f) old new then disk published = tt
published_then who (Call.Close h) old new then disk published = tt
published_then who (Call.Dup h to) old new then disk published = tt
published_then who (Call.Read h n) old new then disk published = tt
published_then who (Call.Pread h o n) old new then disk published = tt
published_then who (Call.Write h x) old new then disk published = tt
published_then who (Call.Pwrite h o x) old new then disk published = tt
published_then who (Call.Seek h w by) old new then disk published = tt
published_then who (Call.Truncate h n) old new then disk published = tt
published_then who (Call.Stat p) old new then disk published = tt
published_then who (Call.List p) old new then disk published = tt

module _ (p : Parts) (who : Who) (call : Call) (turn : IsTurn p who call) where
  abbrev going_ends : FilesEnd p.k.volume p.files
  going_ends = (going_now p.k p.tables.tables p.staging p.files (seen p) who call turn.calls).ends

  module _ (q : Parts) (same : q ≡ record p { k = q.k; tables = q.tables; files = q.files }) where
    abbrev m : Parts
    m = record p { k = q.k; tables = q.tables; files = q.files }

    -- IT RETURNED,
    pub call_answered : (outcome : Outcome) → IsBuilt call → Answers who call p.k p.tables.tables p.files q.k q.tables.tables q.files outcome
        → (before after : Supply) → KeepsEnds p.k p.files q.k q.files after → IsSpent who call p.k p.tables.tables p.files before after
        → Publishes who call (seen p) (record (seen p) { disk = disk_of q.k q.tables.tables p.staging q.files }) → is_on after ≡ true
        → (r : Parts) → IsAdded who call outcome q r → IsKept r × Returns who (seen p) (seen r) before after
    call_answered outcome built answers before after keeps spent published on r added =
        let stood = stands_by p.k p.tables.tables p.staging p.files (seen p) who call turn.calls q.k q.tables.tables q.files outcome answers in
        let item = item_with_outcome p.k p.tables.tables p.staging p.files (seen p) who call turn.calls outcome stood.1 in
        let on_m : IsAdded who call outcome m r = subst (λ (y : Parts). IsAdded who call outcome y r) same added in
        let ends = keeps on in (
          returned_kept p who call turn m refl r outcome item on_m (ran p.k p.tables.tables p.staging p.files (seen p) who call turn.calls q.k q.tables.tables q.files ends.0 (ends.1 going_ends) stood.0),
          subst (λ (v : WorldView). Returns who (seen p) v before after) (sym (returned_seen p who call turn m refl r outcome item on_m))
              (returns p.k p.tables.tables p.staging p.files (seen p) who call turn.calls q.k q.tables.tables q.files ends.0 (ends.1 going_ends) stood.0 before after (built_unput (state_of (seen p)) who call built) (built_beside (seen p) who call built) (published_then who call (seen p) (record (seen p) { disk = disk_of q.k q.tables.tables p.staging q.files }) _ refl published) on
              (spent_by p.k p.tables.tables p.staging p.files (seen p) who call turn.calls before after spent)),
        )

    -- or it lost its power.
    pub call_off : Loses who call p.k p.tables.tables p.files q.k → LeavesDevice who call p.k p.tables.tables p.files q.k
        → (r : Parts) → r ≡ record q { unfinished = Some (record { who = who; call = call }); acts = q.acts + 1; lost = true }
        → (after : Supply) → is_on after ≡ false → IsKept r × LosesCall who (seen p) (seen r) after
    call_off loses leaves r rest after off =
        let on_m : r ≡ record m { unfinished = Some (record { who = who; call = call }); acts = m.acts + 1; lost = true } =
        rest ∙ ap (λ (y : Parts). (let z : Parts = record y { unfinished = Some (record { who = who; call = call }); acts = y.acts + 1; lost = true } in z)) same in (
          off_kept p who call turn m refl r on_m (call_lost p.k p.tables.tables p.staging p.files (seen p) who call turn.calls q.k q.tables.tables q.files loses leaves),
          subst (λ (v : WorldView). LosesCall who (seen p) v after) (sym (off_seen p who call turn m refl r on_m))
              (call_loses p.k p.tables.tables p.staging p.files (seen p) who call turn.calls q.k q.tables.tables q.files loses leaves after off),
        )

-- ---- there is too little room for it

module _ (p : Parts) (who : Who) (call : Call) (turn : IsTurn p who call) (needed left : ℕ) (lacks : LacksBeside (seen p) who call needed left) where
  pub room_ended : (r : Parts) → r ≡ record p { over = Some (Over.Space needed left); acts = p.acts + 1 } → (after : Supply) → is_on after ≡ true → IsKept r × EndsRound who (seen p) (seen r) after needed left
  room_ended r rest after on = (
    over_kept p who call turn p refl r needed left rest (lacks_over p.k p.tables.tables p.staging p.files (seen p) who call turn.calls needed left lacks),
    subst (λ (v : WorldView). EndsRound who (seen p) v after needed left) (sym (over_seen p who call turn p refl r needed left rest))
        (lacks_ends p.k p.tables.tables p.staging p.files (seen p) who call turn.calls needed left lacks after on),
  )

-- ---- a `truncate`

module _ (p : Parts) (who : Who) (h : Handle) (size : ℕ) (turn : IsTurn p who (Call.Truncate h size)) (law : JobsNeed) (taken : ℕ)
    (taken_is : taken ≡ sum_by (λ (q : JobOut). need_by p.mode p.tables.tables p.files q.who q.call) p.pending.items) (l : View) (d : Files) where
  abbrev call : Call
  call = Call.Truncate h size

  abbrev now : StandsAt (seen p).geometry p.k p.tables.tables (kept_of (seen p) p.staging p.files) true (length (seen p).history) (state_of (seen p))
  now = stands_now p.k p.tables.tables p.staging p.files (seen p) who call turn.calls

  needs_them : taken ≡ needs (state_of (seen p)) now.jobs
  needs_them = taken_is ∙ needs_are p who call turn law

  abbrev t : Parts
  t = record p { k = l; files = d }

  -- IT RETURNED,
  pub truncate_answered : (outcome : Outcome) → truncates.Answers who h size taken p.k p.tables.tables p.files l d outcome → (before after : Supply) → KeepsEnds p.k p.files l d after → is_on after ≡ true
      → truncates.IsSpent who h size taken p.k p.tables.tables p.files before after
      → (r : Parts) → IsAdded who (Call.Truncate h size) outcome t r → IsKept r × Returns who (seen p) (seen r) before after
  truncate_answered outcome answers before after keeps on spent r added =
      let stood = truncate_stands p.k p.tables.tables p.staging p.files (seen p) who h size turn.calls taken needs_them l d outcome answers in
      let item = item_with_outcome p.k p.tables.tables p.staging p.files (seen p) who call turn.calls outcome stood.1 in
      let ends = keeps on in
      let its_ends = (going_now p.k p.tables.tables p.staging p.files (seen p) who call turn.calls).ends in (
        returned_kept p who call turn t refl r outcome item added (ran p.k p.tables.tables p.staging p.files (seen p) who call turn.calls l p.tables.tables d ends.0 (ends.1 its_ends) stood.0),
        subst (λ (v : WorldView). Returns who (seen p) v before after) (sym (returned_seen p who call turn t refl r outcome item added))
            (returns p.k p.tables.tables p.staging p.files (seen p) who call turn.calls l p.tables.tables d ends.0 (ends.1 its_ends) stood.0 before after (truncate_unput (state_of (seen p)) who h size)
            (truncate_room p.k p.tables.tables p.staging p.files (seen p) who h size turn.calls taken needs_them answers.enough) tt on
            (truncate_spent p.k p.tables.tables p.staging p.files (seen p) who h size turn.calls taken needs_them before after spent)),
      )

  -- found no room,
  pub truncate_asked : (o : Option (ℕ × ℕ)) → truncates.IsLacking who h size taken p.k p.tables.tables p.files o → IsRoomAsked (seen p) who (Call.Truncate h size) o
  truncate_asked None enough = truncate_room p.k p.tables.tables p.staging p.files (seen p) who h size turn.calls taken needs_them enough
  truncate_asked (Some (needed, left)) less = truncate_lacks p.k p.tables.tables p.staging p.files (seen p) who h size turn.calls taken needs_them needed left less

  pub truncate_fits : HasRoom (seen p) who (Call.Truncate h size) → (needed left : ℕ) → truncates.LeavesLess who h size taken p.k p.tables.tables p.files needed left → ⊥
  truncate_fits fits needed left less = fits needed left (truncate_lacks p.k p.tables.tables p.staging p.files (seen p) who h size turn.calls taken needs_them needed left less)

  -- or it lost its power.
  pub truncate_off : d ≡ p.files → truncates.Loses who h size taken p.k p.tables.tables p.files l
      → (r : Parts) → r ≡ record t { unfinished = Some (record { who = who; call = Call.Truncate h size }); acts = p.acts + 1; lost = true }
      → (after : Supply) → is_on after ≡ false → IsKept r × LosesCall who (seen p) (seen r) after
  truncate_off d_same loses r rest after off =
      let lost : Parts = record p { k = l } in
      let on_l : r ≡ record p { k = l; unfinished = Some (record { who = who; call = Call.Truncate h size }); acts = p.acts + 1; lost = true } =
      rest ∙ (λ i. record p { k = l; files = d_same i; unfinished = Some (record { who = who; call = Call.Truncate h size }); acts = p.acts + 1; lost = true }) in (
        off_kept p who call turn lost refl r on_l (truncate_lost p.k p.tables.tables p.staging p.files (seen p) who h size turn.calls taken needs_them l loses),
        subst (λ (v : WorldView). LosesCall who (seen p) v after) (sym (off_seen p who call turn lost refl r on_l))
            (truncate_loses p.k p.tables.tables p.staging p.files (seen p) who h size turn.calls taken needs_them l loses after off),
      )
