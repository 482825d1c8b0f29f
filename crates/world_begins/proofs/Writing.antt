-- A write of the parts of a World begins.
use Rattle.std.specs.Prelude.{◌≡◌, ◌+◌, ◌++◌, ℕ, true, false, List, [], ◌∷◌, length, Option, None, Some, sum_by, refl}
use Rattle.std.proofs.Common.{◌∙◌, ap, sym, subst}
use Rattle.world_parts.specs.pm_model.Powers.{is_on, Supply}
use Rattle.world_parts.specs.file_table.Files.{Files}
use Rattle.world_parts.specs.k_journal.Commits.{TakesAStep}
use Rattle.world_parts.specs.layout_model.declared.lines.Draft.{Draft}
use Rattle.world_parts.specs.k_split_model.View.{View}
use Rattle.posix_types.specs.declared.call.Call.{Call}
use Rattle.posix_types.specs.declared.call.Mode.{Mode}
use Rattle.posix_types.specs.declared.call.Who.{Who}
use Rattle.posix_types.specs.declared.handle.Handle.{Handle}
use Rattle.posix_types.specs.declared.item.Outcome.{Outcome}
use Rattle.posix_types.specs.declared.reply.Reply.{Reply}
use Rattle.world_parts.specs.posix_tables.Open.{Tables}
use Rattle.world_parts.specs.posix_tables.Outcomes.{answer}
use Rattle.world_parts.specs.in_flight.Histories.{item_with}
use Rattle.world_parts.specs.in_flight.staging_files.Keeps.{Staged}
use Rattle.world_parts.specs.in_flight.live_model.Standing.{JobOut}
use Rattle.call_laws.proofs.Putting.{answered, answers, begins_job, found_at, item_is, item_written, job_begun, loses_call, may_move, power_lost, write_ends_round, write_over, writes_now, written}
use Rattle.call_laws.specs.write_begin.Begins as writing
use Rattle.call_laws.specs.write_begin.Begins.{BeginsWrite, Found, IsAnsweredBy, LosesWrite, WritesNow}
use Rattle.call_laws.specs.write_begin.Goes.{filled_by, KeepsMaps}
use Rattle.call_laws.specs.write_begin.Needs.{JobsNeed, need_by}
use Rattle.call_laws.specs.write_begin.write_plan.Asks.{CanMoveBy, moved_by}
use Rattle.call_laws.specs.write_begin.write_plan.AsksLaws.{call_of}
use Rattle.call_laws.specs.write_begin.write_plan.Numbers.{OpenHaveLines}
use Rattle.call_laws.proofs.Staying.{going_now}
use Rattle.world_parts.specs.world_view_laws.declared.views.over.Over.{Over}
use Rattle.world_parts.specs.world_view_laws.Begins.{BeginsJob, EndsRound, item_of, LosesCall, Returns}
use Rattle.world_parts.specs.world_view_laws.eof_laws.Ends.{FilesEnd}
use Rattle.world_parts.specs.world_view_laws.Views.{disk_of, IsWorldOver, state_of, WorldView}
use Rattle.world_parts.specs.write_jobs.Jobs.{JobView}
use Rattle.world_parts.specs.declared.parts.Parts.{Parts}
use Rattle.world_parts.specs.Adds.{IsAdded}
use Rattle.world_parts.specs.Seen.{IsKept, seen}
use Rattle.world_begins.specs.Runs.{PutsNothing}
use Rattle.world_begins.specs.Turns.{IsTurn}
use Rattle.world_begins.proofs.Turning.{job_kept, job_seen, off_kept, off_seen, over_kept, over_seen, returned_kept, returned_seen, mode_now}

-- a write puts something
pub puts_some : (h : Handle) (at : Option ℕ) (x : List ℕ) (call : Call) → call ≡ call_of h at x → PutsNothing call → ⊥
puts_some h at x call is none = by at (subst PutsNothing is none) where
  by : (o : Option ℕ) → PutsNothing (call_of h o x) → ⊥
  by None never = never
  by (Some place) never = never

-- a job is pushed, with its call and its entry by other names
pub job_pushed : (old new : List JobOut) (who : Who) (call other : Call) (draft its : Draft) (blocks : List ℕ) → call ≡ other → draft ≡ its
    → new ≡ old ++ record { who = who; call = call; draft = draft; blocks = blocks } ∷ [] → new ≡ old ++ record { who = who; call = other; draft = its; blocks = blocks } ∷ []
job_pushed old new who call other draft its blocks call_is draft_is pushed =
    pushed ∙ (λ i. (let one : JobOut = record { who = who; call = call_is i; draft = draft_is i; blocks = blocks } in old ++ one ∷ []))

module _ (p : Parts) (who : Who) (h : Handle) (at : Option ℕ) (x : List ℕ) (turn : IsTurn p who (call_of h at x)) (law : JobsNeed) (lines : OpenHaveLines) (taken : ℕ)
    (taken_is : taken ≡ sum_by (λ (q : JobOut). need_by p.mode p.tables.tables p.files q.who q.call) p.pending.items) where
  -- in the mode of the state
  pub taken_now : taken ≡ sum_by (λ (q : JobOut). need_by (state_of (seen p)).mode p.tables.tables p.files q.who q.call) p.pending.items
  taken_now = taken_is ∙ ap (λ (mode : Mode). sum_by (λ (q : JobOut). need_by mode p.tables.tables p.files q.who q.call) p.pending.items) (mode_now p who (call_of h at x) turn)

  -- WHAT IT ASKS
  abbrev pub put_found : Found p.mode p.k p.tables.tables p.staging p.files who (call_of h at x) taken
  put_found = found_at p.k p.tables.tables p.staging p.files (seen p) who h at x turn.calls p.mode (sym (mode_now p who (call_of h at x) turn)) law lines taken taken_now

  pub put_ends : FilesEnd p.k.volume p.files
  put_ends = (going_now p.k p.tables.tables p.staging p.files (seen p) who (call_of h at x) turn.calls).ends

  module _ (l : View) (s : Staged) (d : Files) where
    abbrev pub q : Parts
    q = record p { k = l; staging = s; files = d }

    -- IT RETURNED,
    pub put_answered : (outcome : Outcome) → IsAnsweredBy p.mode who h at x p.k p.tables.tables p.staging p.files taken outcome → l ≡ p.k → s ≡ p.staging → d ≡ p.files
        → (r : Parts) → IsAdded who (call_of h at x) outcome q r → (before after : Supply) → is_on after ≡ true → IsKept r × Returns who (seen p) (seen r) before after
    put_answered outcome answer k_same s_same d_same r added before after on =
        let same : q ≡ p = (λ i. record p { k = k_same i; staging = s_same i; files = d_same i }) in
        let on_p : IsAdded who (call_of h at x) outcome p r = subst (λ (y : Parts). IsAdded who (call_of h at x) outcome y r) same added in
        let item = item_is p.k p.tables.tables p.staging p.files (seen p) who h at x turn.calls p.mode (sym (mode_now p who (call_of h at x) turn)) law lines taken taken_now outcome answer in (
          returned_kept p who (call_of h at x) turn p refl r outcome item on_p (answered p.k p.tables.tables p.staging p.files (seen p) who h at x turn.calls p.mode (sym (mode_now p who (call_of h at x) turn)) law lines taken taken_now outcome answer),
          subst (λ (v : WorldView). Returns who (seen p) v before after) (sym (returned_seen p who (call_of h at x) turn p refl r outcome item on_p))
              (answers p.k p.tables.tables p.staging p.files (seen p) who h at x turn.calls p.mode (sym (mode_now p who (call_of h at x) turn)) law lines taken taken_now outcome answer before after on),
        )

    -- it became a job,
    pub put_began : KeepsMaps p.k.volume l.volume p.files d (filled_by p.mode p.tables.tables who h) → (job : JobView) (blocks : List ℕ) → BeginsWrite p.mode who h at x p.k l p.tables.tables p.staging s p.files d taken job blocks
        → (r : Parts) → r ≡ record q { pending = r.pending; acts = p.acts + 1 }
        → r.pending.items ≡ p.pending.items ++ record { who = who; call = call_of h at x; draft = job.draft; blocks = blocks } ∷ []
        → (after : Supply) → is_on after ≡ true → IsKept r × BeginsJob who (seen p) (seen r) after job
    put_began keeps job blocks begun r rest pushed after on =
        let one : JobOut = record { who = who; call = call_of h at x; draft = job.draft; blocks = blocks } in (
          job_kept p who (call_of h at x) turn q refl r one rest pushed (job_begun p.k p.tables.tables p.staging p.files (seen p) who h at x turn.calls p.mode (sym (mode_now p who (call_of h at x) turn)) law lines taken taken_now l s d keeps job blocks begun),
          subst (λ (v : WorldView). BeginsJob who (seen p) v after job) (sym (job_seen p who (call_of h at x) turn q refl r one rest pushed))
              (begins_job p.k p.tables.tables p.staging p.files (seen p) who h at x turn.calls p.mode (sym (mode_now p who (call_of h at x) turn)) law lines taken taken_now l s d keeps job blocks begun after on),
        )

    -- it was written in place, and its offset moved,
    module _ (keeps : KeepsMaps p.k.volume l.volume p.files d (filled_by p.mode p.tables.tables who h)) (writes : WritesNow p.mode who h at x p.k l p.tables.tables p.staging s p.files d taken) where
      pub put_may_move : CanMoveBy p.tables.tables d who (call_of h at x)
      put_may_move = may_move p.k p.tables.tables p.staging p.files (seen p) who h at x turn.calls p.mode (sym (mode_now p who (call_of h at x) turn)) law lines taken taken_now l s d keeps writes

      module _ (g : Parts) (tables : g.tables.tables ≡ moved_by p.tables.tables d who (call_of h at x)) where
        abbrev pub with_offset : Parts
        with_offset = record p { k = l; tables = g.tables; staging = s; files = d }

        -- as the World then shows it
        abbrev view_by : Tables → WorldView
        view_by u = record (seen p) { history = p.history.items ++ item_of (seen p) who (call_of h at x) ∷ []; acts = p.acts + 1; disk = disk_of l u s d }

        pub put_written : (outcome : Outcome) → outcome ≡ answer (Reply.Count (length x)) → (r : Parts) → IsAdded who (call_of h at x) outcome with_offset r
            → (before after : Supply) → is_on after ≡ true → TakesAStep before after → IsKept r × Returns who (seen p) (seen r) before after
        put_written outcome is r added before after on took =
            let item = item_written p.k p.tables.tables p.staging p.files (seen p) who h at x turn.calls p.mode (sym (mode_now p who (call_of h at x) turn)) law lines taken taken_now l s d keeps writes ∙ ap (item_with p.history.items who (call_of h at x)) (sym is) in (
              returned_kept p who (call_of h at x) turn with_offset refl r outcome item added
                  (subst (λ (u : Tables). IsWorldOver l u s d (view_by u)) (sym tables) (written p.k p.tables.tables p.staging p.files (seen p) who h at x turn.calls p.mode (sym (mode_now p who (call_of h at x) turn)) law lines taken taken_now l s d keeps writes)),
              subst (λ (v : WorldView). Returns who (seen p) v before after) (sym (returned_seen p who (call_of h at x) turn with_offset refl r outcome item added))
                  (subst (λ (u : Tables). Returns who (seen p) (view_by u) before after) (sym tables) (writes_now p.k p.tables.tables p.staging p.files (seen p) who h at x turn.calls p.mode (sym (mode_now p who (call_of h at x) turn)) law lines taken taken_now l s d keeps writes before after on took)),
            )

    -- the round is over,
    pub put_over : KeepsMaps p.k.volume l.volume p.files d (filled_by p.mode p.tables.tables who h) → (needed left : ℕ) → writing.EndsRound p.mode who h at x p.k l p.tables.tables p.staging s p.files d taken needed left
        → (r : Parts) → r ≡ record q { over = Some (Over.Space needed left); acts = p.acts + 1 }
        → (after : Supply) → is_on after ≡ true → IsKept r × EndsRound who (seen p) (seen r) after needed left
    put_over keeps needed left ends r rest after on = (
      over_kept p who (call_of h at x) turn q refl r needed left rest (write_over p.k p.tables.tables p.staging p.files (seen p) who h at x turn.calls p.mode (sym (mode_now p who (call_of h at x) turn)) law lines taken taken_now l s d keeps needed left ends),
      subst (λ (v : WorldView). EndsRound who (seen p) v after needed left) (sym (over_seen p who (call_of h at x) turn q refl r needed left rest))
          (write_ends_round p.k p.tables.tables p.staging p.files (seen p) who h at x turn.calls p.mode (sym (mode_now p who (call_of h at x) turn)) law lines taken taken_now l s d keeps needed left ends after on),
    )

    -- or it lost its power.
    pub put_lost : LosesWrite p.mode who (call_of h at x) p.k l p.tables.tables p.staging p.files taken
        → (r : Parts) → r ≡ record q { unfinished = Some (record { who = who; call = call_of h at x }); acts = p.acts + 1; lost = true }
        → (after : Supply) → is_on after ≡ false → IsKept r × LosesCall who (seen p) (seen r) after
    put_lost loses r rest after off = (
      off_kept p who (call_of h at x) turn q refl r rest (power_lost p.k p.tables.tables p.staging p.files (seen p) who h at x turn.calls p.mode (sym (mode_now p who (call_of h at x) turn)) law lines taken taken_now l s d loses),
      subst (λ (v : WorldView). LosesCall who (seen p) v after) (sym (off_seen p who (call_of h at x) turn q refl r rest))
          (loses_call p.k p.tables.tables p.staging p.files (seen p) who h at x turn.calls p.mode (sym (mode_now p who (call_of h at x) turn)) law lines taken taken_now l s d loses after off),
    )
