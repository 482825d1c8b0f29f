-- What a Begin that returned has done, and what ends a round for want of space beside it.
use Rattle.std.specs.Prelude.{◌≡◌, ◌≢◌, ◌⊎◌, ◌+◌, ◌-◌, ℕ, true, false, length, Option, Some, None, if◌then◌else◌, refl, is_some}
use Rattle.std.specs.Option.{option_map_or}
use Rattle.std.proofs.Common.{ap, ◌∙◌, sym, subst, inl, inr}
use Rattle.std.proofs.lemmas.Option.{same_Some}
use Rattle.world_parts.specs.world_view_laws.posix_types.declared.call.Call.{Call}
use Rattle.world_parts.specs.world_view_laws.posix_types.declared.call.Mode.{Mode}
use Rattle.world_parts.specs.world_view_laws.posix_types.declared.call.Who.{Who}
use Rattle.world_parts.specs.world_view_laws.posix_tables.declared.open.Description.{Description}
use Rattle.world_parts.specs.world_view_laws.posix_tables.Open.{opened}
use Rattle.world_parts.specs.world_view_laws.posix_spec.Put.{Put, put_by}
use Rattle.world_parts.specs.world_view_laws.crash_spec.Busy.{is_busy, is_logged, is_logged_put}
use Rattle.world_parts.specs.world_view_laws.world_image_laws.Settings.{setting_run}
use Rattle.world_parts.proofs.world_view_laws_proofs.Holes.{none_to_fill, stages_logged}
use Rattle.world_parts.specs.world_view_laws.in_flight.layout_model.Places.{reserve}
use Rattle.world_parts.specs.world_view_laws.in_flight.staging_files.Keeps.{Staged}
use Rattle.world_parts.specs.world_view_laws.in_flight.staging_files.Reserves.{has_empty}
use Rattle.world_parts.specs.world_view_laws.Begins.{Begins, HasFilled, IsNeed, IsOfOpenFile, IsStagingNeed, LacksBeside, LacksRun, LacksSpace, Publishes, with_disk}
use Rattle.write_plan.specs.Plans.{staged_run}
use Rattle.world_parts.specs.world_view_laws.Views.{Disk, files_out, state_of, WorldView}
use Rattle.world_begins.specs.Progress.{EndsWithOnePair, HasApplied, JobsHaveRoom, ReturnsHaveRoom, StrictEndsLeaveAll, SyncsPublish, WaitsAlone}

-- a World has one next call of a caller
one_call : (w : WorldView) (who : Who) (call other : Call) → Begins w who call → Begins w who other → call ≡ other
one_call w who call other begins again = same_Some call other (sym begins.next ∙ again.next)

-- a call that needs staging blocks is logged, in strict and in sync mode
run_of : (v : WorldView) (o : Option (ℕ × ℕ)) (need : ℕ) → IsStagingNeed v o need → (run : ℕ × ℕ) × (o ≡ Some run)
run_of v None need is = absurd is
run_of v (Some run) need is = (run, refl)

staged_logged : (w v : WorldView) (who : Who) (call : Call) (need : ℕ) → (state_of w).mode ≢ Mode.Posix → IsStagingNeed v (staged_run (state_of w) (put_by (state_of w) who call)) need
    → is_logged (state_of w) (who, call) ≡ true
staged_logged w v who call need other is = by (put_by (state_of w) who call) is where
  by : (o : Option Put) → IsStagingNeed v (staged_run (state_of w) o) need → option_map_or (is_logged_put (state_of w).mode (state_of w)) o false ≡ true
  by None never = absurd never
  by (Some put) counted =
      let staged = run_of v (staged_run (state_of w) (Some put)) need counted in
      stages_logged (state_of w) put staged.0 other staged.1

-- a call needs so many blocks, and no other number
one_need : (w : WorldView) (who : Who) (call : Call) (need more : ℕ) → IsNeed w who call need → IsNeed w who call more → need ≡ more
one_need w who (Call.Truncate h size) need more is again = is.1 ∙ sym again.1
one_need w who call need more is again = is.1 ∙ sym again.1

-- what stands below the calls is not asked for what the jobs leave
need_on : (w : WorldView) (filled : Disk) (who : Who) (call : Call) (need : ℕ) → IsNeed w who call need → IsNeed (with_disk w filled) who call need
need_on w filled who (Call.Truncate h size) need is = is
need_on w filled who call need is = is

beside_on : (w : WorldView) (filled : Disk) (who : Who) (call : Call) (need left : ℕ) → LacksBeside w who call need left → LacksBeside (with_disk w filled) who call need left
beside_on w filled who call need left lacks = record { need_is = need_on w filled who call need lacks.need_is; left_is = lacks.left_is; fits = lacks.fits; lacks = lacks.lacks }

one_staging_need : (w : WorldView) (d e : Disk) (o : Option (ℕ × ℕ)) (need more : ℕ) → d.staging ≡ e.staging → IsStagingNeed (with_disk w d) o need → IsStagingNeed (with_disk w e) o more → need ≡ more
one_staging_need w d e None need more same is again = absurd is
one_staging_need w d e (Some run) need more same is again = is ∙ ap (λ (s : Staged). run.1 + (length s.out + reserve w.geometry - 2) + 1) same ∙ sym again

-- ---- an `fsync` that answered ok

pub syncs_publish : SyncsPublish
syncs_publish who h old new before after returned is ok =
    by (opened old.disk.tables who h) refl (subst (λ (c : Call). IsOfOpenFile who c old) is returned.of_file ok) where
      published : Publishes who (Call.Fsync h) old new
      published = subst (λ (c : Call). Publishes who c old new) is returned.published

      by : (o : Option Description) → opened old.disk.tables who h ≡ o → is_some o ≡ true → (file : Description) × (opened old.disk.tables who h ≡ Some file) × HasApplied old new file
      by (Some file) stands some = (file, stands, λ slot d there own generation. published file slot d stands there own generation)
      by None stands never = cc

-- ---- the round is over

pub returns_have_room : ReturnsHaveRoom
returns_have_room who old new before after filled need left other returned (inl beside) = returned.enough need left beside
returns_have_room who old new before after filled need left other returned (inr (inl holes)) = returned.holes need left holes
returns_have_room who old new before after filled need left other returned (inr (inr run)) =
    let logged = staged_logged old (with_disk old filled) who returned.call need (λ is. other (sym (setting_run old.start old.history).mode ∙ is)) run.staging.need_is in
    let never : false ≡ true = sym returned.unlogged ∙ logged in
    cc

pub jobs_have_room : JobsHaveRoom
jobs_have_room who old new after job need left begun (inl beside) = begun.enough need left beside
jobs_have_room who old new after job need left begun (inr (inl holes)) = begun.holes need left holes
jobs_have_room who old new after job need left begun (inr (inr run)) = begun.run need left run.staging

pub waits_alone : WaitsAlone
waits_alone who call old new before after ino holder waits begins =
    let same = same_Some waits.call call (sym waits.next ∙ begins.next) in
    let busy : is_busy (state_of old) (files_out old) (who, call) ≡ true = ap (λ (c : Call). is_busy (state_of old) (files_out old) (who, c)) (sym same) ∙ waits.kept.busy in
    let never : true ≡ false = sym busy ∙ begins.idle in
    cc

-- the room that the staging tells
abbrev staging_room : Staged → ℕ → ℕ
staging_room s free = if has_empty s then free else 0

-- two causes of one call tell one need, and one room where as much is free with its holes filled
module _ (w : WorldView) (one other : Disk) (who : Who) (call : Call) where
  abbrev IsOnePair : ℕ → ℕ → ℕ → ℕ → Type 0
  IsOnePair need left more less = (need ≡ more) × ((w.start.mode ≡ Mode.Strict) ⊎ (one.free ≡ other.free) → left ≡ less)

  -- filling holes leaves the staging as it was; and in strict mode all of it
  same_staging : HasFilled w who call one → HasFilled w who call other → one.staging ≡ other.staging
  same_staging is again = ap (λ (d : Disk). d.staging) is.rest ∙ sym (ap (λ (d : Disk). d.staging) again.rest)

  same_free : HasFilled w who call one → HasFilled w who call other → (w.start.mode ≡ Mode.Strict) ⊎ (one.free ≡ other.free) → one.free ≡ other.free
  same_free is again (inl strict) =
      let none = none_to_fill w strict who call in
      ap (λ (d : Disk). d.free) (is.none none ∙ sym (again.none none))
  same_free is again (inr same) = same

  run_pair : (need left more less : ℕ) → LacksRun w one who call need left → LacksRun w other who call more less → IsOnePair need left more less
  run_pair need left more less is again =
      let staging = same_staging is.holes again.holes in
      let run = staged_run (state_of w) (put_by (state_of w) who call) in (
        one_staging_need w one other run need more staging is.staging.need_is again.staging.need_is,
        λ given. is.staging.left_is ∙ (λ i. staging_room (staging i) (same_free is.holes again.holes given i)) ∙ sym again.staging.left_is,
      )

  one_pair : (need left more less : ℕ) → LacksSpace w one who call need left → LacksSpace w other who call more less → IsOnePair need left more less
  one_pair need left more less (inl is) (inl again) = (one_need w who call need more is.need_is again.need_is, λ given. is.left_is ∙ sym again.left_is)
  one_pair need left more less (inl is) (inr (inl again)) = absurd (again.beside need left is)
  one_pair need left more less (inl is) (inr (inr again)) = absurd (again.staging.beside need left (beside_on w other who call need left is))
  one_pair need left more less (inr (inl is)) (inl again) = absurd (is.beside more less again)
  one_pair need left more less (inr (inl is)) (inr (inl again)) = (is.need_is ∙ sym again.need_is, λ given. is.left_is ∙ sym again.left_is)
  one_pair need left more less (inr (inl is)) (inr (inr again)) = absurd (again.whole need left is)
  one_pair need left more less (inr (inr is)) (inl again) = absurd (is.staging.beside more less (beside_on w one who call more less again))
  one_pair need left more less (inr (inr is)) (inr (inl again)) = absurd (is.whole more less again)
  one_pair need left more less (inr (inr is)) (inr (inr again)) = run_pair need left more less is again

pub ends_with_one_pair : EndsWithOnePair
ends_with_one_pair who old new other after later need left more less mode one two =
    let same = one_call old who two.call one.call two.begins one.begins in
    one_pair old new.disk other.disk who one.call need left more less one.cause (subst (λ (c : Call). LacksSpace old other.disk who c more less) same two.cause)

pub strict_ends_leave_all : StrictEndsLeaveAll
strict_ends_leave_all who old new after need left strict is = by is.cause where
  by : LacksSpace old new.disk who is.call need left → new.disk ≡ old.disk
  by (inl beside) = is.nothing (inl beside)
  by (inr (inl holes)) = is.nothing (inr holes)
  by (inr (inr run)) = run.holes.none (none_to_fill old strict who is.call)
