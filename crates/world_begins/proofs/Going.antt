-- The first call of a round.
use Rattle.std.specs.Prelude.{◌≡◌, ◌≢◌, ◌⊎◌, ◌<◌, ◌≤◌, ℕ, true, false, [], length, Some, None, refl, is_some}
use Rattle.std.proofs.Common.{arith, ap, ◌∙◌, sym, subst, inl, inr}
use Rattle.world_parts.specs.world_view_laws.list_laws.Members.{In}
use Rattle.world_parts.specs.world_view_laws.posix_types.declared.call.Who.{Who}
use Rattle.world_parts.specs.world_view_laws.in_flight.pm_model.Powers.{is_on, Supply}
use Rattle.world_parts.specs.declared.outcomes.Begun.{Begun}
use Rattle.world_parts.specs.world_view_laws.declared.views.over.Over.{Over}
use Rattle.world_parts.specs.world_view_laws.Begins.{EndsRound, IsOver, IsPowerLost, IsRoundOver, Waits}
use Rattle.world_parts.specs.world_view_laws.Views.{Disk, WorldView}
use Rattle.world_begins.specs.Progress.{BeginsAtFirst, CheckpointsAtFirst, FirstCallsBegin, FirstCallsGoOn, IsAtFirst, MountsAtFirst, RoundsGetFurther}

-- ---- where it is so

pub mounts_at_first : MountsAtFirst
mounts_at_first g image mode scripts w begins = record {
  none_out = ap (λ (v : WorldView). v.pending) begins.world_is;
  settled = ap (λ (v : WorldView). v.settled) begins.world_is ∙ sym (ap (λ (v : WorldView). length v.history) begins.world_is);
  going = ap (λ (v : WorldView). v.over) begins.world_is;
  staging = begins.staging;
}

pub checkpoints_at_first : CheckpointsAtFirst
checkpoints_at_first old new power lines may next = record {
  none_out = ap (λ (w : WorldView). w.pending) next.new_is ∙ may.none_out;
  settled = ap (λ (w : WorldView). w.settled) next.new_is ∙ sym (ap (λ (w : WorldView). length w.history) next.new_is);
  going = ap (λ (w : WorldView). w.over) next.new_is;
  staging = next.staging;
}

pub begins_at_first : BeginsAtFirst
begins_at_first old new lines base at begun = record {
  none_out = ap (λ (w : WorldView). w.pending) begun.new_is ∙ at.none_out;
  settled = ap (λ (w : WorldView). w.settled) begun.new_is ∙ at.settled ∙ sym (ap (λ (w : WorldView). length w.history) begun.new_is);
  going = ap (λ (w : WorldView). w.over) begun.new_is ∙ at.going;
  staging = ap (λ (d : Disk). d.staging) begun.cells_alone ∙ at.staging;
}

-- ---- what a call finds there

module _ (who : Who) (old new : WorldView) (before after : Supply) (at : IsAtFirst old) where
  no_wait : (ino : ℕ) (holder : Who) → Waits who old new before after ino holder → ⊥
  no_wait ino holder waits = absurd (subst (In waits.kept.job) at.none_out waits.kept.out)

  not_over : (over : Over) → IsOver who old new before after over → ⊥
  not_over over is = (let never : Some over ≡ None = sym is.0 ∙ at.going in cc)

  no_end : (need left : ℕ) → EndsRound who old new after need left → ⊥
  no_end need left ends = by ends.late where
    by : (old.pending ≢ []) ⊎ (old.settled < length old.history) → ⊥
    by (inl some) = some at.none_out
    by (inr late) = (let settled = at.settled in omega (arith, late, settled))

  no_round_over : (over : Over) → IsRoundOver who old new before after over → ⊥
  no_round_over (Over.Lap full) is = not_over (Over.Lap full) is
  no_round_over (Over.Space need left) (inl is) = not_over (Over.Space need left) is
  no_round_over (Over.Space need left) (inr ends) = no_end need left ends

pub first_calls_go_on : FirstCallsGoOn
first_calls_go_on who old new before after at = (no_wait who old new before after at, no_round_over who old new before after at)

-- it answers that the power went only where that is so
still_on : (who : Who) (old new : WorldView) (before after : Supply) → old.lost ≡ false → is_on after ≡ true → IsPowerLost who old new before after → ⊥
still_on who old new before after awake on (inl was) = (let never : true ≡ false = sym was.0 ∙ awake in cc)
still_on who old new before after awake on (inr (inl loses)) = (let never : true ≡ false = sym on ∙ loses.0.off in cc)
still_on who old new before after awake on (inr (inr ended)) = (let never : true ≡ false = sym on ∙ ended.4 in cc)

pub first_calls_begin : FirstCallsBegin
first_calls_begin who old new before after Begun.Done at awake next on is = inl refl
first_calls_begin who old new before after (Begun.Job job) at awake next on is = inr (job, refl)
first_calls_begin who old new before after (Begun.Busy ino holder) at awake next on is = absurd (no_wait who old new before after at ino holder is)
first_calls_begin who old new before after (Begun.RoundOver over) at awake next on is = absurd (no_round_over who old new before after at over is)
first_calls_begin who old new before after Begun.PowerLost at awake next on is = absurd (still_on who old new before after awake on is)
first_calls_begin who old new before after Begun.ScriptEnd at awake next on is = absurd (next is.1)

pub rounds_get_further : RoundsGetFurther
rounds_get_further k t staging files w lines world awake may = by (world.counted.late (is_over may.over)) where
  is_over : is_some w.over ≡ true → w.over ≢ None
  is_over some none = (let never : is_some w.over ≡ false = ap is_some none in cc)

  by : (w.pending ≢ []) ⊎ (1 ≤ w.given_up) ⊎ (w.settled < length w.history) → w.settled < length w.history
  by (inl out) = absurd (out may.none_out)
  by (inr (inl given)) = world.counted.claimed awake (may.some (λ none. omega (arith, given, none)))
  by (inr (inr later)) = later
