-- What is seen of the parts of a World: whether a call waits, and which is the next.
use Rattle.std.specs.Prelude.{◌≡◌, ◌≢◌, ℕ, Bool, true, false, IfNone, IfSome, List, [], ◌∷◌, length, Option, Some, None, slice_get, vec_len}
use Rattle.std.specs.List.{list_any}
use Rattle.std.specs.Option.{option_map_or}
use Rattle.std.proofs.Common.{arith, ap, ◌∙◌, refl, sym, subst}
use Rattle.world_view_laws.specs.crash_spec.Busy.{is_busy, keeps_busy, waits_for}
use Rattle.world_view_laws.specs.in_flight.Busy.{files_by}
use Rattle.world_view_laws.specs.posix_spec.Run.{Unfinished}
use Rattle.world_view_laws.specs.posix_spec.State.{State}
use Rattle.posix_types.specs.declared.call.Call.{Call}
use Rattle.posix_types.specs.declared.call.Who.{Who}
use Rattle.world_view_laws.specs.posix_spec.Scripted.{script_of}
use Rattle.world_view_laws.specs.in_flight.Busy.{IsKept as IsKeptBusy}
use Rattle.world_view_laws.specs.in_flight.Counters.{count_for}
use Rattle.world_view_laws.specs.in_flight.live_model.Standing.{JobOut, StandsAt}
use Rattle.world_view_laws.specs.Begins.{IsKeptBy}
use Rattle.world_view_laws.proofs.Modes.{none_at_home}
use Rattle.world_view_laws.specs.Views.{files_out, IsGoing, kept_of, next_of, state_of}
use Rattle.world_parts.specs.declared.parts.Parts.{Parts}
use Rattle.world_parts.specs.Seen.{IsKept, seen}

-- where no job is out no call waits
none_busy : (s : State) (c : Unfinished) → is_busy s [] c ≡ false
unfolding is_busy
none_busy s c = by (waits_for s c) where
  by : (o : Option ℕ) → option_map_or (λ node. list_any (keeps_busy c.0 node) []) o false ≡ false
  by None = refl
  by (Some node) = refl

no_items : {X : Type 0} (xs : List X) → length xs ≡ 0 → xs ≡ []
no_items [] is = refl
no_items (x ∷ xs) is = absurd (omega (arith, is))

pub busy_alone : (p : Parts) → vec_len p.pending ≡ 0 → (who : Who) (call : Call) → is_busy (state_of (seen p)) (files_out (seen p)) (who, call) ≡ false
busy_alone p none who call =
    ap (λ (ps : List JobOut). is_busy (state_of (seen p)) (files_by (state_of (seen p)) ps) (who, call)) (no_items p.pending.items (omega (arith, none, p.pending.ok.0)))
    ∙ none_busy (state_of (seen p)) (who, call)

-- where one is out the lines are, and the mode is not POSIX mode
module _ (p : Parts) (kept : IsKept p) (awake : p.lost ≡ false) (some : vec_len p.pending ≢ 0) (who : Who) (call : Call) where
  going : IsGoing p.k p.tables.tables p.staging p.files (seen p)
  going = kept.world.going awake

  job_out : p.pending.items ≢ []
  job_out none = some (omega (arith, ap (λ (ps : List JobOut). length ps) none, p.pending.ok.0))

  abbrev StandsBy : Bool → Type 0
  StandsBy lines_out = StandsAt p.geometry p.k p.tables.tables (kept_of (seen p) p.staging p.files) lines_out (length p.history.items) (state_of (seen p))

  stands : StandsBy true
  stands = by p.lines_out refl where
    by : (b : Bool) → p.lines_out ≡ b → StandsBy true
    by true out = subst StandsBy out (going.stands (λ posix. job_out (going.gathers posix).none_out))
    by false home = absurd (job_out (none_at_home p.k p.tables.tables p.staging p.files (seen p) going home))

  pub busy_none : (found : Option (ℕ × Who)) → IsKeptBusy who call p.k p.tables.tables p.pending.items found → IfNone found (is_busy (state_of (seen p)) (files_out (seen p)) (who, call) ≡ false)
  busy_none None is = is p.geometry (kept_of (seen p) p.staging p.files) (length p.history.items) (state_of (seen p)) stands refl
  busy_none (Some found) is = tt

  pub busy_some : (found : Option (ℕ × Who)) → IsKeptBusy who call p.k p.tables.tables p.pending.items found → IfSome found (λ (one : ℕ × Who). IsKeptBy (seen p) who call one.0 one.1)
  busy_some None is = tt
  busy_some (Some found) is = is p.geometry (kept_of (seen p) p.staging p.files) (length p.history.items) (state_of (seen p)) stands refl

-- the call at the place that is counted is the next one
pub next_is : (p : Parts) → IsKept p → (who : Who) (place : ℕ) (call : Option Call) → place ≡ count_for p.counters.setup p.counters.threads who → call ≡ slice_get (script_of p.scripts who) place → next_of (seen p) who ≡ call
next_is p kept who place call counted at = ap (slice_get (script_of p.scripts who)) (sym (counted ∙ kept.counts who)) ∙ sym at
