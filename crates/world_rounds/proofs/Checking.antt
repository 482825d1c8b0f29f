-- A checkpoint: the parts of the World once it is done, or once the power went.
use Rattle.std.specs.Prelude.{◌≡◌, ◌≤◌, ◌<◌, ◌+◌, ◌*◌, ◌^◌, ℕ, true, false, List, [], length, None, Ok, vec_len, refl}
use Rattle.std.proofs.Common.{arith, ap, ◌∙◌, sym, subst}
use Rattle.world_parts.specs.pm_model.Cells.{cell, is_lent}
use Rattle.world_parts.specs.pm_model.Parts.{Part}
use Rattle.world_parts.specs.pm_model.Powers.{is_on, Steps, Supply}
use Rattle.world_parts.specs.layout_model.declared.lines.Draft.{Draft}
use Rattle.world_parts.specs.layout_model.Places.{Geometry, log_line}
use Rattle.world_parts.specs.file_table.Files.{Files}
use Rattle.world_parts.specs.k_journal.declared.outcomes.Commit.{Commit}
use Rattle.world_parts.specs.k_split_model.View.{View}
use Rattle.world_parts.specs.block_io.Lines.{LinesComeBack}
use Rattle.round_laws.specs.EndsLaws.{AppliesClaims, EndsReady, GoesIntoNextRound, IsEnding, LosesRoundBefore, LosesRoundInside, lost_round, next_view, ReadyToGather}
use Rattle.world_parts.specs.in_flight.k_split.Laps.{IsLogWord}
use Rattle.world_parts.specs.in_flight.k_split.Order.{IsInOrder}
use Rattle.world_parts.specs.in_flight.staging_files.Keeps.{Staged}
use Rattle.world_parts.proofs.world_view_laws_proofs.Ending.{no_both}
use Rattle.world_parts.proofs.world_view_laws_proofs.Modes.{device_on, geometry_now}
use Rattle.world_parts.specs.world_view_laws.Lines.{HoldTheClaims}
use Rattle.world_parts.specs.log_checkpoint.Gathers.{file_count, IsGatherAnswer, total_runs}
use Rattle.world_parts.specs.world_view_laws.Rounds.{AreClaimsApplied, IsNextRound, MayCheckpoint}
use Rattle.world_parts.specs.world_view_laws.Views.{Disk, disk_of, IsWorldOver, WorldView}
use Rattle.world_parts.specs.declared.parts.Parts.{Parts}
use Rattle.world_parts.specs.Seen.{IsKept, seen}

-- ---- steps

pub steps_within : (m n : ℕ) (old new : Supply) → m ≤ n → Steps m old new → Steps n old new
steps_within m n old new few steps = record { given = steps.given; on_before = steps.on_before; later = steps.later; bound = omega (arith, steps.bound, few) }

pub gather_steps : (runs files : ℕ) (old new : Supply) → runs + files ≤ 1275 → Steps (2 ^ 15 * (runs + files + 5)) old new → Steps (2 ^ 26) old new
gather_steps runs files old new few steps = steps_within (2 ^ 15 * (runs + files + 5)) (2 ^ 26) old new (omega (arith, few)) steps

-- ---- the lines come home

module _ (ready : EndsReady) (p : Parts) (l : View) (lines : List Part) (kept : IsKept p) (on : p.lost ≡ false) (none : p.pending.items ≡ []) (holds : HoldTheClaims (seen p) lines) (same : l ≡ record p.k { cells = l.cells })
    (orders : l.lost ≡ false → IsInOrder l) (back : LinesComeBack (log_line p.k.volume.geometry 0) lines p.k.cells l.cells) (home : (i : ℕ) → IsLogWord p.k.volume i → is_lent (cell l.cells i) ≡ false) where
  -- THE WORLD ENDS its round.
  pub ending_of : IsEnding p.k l p.tables.tables p.staging p.files (seen p) lines
  ending_of = record {
    world = kept.world;
    awake = on;
    none_out = none;
    holds = holds;
    back = record { same = same; order = orders (ap (λ (x : View). x.lost) same ∙ device_on p.k p.tables.tables p.staging p.files (seen p) (kept.world.going on)); back = back; home = home };
  }

  pub ready_now : ReadyToGather p.files l
  ready_now = ready p.k l p.tables.tables p.staging p.files (seen p) lines ending_of

  -- the base of the next lap
  pub next_base_fits : p.base + p.geometry.log < 2 ^ 64
  next_base_fits =
      let base : p.base ≡ l.volume.base = (kept.world.going on).base ∙ sym (ap (λ (x : View). x.volume.base) same) in
      let log : l.volume.geometry.log ≡ p.geometry.log = ap (λ (x : View). x.volume.geometry.log) same ∙ ap (λ (g : Geometry). g.log) (geometry_now p.k p.tables.tables p.staging p.files (seen p) (kept.world.going on)) in
      omega (arith, base, log, ready_now.next)

  pub gathers_within : (old new : Supply) → Steps (2 ^ 15 * (total_runs p.files + file_count l.volume + 5)) old new → Steps (2 ^ 26) old new
  gathers_within old new steps = gather_steps (total_runs p.files) (file_count l.volume) old new ready_now.few steps

-- ---- done

module _ (law : GoesIntoNextRound) (applies : AppliesClaims) (p q : Parts) (l m : View) (then : Staged) (table : Files) (lines : List Part) (kept : IsKept p) (may : MayCheckpoint (seen p) lines)
    (ending : IsEnding p.k l p.tables.tables p.staging p.files (seen p) lines) (done : IsGatherAnswer p.files l then table m (Ok Commit.Done)) (claims : q.claims.items ≡ []) (no_claim : vec_len q.claims ≡ 0)
    (is : q ≡ record p {
      k = m;
      staging = then;
      files = table;
      base = p.base + p.geometry.log;
      settled = length p.history.items;
      claims = q.claims;
      over = None;
      given_up = 0;
      acts = p.acts + 1;
      lines_out = false;
    }) where
  abbrev rest : Parts
  rest = record p {
    k = m;
    staging = then;
    files = table;
    base = p.base + p.geometry.log;
    settled = length p.history.items;
    claims = q.claims;
    over = None;
    given_up = 0;
    acts = p.acts + 1;
    lines_out = false;
  }

  next_seen : seen rest ≡ next_view (seen p) (disk_of m p.tables.tables then table)
  next_seen = ap (λ (cs : List (ℕ × Draft)). (let v : WorldView = record (next_view (seen p) (disk_of m p.tables.tables then table)) { claims = cs } in v)) claims

  none_out : length p.pending.items ≡ 0
  none_out = ap (λ xs. length xs) ending.none_out

  rest_kept : IsKept rest
  rest_kept = record {
    world = subst (λ (w : WorldView). IsWorldOver m p.tables.tables then table w) (sym next_seen) (law p.k l m p.tables.tables p.staging then p.files table (seen p) lines ending may done);
    counts = kept.counts;
    room = record {
      items = kept.room.items;
      claims_on = λ on. omega (arith, no_claim, none_out);
      claims_off = λ off out. no_both p.lost off ending.awake _;
      empty = kept.room.empty;
      calls = kept.room.calls;
    };
  }

  pub next_kept : IsKept q
  next_kept = subst IsKept (sym is) rest_kept

  disk_is : (seen q).disk ≡ disk_of m p.tables.tables then table
  disk_is = ap (λ (x : Parts). (seen x).disk) is

  -- WHAT IT ANSWERS: nothing is staged any more
  pub next_answer : (power : Supply) → is_on power ≡ true → IsNextRound (seen p) (seen q) power
  next_answer power on = record {
    awake = ending.awake;
    on = on;
    new_is = ap seen is ∙ (next_seen ∙ ap (next_view (seen p)) (sym disk_is));
    applied = subst (AreClaimsApplied p.claims.items) (sym disk_is) (applies p.k l m p.tables.tables p.staging then p.files table (seen p) lines ending done);
    staging = ap (λ (d : Disk). d.staging) disk_is ∙ done.2.staging;
    tables = ap (λ (d : Disk). d.tables) disk_is;
  }

-- ---- the power went in it

module _ (law : LosesRoundInside) (p : Parts) (l m : View) (then : Staged) (table : Files) (lines : List Part) (kept : IsKept p) (ending : IsEnding p.k l p.tables.tables p.staging p.files (seen p) lines)
    (cut : IsGatherAnswer p.files l then table m (Ok Commit.PowerLost)) where
  pub inside_kept : IsKept (record p { k = m; staging = then; files = table; acts = p.acts + 1; lines_out = false; lost = true })
  inside_kept = record {
    world = law p.k l m p.tables.tables p.staging then p.files table (seen p) lines ending cut;
    counts = kept.counts;
    room = record {
      items = λ on. no_both true refl on _;
      claims_on = λ on. no_both true refl on _;
      claims_off = λ off out. no_both false out refl _;
      empty = kept.room.empty;
      calls = kept.room.calls;
    };
  }

-- ---- it had gone

module _ (law : LosesRoundBefore) (p q : Parts) (lines : List Part) (kept : IsKept p) (off : p.lost ≡ true) (may : MayCheckpoint (seen p) lines) (home : q.home.items ≡ lines) (is : q ≡ record p { home = q.home; lines_out = false }) where
  abbrev kept_rest : Parts
  kept_rest = record p { home = q.home; lines_out = false }

  view_before : seen kept_rest ≡ record (lost_round (seen p) p.acts (disk_of p.k p.tables.tables p.staging p.files) lines) { lost = p.lost }
  view_before = ap (λ (xs : List Part). (let v : WorldView = record (seen p) { lines_out = false; home = xs } in v)) home

  lost_before : record (lost_round (seen p) p.acts (disk_of p.k p.tables.tables p.staging p.files) lines) { lost = p.lost } ≡ lost_round (seen p) p.acts (disk_of p.k p.tables.tables p.staging p.files) lines
  lost_before = ap (λ b. (let v : WorldView = record (lost_round (seen p) p.acts (disk_of p.k p.tables.tables p.staging p.files) lines) { lost = b } in v)) off

  kept_rest_kept : IsKept kept_rest
  kept_rest_kept = record {
    world = subst (λ (w : WorldView). IsWorldOver p.k p.tables.tables p.staging p.files w) (sym (view_before ∙ lost_before)) (law p.k p.tables.tables p.staging p.files (seen p) lines kept.world off may.none_out may.lines_are);
    counts = kept.counts;
    room = record {
      items = kept.room.items;
      claims_on = kept.room.claims_on;
      claims_off = λ gone out. no_both false out refl _;
      empty = kept.room.empty;
      calls = kept.room.calls;
    };
  }

  pub before_kept : IsKept q
  before_kept = subst IsKept (sym is) kept_rest_kept
