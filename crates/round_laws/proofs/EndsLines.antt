-- The lines of a round come home at its end.
use Rattle.std.specs.Prelude.{◌≡◌, ◌≢◌, ◌<◌, ◌+◌, ◌-◌, ◌*◌, ◌/◌, ◌%◌, ℕ, zero, suc, Bool, true, false, Contains, List, [], ◌∷◌, length, refl}
use Rattle.std.proofs.Common.{arith, ap, sym, subst, inl, inr}
use Rattle.std.proofs.lemmas.List.{length-map}
use Rattle.std.proofs.Math.ListN.{get_or-map}
use Rattle.world_view_laws.proofs.Modes.{geometry_now, lines_lent, posix_or_not}
use Rattle.world_view_laws.proofs.PosixLines.{posix_lines_home}
use Rattle.world_view_laws.specs.file_calls.batch_laws.Together.{PosixStandsAt}
use Rattle.world_view_laws.specs.live_model.world_model.Jobs.{Job}
use Rattle.world_view_laws.specs.live_model.world_model.Lines.{AreLinesOut}
use Rattle.world_view_laws.specs.eof_laws.pm_model.declared.Cell.{Cell}
use Rattle.world_view_laws.specs.eof_laws.pm_model.Cells.{AllHome, cell, is_lent}
use Rattle.world_view_laws.specs.eof_laws.pm_model.Parts.{Part, put_back}
use Rattle.world_view_laws.specs.write_end.CrashesLaws.{LinesHoldOut}
use Rattle.world_view_laws.specs.eof_laws.layout_model.declared.lines.Draft.{Draft}
use Rattle.world_view_laws.specs.eof_laws.layout_model.Places.{Geometry, log_line}
use Rattle.world_view_laws.specs.eof_laws.image_model.LogRule.{cells_of_line, HoldsEntry, IsAsAtFirst}
use Rattle.world_view_laws.specs.eof_laws.image_model.Volume.{Volume}
use Rattle.world_view_laws.specs.eof_laws.file_table.Files.{Files}
use Rattle.world_view_laws.proofs.file_publish_proofs.Tables.{no-jobs}
use Rattle.world_view_laws.specs.file_publish.live_model.Flying.{IsOut}
use Rattle.world_view_laws.specs.file_publish.k_split.Laps.{IsLogWord}
use Rattle.world_view_laws.specs.file_publish.k_split.Order.{IsInOrder}
use Rattle.world_view_laws.specs.file_publish.staging_files.Keeps.{Staged}
use Rattle.world_view_laws.specs.file_publish.k_split.LogLines.{AreLogLines}
use Rattle.world_view_laws.specs.file_publish.live_model.Standing.{AreLinesLent, StandsAt}
use Rattle.world_view_laws.specs.file_publish.RoundLinesLaws.{StandsHome, with_cells}
use Rattle.world_view_laws.specs.eof_laws.k_split_model.View.{View}
use Rattle.world_view_laws.specs.eof_laws.block_io.Lines.{line_at}
use Rattle.world_view_laws.specs.eof_laws.list_laws.Members.{In}
use Rattle.world_view_laws.specs.write_end.Lines as ended
use Rattle.world_view_laws.specs.write_end.oplog_entry.LogLines.{cells_of}
use Rattle.world_view_laws.specs.eof_laws.posix_tables.Open.{Tables}
use Rattle.world_view_laws.specs.eof_laws.posix_types.declared.call.Mode.{Mode}
use Rattle.world_view_laws.specs.Lines.{AreCrashLines, first_of, HoldTheClaims}
use Rattle.world_view_laws.specs.Views.{first_by, IsGoing, IsWorldOver, kept_of, state_of, WorldView}
use Rattle.round_laws.specs.EndsLaws.{IsEnding, MayEnd, MayPutLog}

-- ---- lists

in_contains : {X : Type 0} (xs : List X) (x : X) → In x xs → Contains xs x
in_contains [] x is = absurd is
in_contains (y ∷ ys) x (inl same) = (0, omega arith, same)
in_contains (y ∷ ys) x (inr is) = let k = in_contains ys x is in (suc k.0, omega (arith, k.1), k.2)

contains_in : {X : Type 0} (xs : List X) (x : X) → Contains xs x → In x xs
contains_in [] x (k, below, is) = absurd (omega (arith, below))
contains_in (y ∷ ys) x (zero, below, is) = inl is
contains_in (y ∷ ys) x (suc k, below, is) = inr (contains_in ys x (k, omega (arith, below), is))

pub cells_at : (lines : List Part) (n : ℕ) → cells_of_line (cells_of lines) n ≡ (line_at lines n).cells
cells_at lines n = get_or-map (λ (line : Part). line.cells) lines n (record { place = 0; cells = [] })

-- ---- they hold the claims

-- claim by claim, and line by line
pub each_claimed : (w : WorldView) (lines : List Part) → HoldTheClaims w lines → (n : ℕ) (d : Draft) → In (n, d) w.claims → (n < length lines) × HoldsEntry (line_at lines n).cells d (w.base + n)
each_claimed w lines holds n d at =
    let was = holds.holds.claimed n d (in_contains w.claims (n, d) at) in
    let count : length (cells_of lines) ≡ length lines = length-map lines (λ (line : Part). line.cells) in
    (omega (arith, was.0, count), subst (λ (cells : List Cell). HoldsEntry cells d (w.base + n)) (cells_at lines n) was.1)

pub each_other : (w : WorldView) (lines : List Part) → HoldTheClaims w lines → (n : ℕ) → n < length lines → ((d : Draft) → ¬ In (n, d) w.claims) → IsAsAtFirst (line_at lines n).cells (first_of w n)
each_other w lines holds n below free =
    let count : length (cells_of lines) ≡ length lines = length-map lines (λ (line : Part). line.cells) in
    subst (λ (cells : List Cell). IsAsAtFirst cells (first_of w n)) (cells_at lines n) (holds.holds.unclaimed n (omega (arith, below, count)) (λ d at. free d (contains_in w.claims (n, d) at)))

-- they are those of a crash with no filled job
pub lines_of_round : (w : WorldView) (lines : List Part) → HoldTheClaims w lines → AreCrashLines w [] [] lines
lines_of_round w lines holds = record {
  are = record { count = holds.are.count; places = holds.are.places };
  claimed = each_claimed w lines holds;
  of_jobs = λ n d at. absurd at;
  one_each = λ m n d at other. absurd at;
  entries = λ n d at. absurd at;
  others = λ n below unclaimed untaken. each_other w lines holds n below unclaimed;
}

-- by a volume of the geometry and the base of the World
pub lines_hold : (v : Volume) (w : WorldView) (lines : List Part) → v.geometry ≡ w.geometry → v.base ≡ w.base → HoldTheClaims w lines
    → ended.AreCrashLines v.geometry v.base (first_by w.geometry w.first) w.claims [] [] lines
lines_hold v w lines geometry base holds =
    subst (λ (g : Geometry). ended.AreCrashLines g v.base (first_by w.geometry w.first) w.claims [] [] lines) (sym geometry)
    (subst (λ (b : ℕ). ended.AreCrashLines w.geometry b (first_by w.geometry w.first) w.claims [] [] lines) (sym base) (lines_of_round w lines holds))

-- ---- they may be put back

module _ (k : View) (t : Tables) (staging : Staged) (files : Files) (w : WorldView) (lines : List Part) (world : IsWorldOver k t staging files w) (on : w.lost ≡ false) (holds : HoldTheClaims w lines) where
  going : IsGoing k t staging files w
  going = world.going on

  hold_claims : ended.AreCrashLines k.volume.geometry k.volume.base (first_by w.geometry w.first) w.claims [] [] lines
  hold_claims = lines_hold k.volume w lines (geometry_now k t staging files w going) (sym going.base) holds

  lent_lines : AreLinesLent k.volume k.cells (first_by w.geometry w.first)
  lent_lines = lines_lent k t staging files w going holds.are.out

  lent : (i : ℕ) → IsLogWord k.volume i → is_lent (cell k.cells i) ≡ true
  lent i at =
      let place : 8 * log_line k.volume.geometry (i / 8 - log_line k.volume.geometry 0) + i % 8 ≡ i = omega (arith, at.from) in
      let below : i / 8 - log_line k.volume.geometry 0 < k.volume.geometry.log = omega (arith, at.from, at.below) in
      subst (λ m. is_lent (cell k.cells m) ≡ true) place (lent_lines.lent (i / 8 - log_line k.volume.geometry 0) (i % 8) below (omega arith))

  may_put : MayPutLog k lines
  may_put = record { lines_are = record { count = hold_claims.are.count; places = hold_claims.are.places }; out = lent }

pub may_end : MayEnd
may_end k t staging files w lines world on holds = may_put k t staging files w lines world on holds

-- ---- once they are back

module _ (turning : StandsHome) (holding : LinesHoldOut) (k l : View) (t : Tables) (staging : Staged) (files : Files) (w : WorldView) (lines : List Part) (ending : IsEnding k l t staging files w lines) where
  goes : IsGoing k t staging files w
  goes = ending.world.going ending.awake

  held : AreLinesOut k.volume (put_back l.cells (cell l.cells)) (first_by w.geometry w.first) w.claims [] []
  held =
      holding k.volume k.cells l.cells (first_by w.geometry w.first) w.claims lines (cell l.cells) (lent_lines k t staging files w lines ending.world ending.awake ending.holds) goes.spelled
      (hold_claims k t staging files w lines ending.world ending.awake ending.holds) (record { back = ending.back.back; home = ending.back.home })

  log_lines : AreLogLines k.volume lines
  log_lines = (may_put k t staging files w lines ending.world ending.awake ending.holds).lines_are

  order : IsInOrder (with_cells k l.cells)
  order = subst IsInOrder ending.back.same ending.back.order

  -- K-SPLIT STANDS, with the lines at home,
  pub at_home : w.start.mode ≢ Mode.Posix → StandsAt w.geometry l t (kept_of w staging files) false (length w.history) (state_of w)
  at_home other =
      let stands = subst (λ b. StandsAt w.geometry k t (kept_of w staging files) b (length w.history) (state_of w)) ending.holds.are.out (goes.stands other) in
      subst (λ (x : View). StandsAt w.geometry x t (kept_of w staging files) false (length w.history) (state_of w)) (sym ending.back.same)
      (turning w.geometry k t (kept_of w staging files) (length w.history) (state_of w) l.cells lines (cell l.cells) stands ending.none_out order log_lines ending.back.back ending.back.home held).now

  -- in POSIX mode too.
  pub gathers_home : w.start.mode ≡ Mode.Posix → PosixStandsAt w.geometry l t (kept_of w staging files) false (length w.history) w.start w.history
  gathers_home posix =
      let stands = subst (λ b. PosixStandsAt w.geometry k t (kept_of w staging files) b (length w.history) w.start w.history) ending.holds.are.out (goes.gathers posix) in
      subst (λ (x : View). PosixStandsAt w.geometry x t (kept_of w staging files) false (length w.history) w.start w.history) (sym ending.back.same)
      (posix_lines_home w.geometry k t (kept_of w staging files) (length w.history) w.start w.history l.cells lines (cell l.cells) stands order log_lines ending.back.back ending.back.home held)

  pub same_volume : l.volume ≡ k.volume
  same_volume = ap (λ (x : View). x.volume) ending.back.same

  -- nothing is lent any more
  pub all_home : AllHome l.cells
  all_home i = by (is_lent (cell l.cells i)) refl where
    out_now : is_lent (cell l.cells i) ≡ true → IsOut l.volume [] i
    out_now lent_now = elim (posix_or_not w.start.mode) [
      | inl posix ↦ (gathers_home posix).ready.going.home i lent_now
      | inr other ↦
          let stands = at_home other in
          subst (λ (jobs : List Job). IsOut l.volume jobs i) (no-jobs w.pending stands.jobs stands.jobs_are ending.none_out) (stands.flying.home i lent_now)
    ]

    out_or : IsOut l.volume [] i → is_lent (cell l.cells i) ≡ false
    out_or (inl (slot, below, place)) =
        ending.back.home i (subst (λ (v : Volume). IsLogWord v i) same_volume (record { from = omega (arith, place); below = omega (arith, place, below) }))
    out_or (inr (j, at, staged)) = absurd at

    by : (b : Bool) → is_lent (cell l.cells i) ≡ b → is_lent (cell l.cells i) ≡ false
    by false is = is
    by true is = out_or (out_now is)
