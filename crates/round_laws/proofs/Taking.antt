-- With the log's lines at home a round may begin.
use Rattle.std.specs.Prelude.{◌≡◌, ◌≤◌, ◌+◌, ◌*◌, ◌/◌, ◌^◌, false}
use Rattle.std.proofs.Common.{arith, ap, sym, subst}
use Rattle.std.proofs.Math.Nat.{mul-le-mul}
use Rattle.world_view_laws.specs.eof_laws.layout_model.PlaceLaws.{behind_log-not_journaled, behind_log-words}
use Rattle.world_view_laws.specs.eof_laws.layout_model.Places.{Geometry}
use Rattle.world_view_laws.specs.eof_laws.file_table.Files.{Files}
use Rattle.world_view_laws.specs.file_publish.k_split.Laps.{HasSingleLog}
use Rattle.world_view_laws.specs.file_publish.staging_files.Keeps.{Staged}
use Rattle.world_view_laws.specs.file_publish.live_model.Standing.{IsQuietBeside}
use Rattle.world_view_laws.specs.eof_laws.k_split_model.View.{View}
use Rattle.world_view_laws.specs.eof_laws.posix_tables.Open.{Tables}
use Rattle.world_view_laws.specs.in_flight.Counts.{history_within}
use Rattle.world_view_laws.proofs.Modes.{device_on, geometry_now, order_now, quiet_beside}
use Rattle.world_view_laws.specs.Views.{IsGoing, IsWorldOver, WorldView}
use Rattle.round_laws.specs.EndsLaws.{MayBegin, MayTakeLog}

module _ (k : View) (t : Tables) (staging : Staged) (files : Files) (w : WorldView) (world : IsWorldOver k t staging files w) (on : w.lost ≡ false) (home : w.lines_out ≡ false) where
  going : IsGoing k t staging files w
  going = world.going on

  same_places : k.volume.geometry ≡ w.geometry
  same_places = geometry_now k t staging files w going

  -- each word of the log is alone
  single_log : HasSingleLog k
  single_log i at =
      let quiet = subst (λ (g : Geometry). IsQuietBeside g k.cells) (sym same_places) (quiet_beside k t staging files w going) in
      quiet i (behind_log-words k.volume.geometry i (omega (arith, at.from))) (behind_log-not_journaled k.volume.geometry (i / 8) at.from) ((going.log_home home).home i)

  -- the log has few lines
  few_lines : w.geometry.log ≤ 4096
  few_lines = let most = (order_now k t staging files w going).whole.kept.geometry.most_log in omega (arith, most, ap (λ (g : Geometry). g.log) same_places)

  -- the base is low
  low_base : w.base ≤ 2 ^ 63
  low_base =
      let few : w.settled ≤ 4096 = omega (arith, world.counted.settled, history_within w.scripts w.history world.scripted, world.few) in
      let more : w.settled + 1 ≤ 4097 = omega (arith, few) in
      let laps : w.geometry.log * (w.settled + 1) ≤ 4096 * 4097 = mul-le-mul few_lines more in
      omega (arith, laps, world.counted.low)

  may_take : MayTakeLog k w
  may_take = record { on = device_on k t staging files w going; single = single_log; low = low_base; few = few_lines }

pub may_begin : MayBegin
may_begin k t staging files w world on home = may_take k t staging files w world on home
