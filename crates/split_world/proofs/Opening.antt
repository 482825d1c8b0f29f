-- The parts of a World that begins.
use Rattle.std.specs.Prelude.{◌≡◌, ◌≢◌, ◌≤◌, true, false, [], length, None, vec_len}
use Rattle.std.specs.Vec.{vec_capacity}
use Rattle.std.proofs.Common.{arith, ap, sym, subst}
use Rattle.world_rounds.specs.round_laws.posix_spec.Tree.{start}
use Rattle.world_rounds.specs.round_laws.posix_tables.Open.{nothing_open, Tables}
use Rattle.world_begins.specs.world_parts.in_flight.Counters.{AreCounts}
use Rattle.world_begins.specs.world_parts.in_flight.staging_files.Keeps.{Staged}
use Rattle.world_rounds.specs.round_laws.StartsLaws.{BeginsOver, first_view, MayStart, ShowsAs, StartsGoing, WasMounted}
use Rattle.world_rounds.specs.round_laws.Sizes.{HasSizesOf}
use Rattle.world_begins.proofs.world_parts_proofs.world_view_laws_proofs.Ending.{no_both}
use Rattle.world_begins.specs.world_parts.in_flight.staging_files.GivesUp.{nothing_staged}
use Rattle.world_begins.specs.world_parts.world_view_laws.Starts.{AreInLimits}
use Rattle.world_begins.specs.world_parts.world_view_laws.Views.{disk_of, IsWorldOver, WorldView}
use Rattle.posix_types.specs.declared.call.Mode.{Mode}
use Rattle.world_begins.specs.world_parts.declared.parts.Parts.{Parts}
use Rattle.world_begins.specs.world_parts.Seen.{HasRoom, IsKept, seen, unfinished_of}

-- nothing is done in them
pub record IsFirst (p : Parts) : Type 0 where
  pub tables : p.tables.tables ≡ nothing_open
  pub staging : p.staging ≡ nothing_staged
  pub geometry : p.geometry ≡ p.k.volume.geometry
  pub base : p.base ≡ p.k.volume.base
  pub history : p.history.items ≡ []
  pub settled : p.settled ≡ 0
  pub claims : p.claims.items ≡ []
  pub pending : p.pending.items ≡ []
  pub unfinished : p.unfinished ≡ None
  pub over : p.over ≡ None
  pub given_up : p.given_up ≡ 0
  pub acts : p.acts ≡ 0
  pub lines_out : p.lines_out ≡ false
  pub home : p.home.items ≡ []
  pub first : p.first.items ≡ []
  pub lost : p.lost ≡ false
  pub usable : p.usable ≡ true
  pub counts : AreCounts p.counters.setup p.counters.threads []
  pub no_item : vec_len p.history ≡ 0
  pub no_claim : vec_len p.claims ≡ 0
  pub spare : p.spare.items ≡ []
  pub one : 1 ≤ vec_capacity p.spare

module _ (p : Parts) (is : IsFirst p) where
  first_seen : seen p ≡ first_view p.k p.files p.tree p.shape p.mode p.scripts
  first_seen = λ i. record {
    geometry = is.geometry i;
    base = is.base i;
    start = start p.tree p.shape p.mode;
    scripts = p.scripts;
    history = is.history i;
    settled = is.settled i;
    claims = is.claims i;
    pending = is.pending i;
    unfinished = unfinished_of (is.unfinished i);
    over = is.over i;
    given_up = is.given_up i;
    acts = is.acts i;
    disk = disk_of p.k (is.tables i) (is.staging i) p.files;
    lines_out = is.lines_out i;
    home = is.home i;
    first = is.first i;
    lost = is.lost i;
    usable = is.usable i;
  }

  none_out : length p.pending.items ≡ 0
  none_out = ap (λ xs. length xs) is.pending

  first_room : HasRoom p
  first_room = record {
    items = λ on. omega (arith, is.no_item, none_out);
    claims_on = λ on. omega (arith, is.no_claim, none_out);
    claims_off = λ off out. no_both p.lost off is.lost _;
    empty = is.spare;
    calls = omega (arith, none_out, is.one);
  }

  -- THE WORLD OF THESE PARTS begins.
  first_kept : StartsGoing → WasMounted p.k → p.mode ≢ Mode.Posix → AreInLimits p.scripts → ShowsAs p.k p.tree p.shape → HasSizesOf p.k.volume p.files → IsKept p
  first_kept law was other limits shown sizes =
      let may : MayStart was.0 was.1 p.k p.tree p.shape p.mode p.scripts = record { mounted = was.2; shown = shown; mode_is = other; limits = limits } in
      let going = law was.0 was.1 p.k p.tree p.shape p.mode p.scripts p.files may sizes in
      record {
        world = subst (λ (w : WorldView). IsWorldOver p.k p.tables.tables p.staging p.files w) (sym first_seen)
            (subst (λ (x : Staged). IsWorldOver p.k p.tables.tables x p.files (first_view p.k p.files p.tree p.shape p.mode p.scripts)) (sym is.staging)
            (subst (λ (t : Tables). IsWorldOver p.k t nothing_staged p.files (first_view p.k p.files p.tree p.shape p.mode p.scripts)) (sym is.tables) going));
        counts = subst (AreCounts p.counters.setup p.counters.threads) (sym is.history) is.counts;
        room = first_room;
      }

  -- and begins over the device
  pub first_begun : StartsGoing → WasMounted p.k → p.mode ≢ Mode.Posix → AreInLimits p.scripts → ShowsAs p.k p.tree p.shape → HasSizesOf p.k.volume p.files → IsKept p × BeginsOver p.k p.mode p.scripts (seen p)
  first_begun law was other limits shown sizes = (first_kept law was other limits shown sizes, record { tree = p.tree; shape = p.shape; files = p.files; shown = shown; world_is = first_seen })
