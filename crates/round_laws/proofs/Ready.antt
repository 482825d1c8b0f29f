-- What a gathering asks for is there, once the lines of a round are home.
use Rattle.std.specs.Prelude.{◌≡◌, ◌≤◌, ◌<◌, ◌+◌, ◌*◌, ◌/◌, ◌%◌, ◌^◌, ◌==◌, ℕ, Bool, true, false, All, List, filter, length, Option, Some, None, refl}
use Rattle.std.proofs.Common.{arith, ap, ◌∙◌, sym, subst, inl, inr}
use Rattle.std.proofs.lemmas.Bool.Decides.{nat_tests}
use Rattle.std.proofs.lemmas.List.{get_or_default}
use Rattle.std.proofs.Math.Nat.{mul-le-mul}
use Rattle.world_view_laws.specs.eof_laws.pm_model.ImageLaws.{IsImage-words_of}
use Rattle.world_view_laws.specs.eof_laws.pm_model.Images.{words_of}
use Rattle.world_view_laws.specs.eof_laws.pm_model.Parts.{Part}
use Rattle.world_view_laws.specs.eof_laws.pm_model.Words.{line_bytes, Words}
use Rattle.world_view_laws.specs.write_end.CrashesLaws.{LinesHoldOut}
use Rattle.world_view_laws.specs.eof_laws.layout_model.declared.lines.Draft.{Draft}
use Rattle.world_view_laws.specs.eof_laws.layout_model.declared.lines.Inode.{Inode}
use Rattle.world_view_laws.specs.eof_laws.layout_model.declared.lines.Kind.{Kind}
use Rattle.world_view_laws.specs.eof_laws.layout_model.declared.lines.Kind.TheVariants.{Directory, File, Free, Staging}
use Rattle.world_view_laws.specs.eof_laws.layout_model.Entries.{is_draft}
use Rattle.world_view_laws.specs.eof_laws.layout_model.LineLaws.{IsInodeLine-decode_inode}
use Rattle.world_view_laws.specs.eof_laws.layout_model.block_counts.declared.TheConstants.{LONGEST_FILE}
use Rattle.world_view_laws.specs.eof_laws.layout_model.Lines.{is_inode_of_kind}
use Rattle.world_view_laws.specs.eof_laws.layout_model.Journal.{journaled}
use Rattle.world_view_laws.specs.eof_laws.layout_model.PlaceLaws.{behind_log-not_journaled, behind_log-words}
use Rattle.world_view_laws.specs.eof_laws.layout_model.Places.{Geometry, inode_line, is_data_block, log_block}
use Rattle.world_view_laws.specs.eof_laws.image_model.Content.{size_by}
use Rattle.world_view_laws.specs.eof_laws.image_model.Live.{latest}
use Rattle.world_view_laws.specs.eof_laws.image_model.Reading.{Reads}
use Rattle.world_view_laws.specs.eof_laws.image_model.Rules.{file_blocks_of}
use Rattle.world_view_laws.specs.eof_laws.image_model.Volume.{extents, inode, Volume}
use Rattle.world_view_laws.specs.eof_laws.file_table.Files.{Files, size_in}
use Rattle.world_view_laws.specs.file_publish.k_split.Laps.{HasNextLap}
use Rattle.world_view_laws.specs.file_publish.staging_files.GivesUp.{AllStagedSingle}
use Rattle.world_view_laws.specs.file_publish.staging_files.Keeps.{Staged}
use Rattle.world_view_laws.specs.file_publish.live_model.Standing.{IsQuietBeside, Kept, StandsAt}
use Rattle.world_view_laws.specs.file_publish.RoundLinesLaws.{StandsHome}
use Rattle.world_view_laws.specs.eof_laws.k_split_model.View.{View}
use Rattle.world_view_laws.specs.eof_laws.list_laws.Filters.{filter-In}
use Rattle.world_view_laws.specs.eof_laws.posix_spec.State.{State}
use Rattle.world_view_laws.specs.eof_laws.posix_tables.Open.{Tables}
use Rattle.world_view_laws.specs.write_end.world_model.Jobs.{live_claims}
use Rattle.world_view_laws.specs.in_flight.Counts.{history_within}
use Rattle.world_view_laws.specs.Views.{kept_of, state_of, WorldView}
use Rattle.world_view_laws.specs.file_publish.StandingLaws.{StandsToGather}
use Rattle.world_view_laws.specs.file_publish.log_checkpoint.volume_laws.PoolLaws.{covered-in_data}
use Rattle.world_view_laws.specs.eof_laws.volume_laws.LineWords.{data_word}
use Rattle.world_view_laws.specs.eof_laws.world_model.Latest.{latest-In}
use Rattle.round_laws.proofs.Counts.{file_or_not, few_gathered}
use Rattle.round_laws.proofs.EndsLines.{all_home, at_home, same_volume}
use Rattle.round_laws.specs.EndsLaws.{EndsReady, IsEnding, ReadyToGather}

-- ---- sizes

few_bytes : (kind : Kind) (x : Inode) → is_inode_of_kind kind x ≡ true → x.size ≤ LONGEST_FILE
few_bytes Free x ok = grind (arith, nat_tests)
few_bytes Directory x ok = grind (arith, nat_tests)
few_bytes File x ok = grind (arith, nat_tests)
few_bytes Staging x ok = grind (arith, nat_tests)

line_small : (g : Geometry) (f : Words) (v : Volume) → Reads g f v → (ino : ℕ) → ino < g.inodes → (inode v ino).size ≤ LONGEST_FILE
line_small g f v reads ino below = few_bytes (inode v ino).kind (inode v ino) (IsInodeLine-decode_inode (line_bytes f (inode_line ino)) (inode v ino) (reads.inodes ino below)).fields

draft_small : (d : Draft) → is_draft d ≡ true → d.size ≤ LONGEST_FILE
draft_small d is = grind (arith, nat_tests)

module _ (g : Geometry) (k : View) (t : Tables) (kept : Kept) (lines : Bool) (n : ℕ) (s : State) (stands : StandsAt g k t kept lines n s) where
  abbrev live : List Draft
  live = live_claims k.volume kept.claims

  module _ (ino : ℕ) (below : ino < length k.volume.inodes) where
    own_small : (inode k.volume ino).size ≤ LONGEST_FILE
    own_small = line_small k.volume.geometry (journaled (words_of k.cells)) k.volume (stands.flying.device.stands.reads (words_of k.cells) (IsImage-words_of k.cells)) ino (omega (arith, below, stands.order.whole.kept.all.inode_count))

    by_latest : (o : Option Draft) → latest (filter (λ (d : Draft). d.ino == ino) live) ≡ o → size_by o (inode k.volume ino).size ≤ LONGEST_FILE
    by_latest None is = own_small
    by_latest (Some d) is = draft_small d (stands.drafts d (filter-In (λ (y : Draft). y.ino == ino) live d (latest-In (filter (λ (y : Draft). y.ino == ino) live) d is)).0).fields

    size_small : size_in kept.files ino ≤ LONGEST_FILE
    size_small = elim (file_or_not (inode k.volume ino).kind) [
      | inl file ↦ (let small = by_latest (latest (filter (λ (d : Draft). d.ino == ino) live)) refl in omega (arith, small, stands.sizes.files ino file))
      | inr other ↦ omega (arith, stands.sizes.others ino other)
    ]

  -- NO SIZE THAT IS KEPT is more than a file may have.
  pub small_sizes : All (λ size. size ≤ LONGEST_FILE) kept.files.sizes
  small_sizes i d below = subst (λ size. size ≤ LONGEST_FILE) (get_or_default kept.files.sizes i 0 d below) (size_small i (omega (arith, below, stands.sizes.count)))

-- ---- the words of staged blocks

-- a word of a data block
behind : (g : Geometry) (i : ℕ) → is_data_block g (i / 512) ≡ true → 512 * log_block g ≤ i
behind g i in_data = let at = data_word g (i / 512) (i % 512) in_data (omega arith) in omega (arith, at)

module _ (turning : StandsHome) (holding : LinesHoldOut) (k l : View) (t : Tables) (staging : Staged) (files : Files) (w : WorldView) (lines : List Part) (ending : IsEnding k l t staging files w lines) where
  stands : StandsAt w.geometry l t (kept_of w staging files) false (length w.history) (state_of w)
  stands = at_home turning holding k l t staging files w lines ending ending.world.mode

  -- each word of the staging files' blocks is alone
  staged_single : AllStagedSingle l
  staged_single x is i has =
      let whole = stands.order.whole in
      let below : x < l.volume.geometry.inodes = omega (arith, is.most, whole.kept.geometry.least_inodes) in
      let in_data : is_data_block l.volume.geometry (i / 512) ≡ true = covered-in_data l.volume.geometry (file_blocks_of (inode l.volume x).kind) (extents l.volume x) (i / 512) (whole.kept.kept.in_data x below) has in
      let at = behind l.volume.geometry i in_data in
      let quiet = subst (λ (g : Geometry). IsQuietBeside g l.cells) (sym stands.geometry) stands.quiet in
      quiet i (behind_log-words l.volume.geometry i at) (behind_log-not_journaled l.volume.geometry (i / 8) (omega (arith, at))) (all_home turning holding k l t staging files w lines ending i)

  -- ---- how far the run came

  few_calls : length w.history ≤ 4096
  few_calls = omega (arith, history_within w.scripts w.history ending.world.scripted, ending.world.few)

  pub few_nodes : length w.history ≤ 2 ^ 62
  few_nodes = omega (arith, few_calls)

  same_places : l.volume.geometry ≡ w.geometry
  same_places = stands.geometry

  same_base : l.volume.base ≡ w.base
  same_base = ap (λ (v : Volume). v.base) (same_volume turning holding k l t staging files w lines ending) ∙ sym (ending.world.going ending.awake).base

  -- so many laps began
  pub next_lap : HasNextLap l
  next_lap =
      let most = stands.order.whole.kept.geometry.most_log in
      let log : w.geometry.log ≤ 4096 = omega (arith, most, ap (λ (g : Geometry). g.log) same_places) in
      let more : w.settled + 1 ≤ 4097 = omega (arith, ending.world.counted.settled, few_calls) in
      let laps : w.geometry.log * (w.settled + 1) ≤ 4096 * 4097 = mul-le-mul log more in
      let places : l.volume.geometry.log ≡ w.geometry.log = ap (λ (g : Geometry). g.log) same_places in
      omega (arith, laps, log, places, same_base, ending.world.counted.low)

  pub small_enough : All (λ size. size ≤ LONGEST_FILE) files.sizes
  small_enough = small_sizes w.geometry l t (kept_of w staging files) false (length w.history) (state_of w) stands

  ready : StandsToGather → ReadyToGather files l
  ready gathering = record {
    on = stands.on;
    unbatched = stands.unbatched;
    may = gathering w.geometry l t (kept_of w staging files) false (length w.history) (state_of w) stands few_nodes small_enough;
    single = staged_single;
    next = next_lap;
    few = few_gathered w.geometry l t (kept_of w staging files) (length w.history) (state_of w) stands;
  }

pub ends_ready : StandsHome → LinesHoldOut → StandsToGather → EndsReady
ends_ready turning holding gathering k l t staging files w lines ending = ready turning holding k l t staging files w lines ending gathering
