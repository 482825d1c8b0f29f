-- What the World says of a file whose holes are filled: its size, and a run that is out for each staged block.
use Rattle.std.specs.Prelude.{◌≡◌, ◌≤◌, ◌<◌, ◌*◌, ◌/◌, ◌==◌, ℕ, true, Contains, List, length, filter, Option, Some, None, IsSome, refl}
use Rattle.std.proofs.Common.{arith, ap, ◌∙◌}
use Rattle.std.proofs.lemmas.Bool.Decides.{nat_tests}
use Rattle.live_step_laws.specs.block_counts.Counts.{blocks_for}
use Rattle.live_step_laws.specs.block_counts.declared.TheConstants.{LONGEST_FILE}
use Rattle.live_step_laws.specs.layout_model.Entries.{is_draft}
use Rattle.live_step_laws.specs.layout_model.Lines.{is_inode_of_kind}
use Rattle.live_step_laws.specs.layout_model.declared.lines.Draft.{Draft}
use Rattle.live_step_laws.specs.layout_model.declared.lines.Inode.{Inode}
use Rattle.live_step_laws.specs.layout_model.declared.lines.Kind.{Kind}
use Rattle.live_step_laws.specs.layout_model.declared.lines.Kind.TheVariants.{Directory, File, Free, Staging}
use Rattle.live_step_laws.specs.image_model.Content.{size_by}
use Rattle.live_step_laws.specs.image_model.Live.{latest}
use Rattle.live_step_laws.specs.image_model.Volume.{inode}
use Rattle.live_step_laws.specs.k_split_model.View.{View}
use Rattle.live_step_laws.specs.list_laws.Filters.{filter-In}
use Rattle.live_step_laws.specs.live_model.file_table.Files.{Files, runs_in, size_in}
use Rattle.live_step_laws.specs.live_model.Standing.{reserved_run}
use Rattle.live_step_laws.specs.staging_files.Keeps.{Staged}
use Rattle.live_step_laws.specs.world_model.Jobs.{live_claims}
use Rattle.live_step_laws.specs.world_model.Latest.{latest-In}
use Rattle.live_step_laws.specs.world_model.Stands.{is_used}
use Rattle.live_step_laws.specs.world_model.TreeRules.{used_below}
use Rattle.write_plan.specs.file_overlay.Runs.{staged_at}
use Rattle.in_place.specs.Gaps.{with_files}
use Rattle.in_place.proofs.Zeroed.{entry}
use Rattle.in_place.specs.Holes.{HasRuns}

few_bytes : (kind : Kind) (x : Inode) → is_inode_of_kind kind x ≡ true → x.size ≤ LONGEST_FILE
few_bytes Free x is = grind (arith, nat_tests, is)
few_bytes Directory x is = grind (arith, nat_tests, is)
few_bytes File x is = grind (arith, nat_tests, is)
few_bytes Staging x is = grind (arith, nat_tests, is)

draft_small : (d : Draft) → is_draft d ≡ true → d.size ≤ LONGEST_FILE
draft_small d is = grind (arith, nat_tests, is)

module _ (k : View) (staging : Staged) (files : Files) (ino : ℕ) (world : HasRuns k staging files ino) where
  abbrev live : List Draft
  live = live_claims k.volume world.has.kept.claims

  by_latest : (o : Option Draft) → latest (filter (λ (d : Draft). d.ino == ino) live) ≡ o → size_by o (inode k.volume ino).size ≤ LONGEST_FILE
  by_latest None is = few_bytes (inode k.volume ino).kind (inode k.volume ino) (world.has.stands.order.whole.inodes ino)
  by_latest (Some d) is =
      let there = (filter-In (λ (x : Draft). x.ino == ino) live d (latest-In (filter (λ (x : Draft). x.ino == ino) live) d is)).0 in
      draft_small d (world.has.stands.drafts d there).fields

  small_size : size_in files ino ≤ LONGEST_FILE
  small_size = let small = by_latest (latest (filter (λ (d : Draft). d.ino == ino) live)) refl in let is = world.has.stands.sizes.files ino world.has.file in omega (arith, small, is)

  -- so all its blocks are below 4,096
  pub blocks_fit : blocks_for (size_in files ino) ≤ 4096
  blocks_fit = let small = small_size in omega (arith, small)

  -- the table has a line of it
  pub line_there : ino < length files.sizes
  line_there = let low = used_below k.volume ino (ap is_used world.has.file) in let count = world.has.stands.sizes.count in omega (arith, low, count)

  -- a run is out for a staged block
  pub out_where_staged : (m : ℕ) → IsSome (staged_at (runs_in files ino) m) → 1 ≤ length staging.out
  out_where_staged m some = by (staged_at (runs_in files ino) m) refl some where
    by : (o : Option (ℕ × ℕ)) → staged_at (runs_in files ino) m ≡ o → IsSome o → 1 ≤ length staging.out
    by None is some_is = cc
    by (Some place) is some_is =
        let here : 4096 * m / 4096 ≡ m = omega arith in
        let its = entry world.has.g k world.has.t (with_files world.has.kept files) world.has.lines world.has.n world.has.s ino (4096 * m) place.0 place.1 world.has.stands
        (record { file = world.has.file; at = ap (staged_at (runs_in files ino)) here ∙ is }) in
        let out : Contains world.has.kept.staging.out (reserved_run its.e) = world.has.stands.claims_out its.e its.there in
        let same = ap (λ (x : Staged). length x.out) world.staging_is in
        omega (arith, out.1, same)
