-- Orders of a file's runs, and the entry that is next.
use Rattle.std.proofs.Common.{◌≡◌, ◌≤◌, ◌<◌, ◌+◌, ◌-◌, ◌/◌, ◌^◌, ◌==◌, ◌&&◌, ◌∷◌, [], ℕ, true, List, length, get_or, refl, arith, ap, ◌∙◌, sym, subst}
use Rattle.std.specs.Prelude.{Contains, map, max, nat_lt}
use Rattle.std.proofs.lemmas.Bool.Decides.{nat_tests}
use Rattle.file_table.specs.pm_model.ImageLaws.{IsImage-words_of}
use Rattle.file_table.specs.pm_model.Images.{words_of}
use Rattle.layout_model.specs.declared.lines.Draft.{Draft}
use Rattle.layout_model.specs.declared.lines.Kind.TheVariants.{File}
use Rattle.layout_model.specs.Entries.{is_draft}
use Rattle.layout_model.specs.block_counts.declared.TheConstants.{LONGEST_FILE}
use Rattle.live_model.specs.image_model.Live.{is_file, is_live}
use Rattle.live_model.specs.image_model.Volume.{inode, Volume}
use Rattle.file_overlay.specs.declared.runs.Run.{Run}
use Rattle.file_table.specs.Files.{runs_in}
use Rattle.live_model.specs.Overlays.{run_of}
use Rattle.live_model.specs.staging_files.declared.runs.StageRun.{StageRun}
use Rattle.live_model.specs.staging_files.Keeps.{given_to, IsPlaced, IsStaged, Staged}
use Rattle.live_model.specs.world_model.Jobs.{live_claims}
use Rattle.live_model.specs.world_model.Stands.{Consecutive, entries_of}
use Rattle.write_plan.specs.Drafts.{draft_in, DraftsAreNext, order_behind}
use Rattle.write_plan.specs.Shown.{DraftsAreNextShown}
use Rattle.layout_model.specs.Journal.{journaled}
use Rattle.eof_laws.specs.block_io.Overwrites.{blocks_reached}

-- the order of the last run, and one
pub behind_last : (applied : ℕ) (run : Run) (runs : List Run) (d : Run) → order_behind applied (run ∷ runs) ≡ (get_or (run ∷ runs) (length runs) d).order + 1
behind_last applied run [] d = refl
behind_last applied run (next ∷ runs) d = behind_last run.order next runs d

pub last_order : (applied : ℕ) (runs : List Run) (d : Run) → 0 < length runs → order_behind applied runs ≡ (get_or runs (length runs - 1) d).order + 1
last_order applied [] d some = absurd (omega (arith, some))
last_order applied (run ∷ runs) d some = behind_last applied run runs d ∙ ap (λ n. (get_or (run ∷ runs) n d).order + 1) (omega arith)

-- behind entries that go on one by one
behind_entries : (last : ℕ) (entries : List Draft) → Consecutive last entries → order_behind last (map run_of entries) ≡ last + length entries + 1
behind_entries last [] go = omega arith
behind_entries last (d ∷ entries) go =
    ap (λ o. order_behind o (map run_of entries)) go.0 ∙ (behind_entries (last + 1) entries go.1 ∙ omega arith)

-- the numbers of the entry are in range
in_range : (count order file_block staging staging_block size ino generation staging_generation : ℕ) → 1 ≤ count → count ≤ 33 → 1 ≤ order → order ≤ 2 ^ 63 → file_block + count ≤ 4096 → 1 ≤ staging → staging ≤ 4
    → staging_block + count ≤ 64 → size ≤ LONGEST_FILE
    → is_draft (record { count = count; order = order; ino = ino; generation = generation; file_block = file_block; staging = staging; staging_block = staging_block; staging_generation = staging_generation; size = size }) ≡ true
in_range count order file_block staging staging_block size ino generation staging_generation a b c d e f g h i = grind (arith, nat_tests)

-- how many blocks are staged
few_staged : (start len : ℕ) → 1 ≤ len → len ≤ 131072 → start + len ≤ LONGEST_FILE → (1 ≤ blocks_reached start len) × (blocks_reached start len ≤ 33) × (start / 4096 + blocks_reached start len ≤ 4096)
few_staged start len some most fits = (omega (arith, some), omega (arith, most), omega (arith, fits, some))

-- a run that is out is in its place
placed_of : (staging : Staged) (run : StageRun) → IsStaged staging → Contains staging.out run → IsPlaced staging run
placed_of staging run staged (i, below, is) = subst (IsPlaced staging) is (staged.placed i run below)

given_most : (staging : Staged) (x : ℕ) → IsStaged staging → 1 ≤ x → x ≤ 4 → given_to staging x ≤ 64
given_most staging x staged least most = staged.most (x - 1) 0 (omega (arith, staged.files, least, most))

live_of : (v : Volume) (d : Draft) → (inode v d.ino).kind ≡ File → (inode v d.ino).generation ≡ d.generation → (inode v d.ino).applied < d.order → (inode v d.staging).generation ≡ d.staging_generation → is_live v d ≡ true
live_of v d file generation above staging =
    let kind : is_file (inode v d.ino).kind ≡ true = ap is_file file in
    let own : ((inode v d.ino).generation == d.generation) ≡ true = grind (arith, nat_tests, generation) in
    let order : nat_lt (inode v d.ino).applied d.order ≡ true = grind (arith, nat_tests, above) in
    let theirs : ((inode v d.staging).generation == d.staging_generation) ≡ true = grind (arith, nat_tests, staging) in
    λ i. kind i && own i && order i && theirs i

pub drafts_are_next_shown : DraftsAreNextShown
drafts_are_next_shown v claims jobs f files staging numbers s count n target len run world overlays staged low few file has = record {
  fields = in_range run.count (order_behind (inode v target.ino).applied (runs_in files target.ino)) (target.start / 4096) run.staging run.block (max target.size (target.start + len)) target.ino (inode v target.ino).generation run.generation
      (omega (arith, blocks.0, has.count_is)) (omega (arith, blocks.1, has.count_is)) (omega (arith, order_is)) (omega (arith, order_is, low, few)) (omega (arith, blocks.2, has.count_is))
      placed.staging.least placed.staging.most (omega (arith, placed.inside, given_most staging run.staging staged placed.staging.least placed.staging.most)) (omega (arith, has.size, has.fits));
  alive = live_of v (draft_in v files target len run) file refl (omega (arith, order_is)) (sym has.generation);
  order = order_is;
} where
  order_is : order_behind (inode v target.ino).applied (runs_in files target.ino) ≡ (inode v target.ino).applied + length (entries_of target.ino (live_claims v claims)) + 1
  order_is =
      ap (order_behind (inode v target.ino).applied) (overlays target.ino file).runs_are
      ∙ behind_entries (inode v target.ino).applied (entries_of target.ino (live_claims v claims)) (world.valid.stands.log.orders target.ino)

  placed : IsPlaced staging run
  placed = placed_of staging run staged has.out

  blocks : (1 ≤ blocks_reached target.start len) × (blocks_reached target.start len ≤ 33) × (target.start / 4096 + blocks_reached target.start len ≤ 4096)
  blocks = few_staged target.start len has.some has.most has.fits

pub drafts_are_next : DraftsAreNext
drafts_are_next g k t kept lines n s target len run stands few file has =
    drafts_are_next_shown k.volume kept.claims stands.jobs (journaled (words_of k.cells)) kept.files kept.staging stands.numbers s stands.count n target len run (stands.flying.device.world (words_of k.cells) (IsImage-words_of k.cells))
    stands.flying.overlays stands.staged (stands.low target.ino) few file has
