-- A write that stages a run, in its parts.
use Rattle.std.specs.Prelude.{◌≡◌, ◌⊎◌, ◌<◌, ◌≤◌, ◌+◌, ◌-◌, ◌*◌, ◌/◌, ◌%◌, ℕ, true, false, List, [], length, max, min, Option, Some, None, IsSome, slice_index, refl}
use Rattle.std.proofs.Common.{arith, ap, ◌∙◌, sym, subst, inl, inr}
use Rattle.std.proofs.lemmas.Bool.{cases_Bool, cases_lt}
use Rattle.live_model.specs.pm_model.ImageLaws.{IsImage-words_of}
use Rattle.live_model.specs.pm_model.Images.{words_of}
use Rattle.live_model.specs.pm_model.Words.{byte_of, Words}
use Rattle.live_model.specs.layout_model.Journal.{journaled}
use Rattle.live_model.specs.layout_model.Places.{Geometry, is_data_block}
use Rattle.live_model.specs.layout_model.declared.lines.Draft.{Draft}
use Rattle.live_model.specs.layout_model.declared.lines.Kind.{Kind}
use Rattle.live_model.specs.layout_model.declared.lines.Kind.TheVariants.{Directory, File, Free, Staging}
use Rattle.live_model.specs.extent_model.Extents.{disk_at, is_within}
use Rattle.live_model.specs.extent_model.declared.extent_words.Extent.{Extent}
use Rattle.live_model.specs.image_model.Content.{byte_in, disk_of}
use Rattle.live_model.specs.image_model.Rules.{IsKindAt}
use Rattle.live_model.specs.image_model.Volume.{extents, inode, Volume}
use Rattle.live_model.specs.file_overlay.declared.runs.Run.{Run}
use Rattle.live_model.specs.file_table.Files.{Files, size_in}
use Rattle.live_model.specs.k_split_model.View.{View}
use Rattle.live_model.specs.commute_laws.posix_types.declared.item.Item.{Item}
use Rattle.live_model.specs.posix_laws.Puts.{put_bytes}
use Rattle.live_model.specs.posix_spec.Put.{Put}
use Rattle.live_model.specs.posix_spec.Run.{run}
use Rattle.live_model.specs.posix_spec.State.{State}
use Rattle.live_model.specs.crash_spec.Posix.{LastBeforeCut}
use Rattle.live_model.specs.world_model.Jobs.{HoldsWhole, staged_block}
use Rattle.live_model.specs.world_model.Landed.{within_bounds}
use Rattle.live_model.specs.world_model.Lent.{disk_of-in_data, in_data}
use Rattle.live_model.specs.world_model.Stands.{is_used, IsSane, IsUsed, LogStands}
use Rattle.posix_mode_laws.specs.Sides.{IsFresh, PosixWorld}
use Rattle.batch_laws.specs.Ready.{GoesReady}
use Rattle.batch_laws.specs.Standing.{draft_of_run, sides_of, staged_of}
use Rattle.batch_laws.specs.WorldsLaws.{below_files, cut_is_world}
use Rattle.world_write_laws.specs.PlaceSteps.{staging_below}
use Rattle.batch_write_laws.specs.Cutting.{log_plain}
use Rattle.batch_write_laws.specs.Pieces.{PartsGoOn, SettledIsSettled, WritesCopy}
use Rattle.batch_write_laws.specs.Places.{place_mapped, place_seen}
use Rattle.batch_write_laws.specs.RunLaws.{staged_goes_on}
use Rattle.batch_write_laws.specs.StagedSeen.{disk_in, disk_out, not_within, range, some_stands}
use Rattle.batch_write_laws.specs.Words.{put_end, WritesWords}
use Rattle.batch_write_laws.specs.WordsLaws.{IsRange}
use Rattle.batch_write_laws.specs.Writes.{HasTheRest, IsBlockOf, IsNoBlock, LaysRun, PutsInto, StagesWords}

small : (i : ℕ) → i % 4096 < 4096
small i = omega arith

same_byte : (i j : ℕ) → i / 4096 ≡ j / 4096 → i % 4096 ≡ j % 4096 → i ≡ j
same_byte i j block rest = omega (arith, block, rest)

there_is : (o : Option ℕ) → IsSome o → (b : ℕ) × (o ≡ Some b)
there_is None is = cc
there_is (Some b) is = (b, refl)

min_both : (a b i : ℕ) → i < min a b → (i < a) × (i < b)
min_both a b i below = (grind (arith, below), grind (arith, below))

below_min : (a b i : ℕ) → i < a → i < b → i < min a b
below_min a b i first second = grind (arith, first, second)

max_both : (a b i : ℕ) → max a b ≤ i → (a ≤ i) × (b ≤ i)
max_both a b i from = (grind (arith, from), grind (arith, from))

from_max : (a b i : ℕ) → a ≤ i → b ≤ i → max a b ≤ i
from_max a b i first second = grind (arith, first, second)

module _ (g : Geometry) (k : View) (files e : Files) (count : ℕ) (numbers : List ℕ) (start : State) (history : List Item) (item : Item) (ino : ℕ) (p : Put) (r : Run) (f u h : Words)
    (ready : GoesReady g k files count numbers start history) (puts : PutsInto k.volume numbers (run start history) item ino p)
    (laid : LaysRun k.volume files e ino (length (put_bytes (run start history) p)) r) (rest : HasTheRest r (size_in files ino) p)
    (filled : HoldsWhole k.volume f (draft_of_run k.volume e ino r) (put_bytes (run start history) p))
    (front : WritesWords k.volume (staged_of k.volume files) ino p.place (min (put_end p) (4096 * r.file_block)) (put_bytes (run start history) p) IsNoBlock f u)
    (copy : WritesCopy k.volume [] ino (max p.place (4096 * r.file_block)) (min (put_end p) (inode k.volume ino).size) (put_bytes (run start history) p) u h) where
  abbrev v : Volume
  v = k.volume

  abbrev staged : List Draft
  staged = staged_of k.volume files

  abbrev entry : Draft
  entry = draft_of_run k.volume e ino r

  abbrev whole : List ℕ
  whole = put_bytes (run start history) p

  -- where the run begins
  abbrev head : ℕ
  head = 4096 * r.file_block

  used : IsUsed v ino
  used = ap is_used puts.file

  sane : IsSane v
  sane = (cut_is_world g k files count numbers start history (words_of k.cells) ready.going (IsImage-words_of k.cells)).valid.stands.sane

  none : LogStands v []
  none = (cut_is_world g k files count numbers start history (words_of k.cells) ready.going (IsImage-words_of k.cells)).valid.stands.log

  log : LogStands v staged
  log = log_plain files.sizes v staged (some_stands g k files e count numbers start history item ino p r ready puts laid rest).log

  lies : IsRange v staged (staged_of v e) ino p.place (put_end p) (size_in files ino) (IsBlockOf v r)
  lies = range g k files e count numbers start history item ino p r ready puts laid rest

  -- ---- the run

  run_stays : (b i : ℕ) → IsBlockOf v r b → i < 4096 → byte_of h (4096 * b + i) ≡ byte_of f (4096 * b + i)
  run_stays b i is low =
      let there : is_data_block v.geometry b ≡ true = in_data v sane r.staging (r.staging_block + is.0) b (staging_below v r.staging laid.staging) is.2 in
      copy.others b i there low (λ m from below same at. lies.unmapped ino (m / 4096) b used at is)
      ∙ front.others b i there low (λ never. never) (λ m from below same. (λ at. lies.unused ino (m / 4096) b used at is, λ short at. lies.unmapped ino (m / 4096) b used at is))

  holds : HoldsWhole v h (draft_of_run k.volume e ino r) whole
  holds n b i low at below = run_stays b i (n, low, at) below ∙ filled n b i low at below

  in_run : (i : ℕ) → is_within r.file_block r.count (i / 4096) ≡ true → byte_in h (disk_of v (staged_of v e) ino (i / 4096)) i ≡ slice_index whole i
  in_run i within = by (there_is (staged_block v entry (i / 4096 - r.file_block)) (laid.staged (i / 4096 - r.file_block) short)) where
    bounds : (r.file_block ≤ i / 4096) × (i / 4096 < r.file_block + r.count)
    bounds = let both = within_bounds r.file_block r.count (i / 4096) within in (omega (arith, both.0), omega (arith, both.1))

    short : i / 4096 - r.file_block < r.count
    short = let low = bounds.0 in let high = bounds.1 in omega (arith, low, high)

    by : (b : ℕ) × (staged_block v entry (i / 4096 - r.file_block) ≡ Some b) → byte_in h (disk_of v (staged_of v e) ino (i / 4096)) i ≡ slice_index whole i
    by (b, at) =
        let low = bounds.0 in
        let place : 4096 * (r.file_block + (i / 4096 - r.file_block)) + i % 4096 ≡ i = omega (arith, low) in
        ap (λ o. byte_in h o i) (disk_in g k files e count numbers start history item ino p r ready puts laid rest (i / 4096) within ∙ at)
        ∙ (holds (i / 4096 - r.file_block) b (i % 4096) short at (small i) ∙ ap (slice_index whole) place)

  -- ---- before the run

  -- where the calls see a byte before it, that stays in the last step
  front_stays : (i b : ℕ) → i < head → disk_of v staged ino (i / 4096) ≡ Some b → byte_of h (4096 * b + i % 4096) ≡ byte_of u (4096 * b + i % 4096)
  front_stays i b low at = copy.others b (i % 4096) (disk_of-in_data v staged sane log ino (i / 4096) b used at) (small i) (λ m from below same is. (
      let one = same_byte i m (place_mapped v staged sane log ino b used (i / 4096) (m / 4096) at is) (sym same) in
      let past = (max_both p.place head m from).1 in
      omega (arith, one, past, low)))

  before_run : (i : ℕ) → p.place ≤ i → i < put_end p → i < head → byte_in h (disk_of v staged ino (i / 4096)) i ≡ slice_index whole i
  before_run i from below low = by (disk_of v staged ino (i / 4096)) refl where
    by : (o : Option ℕ) → disk_of v staged ino (i / 4096) ≡ o → byte_in h (disk_of v staged ino (i / 4096)) i ≡ slice_index whole i
    by None at = ap (λ o. byte_in h o i) at ∙ (sym (ap (λ o. byte_in u o i) at) ∙ front.seen i from (below_min (put_end p) head i below low))
    by (Some b) at = ap (λ o. byte_in h o i) at ∙ (front_stays i b low at ∙ (sym (ap (λ o. byte_in u o i) at) ∙ front.seen i from (below_min (put_end p) head i below low)))

  seen : (i : ℕ) → p.place ≤ i → i < put_end p → (is_within r.file_block r.count (i / 4096) ≡ true) ⊎ (is_within r.file_block r.count (i / 4096) ≡ false)
      → byte_in h (disk_of v (staged_of v e) ino (i / 4096)) i ≡ slice_index whole i
  seen i from below (inl within) = in_run i within
  seen i from below (inr beside) =
      let ends = rest.ends in
      ap (λ o. byte_in h o i) (disk_out g k files e count numbers start history item ino p r ready puts laid rest (i / 4096) beside)
      ∙ before_run i from below (not_within r.file_block r.count i beside (omega (arith, below, ends)))

  -- ---- the file's own map

  mapped : (i : ℕ) → p.place ≤ i → i < put_end p → i < (inode v ino).size → byte_in h (disk_of v [] ino (i / 4096)) i ≡ slice_index whole i
  mapped i from below short = elim (cases_lt i head) [
    | inr past ↦ copy.seen i (from_max p.place head i from (omega (arith, past))) (below_min (put_end p) (inode v ino).size i below short)
    | inl low ↦ by low (disk_of v [] ino (i / 4096)) refl
  ] where
    by : i < head → (o : Option ℕ) → disk_of v [] ino (i / 4096) ≡ o → byte_in h (disk_of v [] ino (i / 4096)) i ≡ slice_index whole i
    by low None at = ap (λ o. byte_in h o i) at ∙ (sym (ap (λ o. byte_in u o i) at) ∙ front.mapped i from (below_min (put_end p) head i below low) short)
    by low (Some b) at =
        ap (λ o. byte_in h o i) at
        ∙ (copy.others b (i % 4096) (disk_of-in_data v [] sane none ino (i / 4096) b used at) (small i) (λ m m_from m_below same is. (
        let one = same_byte i m (place_seen v [] sane none ino b used (i / 4096) (m / 4096) at is) (sym same) in
        let past = (max_both p.place head m m_from).1 in
        omega (arith, one, past, low)))
        ∙ (sym (ap (λ o. byte_in u o i) at) ∙ front.mapped i from (below_min (put_end p) head i below low) short))

  parts : StagesWords v files e ino p.place (put_end p) whole r f h
  parts = record {
    place = record {
      seen = λ i from below. seen i from below (cases_Bool (is_within r.file_block r.count (i / 4096)));
      mapped = mapped;
      others = λ b j there low out apart.
          copy.others b j there low (λ m from below same is. (
          let short = min_both (put_end p) (inode v ino).size m below in
          (apart m (max_both p.place head m from).0 short.0 same).1 short.1 is))
          ∙ front.others b j there low (λ never. never) (λ m from below same. (
          let short = min_both (put_end p) head m below in (
            λ is. (apart m from short.0 same).0 (out_of m b short.1 is),
            λ low_m is. (apart m from short.0 same).1 low_m is,
          )));
    };
    run = holds;
  } where
    -- a block before the run is none of it
    out_of : (m b : ℕ) → m < head → disk_of v staged ino (m / 4096) ≡ Some b → disk_of v (staged_of v e) ino (m / 4096) ≡ Some b
    out_of m b low is = elim (cases_Bool (is_within r.file_block r.count (m / 4096))) [
      | inr beside ↦ disk_out g k files e count numbers start history item ino p r ready puts laid rest (m / 4096) beside ∙ is
      | inl within ↦ absurd (let both = within_bounds r.file_block r.count (m / 4096) within in let from = both.0 in omega (arith, from, low))
    ]

pub parts_go_on : PartsGoOn
parts_go_on g k l files e count numbers start history item ino p r ready puts laid rest gap settled holds wrote =
    staged_goes_on g k l files e count numbers start history item ino p r ready puts laid rest gap settled (record {
      same = wrote.same;
      order = wrote.order;
      lent = wrote.lent;
      singles = wrote.singles;
      each_image = λ image is. (
          let from = wrote.each_image image is in
          let words = from.2.words in (
            from.0,
            from.1,
            record {
              beside = from.2.beside;
              words =
                  parts g k files e count numbers start history item ino p r (journaled from.0) words.0 (journaled image) ready puts laid rest (holds from.0 from.1.is_image) words.1 words.2;
            },
          ));
    })

-- ---- settled blocks

staging_low : (v : Volume) → IsSane v → (ino : ℕ) → (inode v ino).kind ≡ Staging → ino < 5
staging_low v sane ino kind =
    let at = sane.kept.kinds ino (subst (λ n. ino < n) sane.inode_count (staging_below v ino kind)) in
    by (inode v ino).kind kind at where
      by : (found : Kind) → found ≡ Staging → IsKindAt ino found → ino < 5
      by Free is at = cc
      by Directory is at = cc
      by File is at = cc
      by Staging is at = let most = at.1 in omega (arith, most)

file_high : (v : Volume) → IsSane v → (ino : ℕ) → (inode v ino).kind ≡ File → 5 ≤ ino
file_high v sane ino kind =
    subst (IsKindAt ino) kind (sane.kept.kinds ino (subst (λ n. ino < n) sane.inode_count (below_files v ino kind)))

pub settled_is_settled : SettledIsSettled
settled_is_settled g k files count numbers start history ino block b ready no_map file at same = elim (world.blocks.mapped ino block b (ap is_used file) at) [
  | inl is ↦ is
  | inr fresh ↦ absurd (by (inode k.committed ino).kind refl fresh)
] where
  world : PosixWorld LastBeforeCut (sides_of k files ready.going.old_numbers numbers) (journaled (words_of k.cells)) start ready.going.front ready.going.later
  world = ready.going.world (words_of k.cells) (IsImage-words_of k.cells)

  committed_at : disk_at (extents k.committed ino) block ≡ Some b
  committed_at = same ∙ at

  high : 5 ≤ ino
  high = file_high k.volume (cut_is_world g k files count numbers start history (words_of k.cells) ready.going (IsImage-words_of k.cells)).valid.stands.sane ino file

  by : (kind : Kind) → (inode k.committed ino).kind ≡ kind → IsFresh k.committed b → ⊥
  by Free is fresh = let never : None ≡ Some b = sym (ap (λ (es : List Extent). disk_at es block) (no_map ino is)) ∙ committed_at in cc
  by Staging is fresh = let low = staging_low k.committed world.medium.stands.sane ino is in omega (arith, low, high)
  by Directory is fresh = fresh.files ino block (ap is_used is) committed_at
  by File is fresh = fresh.files ino block (ap is_used is) committed_at
