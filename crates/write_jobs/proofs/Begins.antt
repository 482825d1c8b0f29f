-- A job's blocks go out.
use Rattle.std.specs.Prelude.{◌≡◌, ◌≤◌, ◌<◌, ◌+◌, ◌*◌, ◌/◌, ◌%◌, ◌^◌, ◌&&◌, not, nat_le, ℕ, Bool, true, false, cond, List, [], ◌∷◌, ◌++◌, Some, refl, if◌then◌else◌}
use Rattle.std.proofs.Common.{arith, ap, ◌∙◌, sym, subst, inl, inr}
use Rattle.std.proofs.lemmas.Bool.{both_ways}
use Rattle.std.proofs.lemmas.Bool.Decides.{nat_tests}
use Rattle.pm_lines.specs.pm_model.Bytes.{line_bytes-same}
use Rattle.pm_lines.specs.pm_model.declared.Cell.{Cell}
use Rattle.pm_lines.specs.pm_model.CellLaws.{newest-candidate}
use Rattle.pm_lines.specs.pm_model.Cells.{cell, is_lent, IsCandidate, newest}
use Rattle.pm_lines.specs.pm_model.ImageLaws.{IsImage-words_of}
use Rattle.pm_lines.specs.pm_model.Images.{IsImage, words_of}
use Rattle.pm_lines.specs.pm_model.Words.{Words}
use Rattle.layout_model.specs.Journal.{committed, is_journal_word, journaled, record_target}
use Rattle.layout_model.specs.PlaceLaws.{behind_log-words}
use Rattle.layout_model.specs.Places.{base_word, commit_word, Geometry, is_data_block, is_journaled_line, log_block, record_line}
use Rattle.layout_model.specs.Superblock.{geometry_at, has_magic, has_numbers, has_version}
use Rattle.layout_model.specs.declared.lines.Draft.{Draft}
use Rattle.world_write_laws.specs.image_model.Checked.{HasHead}
use Rattle.world_write_laws.specs.image_model.Rules.{geometry_of}
use Rattle.world_write_laws.specs.image_model.Volume.{Volume}
use Rattle.world_write_laws.specs.volume_laws.ImageLaws.{journaled-idle, journaled-same}
use Rattle.world_write_laws.specs.volume_laws.LineWords.{data_word}
use Rattle.world_write_laws.specs.k_split_model.Stands.{Stands}
use Rattle.world_image_laws.specs.Images.{IsHeaded}
use Rattle.world_write_laws.specs.JobSteps.{begun, filled}
use Rattle.world_write_laws.specs.Free.{stays_free_begun}
use Rattle.world_write_laws.specs.world_model.Jobs.{IsStagedIn, Job, staged_block}
use Rattle.world_write_laws.specs.world_model.Shown.{IsLent, SameButLent}
use Rattle.write_jobs.specs.Blocks.{GoOut, IsBeside}
use Rattle.write_jobs.specs.Laws.{BeginsJob}
use Rattle.write_jobs.proofs.Blocks.{lent_any, staged_in_data}

-- ---- the head rests on the words before the log

abbrev AgreeLow : Geometry → Words → Words → Type 0
AgreeLow g f h = (w : ℕ) → w < 512 * log_block g → h w ≡ f w

journal_low : (g : Geometry) (w : ℕ) → is_journal_word w ≡ true → w < 512 * log_block g
journal_low g w is = let low : w < 2560 = grind (arith, nat_tests, is) in omega (arith, low)

record_words : (g : Geometry) (r : ℕ) → r < 128 → 8 * record_line r < 512 * log_block g
record_words g r below = omega (arith, below)

low_view : (g : Geometry) (f h : Words) → AgreeLow g f h → AgreeLow g (journaled f) (journaled h)
low_view g f h agree w below = journaled-same f h w (λ x journal. agree x (journal_low g x journal)) (agree w below)

head_low : (bytes : ℕ) (f h : Words) → HasHead bytes f → AgreeLow (geometry_of f) f h → HasHead bytes h × (geometry_of h ≡ geometry_of f)
head_low bytes f h head agree =
    let g = geometry_of f in
    let view = low_view g f h agree in
    let line = line_bytes-same h f 0 (λ i at. agree i (omega (arith, at))) in
    let geometry : geometry_of h ≡ g = ap geometry_at line in
    let commit : h commit_word ≡ f commit_word = agree commit_word (omega arith) in
    let base : journaled h base_word ≡ journaled f base_word = view base_word (omega arith) in
    let target : (r : ℕ) → r < 128 → record_target h r ≡ record_target f r = λ r below. agree (8 * record_line r) (record_words g r below) in
    let count : committed h ≡ committed f = ap (λ n. cond (nat_le n 128) n 0) commit in (
      record {
        whole_blocks = head.whole_blocks;
        magic = ap has_magic line ∙ head.magic;
        version = ap has_version line ∙ head.version;
        numbers = record {
          numbers = ap has_numbers line ∙ head.numbers.numbers;
          whole = head.numbers.whole ∙ ap (λ (k : Geometry). 4096 * k.blocks) (sym geometry);
          state = λ w from below. view w (omega (arith, below)) ∙ head.numbers.state w from below;
          others = λ w from below apart state. agree w (omega (arith, below)) ∙ head.numbers.others w from below apart state;
        };
        records = λ r below counted.
            ap (λ k. is_journaled_line k (record_target h r)) geometry ∙ ap (is_journaled_line g) (target r below)
            ∙ head.records r below (omega (arith, count, counted));
        state = record {
          count = omega (arith, commit, head.state.count);
          least_base = omega (arith, base, head.state.least_base);
          most_base = subst (λ n. n ≤ 2 ^ 63) (sym base) head.state.most_base;
        };
      },
      geometry,
    )

headed_low : (g : Geometry) (f h : Words) → IsHeaded g f → AgreeLow g f h → IsHeaded g h
headed_low g f h headed agree =
    let is = head_low (4096 * g.blocks) f h headed.head (subst (λ k. AgreeLow k f h) (sym headed.geometry) agree) in
    record { head = is.0; geometry = is.1 ∙ headed.geometry }

-- ---- an image with the blocks as they were

both_no : (b : Bool) → (b && not b) ≡ false
both_no true = refl
both_no false = refl

module _ (v : Volume) (d e : List Cell) (draft : Draft) (goes : GoOut v draft d e) (image : Words) (is : IsImage e image) where
  -- whether the word went out just now
  went : ℕ → Bool
  went i = is_lent (cell e i) && not (is_lent (cell d i))

  before : Words
  before i = if went i then newest (cell d i) else image i

  -- beside the blocks it is the image
  same_beside : (i : ℕ) → IsBeside v draft i → image i ≡ before i
  unfolding before went
  same_beside i apart =
      let stays : went i ≡ false = ap (λ c. is_lent c && not (is_lent (cell d i))) (goes.beside i apart) ∙ both_no (is_lent (cell d i)) in
      sym (ap (λ b. if b then newest (cell d i) else image i) stays)

  before_is : IsImage d before
  unfolding before went
  before_is i = by (is_lent (cell e i)) (is_lent (cell d i)) refl refl where
    by : (a b : Bool) → is_lent (cell e i) ≡ a → is_lent (cell d i) ≡ b → IsCandidate (cell d i) (if is_lent (cell e i) && not (is_lent (cell d i)) then newest (cell d i) else image i)
    by a true out home = lent_any (cell d i) (if is_lent (cell e i) && not (is_lent (cell d i)) then newest (cell d i) else image i) home
    by true false out home = subst (λ (b : Bool). IsCandidate (cell d i) (if b then newest (cell d i) else image i)) (sym ((λ k. out k && not (home k)))) (newest-candidate (cell d i))
    by false false out home =
        let apart : IsBeside v draft i = λ k b below at inside. both_ways (is_lent (cell e i)) out (goes.out k b i below at inside) in
        subst (λ (b : Bool). IsCandidate (cell d i) (if b then newest (cell d i) else image i)) (sym ((λ k. out k && not (home k)))) (subst (λ c. IsCandidate c (image i)) (goes.beside i apart) (is i))

-- ---- THE JOB BEGINS

lent_last : (v : Volume) (jobs : List Job) (j : Job) (b : ℕ) → IsStagedIn v j.draft b → IsLent v (jobs ++ j ∷ []) b
lent_last v [] j b is = inl is
lent_last v (x ∷ jobs) j b is = inr (lent_last v jobs j b is)

module _ (v : Volume) (d e : List Cell) (jobs : List Job) (j : Job) (goes : GoOut v j.draft d e) (old : Stands v.geometry v d)
    (in_data : (k b : ℕ) → staged_block v j.draft k ≡ Some b → is_data_block v.geometry b ≡ true) (image : Words) (is : IsImage e image) where
  -- a word before the log is in none of the blocks
  low_beside : (i : ℕ) → i < 512 * log_block v.geometry → IsBeside v j.draft i
  low_beside i low k b below at inside = let behind = data_word v.geometry b 0 (in_data k b at) (omega arith) in omega (arith, behind, low, inside)

  earlier : Words
  earlier = before v d e j.draft goes image is

  same_low : AgreeLow v.geometry earlier image
  unfolding earlier
  same_low w below = same_beside v d e j.draft goes image is w (low_beside w below)

  earlier_is : IsImage d earlier
  unfolding earlier
  earlier_is = before_is v d e j.draft goes image is

  idle : image commit_word ≡ 0
  idle = same_low commit_word (omega arith) ∙ subst (λ c. IsCandidate c (earlier commit_word)) old.idle (earlier_is commit_word)

  idle_earlier : earlier commit_word ≡ 0
  idle_earlier = subst (λ c. IsCandidate c (earlier commit_word)) old.idle (earlier_is commit_word)

  headed_still : IsHeaded v.geometry earlier → IsHeaded v.geometry image
  headed_still headed = headed_low v.geometry earlier image headed same_low

  same_but_lent : SameButLent v (jobs ++ j ∷ []) (journaled earlier) (journaled image)
  unfolding earlier
  same_but_lent b i data_block below lent =
      let w : ℕ = (4096 * b + i) / 8 in
      let word : w ≡ 512 * b + i / 8 = omega arith in
      let behind = behind_log-words v.geometry w (omega (arith, word, data_word v.geometry b (i / 8) data_block (omega (arith, below)))) in
      let apart : IsBeside v j.draft w =
      λ k c within at inside. (let same : c ≡ b = omega (arith, inside, word, below) in lent (lent_last v jobs j b (k, within, subst (λ n. staged_block v j.draft k ≡ Some n) same at)))
      in
      ap (λ x. x / 256 ^ ((4096 * b + i) % 8) % 256)
      (journaled-idle image w idle behind ∙ same_beside v d e j.draft goes image is w apart ∙ sym (journaled-idle earlier w idle_earlier behind))

pub begins_job : BeginsJob
begins_job v d e claims jobs j numbers s count device stands apart fits free goes now = record {
  stands = now;
  headed = λ image is. headed_still v d e jobs j goes device.stands in_data image is (device.headed (earlier v d e jobs j goes device.stands in_data image is) (earlier_is v d e jobs j goes device.stands in_data image is));
  world = λ image is.
      let old = earlier v d e jobs j goes device.stands in_data image is in
      let old_is = earlier_is v d e jobs j goes device.stands in_data image is in
      filled v claims (jobs ++ j ∷ []) (journaled old) (journaled image) numbers s count
      (begun v claims jobs j (journaled old) numbers s count (device.world old old_is) (stands old old_is) apart fits) (same_but_lent v d e jobs j goes device.stands in_data image is);
  room = record { free = stays_free_begun v claims jobs j free; blocks = device.room.blocks };
} where
  in_data : (k b : ℕ) → staged_block v j.draft k ≡ Some b → is_data_block v.geometry b ≡ true
  in_data k b at =
      staged_in_data v j.draft k b (device.world (words_of d) (IsImage-words_of d)).valid.stands.sane (stands (words_of d) (IsImage-words_of d)).staging at
