-- What is left of a device, once the next lap began.
use Rattle.std.specs.Prelude.{◌≡◌, ◌⊎◌, ◌<◌, ◌≤◌, ◌+◌, ◌^◌, ◌*◌, ◌/◌, ℕ, true, false, List, [], refl}
use Rattle.std.proofs.Common.{◌∙◌, sym, ap, subst, arith, inl, inr}
use Rattle.world_image_laws.specs.pm_model.declared.Cell.TheVariants.{Single}
use Rattle.world_image_laws.specs.pm_model.Cells.{cell}
use Rattle.world_image_laws.specs.pm_model.Images.{words_of}
use Rattle.world_image_laws.specs.pm_model.Words.{Words}
use Rattle.world_image_laws.specs.layout_model.Journal.{is_journal_word, journaled}
use Rattle.world_image_laws.specs.layout_model.PlaceLaws.{behind_log-not_journaled, behind_log-words}
use Rattle.world_image_laws.specs.layout_model.Places.{Geometry, is_data_block, is_journaled_line, log_line}
use Rattle.world_image_laws.specs.image_model.Checked.{IsCheckedAs}
use Rattle.world_image_laws.specs.image_model.Content.{content, found}
use Rattle.world_image_laws.specs.image_model.Live.{live_entries}
use Rattle.world_image_laws.specs.image_model.Reading.{base_set}
use Rattle.world_image_laws.specs.image_model.Rules.{geometry_of}
use Rattle.world_image_laws.specs.image_model.Volume.{Volume, volume}
use Rattle.k_split.specs.block_io.Overwrites.{IsInLines}
use Rattle.world_image_laws.specs.k_split_model.View.{View}
use Rattle.k_split.specs.Laps.{IsLogWord, next_base}
use Rattle.log_replay.specs.NextLaps.{BeginsLap, IsNextLap}
use Rattle.log_replay.specs.Sheds.{AllNamed, IsAtRest, IsKeptAt, IsSettled, IsShedAt, Sheds}
use Rattle.log_replay.proofs.LapImages.{checked_lap, content_lap, data_now, no_entry_now, numbers_lap, old_now, others_now, volume_now}

-- the same went, whatever the base
sheds_based : (base : ℕ) (v w : Volume) → Sheds v w → Sheds (base_set base v) (base_set base w)
sheds_based base v w sheds = record {
  geometry = sheds.geometry;
  base = refl;
  names = sheds.names;
  inode_count = sheds.inode_count;
  chain_count = sheds.chain_count;
  map_count = sheds.map_count;
  each = λ ino. by ino (sheds.each ino);
} where
  by : (ino : ℕ) → IsKeptAt v w ino ⊎ IsShedAt v w ino → IsKeptAt (base_set base v) (base_set base w) ino ⊎ IsShedAt (base_set base v) (base_set base w) ino
  by ino (inl kept) = inl (record { line = kept.line; chain_is = kept.chain_is; map = kept.map })
  by ino (inr shed) = inr (record { was = record { file = shed.was.file; nameless = shed.was.nameless }; line = shed.line; chain_is = shed.chain_is; map = shed.map })

sheds_now : (v w x : Volume) (base : ℕ) → x ≡ base_set base w → Sheds v w → Sheds (base_set x.base v) x
sheds_now v w x base is sheds = subst (λ (y : Volume). Sheds (base_set y.base v) y) (sym is) (sheds_based base v w sheds)

-- a word of the log of the one geometry is one of the other
log_word : (v w : Volume) → w.geometry ≡ v.geometry → (i : ℕ) → IsLogWord v i → IsLogWord w i
log_word v w same i at = subst (λ (g : Geometry). IsInLines (log_line g 0) g.log i) (sym same) at

-- the log of the next lap, beside the words of the image
next_lap_of : (v : Volume) (image : Words) (k2 k3 : View) → Sheds v k2.volume → BeginsLap k2 k3 → ((i : ℕ) → IsLogWord v i → cell k2.cells i ≡ Single (image i)) → IsNextLap v image k3
next_lap_of v image k2 k3 sheds begins same = record {
  risen = λ low. risen_by begins low;
  kept = λ low i at. kept_by begins low i at;
  anew = λ high. anew_by begins high;
  zero = λ high i at. zero_by begins high i at;
} where
  own : (i : ℕ) → IsLogWord v i → IsLogWord k2.volume i
  own = log_word v k2.volume sheds.geometry

  risen_by : BeginsLap k2 k3 → v.base ≤ 2 ^ 62 → k3.volume.base ≡ next_base v
  risen_by (inl low) few = omega (arith, ap (λ (x : Volume). x.base) low.1.volume_is, sheds.base, ap (λ (g : Geometry). g.log) sheds.geometry)
  risen_by (inr high) few = absurd (omega (arith, high.0, few, sheds.base))

  kept_by : BeginsLap k2 k3 → v.base ≤ 2 ^ 62 → (i : ℕ) → IsLogWord v i → cell k3.cells i ≡ Single (image i)
  kept_by (inl low) few i at =
      low.1.others i (behind_log-words k2.volume.geometry i (omega (arith, (own i at).from))) (behind_log-not_journaled k2.volume.geometry (i / 8) (own i at).from) ∙ same i at
  kept_by (inr high) few i at = absurd (omega (arith, high.0, few, sheds.base))

  anew_by : BeginsLap k2 k3 → 2 ^ 62 < v.base → k3.volume.base ≡ 1
  anew_by (inl low) many = absurd (omega (arith, low.0, many, sheds.base))
  anew_by (inr high) many = ap (λ (x : Volume). x.base) high.1.volume_is

  zero_by : BeginsLap k2 k3 → 2 ^ 62 < v.base → (i : ℕ) → IsLogWord v i → cell k3.cells i ≡ Single 0
  zero_by (inl low) many i at = absurd (omega (arith, low.0, many, sheds.base))
  zero_by (inr high) many i at = high.1.zero i (own i at)

module _ (g : Geometry) (image : Words) (k2 k3 : View) (was : IsAtRest k2) (rest : IsAtRest k3) (begins : BeginsLap k2 k3)
    (numbers : geometry_of (words_of k2.cells) ≡ g) (checked : IsCheckedAs (4096 * g.blocks) (words_of k2.cells) k2.volume)
    (dead : live_entries k2.volume (journaled (words_of k2.cells)) ≡ []) (named : AllNamed k2.volume) (sheds : Sheds (volume g (journaled image)) k2.volume)
    (words : (i : ℕ) → is_journal_word i ≡ false → is_journaled_line g (i / 8) ≡ false → cell k2.cells i ≡ Single (image i))
    (shown : (f : Words) → ((b j : ℕ) → is_data_block g b ≡ true → j < 512 → f (512 * b + j) ≡ words_of k2.cells (512 * b + j)) → (path : List (List ℕ)) → found k2.volume [] f path ≡ content g image path) where
  now : (base : ℕ) × (k3.volume ≡ base_set base k2.volume)
  now = volume_now g k2 k3 numbers checked dead was rest begins

  geometry_is : k2.volume.geometry ≡ g
  geometry_is = checked.reads.geometry ∙ numbers

  log_out : (i : ℕ) → IsLogWord (volume g (journaled image)) i → cell k2.cells i ≡ Single (image i)
  log_out i at =
      let own = log_word (volume g (journaled image)) k2.volume sheds.geometry i at in
      words i (behind_log-words k2.volume.geometry i (omega (arith, own.from)))
      (subst (λ (x : Geometry). is_journaled_line x (i / 8) ≡ false) geometry_is (behind_log-not_journaled k2.volume.geometry (i / 8) own.from))

  pub settled_now : IsSettled g image k3
  settled_now = record {
    rest = rest;
    named = subst AllNamed (sym now.1) named;
    sheds = sheds_now (volume g (journaled image)) k2.volume k3.volume now.0 now.1 sheds;
    lap = next_lap_of (volume g (journaled image)) image k2 k3 sheds begins log_out;
    no_entry = no_entry_now g k2 k3 numbers checked dead was rest begins;
    old_lines = old_now g k2 k3 numbers checked dead was rest begins;
    shows = λ path.
        content_lap g k2 k3 numbers checked dead was rest begins path ∙ shown (journaled (words_of k3.cells)) (data_now g k2 k3 numbers checked dead was rest begins) path;
    numbers = numbers_lap g k2 k3 numbers checked dead was rest begins;
    checked = checked_lap g k2 k3 numbers checked dead was rest begins;
    words = λ i out line beside.
        others_now g k2 k3 numbers checked dead was rest begins i out line (λ at. beside (log_word k2.volume (volume g (journaled image)) (sym sheds.geometry) i at)) ∙ words i out line;
  }
