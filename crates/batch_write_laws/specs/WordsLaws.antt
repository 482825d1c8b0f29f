-- What a write leaves of bytes beside its own.
use Rattle.std.specs.Prelude.{◌≡◌, ◌≢◌, ◌⊎◌, ◌<◌, ◌≤◌, ◌/◌, ◌%◌, ℕ, List, [], Option, Some, None, refl}
use Rattle.std.proofs.Common.{arith, ap, sym, inl, inr}
use Rattle.live_model.specs.pm_model.Words.{Words}
use Rattle.live_model.specs.layout_model.declared.lines.Draft.{Draft}
use Rattle.live_model.specs.layout_model.declared.lines.Kind.TheVariants.{File}
use Rattle.live_model.specs.image_model.Content.{byte_in, disk_of}
use Rattle.live_model.specs.image_model.Volume.{inode, Volume}
use Rattle.live_model.specs.world_model.Lent.{disk_of-in_data}
use Rattle.live_model.specs.world_model.Stands.{is_used, IsSane, IsUsed, LogStands}
use Rattle.world_write_laws.specs.PlaceSteps.{disk_of-apart}
use Rattle.batch_write_laws.specs.Places.{apart_mapped, place_mapped, place_seen}
use Rattle.batch_write_laws.specs.Words.{WritesWords}

-- Where the bytes of the range lie that are in no fresh block: where the calls saw them before, below the length then. And fresh blocks are
-- no file's.
pub record IsRange (v : Volume) (live behind : List Draft) (ino first last size : ℕ) (IsFreshBlock : ℕ → Type 0) : Type 0 where
  pub was : (i b : ℕ) → first ≤ i → i < last → disk_of v behind ino (i / 4096) ≡ Some b → IsFreshBlock b ⊎ ((disk_of v live ino (i / 4096) ≡ Some b) × (i < size))
  pub unused : (j block b : ℕ) → IsUsed v j → disk_of v live j block ≡ Some b → IsFreshBlock b → ⊥
  pub unmapped : (j block b : ℕ) → IsUsed v j → disk_of v [] j block ≡ Some b → IsFreshBlock b → ⊥

below_block : (i : ℕ) → i % 4096 < 4096
below_block i = omega arith

-- a place by its block and by what is over
same_place : (i j : ℕ) → i / 4096 ≡ j / 4096 → i % 4096 ≡ j % 4096 → i ≡ j
same_place i j block rest = omega (arith, block, rest)

module _ (v : Volume) (live behind : List Draft) (ino first last size : ℕ) (whole : List ℕ) (IsFreshBlock : ℕ → Type 0) (f h : Words) (sane : IsSane v) (log : LogStands v live) (none : LogStands v [])
    (file : (inode v ino).kind ≡ File) (range : IsRange v live behind ino first last size IsFreshBlock) (writes : WritesWords v behind ino first last whole IsFreshBlock f h) where
  used : IsUsed v ino
  used = ap is_used file

  outside : (i j : ℕ) → (i < first) ⊎ (last ≤ i) → first ≤ j → j < last → j ≡ i → ⊥
  outside i j (inl before) from below same = omega (arith, before, from, same)
  outside i j (inr past) from below same = omega (arith, past, below, same)

  -- a byte of the file beside the range stays where the calls see it,
  pub seen_stays : (i : ℕ) → (i < first) ⊎ (last ≤ i) → byte_in h (disk_of v live ino (i / 4096)) i ≡ byte_in f (disk_of v live ino (i / 4096)) i
  seen_stays i apart = by (disk_of v live ino (i / 4096)) refl where
    by : (o : Option ℕ) → disk_of v live ino (i / 4096) ≡ o → byte_in h o i ≡ byte_in f o i
    by None at = refl
    by (Some b) at =
        writes.others b (i % 4096) (disk_of-in_data v live sane log ino (i / 4096) b used at) (below_block i) (range.unused ino (i / 4096) b used at)
        (λ j from below rest. (
          λ there. elim (range.was j b from below there) [
            | inl fresh ↦ range.unused ino (i / 4096) b used at fresh
            | inr was ↦ outside i j apart from below (same_place j i (place_seen v live sane log ino b used (j / 4096) (i / 4096) was.0 at) rest)
          ],
          λ low there. outside i j apart from below (same_place j i (sym (place_mapped v live sane log ino b used (i / 4096) (j / 4096) at there)) rest),
        ))

  -- and in the file's own map,
  pub mapped_stays : (i : ℕ) → (i < first) ⊎ (last ≤ i) → byte_in h (disk_of v [] ino (i / 4096)) i ≡ byte_in f (disk_of v [] ino (i / 4096)) i
  mapped_stays i apart = by (disk_of v [] ino (i / 4096)) refl where
    by : (o : Option ℕ) → disk_of v [] ino (i / 4096) ≡ o → byte_in h o i ≡ byte_in f o i
    by None at = refl
    by (Some b) at =
        writes.others b (i % 4096) (disk_of-in_data v [] sane none ino (i / 4096) b used at) (below_block i) (range.unmapped ino (i / 4096) b used at)
        (λ j from below rest. (
          λ there. elim (range.was j b from below there) [
            | inl fresh ↦ range.unmapped ino (i / 4096) b used at fresh
            | inr was ↦ outside i j apart from below (same_place j i (place_mapped v live sane log ino b used (j / 4096) (i / 4096) was.0 at) rest)
          ],
          λ low there. outside i j apart from below (same_place j i (place_mapped v [] sane none ino b used (j / 4096) (i / 4096) there at) rest),
        ))

  -- and so does every byte of another file, here
  pub other_seen : (j x k : ℕ) → IsUsed v j → j ≢ ino → byte_in h (disk_of v live j x) k ≡ byte_in f (disk_of v live j x) k
  other_seen j x k j_used other = by (disk_of v live j x) refl where
    by : (o : Option ℕ) → disk_of v live j x ≡ o → byte_in h o k ≡ byte_in f o k
    by None at = refl
    by (Some b) at =
        writes.others b (k % 4096) (disk_of-in_data v live sane log j x b j_used at) (below_block k) (range.unused j x b j_used at)
        (λ i from below rest. (
          λ there. elim (range.was i b from below there) [
            | inl fresh ↦ range.unused j x b j_used at fresh
            | inr was ↦ disk_of-apart v live sane log j ino x (i / 4096) b j_used used other at was.0
          ],
          λ low there. apart_mapped v live sane log j ino x (i / 4096) b j_used used other at there,
        ))

  -- and there.
  pub other_mapped : (j x k : ℕ) → IsUsed v j → j ≢ ino → byte_in h (disk_of v [] j x) k ≡ byte_in f (disk_of v [] j x) k
  other_mapped j x k j_used other = by (disk_of v [] j x) refl where
    by : (o : Option ℕ) → disk_of v [] j x ≡ o → byte_in h o k ≡ byte_in f o k
    by None at = refl
    by (Some b) at =
        writes.others b (k % 4096) (disk_of-in_data v [] sane none j x b j_used at) (below_block k) (range.unmapped j x b j_used at)
        (λ i from below rest. (
          λ there. elim (range.was i b from below there) [
            | inl fresh ↦ range.unmapped j x b j_used at fresh
            | inr was ↦ apart_mapped v live sane log ino j (i / 4096) x b used j_used (λ same. other (sym same)) was.0 at
          ],
          λ low there. disk_of-apart v [] sane none j ino x (i / 4096) b j_used used other at there,
        ))
