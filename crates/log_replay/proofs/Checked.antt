-- The device from which nameless files went is a checked image again: no entry of its log was live, and none is.
use Rattle.std.specs.Prelude.{◌≡◌, ◌⊎◌, ◌<◌, ◌≤◌, ◌*◌, ◌/◌, ◌&&◌, ◌==◌, ℕ, Bool, true, false, cond, nat_lt, All, List, [], ◌∷◌, length, filter, sum_by, refl}
use Rattle.std.specs.List.{range_with_len}
use Rattle.std.proofs.Common.{◌∙◌, sym, ap, subst, arith, inl, inr}
use Rattle.std.proofs.Math.Path.{fun_ext}
use Rattle.std.proofs.lemmas.List.Elements.{All-nil}
use Rattle.world_image_laws.specs.block_counts.Counts.{held_by}
use Rattle.world_image_laws.specs.pm_model.Bytes.{line_bytes-same}
use Rattle.world_image_laws.specs.pm_model.declared.Cell.{Cell}
use Rattle.world_image_laws.specs.pm_model.Images.{words_of}
use Rattle.world_image_laws.specs.pm_model.Words.{line_bytes, Words}
use Rattle.world_image_laws.specs.layout_model.Journal.{is_journal_word, journaled}
use Rattle.world_image_laws.specs.layout_model.Places.{commit_word, data_blocks, Geometry, is_journaled_line, log_line, reserve}
use Rattle.world_image_laws.specs.layout_model.declared.lines.Draft.{Draft}
use Rattle.world_image_laws.specs.layout_model.declared.lines.Inode.{Inode}
use Rattle.world_image_laws.specs.layout_model.Entries.{held_seq, is_self_valid}
use Rattle.world_image_laws.specs.layout_model.Names.{names_of}
use Rattle.world_image_laws.specs.image_model.Checked.{IsCheckedAs, IsLogKept}
use Rattle.world_image_laws.specs.image_model.Kept.{AreKept}
use Rattle.world_image_laws.specs.image_model.Live.{entry_in, is_file, is_live, is_of_file, live_entries, valid_entries}
use Rattle.world_image_laws.specs.image_model.Reading.{Reads}
use Rattle.world_image_laws.specs.image_model.Room.{held_after_recovery, is_named_file, unused_blocks}
use Rattle.world_image_laws.specs.image_model.Rules.{geometry_of, HasStagingBlocks}
use Rattle.world_image_laws.specs.image_model.Volume.{inode, Volume}
use Rattle.world_image_laws.specs.k_split_model.Stands.{IsOldOrNew}
use Rattle.world_image_laws.specs.volume_laws.Footprint.{SameLog}
use Rattle.world_image_laws.specs.volume_laws.FootprintLaws.{entry_in-same, live_entries-same}
use Rattle.world_image_laws.specs.Changed.{headed_changed, SameLog-changed, sound_headed}
use Rattle.world_image_laws.specs.Images.{IsHeaded}
use Rattle.log_replay.specs.Sheds.{IsKeptAt, IsShedAt, Sheds}

-- ---- what is live

-- whether an entry is live, by the line of its file and the generation of its staging file
abbrev live_by : Inode → ℕ → Draft → Bool
live_by x generation d = (is_file x.kind && (x.generation == d.generation)) && nat_lt x.applied d.order && (generation == d.staging_generation)

generation_same : (v w : Volume) (ino : ℕ) → IsKeptAt v w ino ⊎ IsShedAt v w ino → (inode w ino).generation ≡ (inode v ino).generation
generation_same v w ino (inl kept) = ap (λ x. x.generation) kept.line
generation_same v w ino (inr shed) = ap (λ x. x.generation) shed.line

live_before : (v w : Volume) → Sheds v w → (d : Draft) → is_live w d ≡ true → is_live v d ≡ true
live_before v w sheds d is = by (sheds.each d.ino) where
  staged : (inode w d.staging).generation ≡ (inode v d.staging).generation
  staged = generation_same v w d.staging (sheds.each d.staging)

  by : IsKeptAt v w d.ino ⊎ IsShedAt v w d.ino → is_live v d ≡ true
  by (inl kept) = (λ i. live_by (sym kept.line i) (sym staged i) d) ∙ is
  by (inr shed) = let never : false ≡ true = ap (λ x. live_by x (inode w d.staging).generation d) (sym shed.line) ∙ is in cc

file_before : (v w : Volume) → Sheds v w → (d : Draft) → is_of_file w d ≡ true → is_of_file v d ≡ true
file_before v w sheds d is = by (sheds.each d.ino) where
  by : IsKeptAt v w d.ino ⊎ IsShedAt v w d.ino → is_of_file v d ≡ true
  by (inl kept) = ap (λ (x : Inode). is_file x.kind && (x.generation == d.generation)) (sym kept.line) ∙ is
  by (inr shed) = let never : false ≡ true = ap (λ (x : Inode). is_file x.kind && (x.generation == d.generation)) (sym shed.line) ∙ is in cc

-- where none passes, none passes a stronger test
none_passes : {X : Type 0} (p q : X → Bool) (xs : List X) → ((x : X) → q x ≡ true → p x ≡ true) → filter p xs ≡ [] → filter q xs ≡ []
none_passes p q [] imply none = refl
none_passes p q (x ∷ xs) imply none = by (p x) (q x) refl refl none (λ empty. none_passes p q xs imply empty) where
  by : (a b : Bool) → p x ≡ a → q x ≡ b → cond a (x ∷ filter p xs) (filter p xs) ≡ [] → (filter p xs ≡ [] → filter q xs ≡ [])
      → cond (q x) (x ∷ filter q xs) (filter q xs) ≡ []
  by true b is_a is_b empty rest = cc
  by false true is_a is_b empty rest = let never : false ≡ true = sym is_a ∙ imply x is_b in cc
  by false false is_a is_b empty rest = ap (λ c. cond c (x ∷ filter q xs) (filter q xs)) is_b ∙ rest empty

-- ---- the rules of the log

module _ (v w : Volume) (j h : Words) (sheds : Sheds v w) (log : SameLog v.geometry j h) (free : unused_blocks v ≤ unused_blocks w)
    (dead : live_entries v j ≡ []) (kept : IsLogKept v j) where
  logs : w.geometry.log ≡ v.geometry.log
  logs = ap (λ (g : Geometry). g.log) sheds.geometry

  entry_same : (slot : ℕ) → slot < w.geometry.log → entry_in w h slot ≡ entry_in v j slot
  entry_same slot below =
      (λ i. entry_in (record w { geometry = sheds.geometry i; base = sheds.base i }) h slot) ∙ entry_in-same v j h log slot (omega (arith, below, logs))

  pub none_live : live_entries w h ≡ []
  none_live =
      (λ i. filter (is_live w) (valid_entries (record w { geometry = sheds.geometry i; base = sheds.base i }) h))
      ∙ none_passes (is_live v) (is_live w) (valid_entries v h) (live_before v w sheds) (live_entries-same v j h log ∙ dead)

  held_at : (ino : ℕ) → IsKeptAt v w ino ⊎ IsShedAt v w ino → cond (is_named_file w ino) (held_by (inode w ino).size) 0 ≡ cond (is_named_file v ino) (held_by (inode v ino).size) 0
  held_at ino (inl same) =
      λ i. cond (is_file (same.line i).kind && nat_lt 0 (names_of (sheds.names i) ino)) (held_by (same.line i).size) 0
  held_at ino (inr shed) =
      ap (λ (x : Inode). cond (is_file x.kind && nat_lt 0 (names_of w.names ino)) (held_by x.size) 0) shed.line
      ∙ sym (λ i. cond (is_file (shed.was.file i) && nat_lt 0 (shed.was.nameless i)) (held_by (inode v ino).size) 0)

  held_same : held_after_recovery w [] ≡ held_after_recovery v []
  held_same =
      (λ i. sum_by (λ ino. fun_ext (λ n. held_at n (sheds.each n)) i ino) (range_with_len 0 (sheds.inode_count i)))

  pub log_kept : IsLogKept w h
  log_kept = record {
    recovers = record {
      staged = subst (All (HasStagingBlocks w)) (sym none_live) (All-nil (HasStagingBlocks w));
      apart = λ s t d e before below is_s is_t live_d live_e.
          kept.recovers.apart s t d e before (omega (arith, below, logs)) (sym (entry_same s (omega (arith, before, below))) ∙ is_s) (sym (entry_same t below) ∙ is_t)
          (live_before v w sheds d live_d) (live_before v w sheds e live_e);
      orders = λ s t d e before below is_s is_t of_d of_e.
          kept.recovers.orders s t d e before (omega (arith, below, logs)) (sym (entry_same s (omega (arith, before, below))) ∙ is_s) (sym (entry_same t below) ∙ is_t)
          (file_before v w sheds d of_d) (file_before v w sheds e of_e);
      held = omega (
        arith,
        ap (held_after_recovery w) none_live,
        held_same,
        ap (held_after_recovery v) dead,
        kept.recovers.held,
        ap reserve sheds.geometry,
        ap data_blocks sheds.geometry,
      );
      unused = omega (arith, ap length none_live, ap length dead, kept.recovers.unused, ap reserve sheds.geometry, free);
    };
    no_later = λ slot below valid.
        let was : slot < v.geometry.log = omega (arith, below, logs) in
        let line : line_bytes h (log_line w.geometry slot) ≡ line_bytes j (log_line v.geometry slot) =
        ap (λ (g : Geometry). line_bytes h (log_line g slot)) sheds.geometry ∙ line_bytes-same h j (log_line v.geometry slot) (λ i at. log.words slot i was at)
        in
        omega (arith, kept.no_later slot was (ap is_self_valid (sym line) ∙ valid), ap held_seq line, sheds.base, logs);
  }

-- ---- the device

module _ (g : Geometry) (f : Words) (v w : Volume) (d : List Cell) (numbers : geometry_of f ≡ g) (checked : IsCheckedAs (4096 * g.blocks) f v)
    (sheds : Sheds v w) (free : unused_blocks v ≤ unused_blocks w) (dead : live_entries v (journaled f) ≡ [])
    (reads : Reads g (journaled (words_of d)) w) (kept : AreKept w) (idle : words_of d commit_word ≡ 0)
    (others : (i : ℕ) → is_journal_word i ≡ false → is_journaled_line g (i / 8) ≡ false → words_of d i ≡ f i) where
  headed : IsHeaded g f
  headed = record { head = checked.head; geometry = numbers }

  changed : IsOldOrNew g [] v w f (words_of d)
  changed = record {
    reads = inr reads;
    others = λ i out line none. others i out line;
    sound = record { count = subst (λ n. n ≤ 128) (sym idle) (omega arith); targets = λ r below. absurd (omega (arith, below, idle)) };
  }

  headed_now : IsHeaded g (words_of d)
  headed_now = headed_changed g v w f (words_of d) headed changed sheds.base checked.reads.base

  same_log : SameLog v.geometry (journaled f) (journaled (words_of d))
  same_log =
      subst (λ k. SameLog k (journaled f) (journaled (words_of d))) (sym (checked.reads.geometry ∙ numbers)) (SameLog-changed g v w f (words_of d) (sound_headed g f headed) changed)

  pub numbers_now : geometry_of (words_of d) ≡ g
  numbers_now = headed_now.geometry

  pub checked_now : IsCheckedAs (4096 * g.blocks) (words_of d) w
  checked_now = record {
    head = headed_now.head;
    reads = subst (λ k. Reads k (journaled (words_of d)) w) (sym headed_now.geometry) reads;
    kept = kept;
    log = log_kept v w (journaled f) (journaled (words_of d)) sheds same_log free dead checked.log;
  }

  pub dead_now : live_entries w (journaled (words_of d)) ≡ []
  dead_now = none_live v w (journaled f) (journaled (words_of d)) sheds same_log free dead checked.log
