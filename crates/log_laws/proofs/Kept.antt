-- The rules of the log of an image, once its next entry is carried out or while it is not.
use Rattle.std.proofs.Common.{◌≡◌, ◌≤◌, ◌<◌, ◌+◌, ◌&&◌, ◌==◌, ℕ, Bool, true, false, cond, List, ◌∷◌, length, Some, refl, sym, ◌∙◌, ap, subst, arith, inl, inr}
use Rattle.std.specs.Prelude.{All, nat_lt, sum_by}
use Rattle.std.specs.List.{range_with_len}
use Rattle.std.proofs.Math.Path.{fun_ext}
use Rattle.std.proofs.lemmas.Bool.{and_parts}
use Rattle.world_write_laws.specs.block_counts.Counts.{held_by}
use Rattle.world_write_laws.specs.pm_model.Bytes.{line_bytes-same}
use Rattle.world_write_laws.specs.pm_model.Words.{line_bytes, Words}
use Rattle.world_write_laws.specs.layout_model.declared.lines.Draft.{Draft}
use Rattle.world_write_laws.specs.layout_model.Entries.{held_seq, is_self_valid}
use Rattle.world_write_laws.specs.layout_model.Names.{names_of}
use Rattle.world_write_laws.specs.layout_model.Places.{data_blocks, Geometry, log_line, reserve}
use Rattle.world_write_laws.specs.image_model.Checked.{IsLogKept}
use Rattle.world_write_laws.specs.image_model.Content.{size_of}
use Rattle.world_write_laws.specs.image_model.Live.{entry_in, is_file, is_live, is_of_file, live_entries, valid_entries}
use Rattle.world_write_laws.specs.image_model.Room.{held_after_recovery, is_named_file, unused_blocks}
use Rattle.world_write_laws.specs.image_model.Rules.{HasStagingBlocks}
use Rattle.world_write_laws.specs.image_model.Volume.{inode, Volume}
use Rattle.world_write_laws.specs.list_laws.Filters.{filter-In, In-filter, In-filter_map, In-range}
use Rattle.world_write_laws.specs.list_laws.Members.{In}
use Rattle.world_write_laws.specs.posix_laws.Entries.{few}
use Rattle.world_write_laws.specs.volume_laws.Footprint.{SameLog}
use Rattle.world_write_laws.specs.volume_laws.FootprintLaws.{entry_in-same, live_entries-same}
use Rattle.world_write_laws.specs.world_model.Landed.{kind_file}
use Rattle.log_laws.specs.Logs.{CarriesOut, HasSameFiles}
use Rattle.world_write_laws.specs.Relinks.{SameLine}
use Rattle.log_laws.specs.Orders.{HaveOwnOrders}
use Rattle.log_laws.proofs.InOrder.{all-from, live-different}

-- ---- the same volume, by words with the same log

pub log-same : (v : Volume) (j h : Words) → SameLog v.geometry j h → IsLogKept v j → IsLogKept v h
log-same v j h log kept = record {
  recovers = record {
    staged = subst (All (HasStagingBlocks v)) (sym live) kept.recovers.staged;
    apart = λ s t d e before below is_s is_t.
        kept.recovers.apart s t d e before below (sym (entry s (omega (arith, before, below))) ∙ is_s) (sym (entry t below) ∙ is_t);
    orders = λ s t d e before below is_s is_t.
        kept.recovers.orders s t d e before below (sym (entry s (omega (arith, before, below))) ∙ is_s) (sym (entry t below) ∙ is_t);
    held = subst (λ ds. held_after_recovery v ds + reserve v.geometry ≤ data_blocks v.geometry) (sym live) kept.recovers.held;
    unused = subst (λ (ds : List Draft). length ds + reserve v.geometry ≤ unused_blocks v + 3) (sym live) kept.recovers.unused;
  };
  no_later = λ slot below valid.
      subst (λ bytes. held_seq bytes < v.base + v.geometry.log) (sym (line slot below)) (kept.no_later slot below (ap is_self_valid (sym (line slot below)) ∙ valid));
} where
  live : live_entries v h ≡ live_entries v j
  live = live_entries-same v j h log

  entry : (slot : ℕ) → slot < v.geometry.log → entry_in v h slot ≡ entry_in v j slot
  entry slot below = entry_in-same v j h log slot below

  line : (slot : ℕ) → slot < v.geometry.log → line_bytes h (log_line v.geometry slot) ≡ line_bytes j (log_line v.geometry slot)
  line slot below = line_bytes-same h j (log_line v.geometry slot) (λ i at. log.words slot i below at)

-- ---- what the files of two volumes hold that show the same files

module _ (v w : Volume) (j : Words) (counts : length w.inodes ≡ length v.inodes) (files : HasSameFiles v w j) where
  held_at : (ino : ℕ) → cond (is_named_file w ino) (held_by (size_of w (live_entries w j) ino)) 0 ≡ cond (is_named_file v ino) (held_by (size_of v (live_entries v j) ino)) 0
  held_at ino = by (is_named_file v ino) refl where
    named : is_named_file w ino ≡ is_named_file v ino
    named = λ i. is_file (files.kind ino i) && nat_lt 0 (names_of (files.names i) ino)

    by : (b : Bool) → is_named_file v ino ≡ b → cond (is_named_file w ino) (held_by (size_of w (live_entries w j) ino)) 0 ≡ cond (is_named_file v ino) (held_by (size_of v (live_entries v j) ino)) 0
    by true is =
        let file = kind_file (inode v ino).kind (and_parts (is_file (inode v ino).kind) (nat_lt 0 (names_of v.names ino)) is).0 in
        λ i. cond (named i) (held_by (files.size ino file i)) 0
    by false is =
        ap (λ (b : Bool). cond b (held_by (size_of w (live_entries w j) ino)) 0) (named ∙ is)
        ∙ sym (ap (λ (b : Bool). cond b (held_by (size_of v (live_entries v j) ino)) 0) is)

  pub held-same : held_after_recovery w (live_entries w j) ≡ held_after_recovery v (live_entries v j)
  held-same = λ i. sum_by (λ ino. fun_ext (λ n. held_at n) i ino) (range_with_len 0 (counts i))

-- ---- the volume in which an entry is carried out, by the same words

module _ (v w : Volume) (j : Words) (d : Draft) (geometry : w.geometry ≡ v.geometry) (base : w.base ≡ v.base) (counts : length w.inodes ≡ length v.inodes)
    (lines : (ino : ℕ) → SameLine (inode v ino) (inode w ino)) (out : CarriesOut v w j d) (there : In d (live_entries v j))
    (takes : unused_blocks v ≤ unused_blocks w + 1) (kept : IsLogKept v j) where
  entry : (slot : ℕ) → entry_in w j slot ≡ entry_in v j slot
  entry slot = λ i. entry_in (record w { geometry = geometry i; base = base i }) j slot

  logs : w.geometry.log ≡ v.geometry.log
  logs = ap (λ (g : Geometry). g.log) geometry

  of_file : (e : Draft) → is_of_file w e ≡ is_of_file v e
  of_file e = λ i. is_file ((lines e.ino).kind i) && ((lines e.ino).generation i == e.generation)

  own_orders : HaveOwnOrders w j
  own_orders s t a b before below is_s is_t a_file b_file =
      kept.recovers.orders s t a b before (omega (arith, below, logs)) (sym (entry s) ∙ is_s) (sym (entry t) ∙ is_t) (sym (of_file a) ∙ a_file) (sym (of_file b) ∙ b_file)

  -- one entry less is live
  fewer : length (live_entries w j) + 1 ≤ length (live_entries v j)
  fewer =
      let all : length (d ∷ live_entries w j) ≤ length (live_entries v j) =
      few (d ∷ live_entries w j) (live_entries v j) (λ is. ((out.left d).0 is).1 refl, live-different w j own_orders) among
      in
      omega (arith, all) where
        among : (e : Draft) → In e (d ∷ live_entries w j) → In e (live_entries v j)
        among e (inl same) = subst (λ x. In x (live_entries v j)) same there
        among e (inr is) = ((out.left e).0 is).0

  live_before : (slot : ℕ) (e : Draft) → slot < w.geometry.log → entry_in w j slot ≡ Some e → is_live w e ≡ true → is_live v e ≡ true
  live_before slot e below at alive =
      let valid = In-filter_map (entry_in w j) (range_with_len 0 w.geometry.log) slot e (In-range 0 w.geometry.log slot (omega arith) (omega (arith, below))) at in
      let is = In-filter (is_live w) (valid_entries w j) e valid alive in
      (filter-In (is_live v) (valid_entries v j) e ((out.left e).0 is).0).1

  pub log-carried : IsLogKept w j
  log-carried = record {
    recovers = record {
      staged = all-from (HasStagingBlocks w) (live_entries w j) (λ e is. out.sound.staged e is);
      apart = λ s t a b before below is_s is_t live_a live_b.
          kept.recovers.apart s t a b before (omega (arith, below, logs)) (sym (entry s) ∙ is_s) (sym (entry t) ∙ is_t)
          (live_before s a (omega (arith, before, below)) is_s live_a) (live_before t b below is_t live_b);
      orders = own_orders;
      held = omega (arith, held-same v w j counts out.files, kept.recovers.held, ap reserve geometry, ap data_blocks geometry);
      unused = omega (arith, fewer, kept.recovers.unused, ap reserve geometry, takes);
    };
    no_later = λ slot below valid.
        let line : line_bytes j (log_line w.geometry slot) ≡ line_bytes j (log_line v.geometry slot) = ap (λ (g : Geometry). line_bytes j (log_line g slot)) geometry in
        omega (arith, kept.no_later slot (omega (arith, below, logs)) (ap is_self_valid (sym line) ∙ valid), ap held_seq line, base, logs);
  }
