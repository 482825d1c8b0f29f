-- The worked worlds, by computation.
use Rattle.std.specs.Prelude.{◌≡◌, ◌≢◌, ◌⊎◌, ◌<◌, ◌≤◌, ℕ, zero, suc, ◌+◌, ◌*◌, ◌/◌, ◌%◌, ◌^◌, ◌==◌, All, Bool, true, false, cond, List, [], ◌∷◌, ◌++◌, length, map, None, Some, IsSome, slice_index, refl}
use Rattle.std.proofs.Common.{arith, ap, ◌∙◌, sym, subst, inl, inr}
use Rattle.std.proofs.lemmas.Bool.Decides.{nat_tests}
use Rattle.std.proofs.lemmas.Option.{same_Some}
use Rattle.world_image_laws.specs.pm_model.Words.{byte_of}
use Rattle.world_image_laws.specs.extent_model.declared.extent_words.Extent.{Extent}
use Rattle.world_image_laws.specs.extent_model.Extents.{covers, disk_at}
use Rattle.world_image_laws.specs.extent_model.Covers.{covers-disk_at}
use Rattle.world_image_laws.specs.layout_model.declared.lines.Draft.{Draft}
use Rattle.world_image_laws.specs.layout_model.declared.lines.Kind.TheVariants.{Directory, File}
use Rattle.world_image_laws.specs.image_model.Content.{disk_of, entry_of_block, size_of}
use Rattle.world_image_laws.specs.image_model.Placed.{block_at}
use Rattle.world_image_laws.specs.image_model.Rules.{HasStagingBlocks, IsInData}
use Rattle.world_image_laws.specs.image_model.Uses.{owners}
use Rattle.world_image_laws.specs.image_model.Volume.{chain}
use Rattle.world_image_laws.specs.posix_tables.declared.nodes.Node.{Node}
use Rattle.world_image_laws.specs.posix_tables.Names.{node_at_path, walk, with_entry, without_entry}
use Rattle.world_image_laws.specs.posix_tables.NameRows.{mkdir_rows, unlink_rows}
use Rattle.world_image_laws.specs.posix_tables.Nodes.{bytes_of, node_at}
use Rattle.world_image_laws.specs.posix_tables.Open.{binding_of, key_of, opened, Tables}
use Rattle.world_image_laws.specs.posix_spec.FileRows.{truncate_rows, write_rows}
use Rattle.world_image_laws.specs.posix_spec.Put.{put_by}
use Rattle.world_image_laws.specs.posix_spec.Run.{begun, run}
use Rattle.world_image_laws.specs.posix_spec.State.{made, State, swept, unnamed, with_file, with_published}
use Rattle.world_image_laws.specs.posix_spec.Step.{fsync_done, mkdir_done, pwrite_done, truncate_done, unlink_done, written}
use Rattle.world_image_laws.specs.crash_spec.Posix.{IsLeft, LastBeforeCut, NodeLeft, Overwritten}
use Rattle.world_image_laws.specs.crash_spec.Values.{is_shortened, value_before_cut, value_put, values_put}
use Rattle.world_image_laws.specs.world_model.Stands.{IsUsed, LogStands, number, Stands}
use Rattle.posix_mode_laws.specs.Example.{batch_b, batch_c, batch_d, batch_e, committed_c, committed_d, extent, kept_d, later_a, later_c, later_d, lost_call, lost_word, lost_words, no_tables, only_5, open_file, file_with, run_at, start_a, start_c, start_d, state_with, tables_p, volume_a, volume_with, words_p, world_a, world_b, world_c, world_d, world_e}
use Rattle.posix_mode_laws.proofs.ExampleParts.{apart, apart_behind, chains_with, file_stands, files_with, fresh_with, has_bytes, log_none, log_one, mapped_with, names_once, names_with, nodes_with, sane_with, size_with, staging_with}
use Rattle.posix_mode_laws.specs.Laws.{HasLostWrite, HasWaitingBlock, HasWorldAfterCheckpoint, HasWorldCut, HasWorldCutInCheckpoint, HasWorldInCheckpoint, HasWorldUsedAgain, HasWorldWithRun}
use Rattle.world_image_laws.specs.posix_laws.Publishes.{HasPublished}
use Rattle.posix_mode_laws.specs.Sides.{IsFresh, IsSameMap, IsSettled, MediumStands, Same, Sides, StillPublished, UsesNoFreed}
use Rattle.posix_mode_laws.specs.Steps.{committed}

-- ---- volumes and standings

one_in : (limit place disk count : ℕ) → place + count ≤ limit → 10 ≤ disk → disk + count ≤ 20 → All (IsInData volume_a.geometry limit) (extent place disk count)
one_in limit place disk count short low high zero d there = (short, omega (arith, low), high)
one_in limit place disk count short low high (suc i) d there = absurd (omega (arith, there))

none_in : (limit : ℕ) → All (IsInData volume_a.geometry limit) []
none_in limit i d there = absurd (omega (arith, there))

-- the file is node 1, with these bytes
only_1 : (bytes : List ℕ) (published : ℕ) (j : ℕ) → node_at (file_with bytes published ∷ []) j ≢ Node.Gone → j ≡ 0
only_1 bytes published zero there = refl
only_1 bytes published (suc j) there = absurd (there refl)

-- a volume with one file stands for the state with that file, open or not
stands_file : (s : ℕ) (bs : List ℕ) (st own : List Extent) (live : List Draft) (bytes : List ℕ) (published : ℕ) (tables : Tables)
    → All (IsInData volume_a.geometry 64) st → All (IsInData volume_a.geometry 4096) own → names_once (volume_with File 1 s bs st own) ≡ true
    → size_of (volume_with File 1 s bs st own) live 5 ≡ length bytes → has_bytes (volume_with File 1 s bs st own) live words_p bytes ≡ true → LogStands (volume_with File 1 s bs st own) live
    → Stands (volume_with File 1 s bs st own) live words_p (only_5 1) (state_with (file_with bytes published ∷ []) 1 tables)
stands_file s bs st own live bytes published tables st_in own_in once size all log = record {
  sane = sane_with File 1 s bs st own refl st_in own_in once;
  names = names_with File 1 s bs st own refl (file_with bytes published ∷ []) 0 tables (omega arith);
  nodes = nodes_with File 1 s bs st own live words_p refl (file_with bytes published ∷ []) 0 tables (file_stands (volume_with File 1 s bs st own) live words_p bytes size all) (only_1 bytes published);
  log = log;
}

-- a run of one block, of block 0 of the staging file or of block 1
run_stands : (s : ℕ) (bs : List ℕ) (st own : List Extent) (block size : ℕ) → IsSome (disk_at st (block + 0)) → LogStands (volume_with File 1 s bs st own) (run_at block size ∷ [])
run_stands s bs st own block size there = log_one (volume_with File 1 s bs st own) (run_at block size) refl staged refl where
  staged : HasStagingBlocks (volume_with File 1 s bs st own) (run_at block size)
  staged zero below = there
  staged (suc k) below = absurd (omega (arith, below))

-- what is so of each byte that the file of inode 5 has in memory, is so of each that any file has
length_with : (n : ℕ) (P : ℕ → ℕ → Type 0) → ((k : ℕ) → k < n → P 5 k) → (ino k : ℕ) → k < slice_index (only_5 n) ino → P ino k
length_with n P own zero k below = absurd (omega (arith, below))
length_with n P own (suc zero) k below = absurd (omega (arith, below))
length_with n P own (suc (suc zero)) k below = absurd (omega (arith, below))
length_with n P own (suc (suc (suc zero))) k below = absurd (omega (arith, below))
length_with n P own (suc (suc (suc (suc zero)))) k below = absurd (omega (arith, below))
length_with n P own (suc (suc (suc (suc (suc zero))))) k below = own k below
length_with n P own (suc (suc (suc (suc (suc (suc ino)))))) k below = absurd (omega (arith, below))

-- the run has each of the first bytes of the file
run_covers : (block size k : ℕ) → k < 4096 → entry_of_block (run_at block size ∷ []) 5 (k / 4096) ≡ None → ⊥
run_covers block size k low none =
    let first : k / 4096 ≡ 0 = omega (arith, low) in
    let there : entry_of_block (run_at block size ∷ []) 5 0 ≡ Some (run_at block size) = refl in
    let never : Some (run_at block size) ≡ None = sym there ∙ ap (entry_of_block (run_at block size ∷ []) 5) (sym first) ∙ none in
    cc

-- ---- (a) a staged run

own_a : (published : ℕ) → Stands volume_a [] words_p (only_5 1) (open_file (9 ∷ []) published)
unfolding owners
own_a published = stands_file 1 [] (extent 0 10 2) (extent 0 12 1) [] (9 ∷ []) published tables_p (one_in 64 0 10 2 (omega arith) (omega arith) (omega arith)) (one_in 4096 0 12 1 (omega arith) (omega arith) (omega arith)) refl refl refl (log_none volume_a)

live_a : (published : ℕ) → Stands (volume_with File 1 3 [] (extent 0 10 2) (extent 0 12 1)) (run_at 0 3 ∷ []) words_p (only_5 1) (open_file (9 ∷ 2 ∷ 3 ∷ []) published)
unfolding owners
live_a published =
    stands_file 3 [] (extent 0 10 2) (extent 0 12 1) (run_at 0 3 ∷ []) (9 ∷ 2 ∷ 3 ∷ []) published tables_p (one_in 64 0 10 2 (omega arith) (omega arith) (omega arith)) (one_in 4096 0 12 1 (omega arith) (omega arith) (omega arith)) refl refl refl
    (run_stands 3 [] (extent 0 10 2) (extent 0 12 1) 0 3 refl)

no_block : (b j : ℕ) → j < 0 → block_at [] j ≢ b
no_block b j below = absurd (omega (arith, below))

fresh_a : (b : ℕ) → covers (extent 0 12 1) b ≡ false → IsFresh volume_a b
fresh_a b off = fresh_with File 1 1 [] (extent 0 10 2) (extent 0 12 1) b off (no_block b)

no_freed_a : UsesNoFreed world_a
no_freed_a = record {
  mapped = λ ino block b used is. inl (record { used = used; same = is; node = refl });
  staging = staging_with File 1 1 [] (extent 0 10 2) (extent 0 12 1) (IsFresh volume_a) refl (λ b is. fresh_a b (apart 0 0 10 12 2 1 b (omega arith) is));
  chains = λ ino k below. inl (refl, refl);
}

-- what the history leaves of the file: byte 0 is the one that was put in place
left_a : IsLeft (Overwritten start_a (map begun later_a)) start_a (open_file (9 ∷ []) 1)
unfolding put_by write_rows opened key_of binding_of pwrite_done written with_file is_shortened values_put
left_a = record { entries = refl; count = refl; each = each } where
  each : (n : ℕ) → NodeLeft (Overwritten start_a (map begun later_a)) n (node_at start_a.nodes n) (node_at (open_file (9 ∷ []) 1).nodes n)
  each zero = refl
  each (suc zero) = record { size = refl; each = byte }
    where
      byte : (i : ℕ) → i < 1 → Overwritten start_a (map begun later_a) 1 i (slice_index (1 ∷ []) i) (slice_index (9 ∷ []) i)
      byte zero below = refl
      byte (suc i) below = absurd (omega (arith, below))
  each (suc (suc n)) = refl

cut_a : IsLeft Same (run start_a later_a) (open_file (9 ∷ []) 1)
unfolding write_rows opened key_of binding_of pwrite_done written with_file
cut_a = record { entries = refl; count = refl; each = each } where
  each : (n : ℕ) → NodeLeft Same n (node_at (run start_a later_a).nodes n) (node_at (open_file (9 ∷ []) 1).nodes n)
  each zero = refl
  each (suc zero) = record { size = refl; each = byte }
    where
      byte : (i : ℕ) → i < 1 → slice_index (9 ∷ []) i ≡ slice_index (9 ∷ 2 ∷ 3 ∷ []) i
      byte zero below = refl
      byte (suc i) below = absurd (omega (arith, below))
  each (suc (suc n)) = refl

published_a : (n i : ℕ) → HasPublished (node_at start_a.nodes n) i → StillPublished start_a (map begun later_a) (run start_a later_a) n i
unfolding write_rows opened key_of binding_of pwrite_done written with_file
published_a zero i is = let low = is.below in absurd (omega (arith, low))
published_a (suc zero) i is = let low = is.below in inr (inr (record { below = is.below; there = omega (arith, low) }))
published_a (suc (suc n)) i is = inr (inl refl)

-- the byte that is published was not cut off
not_cut_a : (i : ℕ) → i < 1 → is_shortened start_a (map begun later_a) 1 i ≡ false
unfolding write_rows opened key_of binding_of pwrite_done written with_file is_shortened
not_cut_a zero below = refl
not_cut_a (suc i) below = absurd (omega (arith, below))

medium_a : (w : Sides) → w.committed ≡ volume_a → w.committed_numbers ≡ only_5 1 → MediumStands Overwritten w words_p start_a [] later_a
medium_a w volume numbers = record {
  state = open_file (9 ∷ []) 1;
  shape = refl;
  left = left_a;
  stands = subst (λ v. Stands v [] words_p w.committed_numbers (open_file (9 ∷ []) 1)) (sym volume) (subst (λ ns. Stands volume_a [] words_p ns (open_file (9 ∷ []) 1)) (sym numbers) (own_a 1));
  fsyncs = refl;
  published = published_a;
}

length_a : slice_index (only_5 3) 5 ≡ length (bytes_of (node_at (run start_a later_a).nodes 1))
unfolding write_rows opened key_of binding_of pwrite_done written with_file
length_a = refl

pub row_a : HasWorldWithRun
unfolding write_rows opened key_of binding_of pwrite_done written with_file
row_a = record {
  medium = medium_a world_a refl refl;
  cut = record { state = open_file (9 ∷ []) 1; shape = refl; left = cut_a; stands = own_a 1 };
  live = live_a 1;
  lengths = record {
    count = refl;
    each = files_with File 1 1 [] (extent 0 10 2) (extent 0 12 1) (λ ino. slice_index (only_5 3) ino ≡ length (bytes_of (node_at (run start_a later_a).nodes (number (only_5 1) ino)))) (λ file. length_a);
  };
  blocks = no_freed_a;
  cuts = record {
    settled = λ ino i b used below at settled. size_with File 1 1 [] (extent 0 10 2) (extent 0 12 1) (λ n k. is_shortened start_a (map begun later_a) (number (only_5 1) n) k ≡ false) not_cut_a ino i below;
    staged = λ ino i b used node past below long at settled. absurd (omega (arith, past, below));
    unstaged = λ ino i b used long none at settled.
        length_with 3 (λ n k. entry_of_block (run_at 0 3 ∷ []) n (k / 4096) ≡ None → is_shortened start_a (map begun later_a) (number (only_5 1) n) k ≡ false)
        (λ k low free. absurd (run_covers 0 3 k (omega (arith, low)) free)) ino i long none;
  };
}

-- ---- (b) a Checkpoint

own_b : Stands batch_b [] words_p (only_5 1) (open_file (9 ∷ []) 1)
unfolding owners
own_b =
    stands_file 1 (14 ∷ []) (extent 1 11 1) (extent 0 10 1) [] (9 ∷ []) 1 tables_p (one_in 64 1 11 1 (omega arith) (omega arith) (omega arith)) (one_in 4096 0 10 1 (omega arith) (omega arith) (omega arith)) refl refl refl
    (log_none batch_b)

live_b : Stands (volume_with File 1 3 (14 ∷ []) (extent 1 11 1) (extent 0 10 1)) [] words_p (only_5 1) (open_file (9 ∷ 2 ∷ 3 ∷ []) 1)
unfolding owners
live_b =
    stands_file 3 (14 ∷ []) (extent 1 11 1) (extent 0 10 1) [] (9 ∷ 2 ∷ 3 ∷ []) 1 tables_p (one_in 64 1 11 1 (omega arith) (omega arith) (omega arith)) (one_in 4096 0 10 1 (omega arith) (omega arith) (omega arith)) refl refl refl
    (log_none (volume_with File 1 3 (14 ∷ []) (extent 1 11 1) (extent 0 10 1)))

no_freed_b : UsesNoFreed world_b
no_freed_b = record {
  mapped = mapped_with File 1 1 (14 ∷ []) (extent 1 11 1) (extent 0 10 1) (λ ino block b. IsSettled world_b ino block b ⊎ IsFresh volume_a b)
      (λ block b is. inr (fresh_a b (apart 0 0 10 12 1 1 b (omega arith) (covers-disk_at (extent 0 10 1) block b is))));
  staging = staging_with File 1 1 (14 ∷ []) (extent 1 11 1) (extent 0 10 1) (IsFresh volume_a) refl (λ b is. fresh_a b (apart 1 0 11 12 1 1 b (omega arith) is));
  chains = chains_with File 1 1 (14 ∷ []) (extent 1 11 1) (extent 0 10 1) (λ ino k. IsSameMap world_b ino ⊎ IsFresh volume_a (block_at (chain batch_b ino) k)) chained;
} where
  chained : (j : ℕ) → j < 1 → IsSameMap world_b 5 ⊎ IsFresh volume_a (block_at (14 ∷ []) j)
  chained zero below = inr (fresh_a 14 refl)
  chained (suc j) below = absurd (omega (arith, below))

-- a byte in memory is in another block than on the medium
not_settled_b : (b i : ℕ) → i < 3 → disk_of batch_b [] 5 (i / 4096) ≡ Some b → disk_of volume_a [] 5 (i / 4096) ≡ Some b → ⊥
not_settled_b b zero below at same = absurd (omega (arith, same_Some 10 b at, same_Some 12 b same))
not_settled_b b (suc zero) below at same = absurd (omega (arith, same_Some 10 b at, same_Some 12 b same))
not_settled_b b (suc (suc zero)) below at same = absurd (omega (arith, same_Some 10 b at, same_Some 12 b same))
not_settled_b b (suc (suc (suc i))) below at same = absurd (omega (arith, below))

pub row_b : HasWorldInCheckpoint
unfolding write_rows opened key_of binding_of pwrite_done written with_file
row_b = record {
  medium = medium_a world_b refl refl;
  cut = record { state = open_file (9 ∷ []) 1; shape = refl; left = cut_a; stands = own_b };
  live = live_b;
  lengths = record {
    count = refl;
    each = files_with File 1 1 (14 ∷ []) (extent 1 11 1) (extent 0 10 1) (λ ino. slice_index (only_5 3) ino ≡ length (bytes_of (node_at (run start_a later_a).nodes (number (only_5 1) ino)))) (λ file. length_a);
  };
  blocks = no_freed_b;
  cuts = record {
    settled = λ ino i b used below at settled.
        size_with File 1 1 (14 ∷ []) (extent 1 11 1) (extent 0 10 1) (λ n k. is_shortened start_a (map begun later_a) (number (only_5 1) n) k ≡ false) not_cut_a ino i below;
    staged = λ ino i b used node past below long at settled.
        absurd (size_with File 1 1 [] (extent 0 10 2) (extent 0 12 1) (λ n k. size_of batch_b [] n ≤ k → ⊥) (λ k low most. omega (arith, low, most)) ino i below past);
    unstaged = λ ino i b used long none at settled.
        absurd (length_with 3 (λ n k. disk_of batch_b [] n (k / 4096) ≡ Some b → disk_of volume_a [] n (k / 4096) ≡ Some b → ⊥)
        (λ k low. not_settled_b b k low) ino i long at settled.same);
  };
}

pub row_b_after : HasWorldAfterCheckpoint
row_b_after = committed world_b words_p start_a [] later_a row_b

-- ---- (c) an inode used again

-- after the two calls: node 1 is gone, and node 2 is the directory
end_c : State
end_c = state_with (Node.Gone ∷ Node.Directory ∷ []) 2 no_tables

ends_c : run start_c later_c ≡ end_c
unfolding end_c unlink_rows mkdir_rows walk node_at_path with_entry without_entry made unnamed swept unlink_done mkdir_done
ends_c = refl

own_c : Stands committed_c [] words_p (only_5 1) start_c
unfolding owners
own_c =
    stands_file 1 (13 ∷ []) (extent 0 10 2) (extent 0 12 1) [] (9 ∷ []) 1 no_tables (one_in 64 0 10 2 (omega arith) (omega arith) (omega arith)) (one_in 4096 0 12 1 (omega arith) (omega arith) (omega arith)) refl refl refl
    (log_none committed_c)

batch_stands_c : Stands batch_c [] words_p (only_5 2) end_c
unfolding owners end_c
batch_stands_c = record {
  sane = sane_with Directory 2 0 [] (extent 0 10 2) [] refl (one_in 64 0 10 2 (omega arith) (omega arith) (omega arith)) (none_in 4096) refl;
  names = names_with Directory 2 0 [] (extent 0 10 2) [] refl (Node.Gone ∷ Node.Directory ∷ []) 1 no_tables (omega arith);
  nodes = nodes_with Directory 2 0 [] (extent 0 10 2) [] [] words_p refl (Node.Gone ∷ Node.Directory ∷ []) 1 no_tables tt only;
  log = log_none batch_c;
} where
  only : (j : ℕ) → node_at (Node.Gone ∷ Node.Directory ∷ []) j ≢ Node.Gone → j ≡ 1
  only zero there = absurd (there refl)
  only (suc zero) there = refl
  only (suc (suc j)) there = absurd (there refl)

left_c : IsLeft (Overwritten start_c (map begun later_c)) start_c start_c
unfolding put_by unlink_rows mkdir_rows walk node_at_path with_entry without_entry made unnamed swept unlink_done mkdir_done is_shortened values_put
left_c = record { entries = refl; count = refl; each = each } where
  each : (n : ℕ) → NodeLeft (Overwritten start_c (map begun later_c)) n (node_at start_c.nodes n) (node_at start_c.nodes n)
  each zero = refl
  each (suc zero) = record { size = refl; each = byte }
    where
      byte : (i : ℕ) → i < 1 → Overwritten start_c (map begun later_c) 1 i (slice_index (9 ∷ []) i) (slice_index (9 ∷ []) i)
      byte zero below = refl
      byte (suc i) below = absurd (omega (arith, below))
  each (suc (suc n)) = refl

cut_c : IsLeft Same end_c end_c
unfolding end_c
cut_c = record { entries = refl; count = refl; each = each } where
  each : (n : ℕ) → NodeLeft Same n (node_at end_c.nodes n) (node_at end_c.nodes n)
  each zero = refl
  each (suc zero) = refl
  each (suc (suc zero)) = refl
  each (suc (suc (suc n))) = refl

published_c : (n i : ℕ) → HasPublished (node_at start_c.nodes n) i → StillPublished start_c (map begun later_c) end_c n i
unfolding end_c
published_c zero i is = let low = is.below in absurd (omega (arith, low))
published_c (suc zero) i is = inr (inl refl)
published_c (suc (suc n)) i is = let low = is.below in absurd (omega (arith, low))

no_freed_c : UsesNoFreed world_c
no_freed_c = record {
  mapped = mapped_with Directory 2 0 [] (extent 0 10 2) [] (λ ino block b. IsSettled world_c ino block b ⊎ IsFresh committed_c b) (λ block b is. cc);
  staging = staging_with Directory 2 0 [] (extent 0 10 2) [] (IsFresh committed_c) refl
      (λ b is. fresh_with File 1 1 (13 ∷ []) (extent 0 10 2) (extent 0 12 1) b (apart 0 0 10 12 2 1 b (omega arith) is) (not_13 b is));
  chains = chains_with Directory 2 0 [] (extent 0 10 2) [] (λ ino k. IsSameMap world_c ino ⊎ IsFresh committed_c (block_at (chain batch_c ino) k)) (λ j below. absurd (omega (arith, below)));
} where
  not_13 : (b : ℕ) → covers (extent 0 10 2) b ≡ true → (j : ℕ) → j < 1 → block_at (13 ∷ []) j ≢ b
  not_13 b is zero below same = low b is same where
    low : (x : ℕ) → covers (extent 0 10 2) x ≡ true → 13 ≡ x → ⊥
    low x within at = grind (arith, nat_tests, within, at)
  not_13 b is (suc j) below same = absurd (omega (arith, below))

pub row_c : HasWorldUsedAgain
row_c = record {
  medium = record { state = start_c; shape = refl; left = left_c; stands = own_c; fsyncs = refl; published = subst (λ s. (n i : ℕ) → HasPublished (node_at start_c.nodes n) i → StillPublished start_c (map begun later_c) s n i) (sym ends_c) published_c };
  cut = record { state = end_c; shape = ap (λ (s : State). s.shape) (sym ends_c); left = subst (λ s. IsLeft Same s end_c) (sym ends_c) cut_c; stands = batch_stands_c };
  live = subst (λ s. Stands batch_c [] words_p (only_5 2) s) (sym ends_c) batch_stands_c;
  lengths = record {
    count = refl;
    each = files_with Directory 2 0 [] (extent 0 10 2) [] (λ ino. slice_index (only_5 0) ino ≡ length (bytes_of (node_at (run start_c later_c).nodes (number (only_5 2) ino)))) (λ file. cc);
  };
  blocks = no_freed_c;
  cuts = record {
    settled = λ ino i b used below at settled.
        size_with Directory 2 0 [] (extent 0 10 2) [] (λ n k. is_shortened start_c (map begun later_c) (number (only_5 2) n) k ≡ false) (λ k low. absurd (omega (arith, low))) ino i below;
    staged = λ ino i b used node past below long at settled.
        absurd (size_with File 1 1 (13 ∷ []) (extent 0 10 2) (extent 0 12 1) (λ n k. number (only_5 1) n ≡ number (only_5 2) n → ⊥) (λ k low same. omega (arith, same)) ino i below node);
    unstaged = λ ino i b used long none at settled. absurd (length_with 0 (λ n k. ⊥) (λ k low. absurd (omega (arith, low))) ino i long);
  };
}

pub waiting_c : HasWaitingBlock
unfolding owners
waiting_c = (refl, λ fresh. fresh.chains 5 0 (omega arith) refl)

-- ---- (d) a cut

own_d : Stands committed_d [] words_p (only_5 1) (open_file (9 ∷ 2 ∷ 3 ∷ []) 3)
unfolding owners
own_d =
    stands_file 3 (13 ∷ []) (extent 1 11 1) (extent 0 10 1) [] (9 ∷ 2 ∷ 3 ∷ []) 3 tables_p (one_in 64 1 11 1 (omega arith) (omega arith) (omega arith)) (one_in 4096 0 10 1 (omega arith) (omega arith) (omega arith)) refl refl refl
    (log_none committed_d)

cut_stands_d : Stands batch_d [] words_p (only_5 1) (open_file (9 ∷ []) 1)
unfolding owners
cut_stands_d =
    stands_file 1 (13 ∷ []) (extent 1 11 1) (extent 0 10 1) [] (9 ∷ []) 1 tables_p (one_in 64 1 11 1 (omega arith) (omega arith) (omega arith)) (one_in 4096 0 10 1 (omega arith) (omega arith) (omega arith)) refl refl refl
    (log_none batch_d)

live_d : Stands (volume_with File 1 2 (13 ∷ []) (extent 1 11 1) (extent 0 10 1)) (run_at 1 2 ∷ []) words_p (only_5 1) (open_file (9 ∷ 7 ∷ []) 1)
unfolding owners
live_d =
    stands_file 2 (13 ∷ []) (extent 1 11 1) (extent 0 10 1) (run_at 1 2 ∷ []) (9 ∷ 7 ∷ []) 1 tables_p (one_in 64 1 11 1 (omega arith) (omega arith) (omega arith)) (one_in 4096 0 10 1 (omega arith) (omega arith) (omega arith)) refl refl refl
    (run_stands 2 (13 ∷ []) (extent 1 11 1) (extent 0 10 1) 1 2 refl)

left_d : IsLeft (LastBeforeCut (open_file (9 ∷ 2 ∷ 3 ∷ []) 3) (map begun later_d)) (open_file (9 ∷ 2 ∷ 3 ∷ []) 3) (open_file (9 ∷ 2 ∷ 3 ∷ []) 3)
unfolding put_by write_rows truncate_rows opened key_of binding_of pwrite_done written with_file truncate_done value_before_cut
left_d = record { entries = refl; count = refl; each = each } where
  each : (n : ℕ)
      → NodeLeft (LastBeforeCut (open_file (9 ∷ 2 ∷ 3 ∷ []) 3) (map begun later_d)) n (node_at (open_file (9 ∷ 2 ∷ 3 ∷ []) 3).nodes n) (node_at (open_file (9 ∷ 2 ∷ 3 ∷ []) 3).nodes n)
  each zero = refl
  each (suc zero) = record { size = refl; each = byte }
    where
      byte : (i : ℕ) → i < 3 → LastBeforeCut (open_file (9 ∷ 2 ∷ 3 ∷ []) 3) (map begun later_d) 1 i (slice_index (9 ∷ 2 ∷ 3 ∷ []) i) (slice_index (9 ∷ 2 ∷ 3 ∷ []) i)
      byte zero below = refl
      byte (suc zero) below = refl
      byte (suc (suc zero)) below = refl
      byte (suc (suc (suc i))) below = absurd (omega (arith, below))
  each (suc (suc n)) = refl

cut_d : IsLeft Same (open_file (9 ∷ 7 ∷ []) 1) (open_file (9 ∷ []) 1)
cut_d = record { entries = refl; count = refl; each = each } where
  each : (n : ℕ) → NodeLeft Same n (node_at (open_file (9 ∷ 7 ∷ []) 1).nodes n) (node_at (open_file (9 ∷ []) 1).nodes n)
  each zero = refl
  each (suc zero) = record { size = refl; each = byte }
    where
      byte : (i : ℕ) → i < 1 → slice_index (9 ∷ []) i ≡ slice_index (9 ∷ 7 ∷ []) i
      byte zero below = refl
      byte (suc i) below = absurd (omega (arith, below))
  each (suc (suc n)) = refl

-- byte 0 is published still, and bytes 1 and 2 were cut off
published_d : (n i : ℕ) → HasPublished (node_at (open_file (9 ∷ 2 ∷ 3 ∷ []) 3).nodes n) i
    → StillPublished (open_file (9 ∷ 2 ∷ 3 ∷ []) 3) (map begun later_d) (run (open_file (9 ∷ 2 ∷ 3 ∷ []) 3) later_d) n i
unfolding write_rows truncate_rows opened key_of binding_of pwrite_done written with_file truncate_done is_shortened
published_d zero i is = let low = is.below in absurd (omega (arith, low))
published_d (suc zero) zero is = inr (inr (record { below = omega arith; there = omega arith }))
published_d (suc zero) (suc zero) is = inl refl
published_d (suc zero) (suc (suc zero)) is = inl refl
published_d (suc zero) (suc (suc (suc i))) is = let low = is.below in absurd (omega (arith, low))
published_d (suc (suc n)) i is = let low = is.below in absurd (omega (arith, low))

not_cut_d : (i : ℕ) → i < 1 → is_shortened (open_file (9 ∷ 2 ∷ 3 ∷ []) 3) (map begun later_d) 1 i ≡ false
unfolding write_rows truncate_rows opened key_of binding_of pwrite_done written with_file truncate_done is_shortened
not_cut_d zero below = refl
not_cut_d (suc i) below = absurd (omega (arith, below))

-- byte 1, which was cut off and put again, is in the staged run
staged_d : (i : ℕ) → i < 3 → 1 ≤ i → i < 2 → IsSome (entry_of_block (run_at 1 2 ∷ []) 5 (i / 4096))
staged_d zero below past long = absurd (omega (arith, past))
staged_d (suc zero) below past long = refl
staged_d (suc (suc i)) below past long = absurd (omega (arith, long))

no_freed_d : UsesNoFreed world_d
no_freed_d = record {
  mapped = mapped_with File 1 1 (13 ∷ []) (extent 1 11 1) (extent 0 10 1) (λ ino block b. IsSettled world_d ino block b ⊎ IsFresh committed_d b) (λ block b is. inl (record { used = refl; same = is; node = refl }));
  staging = staging_with File 1 1 (13 ∷ []) (extent 1 11 1) (extent 0 10 1) (IsFresh committed_d) refl
      (λ b is. fresh_with File 1 3 (13 ∷ []) (extent 1 11 1) (extent 0 10 1) b (apart_behind 1 0 11 10 1 1 b (omega arith) is) (not_13 b is));
  chains = chains_with File 1 1 (13 ∷ []) (extent 1 11 1) (extent 0 10 1) (λ ino k. IsSameMap world_d ino ⊎ IsFresh committed_d (block_at (chain batch_d ino) k)) (λ j below. inl (refl, refl));
} where
  not_13 : (b : ℕ) → covers (extent 1 11 1) b ≡ true → (j : ℕ) → j < 1 → block_at (13 ∷ []) j ≢ b
  not_13 b is zero below same = low b is same where
    low : (x : ℕ) → covers (extent 1 11 1) x ≡ true → 13 ≡ x → ⊥
    low x within at = grind (arith, nat_tests, within, at)
  not_13 b is (suc j) below same = absurd (omega (arith, below))

pub row_d : HasWorldCut
unfolding write_rows truncate_rows opened key_of binding_of pwrite_done written with_file fsync_done with_published truncate_done
row_d = record {
  medium = record { state = open_file (9 ∷ 2 ∷ 3 ∷ []) 3; shape = refl; left = left_d; stands = own_d; fsyncs = refl; published = published_d };
  cut = record { state = open_file (9 ∷ []) 1; shape = refl; left = cut_d; stands = cut_stands_d };
  live = live_d;
  lengths = record {
    count = refl;
    each = files_with File 1 1 (13 ∷ []) (extent 1 11 1) (extent 0 10 1) (λ ino. slice_index (only_5 2) ino ≡ length (bytes_of (node_at (run start_d (kept_d ++ later_d)).nodes (number (only_5 1) ino)))) (λ file. refl);
  };
  blocks = no_freed_d;
  cuts = record {
    settled = λ ino i b used below at settled.
        size_with File 1 1 (13 ∷ []) (extent 1 11 1) (extent 0 10 1) (λ n k. is_shortened (open_file (9 ∷ 2 ∷ 3 ∷ []) 3) (map begun later_d) (number (only_5 1) n) k ≡ false) not_cut_d ino i below;
    staged = λ ino i b used node past below long at settled.
        size_with File 1 3 (13 ∷ []) (extent 1 11 1) (extent 0 10 1) (λ n k. size_of batch_d [] n ≤ k → k < slice_index (only_5 2) n → IsSome (entry_of_block (run_at 1 2 ∷ []) n (k / 4096))) staged_d ino i below past long;
    unstaged = λ ino i b used long none at settled.
        length_with 2 (λ n k. entry_of_block (run_at 1 2 ∷ []) n (k / 4096) ≡ None → is_shortened (open_file (9 ∷ 2 ∷ 3 ∷ []) 3) (map begun later_d) (number (only_5 1) n) k ≡ false)
        (λ k low free. absurd (run_covers 1 2 k (omega (arith, low)) free)) ino i long none;
  };
}

-- ---- (e) a Checkpoint behind a cut

not_13_in : (place first count : ℕ) → first + count ≤ 13 → (b : ℕ) → covers (extent place first count) b ≡ true → (j : ℕ) → j < 1 → block_at (13 ∷ []) j ≢ b
not_13_in place first count low b is zero below same = grind (arith, nat_tests, low, is, same)
not_13_in place first count low b is (suc j) below same = absurd (omega (arith, below))

cut_stands_e : Stands batch_e [] words_p (only_5 1) (open_file (9 ∷ []) 1)
unfolding owners
cut_stands_e =
    stands_file 1 (14 ∷ []) [] (extent 0 11 1) [] (9 ∷ []) 1 tables_p (none_in 64) (one_in 4096 0 11 1 (omega arith) (omega arith) (omega arith)) refl refl refl
    (log_none batch_e)

live_e : Stands (volume_with File 1 2 (14 ∷ []) [] (extent 0 11 1)) [] words_p (only_5 1) (open_file (9 ∷ 7 ∷ []) 1)
unfolding owners
live_e =
    stands_file 2 (14 ∷ []) [] (extent 0 11 1) [] (9 ∷ 7 ∷ []) 1 tables_p (none_in 64) (one_in 4096 0 11 1 (omega arith) (omega arith) (omega arith)) refl refl refl
    (log_none (volume_with File 1 2 (14 ∷ []) [] (extent 0 11 1)))

no_freed_e : UsesNoFreed world_e
no_freed_e = record {
  mapped = mapped_with File 1 1 (14 ∷ []) [] (extent 0 11 1) (λ ino block b. IsSettled world_e ino block b ⊎ IsFresh committed_d b)
      (λ block b is.
      let within = covers-disk_at (extent 0 11 1) block b is in
      inr (fresh_with File 1 3 (13 ∷ []) (extent 1 11 1) (extent 0 10 1) b (apart_behind 0 0 11 10 1 1 b (omega arith) within) (not_13_in 0 11 1 (omega arith) b within)));
  staging = staging_with File 1 1 (14 ∷ []) [] (extent 0 11 1) (IsFresh committed_d) refl (λ b is. cc);
  chains = chains_with File 1 1 (14 ∷ []) [] (extent 0 11 1) (λ ino k. IsSameMap world_e ino ⊎ IsFresh committed_d (block_at (chain batch_e ino) k)) chained;
} where
  chained : (j : ℕ) → j < 1 → IsSameMap world_e 5 ⊎ IsFresh committed_d (block_at (14 ∷ []) j)
  chained zero below = inr (fresh_with File 1 3 (13 ∷ []) (extent 1 11 1) (extent 0 10 1) 14 refl not_14)
    where
      not_14 : (j : ℕ) → j < 1 → block_at (13 ∷ []) j ≢ 14
      not_14 zero low same = absurd (omega (arith, same))
      not_14 (suc j) low same = absurd (omega (arith, low))
  chained (suc j) below = absurd (omega (arith, below))

-- byte 1 is in another block than on the medium
not_settled_e : (b i : ℕ) → i < 3 → 1 ≤ i → i < 2 → disk_of batch_e [] 5 (i / 4096) ≡ Some b → disk_of committed_d [] 5 (i / 4096) ≡ Some b → ⊥
not_settled_e b zero below past long at same = absurd (omega (arith, past))
not_settled_e b (suc zero) below past long at same = absurd (omega (arith, same_Some 11 b at, same_Some 10 b same))
not_settled_e b (suc (suc i)) below past long at same = absurd (omega (arith, long))

no_settled_e : (b i : ℕ) → i < 2 → disk_of batch_e [] 5 (i / 4096) ≡ Some b → disk_of committed_d [] 5 (i / 4096) ≡ Some b → ⊥
no_settled_e b zero below at same = absurd (omega (arith, same_Some 11 b at, same_Some 10 b same))
no_settled_e b (suc zero) below at same = absurd (omega (arith, same_Some 11 b at, same_Some 10 b same))
no_settled_e b (suc (suc i)) below at same = absurd (omega (arith, below))

pub row_e : HasWorldCutInCheckpoint
unfolding write_rows truncate_rows opened key_of binding_of pwrite_done written with_file fsync_done with_published truncate_done
row_e = record {
  medium = record { state = open_file (9 ∷ 2 ∷ 3 ∷ []) 3; shape = refl; left = left_d; stands = own_d; fsyncs = refl; published = published_d };
  cut = record { state = open_file (9 ∷ []) 1; shape = refl; left = cut_d; stands = cut_stands_e };
  live = live_e;
  lengths = record {
    count = refl;
    each = files_with File 1 1 (14 ∷ []) [] (extent 0 11 1) (λ ino. slice_index (only_5 2) ino ≡ length (bytes_of (node_at (run start_d (kept_d ++ later_d)).nodes (number (only_5 1) ino)))) (λ file. refl);
  };
  blocks = no_freed_e;
  cuts = record {
    settled = λ ino i b used below at settled.
        size_with File 1 1 (14 ∷ []) [] (extent 0 11 1) (λ n k. is_shortened (open_file (9 ∷ 2 ∷ 3 ∷ []) 3) (map begun later_d) (number (only_5 1) n) k ≡ false) not_cut_d ino i below;
    staged = λ ino i b used node past below long at settled.
        absurd (size_with File 1 3 (13 ∷ []) (extent 1 11 1) (extent 0 10 1)
        (λ n k. size_of batch_e [] n ≤ k → k < slice_index (only_5 2) n → disk_of batch_e [] n (k / 4096) ≡ Some b → disk_of committed_d [] n (k / 4096) ≡ Some b → ⊥)
        (not_settled_e b) ino i below past long at settled.same);
    unstaged = λ ino i b used long none at settled.
        absurd (length_with 2 (λ n k. disk_of batch_e [] n (k / 4096) ≡ Some b → disk_of committed_d [] n (k / 4096) ≡ Some b → ⊥)
        (λ k low. no_settled_e b k low) ino i long at settled.same);
  };
}

-- ---- a write in place that lost its power

only_10 : (block b : ℕ) → disk_at (extent 0 10 1) block ≡ Some b → 10 ≡ b
only_10 block b is = ten b (covers-disk_at (extent 0 10 1) block b is) where
  ten : (x : ℕ) → covers (extent 0 10 1) x ≡ true → 10 ≡ x
  ten x within = grind (arith, nat_tests, within)

-- the words differ in the first word of block 10 alone
other_word : (x : ℕ) → 5120 < x → lost_words x ≡ words_p x
other_word x behind = by lost_word 197129 (cond (x == 5632) 1801 (cond (x == 6144) 9 0)) (x == 5120) (off x behind) where
  off : (y : ℕ) → 5120 < y → (y == 5120) ≡ false
  off y after = grind (arith, nat_tests, after)

  by : (a b rest : ℕ) (c : Bool) → c ≡ false → cond c a rest ≡ cond c b rest
  by a b rest true differs = cc
  by a b rest false differs = refl

same_byte : (k : ℕ) → 1 ≢ k → 2 ≢ k → byte_of lost_words (40960 + k) ≡ byte_of words_p (40960 + k)
same_byte zero one two = refl
same_byte (suc zero) one two = absurd (one refl)
same_byte (suc (suc zero)) one two = absurd (two refl)
same_byte (suc (suc (suc zero))) one two = refl
same_byte (suc (suc (suc (suc zero)))) one two = refl
same_byte (suc (suc (suc (suc (suc zero))))) one two = refl
same_byte (suc (suc (suc (suc (suc (suc zero)))))) one two = refl
same_byte (suc (suc (suc (suc (suc (suc (suc zero))))))) one two = refl
same_byte (suc (suc (suc (suc (suc (suc (suc (suc k)))))))) one two = behind (suc (suc (suc (suc (suc (suc (suc (suc k)))))))) (omega arith) where
  behind : (j : ℕ) → 8 ≤ j → byte_of lost_words (40960 + j) ≡ byte_of words_p (40960 + j)
  behind j far = ap (λ (n : ℕ). n / 256 ^ ((40960 + j) % 8) % 256) (other_word ((40960 + j) / 8) (omega (arith, far)))

-- the call puts the byte 7 at place 1
puts_7 : value_put (open_file (9 ∷ 2 ∷ 3 ∷ []) 3) lost_call 1 1 ≡ Some 7
unfolding put_by write_rows opened key_of binding_of
puts_7 = refl

pub row_lost : HasLostWrite
row_lost = record { file = refl; others = others; each = each } where
  others : (i block b k : ℕ) → IsUsed committed_d i → disk_of committed_d [] i block ≡ Some b → k < 4096
      → ((p : ℕ) → 1 ≤ p → p < 3 → disk_of committed_d [] 5 (p / 4096) ≡ Some b → p % 4096 ≢ k) → byte_of lost_words (4096 * b + k) ≡ byte_of words_p (4096 * b + k)
  others i block b k used at below off =
      mapped_with File 1 3 (13 ∷ []) (extent 1 11 1) (extent 0 10 1)
      (λ ino m x. ((p : ℕ) → 1 ≤ p → p < 3 → disk_of committed_d [] 5 (p / 4096) ≡ Some x → p % 4096 ≢ k) → byte_of lost_words (4096 * x + k) ≡ byte_of words_p (4096 * x + k))
      (λ m x is none. (
      let ten = only_10 m x is in
      subst (λ y. byte_of lost_words (4096 * y + k) ≡ byte_of words_p (4096 * y + k)) ten
      (same_byte k (none 1 (omega arith) (omega arith) (ap Some ten)) (none 2 (omega arith) (omega arith) (ap Some ten)))))
      i block b used at off

  each : (i b : ℕ) → 1 ≤ i → i < 3 → disk_of committed_d [] 5 (i / 4096) ≡ Some b
      → (byte_of lost_words (4096 * b + i % 4096) ≡ byte_of words_p (4096 * b + i % 4096)) ⊎ (value_put (open_file (9 ∷ 2 ∷ 3 ∷ []) 3) lost_call 1 i ≡ Some (byte_of lost_words (4096 * b + i % 4096)))
  each zero b past below at = absurd (omega (arith, past))
  each (suc zero) b past below at = subst (λ y. (byte_of lost_words (4096 * y + 1) ≡ byte_of words_p (4096 * y + 1)) ⊎ (value_put (open_file (9 ∷ 2 ∷ 3 ∷ []) 3) lost_call 1 1 ≡ Some (byte_of lost_words (4096 * y + 1)))) (same_Some 10 b at) (inr puts_7)
  each (suc (suc zero)) b past below at = subst (λ y. (byte_of lost_words (4096 * y + 2) ≡ byte_of words_p (4096 * y + 2)) ⊎ (value_put (open_file (9 ∷ 2 ∷ 3 ∷ []) 3) lost_call 1 2 ≡ Some (byte_of lost_words (4096 * y + 2)))) (same_Some 10 b at) (inl refl)
  each (suc (suc (suc i))) b past below at = absurd (omega (arith, below))
