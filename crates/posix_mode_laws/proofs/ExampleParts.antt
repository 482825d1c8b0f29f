-- What the worked volumes and states have in common: each part of a standing, for any kind, map and chain of inode 5.
use Rattle.std.specs.Prelude.{◌≡◌, ◌≢◌, ◌⊎◌, ◌<◌, ◌≤◌, ℕ, zero, suc, ◌+◌, ◌/◌, ◌==◌, ◌&&◌, nat_le, All, Bool, true, false, cond, List, [], ◌∷◌, length, Option, Some, None, option_and_then, option_map, slice_index, refl}
use Rattle.std.specs.List.{list_all, range_with_len}
use Rattle.std.proofs.Common.{arith, ap, ◌∙◌, sym, subst, inl, inr}
use Rattle.std.proofs.lemmas.Bool.{and_parts}
use Rattle.std.proofs.lemmas.Bool.Decides.{nat_tests}
use Rattle.std.proofs.lemmas.Option.{same_Some}
use Rattle.world_image_laws.specs.pm_model.Words.{Words}
use Rattle.world_image_laws.specs.layout_model.Fields.{is_same}
use Rattle.world_image_laws.specs.layout_model.Places.{is_data_block}
use Rattle.world_image_laws.specs.extent_model.declared.extent_words.Extent.{Extent}
use Rattle.world_image_laws.specs.extent_model.Extents.{covers, disk_at}
use Rattle.world_image_laws.specs.extent_model.Covers.{covers-disk_at}
use Rattle.world_image_laws.specs.layout_model.declared.lines.Draft.{Draft}
use Rattle.world_image_laws.specs.layout_model.declared.lines.Kind.{Kind}
use Rattle.world_image_laws.specs.layout_model.declared.lines.Kind.TheVariants.{Directory, File, Free, Staging}
use Rattle.world_image_laws.specs.layout_model.Lines.{is_name, NameRow}
use Rattle.world_image_laws.specs.layout_model.Names.{child_named, line_and_child, names_of, row, up}
use Rattle.world_image_laws.specs.image_model.Content.{byte_in, disk_of, size_of}
use Rattle.world_image_laws.specs.image_model.Kept.{IsNamedRow}
use Rattle.world_image_laws.specs.image_model.Live.{is_directory, is_file}
use Rattle.world_image_laws.specs.image_model.Placed.{block_at}
use Rattle.world_image_laws.specs.image_model.Rules.{file_blocks_of, HasOneName, HasStagingBlocks, IsInData, IsKindAt, IsNamedOnce, IsRowPlaced}
use Rattle.world_image_laws.specs.image_model.Uses.{owners}
use Rattle.world_image_laws.specs.image_model.Volume.{chain, extents, inode, Volume}
use Rattle.world_image_laws.specs.posix_tables.declared.nodes.DirEntry.{DirEntry}
use Rattle.world_image_laws.specs.posix_tables.declared.nodes.Node.{Node}
use Rattle.world_image_laws.specs.posix_tables.Names.{child_of}
use Rattle.world_image_laws.specs.posix_tables.Nodes.{node_at}
use Rattle.world_image_laws.specs.posix_tables.Open.{Tables}
use Rattle.world_image_laws.specs.list_laws.Filters.{In-range}
use Rattle.world_image_laws.specs.list_laws.Members.{In}
use Rattle.world_image_laws.specs.world_model.Stands.{Consecutive, FileStands, is_used, IsSane, IsUsed, LogStands, NamesStand, NodesStand, NodeStands, number}
use Rattle.posix_mode_laws.specs.Example.{extent, only_5, state_with, volume_with}
use Rattle.posix_mode_laws.specs.Sides.{IsFresh}

-- ---- tests over a range

all-In : {X : Type 0} (p : X → Bool) (xs : List X) → list_all p xs ≡ true → (x : X) → In x xs → p x ≡ true
all-In p [] all x is = absurd is
all-In p (y ∷ ys) all x (inl same) = ap p (sym same) ∙ (and_parts (p y) (list_all p ys) all).0
all-In p (y ∷ ys) all x (inr behind) = all-In p ys (and_parts (p y) (list_all p ys) all).1 x behind

pub each_below : (p : ℕ → Bool) (n : ℕ) → list_all p (range_with_len 0 n) ≡ true → (i : ℕ) → i < n → p i ≡ true
each_below p n all i low = all-In p (range_with_len 0 n) all i (In-range 0 n i (omega arith) (omega (arith, low)))

-- A file stands where its bytes compute to those of a list.
abbrev pub has_bytes : Volume → List Draft → Words → List ℕ → Bool
has_bytes v live f bytes = list_all (λ i. byte_in f (disk_of v live 5 (i / 4096)) i == slice_index bytes i) (range_with_len 0 (length bytes))

pub file_stands : (v : Volume) (live : List Draft) (f : Words) (bytes : List ℕ) → size_of v live 5 ≡ length bytes → has_bytes v live f bytes ≡ true → FileStands v live f 5 bytes
file_stands v live f bytes size all = record { size = size; each = λ i below. same _ _ (each_below (λ j. byte_in f (disk_of v live 5 (j / 4096)) j == slice_index bytes j) (length bytes) all i below) } where
  same : (x y : ℕ) → (x == y) ≡ true → x ≡ y
  same x y is = grind (arith, nat_tests, is)

-- two extents that lie one behind the other share no block
pub apart : (p q a b n m x : ℕ) → a + n ≤ b → covers (extent p a n) x ≡ true → covers (extent q b m) x ≡ false
apart p q a b n m x order is = grind (arith, nat_tests, order, is)

pub apart_behind : (p q a b n m x : ℕ) → b + m ≤ a → covers (extent p a n) x ≡ true → covers (extent q b m) x ≡ false
apart_behind p q a b n m x order is = grind (arith, nat_tests, order, is)

-- ---- what the volume keeps

-- inodes 0 and 5 are in use
is_0_or_5 : (k : Kind) (g s : ℕ) (bs : List ℕ) (st own : List Extent) (ino : ℕ) → IsUsed (volume_with k g s bs st own) ino → (ino ≡ 0) ⊎ (ino ≡ 5)
is_0_or_5 k g s bs st own zero used = inl refl
is_0_or_5 k g s bs st own (suc zero) used = cc
is_0_or_5 k g s bs st own (suc (suc zero)) used = cc
is_0_or_5 k g s bs st own (suc (suc (suc zero))) used = cc
is_0_or_5 k g s bs st own (suc (suc (suc (suc zero)))) used = cc
is_0_or_5 k g s bs st own (suc (suc (suc (suc (suc zero))))) used = inr refl
is_0_or_5 k g s bs st own (suc (suc (suc (suc (suc (suc n)))))) used = cc

kind_at : (k : Kind) → is_used k ≡ true → IsKindAt 5 k
kind_at Free used = cc
kind_at Directory used = inr (omega arith)
kind_at File used = omega arith
kind_at Staging used = cc

named_kind : (k : Kind) → is_used k ≡ true → (is_directory k ≡ true) ⊎ (is_file k ≡ true)
named_kind Free used = cc
named_kind Directory used = inl refl
named_kind File used = inr refl
named_kind Staging used = cc

blocks_of : (k : Kind) → is_used k ≡ true → file_blocks_of k ≡ 4096
blocks_of Free used = cc
blocks_of Directory used = refl
blocks_of File used = refl
blocks_of Staging used = cc

-- each block is named once, and extents lie in the data
abbrev pub names_once : Volume → Bool
names_once v = list_all (λ b. nat_le (length (owners v b)) 1) (range_with_len 0 20)

pub sane_with : (k : Kind) (g s : ℕ) (bs : List ℕ) (st own : List Extent) → is_used k ≡ true
    → All (IsInData (volume_with k g s bs st own).geometry 64) st → All (IsInData (volume_with k g s bs st own).geometry 4096) own
    → names_once (volume_with k g s bs st own) ≡ true → IsSane (volume_with k g s bs st own)
unfolding up
sane_with k g s bs st own used st_in own_in test = record {
  kept = record { kinds = kinds; named = named; in_data = in_data; once = once; placed = placed; directories = record { each = one_directory; root = refl }; one_name = one_name };
  inode_count = refl;
  name_count = refl;
  chain_count = refl;
  map_count = refl;
  spelled = spelled;
} where
  kinds : (ino : ℕ) → ino < 6 → IsKindAt ino (inode (volume_with k g s bs st own) ino).kind
  kinds zero below = inl refl
  kinds (suc zero) below = (omega arith, omega arith)
  kinds (suc (suc zero)) below = (omega arith, omega arith)
  kinds (suc (suc (suc zero))) below = (omega arith, omega arith)
  kinds (suc (suc (suc (suc zero)))) below = (omega arith, omega arith)
  kinds (suc (suc (suc (suc (suc zero))))) below = kind_at k used
  kinds (suc (suc (suc (suc (suc (suc n)))))) below = absurd (omega (arith, below))

  once : (b : ℕ) → is_data_block (volume_with k g s bs st own).geometry b ≡ true → IsNamedOnce (volume_with k g s bs st own) b
  once b is = few (length (owners (volume_with k g s bs st own) b)) (each_below (λ n. nat_le (length (owners (volume_with k g s bs st own) n)) 1) 20 test b (low b is)) where
    few : (n : ℕ) → nat_le n 1 ≡ true → n ≤ 1
    few n le = grind (arith, nat_tests, le)

    low : (n : ℕ) → is_data_block (volume_with k g s bs st own).geometry n ≡ true → n < 20
    low n within = grind (arith, nat_tests, within)

  no_extents : (limit : ℕ) → All (IsInData (volume_with k g s bs st own).geometry limit) []
  no_extents limit i d short = absurd (omega (arith, short))

  in_data : (ino : ℕ) → ino < 6 → All (IsInData (volume_with k g s bs st own).geometry (file_blocks_of (inode (volume_with k g s bs st own) ino).kind)) (extents (volume_with k g s bs st own) ino)
  in_data zero below = no_extents 4096
  in_data (suc zero) below = st_in
  in_data (suc (suc zero)) below = no_extents 64
  in_data (suc (suc (suc zero))) below = no_extents 64
  in_data (suc (suc (suc (suc zero)))) below = no_extents 64
  in_data (suc (suc (suc (suc (suc zero))))) below = subst (λ limit. All (IsInData (volume_with k g s bs st own).geometry limit) own) (sym (blocks_of k used)) own_in
  in_data (suc (suc (suc (suc (suc (suc n)))))) below = absurd (omega (arith, below))

  named : (j : ℕ) → j < 1 → IsNamedRow (volume_with k g s bs st own) (row (volume_with k g s bs st own).names j)
  named zero below = (named_kind k used, omega arith)
  named (suc j) below = absurd (omega (arith, below))

  placed : (j : ℕ) → j < 1 → IsRowPlaced (volume_with k g s bs st own) j (row (volume_with k g s bs st own).names j)
  placed zero below = record { parent = refl; only = only; steps = (0, omega arith, refl) } where
    only : (later : ℕ) (r : NameRow) → 0 < later → row (volume_with k g s bs st own).names later ≡ Some r → r.parent ≡ 0 → r.name ≢ 97 ∷ []
    only zero r after is parent name = omega (arith, after)
    only (suc later) r after is parent name = cc
  placed (suc j) below = absurd (omega (arith, below))

  one_directory : (ino : ℕ) → 0 < ino → is_directory (inode (volume_with k g s bs st own) ino).kind ≡ true → 1 ≤ names_of (volume_with k g s bs st own).names ino
  one_directory zero after is = absurd (omega (arith, after))
  one_directory (suc zero) after is = cc
  one_directory (suc (suc zero)) after is = cc
  one_directory (suc (suc (suc zero))) after is = cc
  one_directory (suc (suc (suc (suc zero)))) after is = cc
  one_directory (suc (suc (suc (suc (suc zero))))) after is = omega arith
  one_directory (suc (suc (suc (suc (suc (suc n)))))) after is = cc

  one_name : (ino : ℕ) → ino < 6 → HasOneName (volume_with k g s bs st own) ino
  one_name zero below = omega arith
  one_name (suc zero) below = omega arith
  one_name (suc (suc zero)) below = omega arith
  one_name (suc (suc (suc zero))) below = omega arith
  one_name (suc (suc (suc (suc zero)))) below = omega arith
  one_name (suc (suc (suc (suc (suc zero))))) below = omega arith
  one_name (suc (suc (suc (suc (suc (suc n)))))) below = absurd (omega (arith, below))

  spelled : (j : ℕ) (r : NameRow) → row (volume_with k g s bs st own).names j ≡ Some r → is_name r.name ≡ true
  spelled zero r is = ap (λ (x : NameRow). is_name x.name) (sym (same_Some (let a : NameRow = record { parent = 0; child = 5; name = 97 ∷ [] } in a) r is))
  spelled (suc j) r is = cc

-- ---- what stands

abbrev entry : ℕ → DirEntry
entry n = record { parent = 0; name = 97 ∷ []; child = n }

pub names_with : (k : Kind) (g s : ℕ) (bs : List ℕ) (st own : List Extent) → is_used k ≡ true → (rest : List Node) (m : ℕ) (tables : Tables) → m < length rest
    → NamesStand (volume_with k g s bs st own) (only_5 (suc m)) (state_with rest (suc m) tables)
names_with k g s bs st own used rest m tables there = record { root = refl; root_used = refl; within = within; one = one; names = names; entry_parents = entry_parents; distinct = (refl, tt) } where
  other : (0 == suc m) ≡ false
  other = grind (arith, nat_tests)

  within : (ino : ℕ) → IsUsed (volume_with k g s bs st own) ino → number (only_5 (suc m)) ino < length (Node.Directory ∷ rest)
  within ino is = elim (is_0_or_5 k g s bs st own ino is) [
    | inl root ↦ subst (λ n. number (only_5 (suc m)) n < length (Node.Directory ∷ rest)) (sym root) (omega (arith, there))
    | inr file ↦ subst (λ n. number (only_5 (suc m)) n < length (Node.Directory ∷ rest)) (sym file) (omega (arith, there))
  ]

  one : (i j : ℕ) → IsUsed (volume_with k g s bs st own) i → IsUsed (volume_with k g s bs st own) j → number (only_5 (suc m)) i ≡ number (only_5 (suc m)) j → i ≡ j
  one i j i_used j_used same = elim (is_0_or_5 k g s bs st own i i_used) [
    | inl i_root ↦ elim (is_0_or_5 k g s bs st own j j_used) [
      | inl j_root ↦ i_root ∙ sym j_root
      | inr j_file ↦ let never : 0 ≡ suc m = ap (number (only_5 (suc m))) (sym i_root) ∙ (same ∙ ap (number (only_5 (suc m))) j_file) in absurd (omega (arith, never))
    ]
    | inr i_file ↦ elim (is_0_or_5 k g s bs st own j j_used) [
      | inl j_root ↦ let never : suc m ≡ 0 = ap (number (only_5 (suc m))) (sym i_file) ∙ (same ∙ ap (number (only_5 (suc m))) j_root) in absurd (omega (arith, never))
      | inr j_file ↦ i_file ∙ sym j_file
    ]
  ]

  names : (p : ℕ) (name : List ℕ) → IsUsed (volume_with k g s bs st own) p
      → option_map (number (only_5 (suc m))) (child_named (volume_with k g s bs st own).names p name) ≡ child_of (state_with rest (suc m) tables).entries (number (only_5 (suc m)) p) name
  names zero name is = by (is_same (97 ∷ []) name) where
    by : (c : Bool)
        → option_map (number (only_5 (suc m)))
        (option_and_then (λ (found : ℕ × ℕ). Some found.1)
        (option_and_then (λ (found : ℕ × Option NameRow). Some (line_and_child found)) (cond c (Some (0, Some (let r : NameRow = record { parent = 0; child = 5; name = 97 ∷ [] } in r))) None)))
        ≡ option_map (λ (e : DirEntry). e.child) (cond c (Some (entry (suc m))) None)
    by true = refl
    by false = refl
  names (suc zero) name is = cc
  names (suc (suc zero)) name is = cc
  names (suc (suc (suc zero))) name is = cc
  names (suc (suc (suc (suc zero)))) name is = cc
  names (suc (suc (suc (suc (suc zero))))) name is = by (0 == suc m) other where
    by : (c : Bool) → c ≡ false → None ≡ option_map (λ (e : DirEntry). e.child) (cond (c && is_same (97 ∷ []) name) (Some (entry (suc m))) None)
    by true off = cc
    by false off = refl
  names (suc (suc (suc (suc (suc (suc n)))))) name is = cc

  entry_parents : (n : ℕ) (name : List ℕ) (c : ℕ) → child_of (state_with rest (suc m) tables).entries n name ≡ Some c → (p : ℕ) × IsUsed (volume_with k g s bs st own) p × (number (only_5 (suc m)) p ≡ n)
  entry_parents zero name c leads = (0, refl, refl)
  entry_parents (suc n) name c leads = by (0 == suc n) (off n) leads where
    off : (j : ℕ) → (0 == suc j) ≡ false
    off j = grind (arith, nat_tests)

    by : (b : Bool) → b ≡ false → option_map (λ (e : DirEntry). e.child) (cond (b && is_same (97 ∷ []) name) (Some (entry (suc m))) None) ≡ Some c
        → (p : ℕ) × IsUsed (volume_with k g s bs st own) p × (number (only_5 (suc m)) p ≡ suc n)
    by true differs is = cc
    by false differs is = cc

pub nodes_with : (k : Kind) (g s : ℕ) (bs : List ℕ) (st own : List Extent) (live : List Draft) (f : Words) → is_used k ≡ true → (rest : List Node) (m : ℕ) (tables : Tables)
    → NodeStands (volume_with k g s bs st own) live f 5 k (node_at rest m) → ((j : ℕ) → node_at rest j ≢ Node.Gone → j ≡ m)
    → NodesStand (volume_with k g s bs st own) live f (only_5 (suc m)) (state_with rest (suc m) tables)
nodes_with k g s bs st own live f used rest m tables file only = record { each = each; all = all } where
  each : (ino : ℕ) → IsUsed (volume_with k g s bs st own) ino
      → NodeStands (volume_with k g s bs st own) live f ino (inode (volume_with k g s bs st own) ino).kind (node_at (Node.Directory ∷ rest) (number (only_5 (suc m)) ino))
  each zero is = tt
  each (suc zero) is = cc
  each (suc (suc zero)) is = cc
  each (suc (suc (suc zero))) is = cc
  each (suc (suc (suc (suc zero)))) is = cc
  each (suc (suc (suc (suc (suc zero))))) is = file
  each (suc (suc (suc (suc (suc (suc n)))))) is = cc

  all : (n : ℕ) → node_at (Node.Directory ∷ rest) n ≢ Node.Gone → (ino : ℕ) × IsUsed (volume_with k g s bs st own) ino × (number (only_5 (suc m)) ino ≡ n)
  all zero there = (0, refl, refl)
  all (suc j) there = (5, used, ap suc (sym (only j there)))

-- no run is staged, or one
pub log_none : (v : Volume) → LogStands v []
log_none v = record { staging = λ d is. absurd is; staged = λ d is. absurd is; apart = λ d e is other. absurd is; orders = λ ino. tt }

pub log_one : (v : Volume) (d : Draft) → (inode v d.staging).kind ≡ Staging → HasStagingBlocks v d → d.order ≡ (inode v d.ino).applied + 1 → LogStands v (d ∷ [])
log_one v d staging staged order = record {
  staging = λ e is. ap (λ (x : Draft). (inode v x.staging).kind) (sym (one e is)) ∙ staging;
  staged = λ e is. subst (HasStagingBlocks v) (one e is) staged;
  apart = λ e g e_is g_is. inl (sym (one e e_is) ∙ one g g_is);
  orders = λ ino. orders ino (d.ino == ino) refl;
} where
  one : (e : Draft) → In e (d ∷ []) → d ≡ e
  one e (inl same) = same
  one e (inr none) = absurd none

  same_ino : (i j : ℕ) → (i == j) ≡ true → i ≡ j
  same_ino i j is = grind (arith, nat_tests, is)

  orders : (ino : ℕ) (c : Bool) → (d.ino == ino) ≡ c → Consecutive (inode v ino).applied (cond c (d ∷ []) [])
  orders ino true is = subst (λ n. Consecutive (inode v n).applied (d ∷ [])) (same_ino d.ino ino is) (order, tt)
  orders ino false is = tt

-- ---- blocks and sizes, inode by inode

pub fresh_with : (k : Kind) (g s : ℕ) (bs : List ℕ) (st own : List Extent) (b : ℕ) → covers own b ≡ false → ((j : ℕ) → j < length bs → block_at bs j ≢ b) → IsFresh (volume_with k g s bs st own) b
fresh_with k g s bs st own b off none = record { files = files; chains = chains } where
  files : (ino block : ℕ) → IsUsed (volume_with k g s bs st own) ino → disk_of (volume_with k g s bs st own) [] ino block ≢ Some b
  files zero block used is = cc
  files (suc zero) block used is = cc
  files (suc (suc zero)) block used is = cc
  files (suc (suc (suc zero))) block used is = cc
  files (suc (suc (suc (suc zero)))) block used is = cc
  files (suc (suc (suc (suc (suc zero))))) block used is = let never : true ≡ false = sym (covers-disk_at own block b is) ∙ off in cc
  files (suc (suc (suc (suc (suc (suc n)))))) block used is = cc

  chains : (ino j : ℕ) → j < length (chain (volume_with k g s bs st own) ino) → block_at (chain (volume_with k g s bs st own) ino) j ≢ b
  chains zero j below = absurd (omega (arith, below))
  chains (suc zero) j below = absurd (omega (arith, below))
  chains (suc (suc zero)) j below = absurd (omega (arith, below))
  chains (suc (suc (suc zero))) j below = absurd (omega (arith, below))
  chains (suc (suc (suc (suc zero)))) j below = absurd (omega (arith, below))
  chains (suc (suc (suc (suc (suc zero))))) j below = none j below
  chains (suc (suc (suc (suc (suc (suc n)))))) j below = absurd (omega (arith, below))

pub mapped_with : (k : Kind) (g s : ℕ) (bs : List ℕ) (st own : List Extent) (P : ℕ → ℕ → ℕ → Type 0) → ((block b : ℕ) → disk_at own block ≡ Some b → P 5 block b)
    → (ino block b : ℕ) → IsUsed (volume_with k g s bs st own) ino → disk_of (volume_with k g s bs st own) [] ino block ≡ Some b → P ino block b
mapped_with k g s bs st own P file zero block b used is = cc
mapped_with k g s bs st own P file (suc zero) block b used is = cc
mapped_with k g s bs st own P file (suc (suc zero)) block b used is = cc
mapped_with k g s bs st own P file (suc (suc (suc zero))) block b used is = cc
mapped_with k g s bs st own P file (suc (suc (suc (suc zero)))) block b used is = cc
mapped_with k g s bs st own P file (suc (suc (suc (suc (suc zero))))) block b used is = file block b is
mapped_with k g s bs st own P file (suc (suc (suc (suc (suc (suc n)))))) block b used is = cc

pub staging_with : (k : Kind) (g s : ℕ) (bs : List ℕ) (st own : List Extent) (P : ℕ → Type 0) → is_used k ≡ true → ((b : ℕ) → covers st b ≡ true → P b)
    → (ino block b : ℕ) → (inode (volume_with k g s bs st own) ino).kind ≡ Staging → disk_at (extents (volume_with k g s bs st own) ino) block ≡ Some b → P b
staging_with k g s bs st own P used staged zero block b kind is = cc
staging_with k g s bs st own P used staged (suc zero) block b kind is = staged b (covers-disk_at st block b is)
staging_with k g s bs st own P used staged (suc (suc zero)) block b kind is = cc
staging_with k g s bs st own P used staged (suc (suc (suc zero))) block b kind is = cc
staging_with k g s bs st own P used staged (suc (suc (suc (suc zero)))) block b kind is = cc
staging_with k g s bs st own P used staged (suc (suc (suc (suc (suc zero))))) block b kind is = let never : true ≡ false = sym used ∙ ap is_used kind in cc
staging_with k g s bs st own P used staged (suc (suc (suc (suc (suc (suc n)))))) block b kind is = cc

pub chains_with : (k : Kind) (g s : ℕ) (bs : List ℕ) (st own : List Extent) (P : ℕ → ℕ → Type 0) → ((j : ℕ) → j < length bs → P 5 j)
    → (ino j : ℕ) → j < length (chain (volume_with k g s bs st own) ino) → P ino j
chains_with k g s bs st own P file zero j below = absurd (omega (arith, below))
chains_with k g s bs st own P file (suc zero) j below = absurd (omega (arith, below))
chains_with k g s bs st own P file (suc (suc zero)) j below = absurd (omega (arith, below))
chains_with k g s bs st own P file (suc (suc (suc zero))) j below = absurd (omega (arith, below))
chains_with k g s bs st own P file (suc (suc (suc (suc zero)))) j below = absurd (omega (arith, below))
chains_with k g s bs st own P file (suc (suc (suc (suc (suc zero))))) j below = file j below
chains_with k g s bs st own P file (suc (suc (suc (suc (suc (suc n)))))) j below = absurd (omega (arith, below))

pub size_with : (k : Kind) (g s : ℕ) (bs : List ℕ) (st own : List Extent) (P : ℕ → ℕ → Type 0) → ((i : ℕ) → i < s → P 5 i)
    → (ino i : ℕ) → i < size_of (volume_with k g s bs st own) [] ino → P ino i
size_with k g s bs st own P file zero i below = absurd (omega (arith, below))
size_with k g s bs st own P file (suc zero) i below = absurd (omega (arith, below))
size_with k g s bs st own P file (suc (suc zero)) i below = absurd (omega (arith, below))
size_with k g s bs st own P file (suc (suc (suc zero))) i below = absurd (omega (arith, below))
size_with k g s bs st own P file (suc (suc (suc (suc zero)))) i below = absurd (omega (arith, below))
size_with k g s bs st own P file (suc (suc (suc (suc (suc zero))))) i below = file i below
size_with k g s bs st own P file (suc (suc (suc (suc (suc (suc n)))))) i below = absurd (omega (arith, below))

pub files_with : (k : Kind) (g s : ℕ) (bs : List ℕ) (st own : List Extent) (P : ℕ → Type 0) → (k ≡ File → P 5) → (ino : ℕ) → (inode (volume_with k g s bs st own) ino).kind ≡ File → P ino
files_with k g s bs st own P file zero is = cc
files_with k g s bs st own P file (suc zero) is = cc
files_with k g s bs st own P file (suc (suc zero)) is = cc
files_with k g s bs st own P file (suc (suc (suc zero))) is = cc
files_with k g s bs st own P file (suc (suc (suc (suc zero)))) is = cc
files_with k g s bs st own P file (suc (suc (suc (suc (suc zero))))) is = file is
files_with k g s bs st own P file (suc (suc (suc (suc (suc (suc n)))))) is = cc
