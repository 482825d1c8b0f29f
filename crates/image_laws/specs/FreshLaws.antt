-- The fresh image is checked, for every geometry in range, and its content is the root alone.
use Rattle.std.specs.Prelude.{◌≡◌, ◌≢◌, ℕ, zero, suc, ◌+◌, ◌*◌, ◌/◌, ◌<◌, ◌≤◌, ◌==◌, nat_le, List, [], ◌∷◌, length, replicate, map, filter, sum_by, count_by, cond, Bool, true, false, Option, Some, None, option_and_then, refl}
use Rattle.std.specs.List.{range_with_len, filter_map, flat_map}
use Rattle.std.proofs.Common.{arith, get_or, inl, inr, ap, sym, ◌∙◌, subst}
use Rattle.std.proofs.Math.Path.{fun_ext}
use Rattle.std.proofs.lemmas.Bool.{cases_lt, cond_both, both_ways, leb-true, leb-false, eqb-true}
use Rattle.std.proofs.lemmas.Bool.Decides.{nat_tests}
use Rattle.std.proofs.lemmas.List.{get_or_past, get_or-replicate, length-replicate}
use Rattle.std.proofs.lemmas.List.FromFn.{length-map-range_with_len, get_or-map-range_with_len}
use Rattle.std.proofs.lemmas.List.Sums.{sum_by-cons}
use Rattle.volume_laws.specs.pm_model.Words.{Words, line_bytes}
use Rattle.volume_laws.specs.block_counts.Counts.{held_by}
use Rattle.volume_laws.specs.layout_model.Fields.{zeros}
use Rattle.volume_laws.specs.layout_model.Journal.{committed, journaled}
use Rattle.volume_laws.specs.layout_model.Places.{Geometry, IsGeometry, state_line, base_word, commit_word, inode_line, name_line, log_line, first_data, data_blocks}
use Rattle.volume_laws.specs.layout_model.SuperLaws.{IsSuperblockOf, superblock-read}
use Rattle.volume_laws.specs.layout_model.Superblock.{superblock, has_magic, has_version, has_numbers}
use Rattle.volume_laws.specs.layout_model.declared.lines.Draft.{Draft}
use Rattle.volume_laws.specs.layout_model.declared.lines.Inode.{Inode}
use Rattle.volume_laws.specs.layout_model.declared.lines.Kind.TheVariants.{Directory, Staging}
use Rattle.volume_laws.specs.layout_model.Entries.{decode_entry, is_self_valid}
use Rattle.volume_laws.specs.layout_model.Fresh.{empty_inode, fresh}
use Rattle.volume_laws.specs.layout_model.Lines.{NameRow, encode_inode, decode_inode, decode_name}
use Rattle.volume_laws.specs.layout_model.NameLaws.{decode_name-zeros}
use Rattle.volume_laws.specs.layout_model.Names.{row, is_child, is_entry, names_of, first_row_from, walk}
use Rattle.volume_laws.specs.extent_model.declared.extent_words.Extent.{Extent}
use Rattle.volume_laws.specs.image_model.Chains.{SpellsChain, blocks_from}
use Rattle.volume_laws.specs.image_model.Checked.{HasHead, IsLogKept, IsCheckedAs}
use Rattle.volume_laws.specs.image_model.Content.{size_of, node_by, node_of, bytes_of_file, found, content}
use Rattle.volume_laws.specs.image_model.FreshVolume.{fresh_inode, fresh_volume, root_alone}
use Rattle.volume_laws.specs.image_model.Kept.{AreKept}
use Rattle.volume_laws.specs.image_model.Live.{is_file, is_directory, entry_in, live_entries, is_live}
use Rattle.volume_laws.specs.image_model.Reading.{slot_for, Reads}
use Rattle.volume_laws.specs.image_model.Room.{is_named_file, held_after_recovery, has_none, unused_blocks}
use Rattle.volume_laws.specs.image_model.Rules.{IsKindAt, IsChecked}
use Rattle.volume_laws.specs.image_model.Standing.{IsChain}
use Rattle.volume_laws.specs.image_model.Uses.{Use, uses_by, owners}
use Rattle.volume_laws.specs.image_model.Volume.{Volume, volume, inode_at, inode, chain, extents, free_inode}
use Rattle.volume_laws.specs.Lists.{filter_map-agree, flat_map-agree, sum_by-agree, count_by-agree}
use Rattle.volume_laws.specs.ReadingLaws.{reads-volume}
use Rattle.image_laws.specs.CheckedLaws.{checked-parts}
use Rattle.image_laws.specs.FreshLines.{IsUnset, fresh-superblock, geometry_of-fresh, fresh-root, fresh-staging, fresh-zero, fresh-zeros, fresh-base, fresh-state, fresh-commit, journaled-fresh}

-- Lists of one value.
pub same-at : {X : Type 0} (d : X) (n k : ℕ) → get_or (replicate n d) k d ≡ d
same-at d n k =
    elim (cases_lt k n) [
      | inl below ↦ get_or-replicate n k d d below
      | inr past ↦ get_or_past (replicate n d) k d (rw length-replicate past)
    ]

pub flat_map-none : (a n : ℕ) → flat_map (λ (k : ℕ). let none : List Use = [] in none) (range_with_len a n) ≡ []
flat_map-none a zero = refl
flat_map-none a (suc n) = flat_map-none (a + 1) n

pub filter_map-none : (a n : ℕ) → filter_map (λ (k : ℕ). let none : Option Draft = None in none) (range_with_len a n) ≡ []
filter_map-none a zero = refl
filter_map-none a (suc n) = filter_map-none (a + 1) n

sum-none : (a n : ℕ) → sum_by (λ (k : ℕ). 0) (range_with_len a n) ≡ 0
sum-none a zero = refl
sum-none a (suc n) = omega (arith, sum_by-cons (λ (k : ℕ). 0) a (range_with_len (a + 1) n), sum-none (a + 1) n)

count-all : (a n : ℕ) → count_by (λ (k : ℕ). true) (range_with_len a n) ≡ n
count-all a zero = refl
count-all a (suc n) = omega (arith, sum_by-cons (λ (k : ℕ). 1) a (range_with_len (a + 1) n), count-all (a + 1) n)

-- The volume.

-- what holds of a directory at 0, of staging files at 1 to 4 and of free inodes elsewhere holds of each inode
pub fresh_cases : (P : ℕ → Inode → Type 0) (ino : ℕ) → (ino ≡ 0 → P ino (empty_inode Directory 0)) → (1 ≤ ino → ino ≤ 4 → P ino (empty_inode Staging 0)) → (5 ≤ ino → P ino free_inode)
    → P ino (fresh_inode ino)
fresh_cases P ino root staging free =
    cond_both (ino == 0) (empty_inode Directory 0) (cond (nat_le ino 4) (empty_inode Staging 0) free_inode) (P ino)
    (λ e. root (eqb-true ino 0 e))
    (λ apart.
    cond_both (nat_le ino 4) (empty_inode Staging 0) free_inode (P ino)
    (λ e. staging (grind (arith, nat_tests)) (leb-true ino 4 e))
    (λ e. free (leb-false ino 4 e)))

pub inode-fresh : (g : Geometry) (ino : ℕ) → 5 ≤ g.inodes → inode (fresh_volume g) ino ≡ fresh_inode ino
inode-fresh g ino least =
    elim (cases_lt ino g.inodes) [
      | inl below ↦ get_or-map-range_with_len fresh_inode 0 g.inodes ino ino free_inode below (omega arith)
      | inr past ↦
          get_or_past (map fresh_inode (range_with_len 0 g.inodes)) ino free_inode (rw length-map-range_with_len past)
          ∙ sym (fresh_cases (λ i x. 5 ≤ i → x ≡ free_inode) ino (λ e far. absurd (omega arith)) (λ from to far. absurd (omega arith)) (λ far _. refl) (omega arith))
    ]

pub row-fresh : (g : Geometry) (k : ℕ) → row (fresh_volume g).names k ≡ None
row-fresh g k = same-at None g.names k

pub chain-fresh : (g : Geometry) (ino : ℕ) → chain (fresh_volume g) ino ≡ []
chain-fresh g ino = same-at [] g.inodes ino

pub extents-fresh : (g : Geometry) (ino : ℕ) → extents (fresh_volume g) ino ≡ []
extents-fresh g ino = same-at [] g.inodes ino

-- where there is no chain and no map nothing is named
pub owners-none : (v : Volume) (b : ℕ) → ((ino : ℕ) → chain v ino ≡ []) → ((ino : ℕ) → extents v ino ≡ []) → owners v b ≡ []
unfolding owners
owners-none v b chains maps =
    flat_map-agree (λ ino. uses_by ino (chain v ino) (extents v ino) b) (λ ino. []) 0 (length v.inodes)
    (λ ino from below. λ i. uses_by ino (chains ino i) (maps ino i) b)
    ∙ flat_map-none 0 (length v.inodes)

owners-fresh : (g : Geometry) (b : ℕ) → owners (fresh_volume g) b ≡ []
owners-fresh g b = owners-none (fresh_volume g) b (chain-fresh g) (extents-fresh g)

names-none : (ino n : ℕ) → names_of (replicate n None) ino ≡ 0
names-none ino zero = refl
names-none ino (suc n) = omega (arith, sum_by-cons (λ o. cond (is_child ino o) 1 0) None (replicate n None), names-none ino n)

pub kind-fresh : (ino : ℕ) → IsKindAt ino (fresh_inode ino).kind
kind-fresh ino = fresh_cases (λ i x. IsKindAt i x.kind) ino (λ e. inl e) (λ from to. (from, to)) (λ far. far)

pub no_file : (ino : ℕ) → is_file (fresh_inode ino).kind ≡ false
no_file ino = fresh_cases (λ i x. is_file x.kind ≡ false) ino (λ e. refl) (λ from to. refl) (λ far. refl)

pub one_directory : (ino : ℕ) → 0 < ino → is_directory (fresh_inode ino).kind ≡ true → ⊥
one_directory ino = fresh_cases (λ i x. 0 < i → is_directory x.kind ≡ true → ⊥) ino (λ e above h. omega arith) (λ from to above h. cc) (λ far above h. cc)

pub fresh-kept : (g : Geometry) → IsGeometry g → AreKept (fresh_volume g)
fresh-kept g ok =
    let least : 5 ≤ g.inodes = omega (arith, ok.least_inodes) in
    record {
      kinds = λ ino below. subst (λ (x : Inode). IsKindAt ino x.kind) (sym (inode-fresh g ino least)) (kind-fresh ino);
      named = λ k below. rw row-fresh tt;
      in_data = λ ino below k d lt. absurd (let none = ap length (extents-fresh g ino) in omega arith);
      once = λ b in_data. omega (arith, ap length (owners-fresh g b));
      placed = λ k below. rw row-fresh tt;
      directories = record {
        each = λ ino above h. absurd (one_directory ino above (ap (λ (x : Inode). is_directory x.kind) (sym (inode-fresh g ino least)) ∙ h));
        root = names-none 0 g.names;
      };
      one_name = λ ino below. omega (arith, names-none ino g.names);
    }

-- The words.

pub unset-name : (g : Geometry) (k : ℕ) → IsGeometry g → IsUnset (name_line g k)
unset-name g k ok =
    record { superblock = λ e. omega arith; state = λ e. omega arith; inodes = λ ino below e. omega (arith, ok.least_inodes) }

pub unset-log : (g : Geometry) (s : ℕ) → IsGeometry g → IsUnset (log_line g s)
unset-log g s ok =
    record { superblock = λ e. omega arith; state = λ e. omega arith; inodes = λ ino below e. omega (arith, ok.least_inodes) }

pub unset-inode : (ino : ℕ) → 5 ≤ ino → IsUnset (inode_line ino)
unset-inode ino far =
    record { superblock = λ e. omega arith; state = λ e. omega arith; inodes = λ i below e. omega arith }

decode-root : decode_inode (encode_inode (empty_inode Directory 0)) ≡ Some (empty_inode Directory 0)
unfolding decode_inode
decode-root = refl

decode-staging : decode_inode (encode_inode (empty_inode Staging 0)) ≡ Some (empty_inode Staging 0)
unfolding decode_inode
decode-staging = refl

decode-free : decode_inode (zeros 64) ≡ Some free_inode
unfolding decode_inode
decode-free = refl

pub line-fresh : (g : Geometry) (ino : ℕ) → inode_at (fresh g) ino ≡ Some (fresh_inode ino)
line-fresh g ino =
    fresh_cases (λ i x. inode_at (fresh g) i ≡ Some x) ino
    (λ e. subst (λ i. inode_at (fresh g) i ≡ Some (empty_inode Directory 0)) (sym e) (ap decode_inode (fresh-root g) ∙ decode-root))
    (λ from to. ap decode_inode (fresh-staging g ino from to) ∙ decode-staging)
    (λ far. ap decode_inode (fresh-zeros g (inode_line ino) (unset-inode ino far)) ∙ decode-free)

no_map : (ino : ℕ) → ((fresh_inode ino).root ≡ 0) × ((fresh_inode ino).extents ≡ 0)
no_map ino = fresh_cases (λ i x. (x.root ≡ 0) × (x.extents ≡ 0)) ino (λ e. (refl, refl)) (λ from to. (refl, refl)) (λ far. (refl, refl))

pub empty-chain : (f : Words) (size : ℕ) → IsChain f size 0 0 [] []
unfolding blocks_from SpellsChain
empty-chain f size =
    record {
      linked = refl;
      in_device = λ k below. absurd (omega arith);
      map = record {
        spelled = refl;
        counted = refl;
        canonical = record { each = λ k d below. absurd (omega arith); rising = λ i j d order below. absurd (omega arith) };
      };
    }

coe_chain : (f : Words) (size root count : ℕ) (blocks : List ℕ) (es : List Extent) → root ≡ 0 → count ≡ 0 → blocks ≡ [] → es ≡ [] → IsChain f size root count blocks es
coe_chain f size root count blocks es r c b e = subst (λ x. x) (λ i. IsChain f size (sym r i) (sym c i) (sym b i) (sym e i)) (empty-chain f size)

pub fresh-reads : (g : Geometry) → IsGeometry g → Reads g (fresh g) (fresh_volume g)
fresh-reads g ok =
    let least : 5 ≤ g.inodes = omega (arith, ok.least_inodes) in
    record {
      geometry = refl;
      base = sym (fresh-base g);
      state = fresh-state g;
      inode_count = length-map-range_with_len fresh_inode 0 g.inodes;
      name_count = length-replicate g.names None;
      chain_count = length-replicate g.inodes [];
      map_count = length-replicate g.inodes [];
      inodes = λ ino below. line-fresh g ino ∙ ap (λ (x : Inode). Some x) (sym (inode-fresh g ino least));
      names = λ k below.
          ap decode_name (fresh-zeros g (name_line g k) (unset-name g k ok)) ∙ decode_name-zeros ∙ ap slot_for (sym (row-fresh g k));
      chains = λ ino below.
          let line = inode-fresh g ino least in
          let root : (inode (fresh_volume g) ino).root ≡ 0 = ap (λ (x : Inode). x.root) line ∙ (no_map ino).0 in
          let count : (inode (fresh_volume g) ino).extents ≡ 0 = ap (λ (x : Inode). x.extents) line ∙ (no_map ino).1 in
          coe_chain (fresh g) (512 * g.blocks) (inode (fresh_volume g) ino).root (inode (fresh_volume g) ino).extents (chain (fresh_volume g) ino) (extents (fresh_volume g) ino)
          root count (chain-fresh g ino) (extents-fresh g ino);
      blocks = λ ino below k d lt. absurd (let none = ap length (chain-fresh g ino) in omega arith);
    }

-- the head
fresh-others : (g : Geometry) (w : ℕ) → 8 ≤ w → w < 512 → w / 8 ≢ state_line → fresh g w ≡ 0
fresh-others g w from below apart =
    fresh-zero g w (record { superblock = λ e. omega arith; state = apart; inodes = λ ino small e. omega arith })

none_committed : (g : Geometry) → committed (fresh g) ≡ 0
none_committed g = cond_both (nat_le (fresh g commit_word) 128) (fresh g commit_word) 0 (λ n. n ≡ 0) (λ e. fresh-commit g) (λ e. refl)

pub fresh-head : (g : Geometry) → IsGeometry g → HasHead (4096 * g.blocks) (fresh g)
fresh-head g ok =
    let read : IsSuperblockOf g (superblock g) = superblock-read g ok in
    let line = fresh-superblock g in
    let j = journaled-fresh g in
    record {
      whole_blocks = record { blocks = g.blocks; whole = refl; least = ok.least_blocks; most = ok.most_blocks };
      magic = ap has_magic line ∙ read.magic;
      version = ap has_version line ∙ read.version;
      numbers = record {
        numbers = ap has_numbers line ∙ read.numbers;
        whole = ap (λ (h : Geometry). 4096 * h.blocks) (sym (geometry_of-fresh g ok));
        state = λ w from below. ap (λ (f : Words). f w) j ∙ fresh-state g w from below;
        others = λ w from below other apart. fresh-others g w from below apart;
      };
      records = λ r below counted. absurd (let none = none_committed g in omega arith);
      state = record {
        count = let none = fresh-commit g in omega arith;
        least_base = let base : journaled (fresh g) base_word ≡ 1 = ap (λ (f : Words). f base_word) j ∙ fresh-base g in omega arith;
        most_base = let base : journaled (fresh g) base_word ≡ 1 = ap (λ (f : Words). f base_word) j ∙ fresh-base g in omega arith;
      };
    }

-- the log
pub zeros-no_entry : (n : ℕ) → decode_entry (zeros 64) n ≡ None
unfolding decode_entry
zeros-no_entry n = refl

pub zeros-invalid : is_self_valid (zeros 64) ≡ false
unfolding decode_entry
zeros-invalid = refl

no_entry-fresh : (g : Geometry) (s : ℕ) → IsGeometry g → entry_in (fresh_volume g) (fresh g) s ≡ None
no_entry-fresh g s ok =
    ap (λ bytes. decode_entry bytes (1 + s)) (fresh-zeros g (log_line g s) (unset-log g s ok)) ∙ zeros-no_entry (1 + s)

live-fresh : (g : Geometry) → IsGeometry g → live_entries (fresh_volume g) (fresh g) ≡ []
live-fresh g ok =
    ap (filter (is_live (fresh_volume g)))
    (
    filter_map-agree (entry_in (fresh_volume g) (fresh g)) (λ s. None) 0 g.log (λ s from below. no_entry-fresh g s ok)
    ∙ filter_map-none 0 g.log
    )

-- where nothing is live the files hold nothing, and every data block is unused
pub held-fresh : (g : Geometry) (live : List Draft) → IsGeometry g → held_after_recovery (fresh_volume g) live ≡ 0
held-fresh g live ok =
    let least : 5 ≤ g.inodes = omega (arith, ok.least_inodes) in
    let v = fresh_volume g in
    sum_by-agree (λ ino. cond (is_named_file v ino) (held_by (size_of v live ino)) 0) (λ ino. 0) 0 (length v.inodes)
    (λ ino from below. let none : is_file (inode v ino).kind ≡ false = ap (λ (x : Inode). is_file x.kind) (inode-fresh g ino least) ∙ no_file ino in rw none refl)
    ∙ sum-none 0 (length v.inodes)

pub unused-fresh : (g : Geometry) → unused_blocks (fresh_volume g) ≡ data_blocks g
unused-fresh g =
    count_by-agree (λ b. has_none (owners (fresh_volume g) b)) (λ b. true) (first_data g) (data_blocks g)
    (λ b from below. ap has_none (owners-fresh g b))
    ∙ count-all (first_data g) (data_blocks g)

pub fresh-log : (g : Geometry) → IsGeometry g → IsLogKept (fresh_volume g) (fresh g)
fresh-log g ok =
    let v = fresh_volume g in
    let live = live-fresh g ok in
    let enough : 32 ≤ data_blocks g = omega (arith, ok.least_data) in
    record {
      recovers = record {
        staged = λ k d below. absurd (let none = ap length live in omega arith);
        apart = λ s t d e order below first. cc (sym first ∙ no_entry-fresh g s ok);
        orders = λ s t d e order below first. cc (sym first ∙ no_entry-fresh g s ok);
        held = omega (arith, held-fresh g (live_entries v (fresh g)) ok, enough);
        unused = omega (arith, ap length live, unused-fresh g, enough);
      };
      no_later = λ slot below valid. absurd (both_ways (is_self_valid (line_bytes (fresh g) (log_line g slot)))
          (ap is_self_valid (fresh-zeros g (log_line g slot) (unset-log g slot ok)) ∙ zeros-invalid) valid);
    }

-- The fresh image is checked, as a volume with a root alone.
pub fresh-checked_as : (g : Geometry) → IsGeometry g → IsCheckedAs (4096 * g.blocks) (fresh g) (fresh_volume g)
fresh-checked_as g ok =
    record {
      head = fresh-head g ok;
      reads = subst (λ h. Reads h (journaled (fresh g)) (fresh_volume g)) (sym (geometry_of-fresh g ok)) (subst (λ f. Reads g f (fresh_volume g)) (sym (journaled-fresh g)) (fresh-reads g ok));
      kept = fresh-kept g ok;
      log = subst (IsLogKept (fresh_volume g)) (sym (journaled-fresh g)) (fresh-log g ok);
    }

pub fresh-checked : (g : Geometry) → IsGeometry g → IsChecked (4096 * g.blocks) (fresh g)
fresh-checked g ok = checked-parts (4096 * g.blocks) (fresh g) (fresh_volume g) (fresh-checked_as g ok)

-- Its content is the root alone.
no_row : (test : Option NameRow → Bool) (n k : ℕ) → test None ≡ false → first_row_from test k (replicate n None) ≡ None
no_row test zero k fails = refl
no_row test (suc n) k fails = rw fails (no_row test n (k + 1) fails)

nothing-below : (n ino : ℕ) (name : List ℕ) (names : List (List ℕ)) → walk (replicate n None) ino (name ∷ names) ≡ None
unfolding walk
nothing-below n ino name names =
    rw (no_row (is_entry ino name) n 0 refl) refl

found-fresh : (g : Geometry) → IsGeometry g → (live : List Draft) (f : Words) (path : List (List ℕ)) → found (fresh_volume g) live f path ≡ root_alone path
unfolding found walk node_of
found-fresh g ok live f [] =
    let v = fresh_volume g in
    ap (λ (x : Inode). node_by x.kind (bytes_of_file v live f 0)) (inode-fresh g 0 (omega (arith, ok.least_inodes)))
found-fresh g ok live f (name ∷ names) =
    ap (option_and_then (node_of (fresh_volume g) live f)) (nothing-below g.names 0 name names)

pub content-fresh : (g : Geometry) → IsGeometry g → content g (fresh g) ≡ root_alone
content-fresh g ok =
    let v = volume g (journaled (fresh g)) in
    let same : v ≡ fresh_volume g = ap (volume g) (journaled-fresh g) ∙ reads-volume g (fresh g) (fresh_volume g) (fresh-reads g ok) in
    ap (λ w. found w (live_entries w (journaled (fresh g))) (journaled (fresh g))) same
    ∙ fun_ext (found-fresh g ok (live_entries (fresh_volume g) (journaled (fresh g))) (journaled (fresh g)))
