-- Claims and lengths that are told otherwise change nothing of the World.
use Rattle.std.specs.Prelude.{◌≡◌, ◌⊎◌, ◌≤◌, ◌+◌, ◌/◌, ◌==◌, ◌&&◌, nat_lt, ℕ, Bool, true, false, cond, count_by, filter, List, [], ◌∷◌, length, map, Option, Some, None, option_map, refl}
use Rattle.std.proofs.Common.{arith, ap, ◌∙◌, sym, subst, inl, inr}
use Rattle.std.proofs.Math.Path.{fun_ext}
use Rattle.std.proofs.lemmas.Bool.Decides.{Decides-eqb}
use Rattle.std.proofs.lemmas.List.Sums.{sum_by-cons}
use Rattle.world_image_laws.specs.pm_model.Words.{Words}
use Rattle.world_image_laws.specs.extent_model.Extents.{is_within}
use Rattle.world_image_laws.specs.layout_model.declared.lines.Draft.{Draft}
use Rattle.world_image_laws.specs.layout_model.declared.lines.Inode.{Inode}
use Rattle.world_image_laws.specs.layout_model.declared.lines.Kind.{Kind}
use Rattle.world_image_laws.specs.layout_model.declared.lines.Kind.TheVariants.{Directory, File, Free, Staging}
use Rattle.world_image_laws.specs.image_model.Content.{byte_in, disk_by, disk_of, entry_of_block, size_by, size_of}
use Rattle.world_image_laws.specs.image_model.Live.{is_directory, is_file, is_live, is_of_file, later_of, latest}
use Rattle.world_image_laws.specs.image_model.Rules.{AreApart, HasStagingBlocks}
use Rattle.world_image_laws.specs.image_model.Volume.{inode, Volume}
use Rattle.world_image_laws.specs.k_split_model.Spaces.{is_directory_in, is_free, volume_space}
use Rattle.world_image_laws.specs.list_laws.Filters.{filter-agree, filter-both, filter-In, In-filter, map-In}
use Rattle.world_image_laws.specs.list_laws.Members.{In}
use Rattle.world_image_laws.specs.posix_tables.declared.nodes.Node.{Node}
use Rattle.world_image_laws.specs.posix_tables.Nodes.{node_at}
use Rattle.world_image_laws.specs.posix_spec.State.{State}
use Rattle.world_image_laws.specs.world_model.Jobs.{live_claims}
use Rattle.world_image_laws.specs.world_model.Stands.{Consecutive, entries_of, is_used, IsUsed, LogStands, NodeStands, number, Stands}
use Rattle.world_image_laws.specs.world_step_laws.Worlds.{IsWorld}
use Rattle.posix_mode_laws.specs.Claims.{AreSameClaims, KeepsClaims, SizedAgain, SizedKinds, SpaceSized, with_size}
use Rattle.posix_mode_laws.specs.Sides.{sized, with_sizes}
use Rattle.posix_mode_laws.specs.Sized.{kind-sized, length-with_sizes, sane_sized, with_sizes-at}

-- ---- sizes

with_sizes-again : (xs : List Inode) (a b : List ℕ) → length a ≡ length b → with_sizes (with_sizes xs a) b ≡ with_sizes xs b
with_sizes-again [] a b same = refl
with_sizes-again (x ∷ xs) [] [] same = refl
with_sizes-again (x ∷ xs) [] (n ∷ ns) same = absurd (omega (arith, same))
with_sizes-again (x ∷ xs) (m ∷ ms) [] same = absurd (omega (arith, same))
with_sizes-again (x ∷ xs) (m ∷ ms) (n ∷ ns) same = ap (λ ys. record x { size = n } ∷ ys) (with_sizes-again xs ms ns (omega (arith, same)))

pub sized_again : SizedAgain
sized_again a b v same = ap (λ (xs : List Inode). record v { inodes = xs }) (with_sizes-again v.inodes a b same)

pub sized_kinds : SizedKinds
sized_kinds lengths v = record { names = refl; count = length-with_sizes v.inodes lengths; each = kind-sized lengths v }

free_count : (xs : List Inode) (ns : List ℕ) → count_by (λ (x : Inode). is_free x.kind) (with_sizes xs ns) ≡ count_by (λ (x : Inode). is_free x.kind) xs
free_count [] ns = refl
free_count (x ∷ xs) [] = refl
free_count (x ∷ xs) (n ∷ ns) =
    let one : Inode → ℕ = λ y. cond (is_free y.kind) 1 0 in
    sum_by-cons one (record x { size = n }) (with_sizes xs ns) ∙ ap (λ k. one x + k) (free_count xs ns) ∙ sym (sum_by-cons one x xs)

pub space_sized : SpaceSized
space_sized lengths v =
    let kinds : is_directory_in (sized lengths v).inodes ≡ is_directory_in v.inodes = fun_ext (λ ino. ap is_directory (kind-sized lengths v ino)) in
    λ i. record (volume_space v) { directory = kinds i; nodes_left = free_count v.inodes lengths i }

-- ---- what is live

pub inode_sized : (lengths : List ℕ) (v : Volume) (ino : ℕ) → inode (sized lengths v) ino ≡ record (inode v ino) { size = (inode (sized lengths v) ino).size }
inode_sized lengths v ino = with_sizes-at v.inodes lengths ino

pub applied_sized : (lengths : List ℕ) (v : Volume) (ino : ℕ) → (inode (sized lengths v) ino).applied ≡ (inode v ino).applied
applied_sized lengths v ino = ap (λ (x : Inode). x.applied) (inode_sized lengths v ino)

pub generation_sized : (lengths : List ℕ) (v : Volume) (ino : ℕ) → (inode (sized lengths v) ino).generation ≡ (inode v ino).generation
generation_sized lengths v ino = ap (λ (x : Inode). x.generation) (inode_sized lengths v ino)

pub of_file_sized : (lengths : List ℕ) (v : Volume) (d : Draft) → is_of_file (sized lengths v) d ≡ is_of_file v d
of_file_sized lengths v d = λ i. is_file (kind-sized lengths v d.ino i) && (generation_sized lengths v d.ino i == d.generation)

pub live_sized : (lengths : List ℕ) (v : Volume) (d : Draft) → is_live (sized lengths v) d ≡ is_live v d
live_sized lengths v d = λ i. of_file_sized lengths v d i && nat_lt (applied_sized lengths v d.ino i) d.order && (generation_sized lengths v d.staging i == d.staging_generation)

claims_sized : (lengths : List ℕ) (v : Volume) (claims : List (ℕ × Draft)) → live_claims (sized lengths v) claims ≡ live_claims v claims
claims_sized lengths v claims =
    filter-agree (is_live (sized lengths v)) (is_live v) (map (λ (c : ℕ × Draft). c.1) claims) (λ d there. live_sized lengths v d)

-- ---- entries with one size

latest_map : (n : ℕ) (ds : List Draft) → latest (map (with_size n) ds) ≡ option_map (with_size n) (latest ds)
latest_map n [] = refl
latest_map n (d ∷ ds) = ap (later_of (with_size n d)) (latest_map n ds) ∙ by (latest ds) where
  pick : (b : Bool) (e : Draft) → cond b (with_size n e) (with_size n d) ≡ with_size n (cond b e d)
  pick true e = refl
  pick false e = refl

  by : (o : Option Draft) → later_of (with_size n d) (option_map (with_size n) o) ≡ option_map (with_size n) (later_of d o)
  by None = refl
  by (Some e) = ap (λ (x : Draft). Some x) (pick (nat_lt d.order e.order) e)

filter_map : (n : ℕ) (p : Draft → Bool) → ((d : Draft) → p (with_size n d) ≡ p d) → (ds : List Draft) → filter p (map (with_size n) ds) ≡ map (with_size n) (filter p ds)
filter_map n p same [] = refl
filter_map n p same (d ∷ ds) =
    ap (λ (b : Bool). cond b (with_size n d ∷ filter p (map (with_size n) ds)) (filter p (map (with_size n) ds))) (same d)
    ∙ by (p d) (filter_map n p same ds) where
      by : (b : Bool) → filter p (map (with_size n) ds) ≡ map (with_size n) (filter p ds)
          → cond b (with_size n d ∷ filter p (map (with_size n) ds)) (filter p (map (with_size n) ds)) ≡ map (with_size n) (cond b (d ∷ filter p ds) (filter p ds))
      by true rest = ap (λ xs. with_size n d ∷ xs) rest
      by false rest = rest

consecutive_map : (n last : ℕ) (ds : List Draft) → Consecutive last ds → Consecutive last (map (with_size n) ds)
consecutive_map n last [] is = tt
consecutive_map n last (d ∷ ds) is = (is.0, consecutive_map n (last + 1) ds is.1)

-- the entry of a block, among those of its file
block_entry : (live : List Draft) (ino block : ℕ) → entry_of_block live ino block ≡ latest (filter (λ (d : Draft). is_within d.file_block d.count block) (entries_of ino live))
block_entry live ino block = ap latest (filter-both (λ (d : Draft). d.ino == ino) (λ (d : Draft). is_within d.file_block d.count block) live)

-- the size of a file with entries is that of the last
size_some : (n : ℕ) (ds : List Draft) (other : ℕ) → (ds ≡ [] → other ≡ n) → size_by (latest (map (with_size n) ds)) other ≡ n
size_some n [] other none = none refl
size_some n (d ∷ ds) other none = ap (λ o. size_by o other) (latest_map n (d ∷ ds)) ∙ by (latest ds) where
  by : (o : Option Draft) → size_by (option_map (with_size n) (later_of d o)) other ≡ n
  by None = refl
  by (Some e) = refl

module _ (v : Volume) (claims others : List (ℕ × Draft)) (lengths : List ℕ) (f : Words) (numbers : List ℕ) (s : State) (count : ℕ)
    (world : IsWorld v claims [] f numbers s count) (are : AreSameClaims v claims others lengths count) where
  stands : Stands v (live_claims v claims) f numbers s
  stands = world.valid.stands

  size_same : (ino : ℕ) → (inode v ino).kind ≡ File → size_of (sized lengths v) (live_claims v others) ino ≡ size_of v (live_claims v claims) ino
  size_same ino file =
      ap (λ ds. size_by (latest ds) (inode (sized lengths v) ino).size) (are.entries ino)
      ∙ size_some (size_of v (live_claims v claims) ino) (entries_of ino (live_claims v claims)) (inode (sized lengths v) ino).size
      (λ none. are.unclaimed ino file none ∙ ap (λ ds. size_by (latest ds) (inode v ino).size) (sym none))

  disk_same : (ino block : ℕ) → disk_of (sized lengths v) (live_claims v others) ino block ≡ disk_of v (live_claims v claims) ino block
  disk_same ino block =
      ap (λ o. disk_by (sized lengths v) o ino block) entry
      ∙ by (entry_of_block (live_claims v claims) ino block)
    where
      entry : entry_of_block (live_claims v others) ino block ≡ option_map (with_size (size_of v (live_claims v claims) ino)) (entry_of_block (live_claims v claims) ino block)
      entry =
          block_entry (live_claims v others) ino block
          ∙ ap (λ ds. latest (filter (λ (d : Draft). is_within d.file_block d.count block) ds)) (are.entries ino)
          ∙ ap latest (filter_map (size_of v (live_claims v claims) ino) (λ (d : Draft). is_within d.file_block d.count block) (λ d. refl) (entries_of ino (live_claims v claims)))
          ∙ latest_map (size_of v (live_claims v claims) ino) (filter (λ (d : Draft). is_within d.file_block d.count block) (entries_of ino (live_claims v claims)))
          ∙ ap (option_map (with_size (size_of v (live_claims v claims) ino))) (sym (block_entry (live_claims v claims) ino block))

      by : (o : Option Draft) → disk_by (sized lengths v) (option_map (with_size (size_of v (live_claims v claims) ino)) o) ino block ≡ disk_by v o ino block
      by None = refl
      by (Some d) = refl

  node_same : (ino : ℕ) (kind : Kind) (node : Node) → (inode v ino).kind ≡ kind → NodeStands v (live_claims v claims) f ino kind node → NodeStands (sized lengths v) (live_claims v others) f ino kind node
  node_same ino Free node is standing = absurd standing
  node_same ino Staging node is standing = absurd standing
  node_same ino Directory Node.Gone is standing = absurd standing
  node_same ino Directory Node.Directory is standing = tt
  node_same ino Directory (Node.File file) is standing = absurd standing
  node_same ino File Node.Gone is standing = absurd standing
  node_same ino File Node.Directory is standing = absurd standing
  node_same ino File (Node.File file) is standing = record {
    size = size_same ino is ∙ standing.size;
    each = λ i below. ap (λ o. byte_in f o i) (disk_same ino (i / 4096)) ∙ standing.each i below;
  }

  -- each entry is one of before, with another size
  record IsEntryAgain (d : Draft) : Type 0 where
    was : Draft
    there : In was (live_claims v claims)
    own : was.ino ≡ d.ino
    is : with_size (size_of v (live_claims v claims) d.ino) was ≡ d

  again : (d : Draft) → In d (live_claims v others) → IsEntryAgain d
  again d there =
      let own = In-filter (λ (x : Draft). x.ino == d.ino) (live_claims v others) d there ((Decides-eqb d.ino d.ino).1 refl) in
      let among = subst (λ ds. In d ds) (are.entries d.ino) own in
      let from = map-In (with_size (size_of v (live_claims v claims) d.ino)) (entries_of d.ino (live_claims v claims)) d among in
      let was = filter-In (λ (x : Draft). x.ino == d.ino) (live_claims v claims) from.0 from.1 in
      record { was = from.0; there = was.0; own = (Decides-eqb from.0.ino d.ino).0 was.1; is = from.2 }

  log_same : LogStands (sized lengths v) (live_claims v others)
  log_same = record { staging = staging; staged = staged; apart = apart; orders = orders } where
    staging : (d : Draft) → In d (live_claims v others) → (inode (sized lengths v) d.staging).kind ≡ Staging
    staging d there =
        let it = again d there in
        kind-sized lengths v d.staging ∙ subst (λ (e : Draft). (inode v e.staging).kind ≡ Staging) it.is (stands.log.staging it.was it.there)

    staged : (d : Draft) → In d (live_claims v others) → HasStagingBlocks (sized lengths v) d
    staged d there = let it = again d there in subst (HasStagingBlocks v) it.is (stands.log.staged it.was it.there)

    apart : (d e : Draft) → In d (live_claims v others) → In e (live_claims v others) → (d ≡ e) ⊎ AreApart d e
    apart d e first second =
        let a = again d first in
        let b = again e second in
        elim (stands.log.apart a.was b.was a.there b.there) [
          | inl same ↦
              let ino : d.ino ≡ e.ino = sym a.own ∙ (ap (λ (x : Draft). x.ino) same ∙ b.own) in
              inl (sym a.is ∙ ((λ i. with_size (size_of v (live_claims v claims) (ino i)) (same i)) ∙ b.is))
          | inr off ↦ inr (subst (λ (x : Draft). AreApart x e) a.is (subst (λ (y : Draft). AreApart (with_size (size_of v (live_claims v claims) d.ino) a.was) y) b.is off))
        ]

    orders : (ino : ℕ) → Consecutive (inode (sized lengths v) ino).applied (entries_of ino (live_claims v others))
    orders ino =
        subst (λ n. Consecutive n (entries_of ino (live_claims v others))) (sym (applied_sized lengths v ino))
        (subst (Consecutive (inode v ino).applied) (sym (are.entries ino))
        (consecutive_map (size_of v (live_claims v claims) ino) (inode v ino).applied (entries_of ino (live_claims v claims)) (stands.log.orders ino)))

  used_again : (ino : ℕ) → IsUsed (sized lengths v) ino → IsUsed v ino
  used_again ino used = subst (λ k. is_used k ≡ true) (kind-sized lengths v ino) used

  used_sized : (ino : ℕ) → IsUsed v ino → IsUsed (sized lengths v) ino
  used_sized ino used = subst (λ k. is_used k ≡ true) (sym (kind-sized lengths v ino)) used

  stands_again : Stands (sized lengths v) (live_claims v others) f numbers s
  stands_again = record {
    sane = sane_sized lengths v stands.sane;
    names = record {
      root = stands.names.root;
      root_used = used_sized 0 stands.names.root_used;
      within = λ ino used. stands.names.within ino (used_again ino used);
      one = λ i j first second same. stands.names.one i j (used_again i first) (used_again j second) same;
      names = λ p name used. stands.names.names p name (used_again p used);
      entry_parents = λ n name m is. (let up = stands.names.entry_parents n name m is in (up.0, used_sized up.0 up.1, up.2));
      distinct = stands.names.distinct;
    };
    nodes = record {
      each = λ ino used.
          subst (λ kind. NodeStands (sized lengths v) (live_claims v others) f ino kind (node_at s.nodes (number numbers ino))) (sym (kind-sized lengths v ino))
          (node_same ino (inode v ino).kind (node_at s.nodes (number numbers ino)) refl (stands.nodes.each ino (used_again ino used)));
      all = λ n there. (let its = stands.nodes.all n there in (its.0, used_sized its.0 its.1, its.2));
    };
    log = log_same;
  }

  pub claims_kept : IsWorld (sized lengths v) others [] f numbers s count
  claims_kept = record {
    valid = record {
      stands = subst (λ ds. Stands (sized lengths v) ds f numbers s) (sym (claims_sized lengths v others)) stands_again;
      out = tt;
      fits = world.valid.fits;
      room = world.valid.room;
    };
    claims_stand = record {
      orders = λ a b d e first second other d_file e_file same.
          are.stand.orders a b d e first second other (sym (of_file_sized lengths v d) ∙ d_file) (sym (of_file_sized lengths v e) ∙ e_file) same;
      settled = λ a d there file. elim (are.stand.settled a d there (sym (of_file_sized lengths v d) ∙ file)) [
        | inl done ↦ inl (subst (λ n. d.order ≤ n) (sym (applied_sized lengths v d.ino)) done)
        | inr alive ↦ inr (live_sized lengths v d ∙ alive)
      ];
    };
    aged = record {
      small = are.aged.small;
      staging = λ d there. kind-sized lengths v d.staging ∙ are.aged.staging d there;
      own = are.aged.own;
      taken = λ d there. (let old = are.aged.taken d there in (old.0, (old.1.0, old.1.1, old.1.2 ∙ sym (generation_sized lengths v d.ino))));
    };
    shape = record { root = world.shape.root; nodes = world.shape.nodes ∙ sym (length-with_sizes v.inodes lengths); names = world.shape.names };
    geometry = world.geometry;
  }

pub keeps_claims : KeepsClaims
keeps_claims v claims others lengths f numbers s count world are = claims_kept v claims others lengths f numbers s count world are
