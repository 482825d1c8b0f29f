-- What changes of names and nodes leave of other inodes, of live claims and of free blocks.
use Rattle.std.specs.Prelude.{◌≡◌, ◌≢◌, ◌⊎◌, ◌≤◌, ◌<◌, ℕ, ◌+◌, ◌==◌, ◌&&◌, nat_lt, Bool, true, false, count_by, List, [], ◌∷◌, filter, length, map, slice_set, Option, Some, None, slice_index_or, refl}
use Rattle.std.specs.List.{range_with_len}
use Rattle.std.proofs.Common.{arith, ap, ◌∙◌, sym, subst, inl, inr}
use Rattle.std.proofs.lemmas.Bool.{cases_eq}
use Rattle.std.proofs.lemmas.Bool.Decides.{Decides-eqb}
use Rattle.std.proofs.lemmas.List.{get_or-set_other, get_or-set_same}
use Rattle.std.proofs.lemmas.List.Sums.{sum_by-cons}
use Rattle.world_write_laws.specs.world_step_laws.layout_model.Places.{data_blocks, first_data}
use Rattle.world_write_laws.specs.world_step_laws.layout_model.declared.lines.Draft.{Draft}
use Rattle.world_write_laws.specs.world_step_laws.layout_model.declared.lines.Inode.{Inode}
use Rattle.world_write_laws.specs.world_step_laws.layout_model.declared.lines.Kind.{Kind}
use Rattle.world_write_laws.specs.world_step_laws.layout_model.declared.lines.Kind.TheVariants.{File, Free, Staging}
use Rattle.world_write_laws.specs.world_step_laws.layout_model.Lines.{NameRow}
use Rattle.world_write_laws.specs.world_step_laws.image_model.Live.{is_file, is_live, is_of_file}
use Rattle.world_write_laws.specs.world_step_laws.image_model.Reading.{node_set, row_set}
use Rattle.world_write_laws.specs.world_step_laws.image_model.Room.{has_none, unused_blocks}
use Rattle.world_write_laws.specs.world_step_laws.image_model.Uses.{owners, Use}
use Rattle.world_write_laws.specs.world_step_laws.image_model.Volume.{free_inode, inode, Volume}
use Rattle.world_write_laws.specs.world_step_laws.volume_laws.Changes.{inode-set_other, inode-set_same}
use Rattle.world_write_laws.specs.world_step_laws.volume_laws.Lists.{one_if}
use Rattle.world_write_laws.specs.world_step_laws.volume_laws.OwnerLaws.{owners-node, owners-row, owners-set}
use Rattle.world_write_laws.specs.world_step_laws.volume_laws.Uses.{HasAllMaps}
use Rattle.world_write_laws.specs.world_step_laws.k_split_model.ChangesChanges.{dropped, gone_node, made, new_node}
use Rattle.world_write_laws.specs.world_step_laws.list_laws.Filters.{filter-In}
use Rattle.world_write_laws.specs.world_step_laws.list_laws.Members.{In}
use Rattle.world_write_laws.specs.world_step_laws.world_model.Jobs.{live_claims}
use Rattle.world_write_laws.specs.world_step_laws.world_model.Stands.{entries_of}
use Rattle.world_write_laws.specs.world_step_laws.Ages.{AreAged, dead-made}
use Rattle.k_split_laws.specs.Going.{LeavesFiles}

-- ---- free blocks

count_by-le : {X : Type 0} (p q : X → Bool) (xs : List X) → ((x : X) → p x ≡ true → q x ≡ true) → count_by p xs ≤ count_by q xs
count_by-le p q [] implies = omega arith
count_by-le {X} p q (x ∷ xs) implies =
    omega (arith, sum_by-cons (λ y. one_if (p y)) x xs, sum_by-cons (λ y. one_if (q y)) x xs, one (p x) (q x) (implies x), count_by-le p q xs implies) where
      one : (a b : Bool) → (a ≡ true → b ≡ true) → one_if a ≤ one_if b
      one false b is = omega arith
      one true b is = subst (λ c. 1 ≤ one_if c) (sym (is refl)) (omega arith)

unused-owners : (v w : Volume) → w.geometry ≡ v.geometry → ((b : ℕ) → has_none (owners v b) ≡ true → has_none (owners w b) ≡ true) → unused_blocks v ≤ unused_blocks w
unused-owners v w geometry freed =
    subst (λ g. unused_blocks v ≤ count_by (λ b. has_none (owners w b)) (range_with_len (first_data g) (data_blocks g))) (sym geometry)
    (count_by-le (λ b. has_none (owners v b)) (λ b. has_none (owners w b)) (range_with_len (first_data v.geometry) (data_blocks v.geometry)) freed)

no_uses : (us : List Use) → has_none us ≡ true → length us ≡ 0
no_uses [] is = refl
no_uses (u ∷ us) is = cc

none_used : (us : List Use) → length us ≡ 0 → has_none us ≡ true
none_used [] is = refl
none_used (u ∷ us) is = absurd (omega (arith, is))

-- ---- claims

live_other : (v w : Volume) (d : Draft) → inode w d.ino ≡ inode v d.ino → (inode w d.staging).generation ≡ (inode v d.staging).generation → is_live w d ≡ is_live v d
live_other v w d own staging =
    λ i. is_file (own i).kind && ((own i).generation == d.generation) && nat_lt (own i).applied d.order && (staging i == d.staging_generation)

-- an entry of no file is not live
live_of_file : (v : Volume) (d : Draft) → is_of_file v d ≡ false → is_live v d ≡ true → ⊥
live_of_file v d none live =
    let dead : is_live v d ≡ false = ap (λ x. x && nat_lt (inode v d.ino).applied d.order && ((inode v d.staging).generation == d.staging_generation)) none in
    let never : true ≡ false = sym live ∙ dead in
    cc

no_members : (ds : List Draft) → ((d : Draft) → In d ds → ⊥) → ds ≡ []
no_members [] none = refl
no_members (d ∷ ds) none = absurd (none d (inl refl))

-- a file of which no claim is live has no entry
pub no_entries : (w : Volume) (claims : List (ℕ × Draft)) (ino : ℕ) → ((d : Draft) → In d (map (λ (c : ℕ × Draft). c.1) claims) → d.ino ≡ ino → is_live w d ≡ true → ⊥) → entries_of ino (live_claims w claims) ≡ []
no_entries w claims ino none =
    no_members (entries_of ino (live_claims w claims)) (λ d is.
    let of_file = filter-In (λ (x : Draft). x.ino == ino) (live_claims w claims) d is in
    let its = filter-In (is_live w) (map (λ (c : ℕ × Draft). c.1) claims) d of_file.0 in
    none d its.0 ((Decides-eqb d.ino ino).0 of_file.1) its.1)

-- ---- rows

pub leaves_same : (v : Volume) (claims : List (ℕ × Draft)) → LeavesFiles None v v claims
leaves_same v claims = record { others = λ i out. refl; plain = λ t same. (let never : None ≡ Some t = same in cc); own = λ ino same. (let never : None ≡ Some ino = same in cc); fewer = λ d is live. live; applied = λ i. omega arith; frees = omega arith }

-- a row more that changes
pub leaves_row : (touched : Option ℕ) (v w : Volume) (claims : List (ℕ × Draft)) (line : ℕ) (o : Option NameRow) → LeavesFiles touched v w claims → LeavesFiles touched v (row_set line o w) claims
leaves_row touched v w claims line o leaves = record {
  others = leaves.others;
  plain = leaves.plain;
  own = leaves.own;
  fewer = leaves.fewer;
  applied = leaves.applied;
  frees =
      let before = leaves.frees in
      omega (arith, before, unused-owners w (row_set line o w) refl (λ b none. ap has_none (owners-row w line o b) ∙ none));
}

-- ---- nodes

-- the line of one inode changes
node_leaves : (v : Volume) (claims : List (ℕ × Draft)) (count ino : ℕ) (x : Inode) → ino < length v.inodes → AreAged v claims count → (inode v ino).kind ≢ Staging → x.applied ≡ 0
    → ((d : Draft) → In d (map (λ (c : ℕ × Draft). c.1) claims) → d.ino ≡ ino → is_live (node_set ino x v) d ≡ true → ⊥) → LeavesFiles (Some ino) v (node_set ino x v) claims
node_leaves v claims count ino x below aged plain fresh dead = record {
  others = λ i out. other i (λ same. out (ap Some (sym same)));
  plain = λ t same. (let own : ino ≡ t = cc in subst (λ n. (inode v n).kind ≢ Staging) own plain);
  own = λ i same file.
      let own : ino ≡ i = cc in
      subst (λ n. entries_of n (live_claims (node_set ino x v) claims) ≡ []) own (no_entries (node_set ino x v) claims ino dead);
  fewer = λ d is live. fewer d is live (cases_eq d.ino ino);
  applied = λ i. applied i (cases_eq i ino);
  frees = unused-owners v (node_set ino x v) refl (λ b none. ap has_none (owners-node v ino x b) ∙ none);
} where
  other : (i : ℕ) → i ≢ ino → inode (node_set ino x v) i ≡ inode v i
  other i apart = get_or-set_other v.inodes ino i x free_inode apart

  applied : (i : ℕ) → (i ≡ ino) ⊎ (i ≢ ino) → (inode (node_set ino x v) i).applied ≤ (inode v i).applied
  applied i (inl same) =
      let none : (inode (node_set ino x v) i).applied ≡ 0 =
      ap (λ (n : ℕ). (inode (node_set ino x v) n).applied) same ∙ (ap (λ (y : Inode). y.applied) (get_or-set_same v.inodes ino x free_inode below) ∙ fresh)
      in
      omega (arith, none)
  applied i (inr apart) = let same : (inode (node_set ino x v) i).applied ≡ (inode v i).applied = ap (λ (y : Inode). y.applied) (other i apart) in omega (arith, same)

  fewer : (d : Draft) → In d (map (λ (c : ℕ × Draft). c.1) claims) → is_live (node_set ino x v) d ≡ true → (d.ino ≡ ino) ⊎ (d.ino ≢ ino) → is_live v d ≡ true
  fewer d is live (inl own) = absurd (dead d is own live)
  fewer d is live (inr apart) =
      sym (live_other v (node_set ino x v) d (other d.ino apart)
      (ap (λ (y : Inode). y.generation) (other d.staging (λ same. plain (ap (λ n. (inode v n).kind) (sym same) ∙ aged.staging d is)))))
      ∙ live

gone_dead : (v : Volume) (ino : ℕ) (d : Draft) → ino < length v.inodes → d.ino ≡ ino → is_live (node_set ino (gone_node (inode v ino)) v) d ≡ true → ⊥
gone_dead v ino d below own live =
    let line : inode (node_set ino (gone_node (inode v ino)) v) d.ino ≡ gone_node (inode v ino) =
    ap (inode (node_set ino (gone_node (inode v ino)) v)) own ∙ get_or-set_same v.inodes ino (gone_node (inode v ino)) free_inode below
    in
    live_of_file (node_set ino (gone_node (inode v ino)) v) d (ap (λ (x : Inode). is_file x.kind && (x.generation == d.generation)) line) live

-- a node goes that has no map
pub leaves_gone : (v : Volume) (claims : List (ℕ × Draft)) (count ino : ℕ) → ino < length v.inodes → AreAged v claims count → (inode v ino).kind ≢ Staging → LeavesFiles (Some ino) v (node_set ino (gone_node (inode v ino)) v) claims
leaves_gone v claims count ino below aged plain =
    node_leaves v claims count ino (gone_node (inode v ino)) below aged plain refl (λ d is own live. gone_dead v ino d below own live)

-- a node is made
pub leaves_made : (kind : Kind) (ino line : ℕ) (r : NameRow) (v : Volume) (claims : List (ℕ × Draft)) (count : ℕ) → ino < length v.inodes → AreAged v claims count → (inode v ino).kind ≡ Free
    → LeavesFiles (Some ino) v (made kind ino line r v) claims
leaves_made kind ino line r v claims count below aged free =
    leaves_row (Some ino) v (node_set ino (new_node kind (inode v ino)) v) claims line (Some r)
    (node_leaves v claims count ino (new_node kind (inode v ino)) below aged (λ staging. (let never : Free ≡ Staging = sym free ∙ staging in cc)) refl
    (λ d is own live. live_of_file (made kind ino line r v) d (dead-made kind ino line r v claims count d aged below is own) live))

-- a node goes with its map
pub leaves_dropped : (v : Volume) (claims : List (ℕ × Draft)) (count ino : ℕ) → ino < length v.inodes → HasAllMaps v → AreAged v claims count → (inode v ino).kind ≢ Staging → LeavesFiles (Some ino) v (dropped ino v) claims
leaves_dropped v claims count ino below all aged plain = record {
  others = λ i out. other i (λ same. out (ap Some (sym same)));
  plain = λ t same. (let own : ino ≡ t = cc in subst (λ n. (inode v n).kind ≢ Staging) own plain);
  own = λ i same file.
      let own : ino ≡ i = cc in
      let line : inode (dropped ino v) i ≡ gone_node (inode v ino) = ap (inode (dropped ino v)) (sym own) ∙ inode-set_same ino (gone_node (inode v ino)) [] [] v below in
      let never : File ≡ Free = sym file ∙ ap (λ (x : Inode). x.kind) line in
      cc;
  fewer = λ d is live. fewer d is live (cases_eq d.ino ino);
  applied = λ i. applied i (cases_eq i ino);
  frees =
      unused-owners v (dropped ino v) refl (λ b none.
      none_used (owners (dropped ino v) b) (omega (arith, owners-set v ino (gone_node (inode v ino)) [] [] b below all, no_uses (owners v b) none)));
} where
  other : (i : ℕ) → i ≢ ino → inode (dropped ino v) i ≡ inode v i
  other i apart = inode-set_other ino (gone_node (inode v ino)) [] [] v i apart

  applied : (i : ℕ) → (i ≡ ino) ⊎ (i ≢ ino) → (inode (dropped ino v) i).applied ≤ (inode v i).applied
  applied i (inl same) =
      let none : (inode (dropped ino v) i).applied ≡ 0 =
      ap (λ (n : ℕ). (inode (dropped ino v) n).applied) same ∙ ap (λ (y : Inode). y.applied) (inode-set_same ino (gone_node (inode v ino)) [] [] v below)
      in
      omega (arith, none)
  applied i (inr apart) = let same : (inode (dropped ino v) i).applied ≡ (inode v i).applied = ap (λ (y : Inode). y.applied) (other i apart) in omega (arith, same)

  fewer : (d : Draft) → In d (map (λ (c : ℕ × Draft). c.1) claims) → is_live (dropped ino v) d ≡ true → (d.ino ≡ ino) ⊎ (d.ino ≢ ino) → is_live v d ≡ true
  fewer d is live (inl own) =
      let line : inode (dropped ino v) d.ino ≡ gone_node (inode v ino) = ap (inode (dropped ino v)) own ∙ inode-set_same ino (gone_node (inode v ino)) [] [] v below in
      absurd (live_of_file (dropped ino v) d (ap (λ (x : Inode). is_file x.kind && (x.generation == d.generation)) line) live)
  fewer d is live (inr apart) =
      sym (live_other v (dropped ino v) d (other d.ino apart)
      (ap (λ (y : Inode). y.generation) (other d.staging (λ same. plain (ap (λ n. (inode v n).kind) (sym same) ∙ aged.staging d is)))))
      ∙ live
