-- What the changes of names and nodes leave of the free blocks and of the live claims: blocks come free, and claims go dead.
use Rattle.std.specs.Prelude.{◌≡◌, ◌≢◌, ◌⊎◌, ◌≤◌, ◌<◌, ℕ, ◌+◌, ◌==◌, ◌&&◌, nat_lt, Bool, true, false, cond, count_by, List, [], ◌∷◌, filter, length, map, slice_set, Option, Some, None, slice_index_or, refl}
use Rattle.std.specs.List.{range_with_len}
use Rattle.std.proofs.Common.{arith, ap, ◌∙◌, sym, subst, inl, inr}
use Rattle.std.proofs.lemmas.Bool.{cases_eq}
use Rattle.std.proofs.lemmas.List.{get_or-set_other, get_or-set_same}
use Rattle.std.proofs.lemmas.List.Sums.{sum_by-cons}
use Rattle.image_laws.specs.layout_model.Places.{data_blocks, first_data, reserve}
use Rattle.image_laws.specs.layout_model.declared.lines.Draft.{Draft}
use Rattle.image_laws.specs.layout_model.declared.lines.Kind.{Kind}
use Rattle.image_laws.specs.layout_model.declared.lines.Kind.TheVariants.{Free, Staging}
use Rattle.image_laws.specs.layout_model.Lines.{NameRow}
use Rattle.image_laws.specs.image_model.Live.{is_file, is_live, is_of_file}
use Rattle.image_laws.specs.image_model.Reading.{node_set, row_set}
use Rattle.image_laws.specs.image_model.Room.{has_none, unused_blocks}
use Rattle.image_laws.specs.image_model.Uses.{owners, Use}
use Rattle.image_laws.specs.image_model.Volume.{free_inode, inode, Volume}
use Rattle.image_laws.specs.volume_laws.Lists.{one_if}
use Rattle.world_step_laws.specs.world_model.volume_laws.OwnerLaws.{owners-node, owners-row, owners-set}
use Rattle.world_step_laws.specs.k_split_model.ChangesChanges.{dropped, gone_node, made, new_node, removed, unnamed}
use Rattle.world_step_laws.specs.world_model.list_laws.Members.{In}
use Rattle.world_step_laws.specs.world_model.posix_spec.State.{State}
use Rattle.world_step_laws.specs.world_model.Jobs.{Job, live_claims}
use Rattle.world_step_laws.specs.Ages.{AreAged, dead-made}
use Rattle.world_image_laws.specs.Images.{HasRoom}
use Rattle.world_image_laws.specs.ImagesLaws.{KeepsRoomDropped, KeepsRoomMade, KeepsRoomRemoved, KeepsRoomRenamed, KeepsRoomRenamedOverDirectory, KeepsRoomRenamedOverFile, KeepsRoomUnnamed}

-- ---- counts

count_by-le : {X : Type 0} (p q : X → Bool) (xs : List X) → ((x : X) → p x ≡ true → q x ≡ true) → count_by p xs ≤ count_by q xs
count_by-le p q [] implies = omega arith
count_by-le {X} p q (x ∷ xs) implies =
    omega (arith, sum_by-cons (λ y. one_if (p y)) x xs, sum_by-cons (λ y. one_if (q y)) x xs, one (p x) (q x) (implies x), count_by-le p q xs implies) where
      one : (a b : Bool) → (a ≡ true → b ≡ true) → one_if a ≤ one_if b
      one false b is = omega arith
      one true b is = subst (λ c. 1 ≤ one_if c) (sym (is refl)) (omega arith)

filter-le : {X : Type 0} (p q : X → Bool) (xs : List X) → ((x : X) → In x xs → p x ≡ true → q x ≡ true) → length (filter p xs) ≤ length (filter q xs)
filter-le p q [] implies = omega arith
filter-le {X} p q (x ∷ xs) implies = by (p x) (q x) (implies x (inl refl)) (filter-le p q xs (λ y is. implies y (inr is))) where
  by : (a b : Bool) → (a ≡ true → b ≡ true) → length (filter p xs) ≤ length (filter q xs)
      → length (cond a (x ∷ filter p xs) (filter p xs)) ≤ length (cond b (x ∷ filter q xs) (filter q xs))
  by true true is rest = omega (arith, rest)
  by true false is rest = let never : false ≡ true = is refl in cc
  by false true is rest = omega (arith, rest)
  by false false is rest = rest

-- The room is kept where blocks come free, and what is live was live before.
pub room_kept : (v w : Volume) (claims : List (ℕ × Draft)) (jobs : List Job) (s new : State) → w.geometry ≡ v.geometry → new.shape ≡ s.shape → unused_blocks v ≤ unused_blocks w
    → ((d : Draft) → In d (map (λ (c : ℕ × Draft). c.1) claims) → is_live w d ≡ true → is_live v d ≡ true) → HasRoom v claims jobs s → HasRoom w claims jobs new
room_kept v w claims jobs s new geometry shape freed dead room = record {
  free =
      subst (λ g. length (live_claims w claims) + length jobs + reserve g ≤ unused_blocks w + 3) (sym geometry)
      (omega (arith, room.free, freed, filter-le (is_live w) (is_live v) (map (λ (c : ℕ × Draft). c.1) claims) dead));
  blocks = ap (λ x. x.data_blocks) shape ∙ (room.blocks ∙ ap data_blocks (sym geometry));
}

-- ---- blocks

unused-owners : (v w : Volume) → w.geometry ≡ v.geometry → ((b : ℕ) → has_none (owners v b) ≡ true → has_none (owners w b) ≡ true) → unused_blocks v ≤ unused_blocks w
unused-owners v w geometry freed =
    subst (λ g. unused_blocks v ≤ count_by (λ b. has_none (owners w b)) (range_with_len (first_data g) (data_blocks g))) (sym geometry)
    (count_by-le (λ b. has_none (owners v b)) (λ b. has_none (owners w b)) (range_with_len (first_data v.geometry) (data_blocks v.geometry)) freed)

no_uses : (us : List Use) → has_none us ≡ true → length us ≡ 0
no_uses [] is = refl
no_uses (u ∷ us) is = cc

none_used : (us : List Use) → length us ≡ 0 → has_none us ≡ true
none_used [] is = refl
none_used (u ∷ us) is = absurd (omega (arith, is))

-- ---- claims

live_other : (v w : Volume) (d : Draft) → inode w d.ino ≡ inode v d.ino → (inode w d.staging).generation ≡ (inode v d.staging).generation → is_live w d ≡ is_live v d
live_other v w d own staging =
    λ i. is_file (own i).kind && ((own i).generation == d.generation) && nat_lt (own i).applied d.order && (staging i == d.staging_generation)

live_of_file : (v : Volume) (d : Draft) → is_of_file v d ≡ false → is_live v d ≡ true → ⊥
live_of_file v d none live =
    let dead : is_live v d ≡ false = ap (λ x. x && nat_lt (inode v d.ino).applied d.order && ((inode v d.staging).generation == d.staging_generation)) none in
    let never : true ≡ false = sym live ∙ dead in
    cc

-- where an inode's line goes free
live_gone : (v w : Volume) (ino : ℕ) (d : Draft) → ino < length v.inodes → w.inodes ≡ slice_set v.inodes ino (gone_node (inode v ino)) → is_live w d ≡ true → is_live v d ≡ true
live_gone v w ino d below are live = elim (cases_eq d.ino ino) [
  | inl same ↦
      let gone : inode w d.ino ≡ gone_node (inode v ino) = at d.ino ∙ (ap (λ n. slice_index_or (slice_set v.inodes ino (gone_node (inode v ino))) n free_inode) same ∙ own) in
      absurd (live_of_file w d (ap (λ x. is_file x.kind && (x.generation == d.generation)) gone) live)
  | inr other ↦ sym (live_other v w d (at d.ino ∙ get_or-set_other v.inodes ino d.ino (gone_node (inode v ino)) free_inode other) (generation d.staging (cases_eq d.staging ino))) ∙ live
] where
  at : (n : ℕ) → inode w n ≡ slice_index_or (slice_set v.inodes ino (gone_node (inode v ino))) n free_inode
  at n = ap (λ xs. slice_index_or xs n free_inode) are

  own : slice_index_or (slice_set v.inodes ino (gone_node (inode v ino))) ino free_inode ≡ gone_node (inode v ino)
  own = get_or-set_same v.inodes ino (gone_node (inode v ino)) free_inode below

  generation : (n : ℕ) → (n ≡ ino) ⊎ (n ≢ ino) → (inode w n).generation ≡ (inode v n).generation
  generation n (inl same) =
      ap (λ x. x.generation) (at n ∙ (ap (λ k. slice_index_or (slice_set v.inodes ino (gone_node (inode v ino))) k free_inode) same ∙ own)) ∙ ap (λ k. (inode v k).generation) (sym same)
  generation n (inr other) = ap (λ x. x.generation) (at n ∙ get_or-set_other v.inodes ino n (gone_node (inode v ino)) free_inode other)

-- where a free line is taken, no claim of the lap is of the new node
live_made : (kind : Kind) (ino line : ℕ) (r : NameRow) (v : Volume) (claims : List (ℕ × Draft)) (count : ℕ) (d : Draft) → AreAged v claims count → ino < length v.inodes → (inode v ino).kind ≡ Free
    → In d (map (λ (c : ℕ × Draft). c.1) claims) → is_live (made kind ino line r v) d ≡ true → is_live v d ≡ true
live_made kind ino line r v claims count d aged below free is live = elim (cases_eq d.ino ino) [
  | inl same ↦ absurd (live_of_file (made kind ino line r v) d (dead-made kind ino line r v claims count d aged below is same) live)
  | inr other ↦
      sym (live_other v (made kind ino line r v) d (get_or-set_other v.inodes ino d.ino (new_node kind (inode v ino)) free_inode other)
      (ap (λ x. x.generation) (get_or-set_other v.inodes ino d.staging (new_node kind (inode v ino)) free_inode staged)))
      ∙ live
] where
  staged : d.staging ≢ ino
  staged same = let never : Staging ≡ Free = sym (aged.staging d is) ∙ (ap (λ n. (inode v n).kind) same ∙ free) in cc

-- ---- the changes

pub room_made : KeepsRoomMade
room_made kind ino line r v claims jobs s new count room aged below free shape =
    room_kept v (made kind ino line r v) claims jobs s new refl shape
    (unused-owners v (made kind ino line r v) refl (λ b none. ap has_none (owners-row (node_set ino (new_node kind (inode v ino)) v) line (Some r) b ∙ owners-node v ino (new_node kind (inode v ino)) b) ∙ none))
    (λ d is live. live_made kind ino line r v claims count d aged below free is live) room

-- a row
room_row : (line : ℕ) (o : Option NameRow) (v : Volume) (claims : List (ℕ × Draft)) (jobs : List Job) (s new : State) → HasRoom v claims jobs s → new.shape ≡ s.shape → HasRoom (row_set line o v) claims jobs new
room_row line o v claims jobs s new room shape =
    room_kept v (row_set line o v) claims jobs s new refl shape (unused-owners v (row_set line o v) refl (λ b none. ap has_none (owners-row v line o b) ∙ none)) (λ d is live. live) room

pub room_unnamed : KeepsRoomUnnamed
room_unnamed line v claims jobs s new room shape = room_row line None v claims jobs s new room shape

pub room_renamed : KeepsRoomRenamed
room_renamed line r v claims jobs s new room shape = room_row line (Some r) v claims jobs s new room shape

pub room_renamed_over_file : KeepsRoomRenamedOverFile
room_renamed_over_file line r target v claims jobs s new room shape = room_renamed line r (unnamed target v) claims jobs new new (room_unnamed target v claims jobs s new room shape) refl

-- a node and its name
pub room_removed : KeepsRoomRemoved
room_removed line ino v claims jobs s new room below shape =
    room_kept v (removed line ino v) claims jobs s new refl shape
    (unused-owners v (removed line ino v) refl (λ b none. ap has_none (owners-row (node_set ino (gone_node (inode v ino)) v) line None b ∙ owners-node v ino (gone_node (inode v ino)) b) ∙ none))
    (λ d is live. live_gone v (removed line ino v) ino d below refl live) room

pub room_renamed_over_directory : KeepsRoomRenamedOverDirectory
room_renamed_over_directory line r target ino v claims jobs s new room below shape =
    room_renamed line r (removed target ino v) claims jobs new new (room_removed target ino v claims jobs s new room below shape) refl

-- a node and its map
pub room_dropped : KeepsRoomDropped
room_dropped ino v claims jobs s new room below all shape =
    room_kept v (dropped ino v) claims jobs s new refl shape
    (unused-owners v (dropped ino v) refl (λ b none.
    none_used (owners (dropped ino v) b) (omega (arith, owners-set v ino (gone_node (inode v ino)) [] [] b below all, no_uses (owners v b) none))))
    (λ d is live. live_gone v (dropped ino v) ino d below refl live) room
