-- What the look-ups and the changes of names find in a volume with the lengths in memory: what they find in the batch.
use Rattle.std.specs.Prelude.{◌≡◌, ◌≢◌, ◌<◌, ◌+◌, ℕ, Bool, true, false, not, cond, count_by, List, [], ◌∷◌, length, nat_lt, Option, Some, None, slice_index, if◌then◌else◌, refl}
use Rattle.std.specs.List.{flat_map, position_or_len, range_with_len}
use Rattle.std.proofs.Common.{ap, ◌∙◌, sym, subst}
use Rattle.eof_laws.specs.live_model.layout_model.Places.{data_blocks, first_data}
use Rattle.eof_laws.specs.live_model.layout_model.Lines.{NameRow}
use Rattle.eof_laws.specs.live_model.layout_model.declared.lines.Inode.{Inode}
use Rattle.eof_laws.specs.live_model.layout_model.declared.lines.Kind.TheVariants.{File}
use Rattle.eof_laws.specs.live_model.image_model.Live.{is_directory}
use Rattle.eof_laws.specs.live_model.image_model.Room.{has_none, unused_blocks}
use Rattle.eof_laws.specs.live_model.image_model.Uses.{owners, uses_by}
use Rattle.eof_laws.specs.live_model.image_model.Volume.{chain, extents, inode, Volume}
use Rattle.eof_laws.specs.live_model.k_split_model.ChangesChanges.{renamed_over_directory, renamed_over_file}
use Rattle.eof_laws.specs.live_model.k_split_model.Spaces.{is_directory_in, is_free, volume_space}
use Rattle.eof_laws.specs.live_model.posix_tables.Names.{Space}
use Rattle.posix_mode_laws.specs.ChangesLaws.{sized_made, sized_removed, sized_renamed_over_directory}
use Rattle.posix_mode_laws.specs.ClaimsLaws.{space_sized}
use Rattle.posix_mode_laws.specs.Sides.{sized, with_sizes}
use Rattle.posix_mode_laws.specs.Sized.{length-with_sizes}
use Rattle.k_split_laws.specs.k_plans.Making.{IsMade, kind_of}
use Rattle.k_split_laws.specs.k_plans.Removing.{IsRemoved, IsUnlinked}
use Rattle.k_split_laws.specs.k_plans.Renaming.{file_over, IsRenamed, renamed_over}
use Rattle.k_split_laws.specs.k_tables.Found.{HasRoomAt, IsEntryAt, IsPlace, IsTargetAt}
use Rattle.k_split_laws.specs.k_tables.declared.tables.making.Place.{Place}
use Rattle.k_split_laws.specs.k_tables.declared.tables.removing.Entry.{Entry}
use Rattle.k_split_laws.specs.name_laws.Paths.{HasDirectory, IsAt, IsNewAt}
use Rattle.k_split_laws.specs.volume_change_laws.CallLaws.{row_to}

-- no block is used by a size
pub unused_sized : (ns : List ℕ) (v : Volume) → unused_blocks (sized ns v) ≡ unused_blocks v
unfolding owners
unused_sized ns v =
    ap (λ n. count_by (λ b. has_none (flat_map (λ ino. uses_by ino (chain v ino) (extents v ino) b) (range_with_len 0 n))) (range_with_len (first_data v.geometry) (data_blocks v.geometry)))
    (length-with_sizes v.inodes ns)

-- the lowest free inode is the same
free_place : (xs : List Inode) (ns : List ℕ) → position_or_len (λ (x : Inode). is_free x.kind) (with_sizes xs ns) ≡ position_or_len (λ (x : Inode). is_free x.kind) xs
free_place [] ns = refl
free_place (x ∷ xs) [] = refl
free_place (x ∷ xs) (n ∷ ns) = ap (λ k. cond (not (is_free x.kind)) (1 + k) 0) (free_place xs ns)

module _ (ns : List ℕ) (v : Volume) (same : length ns ≡ length v.inodes) (none : (ino : ℕ) → (inode v ino).kind ≢ File → slice_index ns ino ≡ 0) where
  abbrev seen : Volume
  seen = sized ns v

  abbrev spaces : volume_space (sized ns v) ≡ volume_space v
  spaces = space_sized ns v

  room_sized : (place : Place) → HasRoomAt v.inodes v.names place → HasRoomAt seen.inodes v.names place
  room_sized place room = record {
    ino = (λ i. cond (nat_lt (free_place v.inodes ns i) (length-with_sizes v.inodes ns i)) (Some (free_place v.inodes ns i)) None) ∙ room.ino;
    ino_within = subst (λ n. place.ino < n) (sym (length-with_sizes v.inodes ns)) room.ino_within;
    line = room.line;
    line_within = room.line_within;
  }

  place_sized : (p : List (List ℕ)) (place : Place) → IsPlace v.inodes v.names p place → IsPlace seen.inodes v.names p place
  place_sized p place is = record { is_new = subst (λ (sp : Space). IsNewAt sp p place.parent) (sym spaces) is.is_new; room = room_sized place is.room }

  pub entry_sized : (p : List (List ℕ)) (entry : Entry) → IsEntryAt v.inodes v.names p entry → IsEntryAt seen.inodes v.names p entry
  entry_sized p entry is = record { is_at = subst (λ (sp : Space). IsAt sp p entry.parent entry.child) (sym spaces) is.is_at; line = is.line; within = is.within; is_row = is.is_row }

  pub directory_same : (ino : ℕ) → is_directory_in seen.inodes ino ≡ is_directory_in v.inodes ino
  directory_same ino = ap (λ (sp : Space). sp.directory ino) spaces

  -- ---- what is made, and what goes

  pub made_sized : (directory : Bool) (p : List (List ℕ)) (w : Volume) (ino : ℕ) → (is : IsMade directory p v w ino) → (inode v is.place.ino).kind ≢ File → IsMade directory p (sized ns v) (sized ns w) ino
  made_sized directory p w ino is plain = record {
    place = is.place;
    is_place = place_sized p is.place is.is_place;
    ino_is = is.ino_is;
    is_made = ap (sized ns) is.is_made ∙ sized_made ns (kind_of directory) is.place.ino is.place.line (row_to p is.place.parent is.place.ino) v same (none is.place.ino plain);
  }

  pub unlinked_sized : (p : List (List ℕ)) (w : Volume) (ino : ℕ) → IsUnlinked p v w ino → IsUnlinked p (sized ns v) (sized ns w) ino
  unlinked_sized p w ino is = record {
    entry = is.entry;
    is_file = record { is_entry = entry_sized p is.entry is.is_file.is_entry; is_file = directory_same is.entry.child ∙ is.is_file.is_file };
    ino_is = is.ino_is;
    is_unlinked = ap (sized ns) is.is_unlinked;
  }

  -- a directory is no file
  pub directory_plain : (ino : ℕ) → is_directory_in v.inodes ino ≡ true → (inode v ino).kind ≢ File
  directory_plain ino is file = let never : false ≡ true = sym (ap is_directory file) ∙ is in cc

  abbrev pub removed_sized : (p : List (List ℕ)) (w : Volume) → (is : IsRemoved p v w) → IsRemoved p (sized ns v) (sized ns w)
  removed_sized p w is = record {
    entry = is.entry;
    is_directory = record {
      is_entry = entry_sized p is.entry is.is_directory.is_entry;
      is_directory = directory_same is.entry.child ∙ is.is_directory.is_directory;
      is_empty = is.is_directory.is_empty;
    };
    is_removed = ap (sized ns) is.is_removed ∙ sized_removed ns is.entry.line is.entry.child v same (none is.entry.child (directory_plain is.entry.child is.is_directory.is_directory));
  }

  -- ---- what moves

  pub target_sized : (q : List (List ℕ)) (parent : ℕ) (o : Option Entry) → IsTargetAt v.inodes v.names q parent o → IsTargetAt seen.inodes v.names q parent o
  target_sized q parent None is = is
  target_sized q parent (Some t) is = (is.0, entry_sized q t is.1)

  pub over_same : (o : Option Entry) → file_over seen.inodes o ≡ file_over v.inodes o
  over_same None = refl
  over_same (Some t) = ap (λ (b : Bool). if b then None else Some t.child) (directory_same t.child)

  pub moved_sized : (line : ℕ) (r : NameRow) (o : Option Entry) → sized ns (renamed_over line r o v) ≡ renamed_over line r o (sized ns v)
  moved_sized line r None = refl
  moved_sized line r (Some t) =
      by (is_directory_in v.inodes t.child) refl
      ∙ ap (λ (b : Bool). if b then renamed_over_directory line r t.line t.child (sized ns v) else renamed_over_file line r t.line (sized ns v)) (sym (directory_same t.child))
    where
      by : (b : Bool) → is_directory_in v.inodes t.child ≡ b
          → sized ns (if b then renamed_over_directory line r t.line t.child v else renamed_over_file line r t.line v)
          ≡ (if b then renamed_over_directory line r t.line t.child (sized ns v) else renamed_over_file line r t.line (sized ns v))
      by true is = sized_renamed_over_directory ns line r t.line t.child v same (none t.child (directory_plain t.child is))
      by false is = refl

  abbrev pub renamed_sized : (p q : List (List ℕ)) (w : Volume) (lost : Option ℕ) → IsRenamed p q v w lost → IsRenamed p q (sized ns v) (sized ns w) lost
  renamed_sized p q w lost is = record {
    moving = is.moving;
    is_moving = record {
      is_entry = entry_sized p is.moving.entry is.is_moving.is_entry;
      directory = subst (λ (sp : Space). HasDirectory sp q is.moving.parent) (sym spaces) is.is_moving.directory;
      is_target = target_sized q is.moving.parent is.moving.target is.is_moving.is_target;
    };
    lost_is = is.lost_is ∙ sym (over_same is.moving.target);
    is_renamed = ap (sized ns) is.is_renamed ∙ moved_sized is.moving.entry.line (row_to q is.moving.parent is.moving.entry.child) is.moving.target;
  }
