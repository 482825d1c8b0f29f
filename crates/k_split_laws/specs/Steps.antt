-- What each change of names makes of the volume and the state: a step of the World.
use Rattle.std.specs.Prelude.{◌≡◌, ◌≢◌, ℕ, ◌+◌, false, true, List, length, slice_set, Some, None, refl}
use Rattle.std.proofs.Common.{arith, ap, ◌∙◌, sym, subst}
use Rattle.std.proofs.lemmas.List.{get_or-set_other, get_or-set_same, length-set}
use Rattle.world_write_laws.specs.world_step_laws.pm_model.Words.{Words}
use Rattle.world_write_laws.specs.world_step_laws.layout_model.declared.lines.Draft.{Draft}
use Rattle.world_write_laws.specs.world_step_laws.layout_model.declared.lines.Kind.{Kind}
use Rattle.world_write_laws.specs.world_step_laws.layout_model.declared.lines.Kind.TheVariants.{Directory, File, Free, Staging}
use Rattle.world_write_laws.specs.world_step_laws.image_model.Live.{is_directory}
use Rattle.world_write_laws.specs.world_step_laws.image_model.Reading.{node_set}
use Rattle.world_write_laws.specs.world_step_laws.image_model.Volume.{inode, Volume}
use Rattle.world_write_laws.specs.world_step_laws.volume_laws.Uses.{HasAllMaps}
use Rattle.world_write_laws.specs.world_step_laws.volume_change_laws.CallLaws.{IsRowFound, row_to}
use Rattle.world_write_laws.specs.world_step_laws.volume_change_laws.Changes.{MayDrop}
use Rattle.world_write_laws.specs.world_step_laws.volume_change_laws.FoundLaws.{free-found, IsLowestFree}
use Rattle.world_write_laws.specs.world_step_laws.volume_change_laws.FrameLaws.{dropped-others}
use Rattle.world_write_laws.specs.world_step_laws.k_split_model.ChangesChanges.{dropped, gone_node, made, unnamed}
use Rattle.world_write_laws.specs.world_step_laws.k_split_model.Spaces.{volume_space}
use Rattle.k_split.specs.k_tables.Found.{IsEntryAt}
use Rattle.k_split.specs.k_tables.declared.tables.removing.Entry.{Entry}
use Rattle.world_write_laws.specs.world_step_laws.posix_types.declared.call.Call.{Call}
use Rattle.world_write_laws.specs.world_step_laws.posix_tables.declared.nodes.Node.{Node}
use Rattle.world_write_laws.specs.world_step_laws.posix_tables.Names.{last_name, node_at_path, number_at}
use Rattle.world_write_laws.specs.world_step_laws.posix_tables.NameRows.{unlink_rows}
use Rattle.world_write_laws.specs.world_step_laws.posix_tables.Outcomes.{first}
use Rattle.world_write_laws.specs.world_step_laws.posix_spec.Run.{after_call}
use Rattle.world_write_laws.specs.world_step_laws.posix_spec.State.{alone, space, State, swept, unnamed as unnamed_state, with_node}
use Rattle.world_write_laws.specs.world_step_laws.posix_spec.Step.{stepped, unlink_done}
use Rattle.world_write_laws.specs.world_step_laws.world_model.Jobs.{Job}
use Rattle.world_write_laws.specs.world_step_laws.world_model.Stands.{is_used, IsUsed, number}
use Rattle.world_write_laws.specs.world_step_laws.world_model.TreeRules.{one_name, used_below}
use Rattle.world_write_laws.specs.world_step_laws.Mirrors.{Mirrors}
use Rattle.world_write_laws.specs.world_step_laws.Rows.{HaveSameRows-Mirrors}
use Rattle.world_write_laws.specs.world_step_laws.GoneCalls.{IsWorld-dropped}
use Rattle.world_write_laws.specs.world_step_laws.MadeCalls.{IsWorld-created, IsWorld-mkdir}
use Rattle.world_write_laws.specs.world_step_laws.Makers.{renumbered}
use Rattle.world_write_laws.specs.world_step_laws.Nameless.{count-nameless, is_named-nameless, IsNameless, nameless-count, nameless-freed}
use Rattle.world_write_laws.specs.world_step_laws.NameTables.{row_used}
use Rattle.world_write_laws.specs.world_step_laws.RemoveCalls.{IsWorld-rmdir, IsWorld-unlink_midway, one_number, row_of, swept-gone}
use Rattle.world_write_laws.specs.world_step_laws.Steps.{shown_node}
use Rattle.world_write_laws.specs.world_step_laws.Worlds.{IsFound, IsWorld, node_there, world_mirror}
use Rattle.world_image_laws.specs.ImagesRooms.{room_dropped, room_made, room_removed, room_unnamed}
use Rattle.world_image_laws.specs.Settings.{keeps_setting}
use Rattle.k_split_laws.specs.Going.{IsStep}
use Rattle.k_split_laws.specs.Gone.{GoOn-gone}
use Rattle.k_split_laws.specs.SeenLaws.{StateOfUnlinkSeen, StepsDroppedSeen, StepsMkdirSeen, StepsOpenedSeen, StepsRmdirSeen, StepsUnlinkedSeen, UnlinksFileSeen}
use Rattle.k_split_laws.specs.Lives.{leaves_dropped, leaves_gone, leaves_made, leaves_row, leaves_same}
use Rattle.k_split_laws.specs.Spelled.{last_fits}

-- the entry that was found
pub found_at : (v : Volume) (p : List (List ℕ)) (entry : Entry) → IsEntryAt v.inodes v.names p entry → IsFound v p entry.parent entry.line entry.child
found_at v p entry is = record { at = is.is_at; found = is.line }

pub found_used : (v : Volume) (claims : List (ℕ × Draft)) (jobs : List Job) (f : Words) (numbers : List ℕ) (s : State) (count : ℕ) (p : List (List ℕ)) (parent line child : ℕ) → IsWorld v claims jobs f numbers s count → IsFound v p parent line child → IsUsed v child
found_used v claims jobs f numbers s count p parent line child world found =
    let r = row_of v p parent line child found in
    subst (IsUsed v) r.child_is (row_used v line r.at world.valid.stands.sane r.is).1

-- what is in use is no staging file
pub used_plain : (v : Volume) (ino : ℕ) → IsUsed v ino → (inode v ino).kind ≢ Staging
used_plain v ino used staging = let never : true ≡ false = sym used ∙ ap is_used staging in cc

-- MKDIR
pub steps_mkdir_seen : StepsMkdirSeen
steps_mkdir_seen v claims jobs numbers s count who p w ino seen lets small spelled none is =
    subst (λ i. IsStep (Some i) v w claims jobs numbers (renumbered numbers i (length s.nodes)) s (after_call s (who, Call.Mkdir p)) count (count + 1)) (sym is.ino_is)
    (subst (λ x. IsStep (Some is.place.ino) v x claims jobs numbers (renumbered numbers is.place.ino (length s.nodes)) s (after_call s (who, Call.Mkdir p)) count (count + 1)) (sym is.is_made) step) where
      free : IsLowestFree v.inodes is.place.ino
      free = free-found v.inodes is.place.ino is.is_place.room.ino

      step : IsStep (Some is.place.ino) v (made Directory is.place.ino is.place.line (row_to p is.place.parent is.place.ino) v) claims jobs numbers (renumbered numbers is.place.ino (length s.nodes)) s (after_call s (who, Call.Mkdir p)) count (count + 1)
      step = record {
        geometry = refl;
        base = refl;
        staging = λ i is_staging. refl;
        leaves = leaves_made Directory is.place.ino is.place.line (row_to p is.place.parent is.place.ino) v claims count free.within seen.world.aged free.free;
        room = room_made Directory is.place.ino is.place.line (row_to p is.place.parent is.place.ino) v claims jobs s (after_call s (who, Call.Mkdir p)) count seen.room
            seen.world.aged free.within free.free (keeps_setting s (who, Call.Mkdir p)).shape;
        takes = λ f world.
            IsWorld-mkdir v claims jobs f numbers s count who p is.place.parent is.place.ino is.place.line world small lets none is.is_place.is_new free is.is_place.room.line
            (last_fits p spelled is.is_place.is_new.directory.below is.is_place.is_new.directory.short);
      }

-- OPEN that makes the file
pub steps_opened_seen : StepsOpenedSeen
steps_opened_seen v claims jobs numbers s count who h p flags w ino seen lets small spelled none is =
    subst (λ i. IsStep (Some i) v w claims jobs numbers (renumbered numbers i (length s.nodes)) s (after_call s (who, Call.Open h p flags)) count (count + 1)) (sym is.ino_is)
    (subst (λ x. IsStep (Some is.place.ino) v x claims jobs numbers (renumbered numbers is.place.ino (length s.nodes)) s (after_call s (who, Call.Open h p flags)) count (count + 1)) (sym is.is_made) step) where
      free : IsLowestFree v.inodes is.place.ino
      free = free-found v.inodes is.place.ino is.is_place.room.ino

      step : IsStep (Some is.place.ino) v (made File is.place.ino is.place.line (row_to p is.place.parent is.place.ino) v) claims jobs numbers (renumbered numbers is.place.ino (length s.nodes)) s (after_call s (who, Call.Open h p flags)) count (count + 1)
      step = record {
        geometry = refl;
        base = refl;
        staging = λ i is_staging. refl;
        leaves = leaves_made File is.place.ino is.place.line (row_to p is.place.parent is.place.ino) v claims count free.within seen.world.aged free.free;
        room = room_made File is.place.ino is.place.line (row_to p is.place.parent is.place.ino) v claims jobs s (after_call s (who, Call.Open h p flags)) count seen.room
            seen.world.aged free.within free.free (keeps_setting s (who, Call.Open h p flags)).shape;
        takes = λ f world.
            IsWorld-created v claims jobs f numbers s count who h p flags is.place.parent is.place.ino is.place.line world small lets none is.is_place.is_new free is.is_place.room.line
            (last_fits p spelled is.is_place.is_new.directory.below is.is_place.is_new.directory.short);
      }

-- RMDIR
pub steps_rmdir_seen : StepsRmdirSeen
steps_rmdir_seen v claims jobs numbers s count who p w seen lets none is =
    subst (λ x. IsStep (Some is.entry.child) v x claims jobs numbers numbers s (after_call s (who, Call.Rmdir p)) count count) (sym is.is_removed)
    (record {
      geometry = refl;
      base = refl;
      staging = λ i is_staging. refl;
      leaves = leaves_row (Some is.entry.child) v (node_set is.entry.child (gone_node (inode v is.entry.child)) v) claims is.entry.line None
          (leaves_gone v claims count is.entry.child (used_below v is.entry.child used) seen.world.aged (used_plain v is.entry.child used));
      room = room_removed is.entry.line is.entry.child v claims jobs s (after_call s (who, Call.Rmdir p)) seen.room
          (used_below v is.entry.child used)
          (keeps_setting s (who, Call.Rmdir p)).shape;
      takes = λ f world.
          IsWorld-rmdir v claims jobs f numbers s count who p is.entry.parent is.entry.line is.entry.child world lets found is.is_directory.is_directory is.is_directory.is_empty none;
    })
  where
    found : IsFound v p is.entry.parent is.entry.line is.entry.child
    found = found_at v p is.entry is.is_directory.is_entry

    used : IsUsed v is.entry.child
    used = found_used v claims jobs seen.words numbers s count p is.entry.parent is.entry.line is.entry.child seen.world found

-- UNLINK: the name goes,
pub steps_unlinked_seen : StepsUnlinkedSeen
unfolding unnamed_state
steps_unlinked_seen v claims jobs numbers s count p w ino seen is =
    subst (λ x. IsStep None v x claims jobs numbers numbers s (unnamed_state s p) count count) (sym is.is_unlinked)
    (record {
      geometry = refl;
      base = refl;
      staging = λ i is_staging. refl;
      leaves = leaves_row None v v claims is.entry.line None (leaves_same v claims);
      room = room_unnamed is.entry.line v claims jobs s (unnamed_state s p) seen.room refl;
      takes = λ f world. IsWorld-unlink_midway v claims jobs f numbers s count p is.entry.parent is.entry.line is.entry.child world (found_at v p is.entry is.is_file.is_entry) is.is_file.is_file;
    })

pub plain_file : (kind : Kind) → is_used kind ≡ true → is_directory kind ≡ false → kind ≡ File
plain_file Free used plain = cc
plain_file Directory used plain = cc
plain_file File used plain = refl
plain_file Staging used plain = cc

-- the file may be dropped then,
pub unlinks_file_seen : UnlinksFileSeen
unlinks_file_seen v claims jobs numbers s count p w ino seen is =
    subst (λ n. MayDrop n w) (sym is.ino_is) (subst (MayDrop is.entry.child) (sym is.is_unlinked) may) where
      world : IsWorld v claims jobs seen.words numbers s count
      world = seen.world

      found : IsFound v p is.entry.parent is.entry.line is.entry.child
      found = found_at v p is.entry is.is_file.is_entry

      used : IsUsed v is.entry.child
      used = found_used v claims jobs seen.words numbers s count p is.entry.parent is.entry.line is.entry.child world found

      r : IsRowFound v.names is.entry.parent (last_name p) is.entry.line is.entry.child
      r = row_of v p is.entry.parent is.entry.line is.entry.child found

      nameless : IsNameless (slice_set v.names is.entry.line None) is.entry.child
      nameless = subst (IsNameless (slice_set v.names is.entry.line None)) r.child_is (nameless-freed v is.entry.line r.at (one_name v world.valid.stands.sane r.at.child) r.is)

      may : MayDrop is.entry.child (unnamed is.entry.line v)
      may = record {
        below = used_below v is.entry.child used;
        file = plain_file (inode v is.entry.child).kind used is.is_file.is_file;
        unnamed = nameless-count (slice_set v.names is.entry.line None) is.entry.child nameless;
      }

-- and the state of the call's end is that without the name, with the file swept
pub state_unlink_seen : StateOfUnlinkSeen
unfolding unlink_done
state_unlink_seen v claims jobs numbers s count who p w ino seen none is =
    ap (λ o. (stepped s o (unlink_done alone s p)).state) none_there ∙ ap (swept alone (unnamed_state s p)) at where
      world : IsWorld v claims jobs seen.words numbers s count
      world = seen.world

      mirror : Mirrors (IsUsed v) numbers (volume_space v) (space s)
      mirror = world_mirror v claims jobs seen.words numbers s count world

      none_there : first (unlink_rows (space s) p) ≡ None
      none_there = ap first (sym ((HaveSameRows-Mirrors (IsUsed v) numbers (volume_space v) (space s) mirror).unlink p)) ∙ none

      at : number_at (space s) p ≡ number numbers ino
      at = one_number (node_at_path (space s) p) (number numbers is.entry.child) (node_there v numbers s p is.entry.parent is.entry.child mirror is.is_file.is_entry.is_at) ∙ ap (number numbers) (sym is.ino_is)

-- ---- a file without a name goes

-- DROPPED: nobody has it open
pub steps_dropped_seen : StepsDroppedSeen
steps_dropped_seen v claims jobs numbers s count c seen may shut =
    subst (λ x. IsStep (Some c) v (dropped c v) claims jobs numbers numbers s x count count) (sym same)
    (record {
      geometry = refl;
      base = refl;
      staging = λ i is_staging. (dropped-others c v).maps i ((λ one. (let never : Staging ≡ File = sym is_staging ∙ (ap (λ n. (inode v n).kind) one ∙ may.file) in cc)), tt);
      leaves = leaves_dropped v claims count c may.below all world.aged (used_plain v c used);
      room = room_dropped c v claims jobs s gone seen.room may.below all refl;
      takes = λ f world.
          IsWorld-dropped v claims jobs f numbers s gone count c world may.file (count-nameless v.names c may.unnamed) shut
          (GoOn-gone v claims jobs f numbers s (number numbers c) world.valid shut)
          (λ n other. ap shown_node (get_or-set_other s.nodes (number numbers c) n Node.Gone Node.Gone other))
          (get_or-set_same s.nodes (number numbers c) Node.Gone Node.Gone (world.valid.stands.names.within c used)) refl (length-set s.nodes (number numbers c) Node.Gone) refl;
    })
  where
    world : IsWorld v claims jobs seen.words numbers s count
    world = seen.world

    gone : State
    gone = with_node s (number numbers c) Node.Gone

    used : IsUsed v c
    used = ap is_used may.file

    same : swept alone s (number numbers c) ≡ gone
    same = swept-gone s (number numbers c) (is_named-nameless v numbers s c world.valid.stands.sane world.valid.stands.names used (count-nameless v.names c may.unnamed)) shut

    all : HasAllMaps v
    all = record {
      chain_count = world.valid.stands.sane.chain_count ∙ sym world.valid.stands.sane.inode_count;
      map_count = world.valid.stands.sane.map_count ∙ sym world.valid.stands.sane.inode_count;
    }
