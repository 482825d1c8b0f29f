-- A file that nothing names and nobody has open goes with its staged runs, while changes gather: in an unlink, and in the last close.
use Rattle.std.specs.Prelude.{◌≡◌, ◌≢◌, ◌⊎◌, ◌<◌, ◌||◌, ℕ, false, List, [], length, None, Some, slice_index, slice_index_or, refl}
use Rattle.std.proofs.Common.{ap, ◌∙◌, sym, subst, inl, inr}
use Rattle.std.proofs.lemmas.Bool.{cases_eq}
use Rattle.std.proofs.lemmas.List.{get_or-set_other, get_or-set_same, length-set}
use Rattle.eof_laws.specs.live_model.layout_model.declared.lines.Draft.{Draft}
use Rattle.eof_laws.specs.live_model.layout_model.declared.lines.Kind.TheVariants.{File, Staging}
use Rattle.eof_laws.specs.live_model.extent_model.declared.extent_words.Extent.{Extent}
use Rattle.eof_laws.specs.live_model.image_model.Volume.{chain, extents, inode, Volume}
use Rattle.eof_laws.specs.live_model.file_table.Files.{ChangesFile, Files, runs_in, size_in}
use Rattle.eof_laws.specs.live_model.k_split_model.ChangesChanges.{dropped, gone_node}
use Rattle.eof_laws.specs.live_model.k_split_model.Spaces.{volume_space}
use Rattle.eof_laws.specs.live_model.commute_laws.posix_types.declared.call.Call.{Call}
use Rattle.eof_laws.specs.live_model.commute_laws.posix_types.declared.call.Who.{Who}
use Rattle.eof_laws.specs.live_model.commute_laws.posix_types.declared.handle.Handle.{Handle}
use Rattle.eof_laws.specs.live_model.posix_tables.NameRows.{unlink_rows}
use Rattle.eof_laws.specs.live_model.posix_tables.Names.{is_named}
use Rattle.eof_laws.specs.live_model.posix_tables.Open.{closed, is_open}
use Rattle.eof_laws.specs.live_model.posix_tables.Outcomes.{first}
use Rattle.eof_laws.specs.live_model.posix_spec.FileRows.{close_rows, file_number}
use Rattle.eof_laws.specs.live_model.posix_spec.Run.{after_call, run}
use Rattle.eof_laws.specs.live_model.posix_spec.State.{alone, State, swept, unnamed as unnamed_state}
use Rattle.eof_laws.specs.live_model.posix_laws.CutLaws.{names_cut}
use Rattle.eof_laws.specs.live_model.posix_laws.Cuts.{cut_of, goes_behind}
use Rattle.eof_laws.specs.live_model.volume_laws.Changes.{chain-set_other, chain-set_same, extents-set_other, extents-set_same}
use Rattle.eof_laws.specs.live_model.volume_laws.Uses.{HasAllMaps}
use Rattle.eof_laws.specs.live_model.world_model.Stands.{is_used, IsSane, number}
use Rattle.eof_laws.specs.live_model.world_step_laws.Nameless.{count-nameless, is_named-nameless}
use Rattle.eof_laws.specs.live_model.world_step_laws.OtherCalls.{IsWorld-close_gone}
use Rattle.eof_laws.specs.live_model.world_image_laws.ImagesRooms.{room_dropped}
use Rattle.eof_laws.specs.live_model.world_image_laws.Settings.{keeps_setting}
use Rattle.posix_mode_laws.specs.ChangesLaws.{sized_dropped}
use Rattle.posix_mode_laws.specs.Sides.{sized}
use Rattle.posix_mode_laws.specs.Sized.{kind-sized, length-with_sizes}
use Rattle.batch_laws.specs.Standing.{as_claims, staged_of}
use Rattle.k_split_laws.specs.Going.{IsStep}
use Rattle.k_split_laws.specs.Lives.{leaves_dropped}
use Rattle.k_split_laws.specs.Seen.{SeenFor}
use Rattle.k_split_laws.specs.Steps.{state_unlink_seen, steps_dropped_seen, steps_unlinked_seen, unlinks_file_seen}
use Rattle.k_split_laws.specs.k_plans.Removing.{IsUnlinked}
use Rattle.k_split_laws.specs.volume_change_laws.Changes.{MayDrop}
use Rattle.k_split_laws.specs.volume_change_laws.FrameLaws.{dropped-others}
use Rattle.batch_laws.specs.Calls.{CloseDropGoesOn, UnlinkDropGoesOn}
use Rattle.batch_laws.specs.CallSteps.{cut_seen, live_seen, seen_behind, two_steps}
use Rattle.batch_laws.specs.Changes.{LeavesKept, TakesNone}
use Rattle.batch_laws.specs.ChangesLaws.{change_goes_on}
use Rattle.batch_laws.specs.MadeLaws.{same_rows}
use Rattle.batch_laws.specs.Quiet.{IsQuiet}
use Rattle.batch_laws.specs.QuietLaws.{quiet_puts_none}
use Rattle.batch_laws.specs.SizedFound.{unlinked_sized}

-- ---- a file that goes

-- nothing is kept of it
pub kept_dropped : (files e : Files) (ino : ℕ) → ino < length files.sizes → ChangesFile ino [] 0 files e → LeavesKept (Some ino) files e
kept_dropped files e ino below changes = record {
  count = ap (λ (ns : List ℕ). length ns) changes.sizes ∙ length-set files.sizes ino 0;
  own = λ t same. (
      let own : ino ≡ t = cc in
      subst (λ i. (runs_in e i ≡ []) × (size_in e i ≡ 0)) own (changes.runs_are, ap (λ (ns : List ℕ). slice_index ns ino) changes.sizes ∙ get_or-set_same files.sizes ino 0 0 below));
  others = λ i other. (
      let apart : i ≢ ino = λ same. other (ap Some (sym same)) in
      (changes.others i apart, ap (λ (ns : List ℕ). slice_index ns i) changes.sizes ∙ get_or-set_other files.sizes ino i 0 0 apart));
}

-- it takes no block, behind a change that left all maps
pub dropped_none : (v u : Volume) (numbers : List ℕ) (ino : ℕ) → u.chains ≡ v.chains → u.maps ≡ v.maps → ino < length u.chains → ino < length u.maps → TakesNone (Some ino) v (dropped ino u) numbers numbers
dropped_none v u numbers ino chains maps chain_below map_below = record {
  maps = λ i. by i (cases_eq i ino);
  own = λ t same. (let own : ino ≡ t = cc in subst (λ i. extents (dropped ino u) i ≡ []) own (extents-set_same ino (gone_node (inode u ino)) [] [] u map_below));
  nodes = λ i other. refl;
} where
  by : (i : ℕ) → (i ≡ ino) ⊎ (i ≢ ino)
      → ((chain (dropped ino u) i ≡ chain v i) × (extents (dropped ino u) i ≡ extents v i)) ⊎ ((chain (dropped ino u) i ≡ []) × (extents (dropped ino u) i ≡ []))
  by i (inl same) = inr (
    ap (chain (dropped ino u)) same ∙ chain-set_same ino (gone_node (inode u ino)) [] [] u chain_below,
    ap (extents (dropped ino u)) same ∙ extents-set_same ino (gone_node (inode u ino)) [] [] u map_below,
  )
  by i (inr apart) = inl (
    chain-set_other ino (gone_node (inode u ino)) [] [] u i apart ∙ ap (λ (cs : List (List ℕ)). slice_index_or cs i []) chains,
    extents-set_other ino (gone_node (inode u ino)) [] [] u i apart ∙ ap (λ (ms : List (List Extent)). slice_index_or ms i []) maps,
  )

-- in both volumes it goes
pub dropped_seen : (files e : Files) (u : Volume) (ino : ℕ) → length files.sizes ≡ length u.inodes → ChangesFile ino [] 0 files e → dropped ino (sized files.sizes u) ≡ sized e.sizes (dropped ino u)
dropped_seen files e u ino same changes = sym (sized_dropped files.sizes ino u same) ∙ ap (λ (ns : List ℕ). sized ns (dropped ino u)) (sym changes.sizes)

-- an inode of a sane volume has a chain and a map
pub has_maps : (u : Volume) (ino : ℕ) → IsSane u → ino < length u.inodes → (ino < length u.chains) × (ino < length u.maps)
has_maps u ino sane below = (subst (λ n. ino < n) (sane.inode_count ∙ sym sane.chain_count) below, subst (λ n. ino < n) (sane.inode_count ∙ sym sane.map_count) below)

-- ---- in an unlink

-- both changes are one step
unlinked_dropped : (v : Volume) (claims : List (ℕ × Draft)) (numbers : List ℕ) (s : State) (count : ℕ) (who : Who) (p : List (List ℕ)) (u : Volume) (ino : ℕ) → SeenFor v claims [] numbers s count
    → first (unlink_rows (volume_space v) p) ≡ None → IsUnlinked p v u ino → is_open s.tables (number numbers ino) ≡ false
    → IsStep (Some ino) v (dropped ino u) claims [] numbers numbers s (after_call s (who, Call.Unlink p)) count count
unfolding unnamed_state
unlinked_dropped v claims numbers s count who p u ino seen none is shut =
    let one = steps_unlinked_seen v claims [] numbers s count p u ino seen is in
    let mid = seen_behind None v u claims [] numbers numbers s (unnamed_state s p) count count seen one in
    let two = steps_dropped_seen u claims [] numbers (unnamed_state s p) count ino mid (unlinks_file_seen v claims [] numbers s count p u ino seen is) shut in
    subst (λ (t : State). IsStep (Some ino) v (dropped ino u) claims [] numbers numbers s t count count) (sym (state_unlink_seen v claims [] numbers s count who p u ino seen none is))
    (two_steps ino v u (dropped ino u) claims [] numbers s (unnamed_state s p) (swept alone (unnamed_state s p) (number numbers ino)) count one two)

pub unlink_drop_goes_on : UnlinkDropGoesOn
unlink_drop_goes_on g k l files e count numbers start history item p u ino ready call_is none is shut changes gathered =
    change_goes_on g k l files e count count numbers numbers start history item (Some ino) (dropped ino u) ready gathered
    (kept_dropped files e ino (subst (λ n. ino < n) (sym same) may.below) changes) (dropped_none v u numbers ino (ap (λ (x : Volume). x.chains) is.is_unlinked) (ap (λ (x : Volume). x.maps) is.is_unlinked) maps.0 maps.1)
    (quiet_puts_none s item (subst (IsQuiet s) (sym call_is) tt)) live cut
  where
    v : Volume
    v = k.volume

    s : State
    s = run start history

    same : length files.sizes ≡ length u.inodes
    same = ready.going.sizes ∙ sym (ap (λ (x : Volume). length x.inodes) is.is_unlinked)

    batch : SeenFor v [] [] numbers (cut_of s) count
    batch = cut_seen g k files count numbers start history ready

    may : MayDrop ino u
    may = unlinks_file_seen v [] [] numbers (cut_of s) count p u ino batch is

    maps : (ino < length u.chains) × (ino < length u.maps)
    maps =
        let one = steps_unlinked_seen v [] [] numbers (cut_of s) count p u ino batch is in
        has_maps u ino (seen_behind None v u [] [] numbers numbers (cut_of s) (unnamed_state (cut_of s) p) count count batch one).world.valid.stands.sane may.below

    live : IsStep (Some ino) (sized files.sizes v) (sized e.sizes (dropped ino u)) (as_claims (staged_of v files)) [] numbers numbers s (after_call s (item.who, item.call)) count count
    live =
        subst (λ c. IsStep (Some ino) (sized files.sizes v) (sized e.sizes (dropped ino u)) (as_claims (staged_of v files)) [] numbers numbers s (after_call s (item.who, c)) count count) (sym call_is)
        (subst (λ (x : Volume). IsStep (Some ino) (sized files.sizes v) x (as_claims (staged_of v files)) [] numbers numbers s (after_call s (item.who, Call.Unlink p)) count count)
        (dropped_seen files e u ino same changes)
        (unlinked_dropped (sized files.sizes v) (as_claims (staged_of v files)) numbers s count item.who p (sized files.sizes u) ino (live_seen g k files count numbers start history ready)
        (same_rows (λ sp. first (unlink_rows sp p)) files.sizes v None none) (unlinked_sized files.sizes v ready.going.sizes (λ i other. (ready.going.bare i other).1) p u ino is) shut))

    cut : IsStep (Some ino) v (dropped ino u) [] [] numbers numbers (cut_of s) (cut_of (after_call s (item.who, item.call))) count count
    cut =
        subst (λ c. IsStep (Some ino) v (dropped ino u) [] [] numbers numbers (cut_of s) (cut_of (after_call s (item.who, c))) count count) (sym call_is)
        (subst (λ (t : State). IsStep (Some ino) v (dropped ino u) [] [] numbers numbers (cut_of s) t count count) (sym (names_cut s (item.who, Call.Unlink p) tt))
        (unlinked_dropped v [] numbers (cut_of s) count item.who p u ino batch none is shut))

-- ---- in the last close

-- the step of the last close of a file without a name
close_dropped : (v : Volume) (claims : List (ℕ × Draft)) (numbers : List ℕ) (s : State) (count : ℕ) (who : Who) (h : Handle) (ino : ℕ) → SeenFor v claims [] numbers s count
    → first (close_rows s.tables who h) ≡ None → MayDrop ino v → number numbers ino ≡ file_number s.tables who h → is_open (closed s.tables who h) (file_number s.tables who h) ≡ false
    → IsStep (Some ino) v (dropped ino v) claims [] numbers numbers s (after_call s (who, Call.Close h)) count count
close_dropped v claims numbers s count who h ino seen none may node shut = record {
  geometry = refl;
  base = refl;
  staging = λ i is_staging. (dropped-others ino v).maps i ((λ one. (let never : Staging ≡ File = sym is_staging ∙ (ap (λ n. (inode v n).kind) one ∙ may.file) in cc)), tt);
  leaves = leaves_dropped v claims count ino may.below all seen.world.aged plain;
  room = room_dropped ino v claims [] s (after_call s (who, Call.Close h)) seen.room may.below all (keeps_setting s (who, Call.Close h)).shape;
  takes = λ f world. IsWorld-close_gone v claims [] f numbers s count who h ino world tt none may.file node (count-nameless v.names ino may.unnamed) shut;
} where
  all : HasAllMaps v
  all = record {
    chain_count = seen.world.valid.stands.sane.chain_count ∙ sym seen.world.valid.stands.sane.inode_count;
    map_count = seen.world.valid.stands.sane.map_count ∙ sym seen.world.valid.stands.sane.inode_count;
  }

  plain : (inode v ino).kind ≢ Staging
  plain staging = let never : Staging ≡ File = sym staging ∙ may.file in cc

pub close_drop_goes_on : CloseDropGoesOn
close_drop_goes_on g k l files e count numbers start history item h ino ready call_is none may node shut changes gathered =
    change_goes_on g k l files e count count numbers numbers start history item (Some ino) (dropped ino v) ready gathered
    (kept_dropped files e ino (subst (λ n. ino < n) (sym ready.going.sizes) may.below) changes) (dropped_none v v numbers ino refl refl maps.0 maps.1) (quiet_puts_none s item (subst (IsQuiet s) (sym call_is) tt)) live cut
  where
    v : Volume
    v = k.volume

    s : State
    s = run start history

    batch : SeenFor v [] [] numbers (cut_of s) count
    batch = cut_seen g k files count numbers start history ready

    maps : (ino < length v.chains) × (ino < length v.maps)
    maps = has_maps v ino batch.world.valid.stands.sane may.below

    may_sized : MayDrop ino (sized files.sizes v)
    may_sized = record { below = subst (λ n. ino < n) (sym (length-with_sizes v.inodes files.sizes)) may.below; file = kind-sized files.sizes v ino ∙ may.file; unnamed = may.unnamed }

    -- nothing names it
    nameless : is_named s.entries (file_number s.tables item.who h) ≡ false
    nameless =
        ap (is_named s.entries) (sym node)
        ∙ is_named-nameless v numbers (cut_of s) ino batch.world.valid.stands.sane batch.world.valid.stands.names (ap is_used may.file) (count-nameless v.names ino may.unnamed)

    goes : goes_behind s item.who h ≡ false
    goes = λ i. nameless i || shut i

    live : IsStep (Some ino) (sized files.sizes v) (sized e.sizes (dropped ino v)) (as_claims (staged_of v files)) [] numbers numbers s (after_call s (item.who, item.call)) count count
    live =
        subst (λ c. IsStep (Some ino) (sized files.sizes v) (sized e.sizes (dropped ino v)) (as_claims (staged_of v files)) [] numbers numbers s (after_call s (item.who, c)) count count) (sym call_is)
        (subst (λ (x : Volume). IsStep (Some ino) (sized files.sizes v) x (as_claims (staged_of v files)) [] numbers numbers s (after_call s (item.who, Call.Close h)) count count)
        (dropped_seen files e v ino ready.going.sizes changes)
        (close_dropped (sized files.sizes v) (as_claims (staged_of v files)) numbers s count item.who h ino (live_seen g k files count numbers start history ready) none may_sized node shut))

    cut : IsStep (Some ino) v (dropped ino v) [] [] numbers numbers (cut_of s) (cut_of (after_call s (item.who, item.call))) count count
    cut =
        subst (λ c. IsStep (Some ino) v (dropped ino v) [] [] numbers numbers (cut_of s) (cut_of (after_call s (item.who, c))) count count) (sym call_is)
        (subst (λ (t : State). IsStep (Some ino) v (dropped ino v) [] [] numbers numbers (cut_of s) t count count) (sym (names_cut s (item.who, Call.Close h) goes))
        (close_dropped v [] numbers (cut_of s) count item.who h ino batch none may node shut))
