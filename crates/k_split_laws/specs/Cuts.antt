-- An `open` that cuts a file: K-Split gives it the size 0, which writes no block, and that is a step of the World.
use Rattle.std.specs.Prelude.{◌≡◌, ◌≢◌, ◌⊎◌, ◌&&◌, ◌==◌, ◌<◌, ◌≤◌, ◌+◌, ◌/◌, ℕ, nat_lt, Bool, true, false, List, [], ◌∷◌, length, map, Option, Some, None, option_map, Result, Ok, Err, refl, if◌then◌else◌}
use Rattle.std.proofs.Common.{arith, ap, ◌∙◌, sym, subst, inl, inr}
use Rattle.std.proofs.lemmas.Bool.{cases_eq}
use Rattle.std.proofs.lemmas.Bool.Decides.{nat_tests}
use Rattle.std.proofs.lemmas.List.{length-set}
use Rattle.world_write_laws.specs.world_step_laws.pm_model.Words.{Words}
use Rattle.world_write_laws.specs.world_step_laws.layout_model.Places.{data_blocks}
use Rattle.world_write_laws.specs.world_step_laws.extent_model.declared.extent_words.Extent.{Extent}
use Rattle.world_write_laws.specs.world_step_laws.extent_model.Extents.{disk_at, IsCanonical}
use Rattle.world_write_laws.specs.world_step_laws.extent_model.Spelling.{first_here}
use Rattle.world_write_laws.specs.world_step_laws.layout_model.declared.lines.Draft.{Draft}
use Rattle.world_write_laws.specs.world_step_laws.layout_model.declared.lines.Inode.{Inode}
use Rattle.world_write_laws.specs.world_step_laws.layout_model.declared.lines.Kind.TheVariants.{File, Staging}
use Rattle.world_write_laws.specs.world_step_laws.image_model.Live.{is_file, is_live}
use Rattle.world_write_laws.specs.world_step_laws.image_model.Placed.{IsOutside}
use Rattle.world_write_laws.specs.world_step_laws.image_model.Room.{unused_blocks}
use Rattle.world_write_laws.specs.world_step_laws.image_model.Rules.{file_blocks_of}
use Rattle.world_write_laws.specs.world_step_laws.image_model.Volume.{chain, extents, inode, Volume}
use Rattle.world_write_laws.specs.world_step_laws.volume_laws.Changes.{chain-set_same, extents-set_other, inode-set_other, inode-set_same}
use Rattle.world_write_laws.specs.world_step_laws.volume_laws.PoolLaws.{held-set, unused-held}
use Rattle.world_write_laws.specs.world_step_laws.volume_laws.Uses.{blocks_held, HasAllMaps}
use Rattle.k_split.specs.k_split_model.MapChangesChanges.{IsSized, with_size, WritesChain}
use Rattle.k_split.specs.k_split_model.Taken.{switched, with_map}
use Rattle.world_write_laws.specs.world_step_laws.k_split_model.Spaces.{volume_space}
use Rattle.world_write_laws.specs.world_step_laws.k_split_model.View.{View}
use Rattle.k_split.specs.k_plans.Whole.{IsWhole}
use Rattle.k_split.specs.declared.faults.KFault.{KFault}
use Rattle.k_split.specs.Answers.{IsAnswer, IsCut, IsDone}
use Rattle.k_split.specs.MapChanges.{IsMapCut, IsMapDone, IsSizeAnswer, IsSizedWith}
use Rattle.world_write_laws.specs.world_step_laws.posix_types.declared.call.Call.{Call}
use Rattle.world_write_laws.specs.world_step_laws.posix_types.declared.call.Who.{Who}
use Rattle.world_write_laws.specs.world_step_laws.posix_types.declared.handle.Flags.{Flags}
use Rattle.world_write_laws.specs.world_step_laws.posix_types.declared.handle.Handle.{Handle}
use Rattle.world_write_laws.specs.world_step_laws.posix_tables.NameRows.{open_rows}
use Rattle.world_write_laws.specs.world_step_laws.posix_tables.Names.{node_at_path, Space, too_long}
use Rattle.world_write_laws.specs.world_step_laws.posix_tables.Open.{is_full}
use Rattle.world_write_laws.specs.world_step_laws.posix_tables.Outcomes.{first}
use Rattle.world_write_laws.specs.world_step_laws.posix_spec.Run.{after_call}
use Rattle.world_write_laws.specs.world_step_laws.posix_spec.State.{alone, space, State}
use Rattle.world_write_laws.specs.world_step_laws.posix_spec.Step.{is_busy}
use Rattle.world_write_laws.specs.world_step_laws.crash_spec.Busy.{waits_for}
use Rattle.world_write_laws.specs.world_step_laws.list_laws.Filters.{filter-agree}
use Rattle.world_write_laws.specs.world_step_laws.world_model.Jobs.{Job, live_claims}
use Rattle.world_write_laws.specs.world_step_laws.world_model.Stands.{entries_of, IsSane, IsUsed, number}
use Rattle.world_write_laws.specs.world_step_laws.Mirrors.{node_at_path-same}
use Rattle.world_write_laws.specs.world_step_laws.Rows.{HaveSameRows-Mirrors}
use Rattle.world_write_laws.specs.world_step_laws.Steps.{LetsJobsBe}
use Rattle.world_write_laws.specs.world_step_laws.Worlds.{IsWorld, world_mirror}
use Rattle.world_write_laws.specs.Resizes.{HasAlone, Resizes}
use Rattle.world_write_laws.specs.ResizeSteps.{cut}
use Rattle.world_image_laws.specs.ImagesRooms.{room_kept}
use Rattle.world_image_laws.specs.Settings.{keeps_setting}
use Rattle.k_split_laws.specs.Going.{IsStep}
use Rattle.k_split_laws.specs.Laws.{CutsAsAnswer, cut_to_nothing}
use Rattle.k_split_laws.specs.SeenLaws.{StepsCutSeen}
use Rattle.k_split_laws.specs.Seen.{SeenFor}

-- ---- what K-Split makes of the volume

-- a map that has no block has no extent
no_extent : (es : List Extent) → IsCanonical es → ((b : ℕ) → disk_at es b ≡ None) → es ≡ []
no_extent [] canonical none = refl
no_extent (e ∷ es) canonical none = let never : None ≡ Some e.disk = sym (none e.file) ∙ first_here e es canonical in cc

no_block : (blocks : List ℕ) → length blocks ≡ 0 → blocks ≡ []
no_block [] is = refl
no_block (b ∷ blocks) is = absurd (omega (arith, is))

sized_to_nothing : (free : ℕ → Bool) (ino : ℕ) (v w : Volume) → IsSized free ino 0 v w → w ≡ cut_to_nothing ino v
sized_to_nothing free ino v w is = is.is_sized ∙ (λ i. switched ino (with_size 0 (inode v ino)) (no_blocks i) (empty i) v) where
  before_none : (b : ℕ) → nat_lt b 0 ≡ false
  before_none b = grind (arith, nat_tests)

  empty : is.es ≡ []
  empty = no_extent is.es is.cut.canonical (λ b. is.cut.blocks b ∙ ap (λ t. if t then disk_at (extents v ino) b else None) (before_none b))

  no_blocks : is.blocks ≡ []
  no_blocks = no_block is.blocks (is.count ∙ ap (λ es. (length es + 254) / 255) empty)

-- no word is in no block
outside_none : (i : ℕ) → IsOutside [] i
outside_none i k below same = absurd (omega (arith, below))

done_of : (old new : View) → IsMapDone [] old new → IsDone old new
done_of old new done = record {
  kept_on = done.kept_on;
  batched = done.batched;
  order = done.order;
  changes = record {
    size = done.changes.size;
    lent = done.changes.lent;
    each_image = done.changes.each_image;
    others = λ i out line. done.changes.others i out line (outside_none i);
  };
  singles = done.singles;
}

cut_of : (w : Volume) (old new : View) → IsMapCut [] w old new → IsCut w old new
cut_of w old new is = record {
  lost = is.lost;
  batched = is.batched;
  whole = is.whole;
  changes = record {
    size = is.changes.size;
    lent = is.changes.lent;
    each_image = is.changes.each_image;
    others = λ i out line. is.changes.others i out line (outside_none i);
  };
}

-- the chain that it writes has no block
none_written : (ino : ℕ) (old : View) (w : Volume) (blocks : List ℕ) → HasAllMaps old.volume → ino < length old.volume.inodes → IsSizedWith ino 0 old w blocks → (w ≡ cut_to_nothing ino old.volume) × (blocks ≡ [])
none_written ino old w blocks all below is = (made, by is.written) where
  made : w ≡ cut_to_nothing ino old.volume
  made = sized_to_nothing _ ino old.volume w is.sized

  by : WritesChain ino old.volume w blocks → blocks ≡ []
  by (inl kept) = kept.1
  by (inr changed) =
      changed.1 ∙ (ap (λ x. chain x ino) made ∙ chain-set_same ino (with_map [] [] (with_size 0 (inode old.volume ino))) [] [] old.volume (omega (arith, below, all.chain_count)))

pub cuts_as_answer : CutsAsAnswer
cuts_as_answer ino old new result all below is = by result is where
  by : (r : Result (Unit {0}) KFault) → IsSizeAnswer ino 0 old new r → IsAnswer None (λ (done : Unit {0}) w. w ≡ cut_to_nothing ino old.volume) old new r
  by (Ok done) (blocks, makes, done_is) = let none = none_written ino old new.volume blocks all below makes in (refl, none.0, done_of old new (subst (λ bs. IsMapDone bs old new) none.1 done_is))
  by (Err (KFault.Refused errno)) never = absurd never
  by (Err (KFault.Room room)) never = absurd never
  by (Err KFault.NoMemory) same = (refl, same)
  by (Err KFault.PowerLost) (inl off) = inl off
  by (Err KFault.PowerLost) (inr (w, blocks, makes, cut_is)) =
      let none = none_written ino old w blocks all below makes in
      inr (refl, (tt, w, none.0, cut_of w old new (subst (λ bs. IsMapCut bs w old new) none.1 cut_is)))

-- ---- the step

-- free blocks and those that inodes have are all data blocks
counted : (v : Volume) → IsWhole v → unused_blocks v + blocks_held v ≡ data_blocks v.geometry
counted v whole =
    unused-held v (λ ino. file_blocks_of (inode v ino).kind)
    (record { chains = λ ino below. whole.chains ino; files = λ ino below. whole.kept.kept.in_data ino (omega (arith, below, whole.kept.all.inode_count)) })
    (λ b is. whole.kept.kept.once b is)

-- a path that no row refuses is not too long
short_path : (x : Space) (full busy : Bool) (p : List (List ℕ)) (f : Flags) → first (open_rows x full busy p f) ≡ None → too_long x.longest p ≡ false
unfolding open_rows
short_path x full busy p f none = by (too_long x.longest p) refl where
  by : (b : Bool) → too_long x.longest p ≡ b → too_long x.longest p ≡ false
  by false is = is
  by true is = let never = rw is at none in cc

-- the line of the file that is cut
abbrev cut_line : Volume → ℕ → Inode
cut_line v ino = with_map [] [] (with_size 0 (inode v ino))

-- each inode is of the kind that it was
pub cut_kind : (v : Volume) (ino : ℕ) → ino < length v.inodes → (i : ℕ) → (inode (cut_to_nothing ino v) i).kind ≡ (inode v i).kind
cut_kind v ino below i = by (cases_eq i ino) where
  by : (i ≡ ino) ⊎ (i ≢ ino) → (inode (cut_to_nothing ino v) i).kind ≡ (inode v i).kind
  by (inl same) =
      ap (λ n. (inode (cut_to_nothing ino v) n).kind) same ∙ (ap (λ (x : Inode). x.kind) (inode-set_same ino (cut_line v ino) [] [] v below) ∙ ap (λ n. (inode v n).kind) (sym same))
  by (inr other) = ap (λ (x : Inode). x.kind) (inode-set_other ino (cut_line v ino) [] [] v i other)

module _ (v : Volume) (ino : ℕ) (below : ino < length v.inodes) (whole : IsWhole v) (after : IsWhole (cut_to_nothing ino v)) where
  abbrev w : Volume
  w = cut_to_nothing ino v

  abbrev line : Inode
  line = cut_line v ino

  own : inode w ino ≡ line
  own = inode-set_same ino line [] [] v below

  frees : unused_blocks v ≤ unused_blocks w
  frees = omega (arith, counted v whole, counted w after, held-set v ino line [] [] below whole.maps)

  resizes : IsSane v → (inode v ino).kind ≡ File → Resizes v w ino
  resizes sane file = record {
    sane = record {
      kept = after.kept.kept;
      inode_count = length-set v.inodes ino line ∙ sane.inode_count;
      name_count = sane.name_count;
      chain_count = length-set v.chains ino [] ∙ sane.chain_count;
      map_count = length-set v.maps ino [] ∙ sane.map_count;
      spelled = sane.spelled;
    };
    names = refl;
    geometry = refl;
    file = file;
    kind = ap (λ (x : Inode). x.kind) own;
    generation = ap (λ (x : Inode). x.generation) own;
    applied = ap (λ (x : Inode). x.applied) own;
    others = λ i other. inode-set_other ino line [] [] v i other;
    maps = λ i other. extents-set_other ino line [] [] v i other;
  }

  alone_there : (f : Words) → HasAlone w f ino []
  alone_there f = record { size = ap (λ (x : Inode). x.size) own; each = λ i short. absurd (omega (arith, short)) }

  -- what is live stays so
  same_generation : (i : ℕ) → (i ≡ ino) ⊎ (i ≢ ino) → (inode w i).generation ≡ (inode v i).generation
  same_generation i (inl same) = ap (λ n. (inode w n).generation) same ∙ (ap (λ (x : Inode). x.generation) own ∙ ap (λ n. (inode v n).generation) (sym same))
  same_generation i (inr other) = ap (λ (x : Inode). x.generation) (inode-set_other ino line [] [] v i other)

  same_applied : (i : ℕ) → (i ≡ ino) ⊎ (i ≢ ino) → (inode w i).applied ≡ (inode v i).applied
  same_applied i (inl same) = ap (λ n. (inode w n).applied) same ∙ (ap (λ (x : Inode). x.applied) own ∙ ap (λ n. (inode v n).applied) (sym same))
  same_applied i (inr other) = ap (λ (x : Inode). x.applied) (inode-set_other ino line [] [] v i other)

  same_live : (d : Draft) → is_live w d ≡ is_live v d
  same_live d =
      let kind = cut_kind v ino below d.ino in
      let generation = same_generation d.ino (cases_eq d.ino ino) in
      let applied = same_applied d.ino (cases_eq d.ino ino) in
      let staging = same_generation d.staging (cases_eq d.staging ino) in
      λ i. (is_file (kind i) && (generation i == d.generation)) && nat_lt (applied i) d.order && (staging i == d.staging_generation)

  -- the entries of the file are the same
  same_entries : (claims : List (ℕ × Draft)) → entries_of ino (live_claims v claims) ≡ [] → entries_of ino (live_claims w claims) ≡ []
  same_entries claims none = ap (entries_of ino) (filter-agree (is_live w) (is_live v) (map (λ (c : ℕ × Draft). c.1) claims) (λ e is. same_live e)) ∙ none

  -- the file of the call is this one
  waits : (claims : List (ℕ × Draft)) (jobs : List Job) (f : Words) (numbers : List ℕ) (s : State) (count : ℕ) (who : Who) (h : Handle) (p : List (List ℕ)) (flags : Flags) → IsWorld v claims jobs f numbers s count → flags.truncate ≡ true
      → node_at_path (volume_space v) p ≡ Some ino → first (open_rows (space s) (is_full s.tables) (is_busy alone s p) p flags) ≡ None → waits_for s (who, Call.Open h p flags) ≡ Some (number numbers ino)
  unfolding waits_for
  waits claims jobs f numbers s count who h p flags world cuts there none =
      let mirror = world_mirror v claims jobs f numbers s count world in
      let short = short_path (space s) (is_full s.tables) (is_busy alone s p) p flags none in
      let at : node_at_path (space s) p ≡ Some (number numbers ino) =
      sym (node_at_path-same (IsUsed v) numbers (volume_space v) (space s) mirror p) ∙ ap (option_map (number numbers)) there
      in
      ap (λ b. if b then (if too_long (space s).longest p then None else node_at_path (space s) p) else None) cuts
      ∙ (ap (λ b. if b then None else node_at_path (space s) p) short ∙ at)

  step : (claims : List (ℕ × Draft)) (jobs : List Job) (numbers : List ℕ) (s : State) (count : ℕ) (who : Who) (h : Handle) (p : List (List ℕ)) (flags : Flags) → SeenFor v claims jobs numbers s count
      → LetsJobsBe s (who, Call.Open h p flags) numbers jobs → first (open_rows (volume_space v) (is_full s.tables) (is_busy alone s p) p flags) ≡ None → flags.truncate ≡ true → node_at_path (volume_space v) p ≡ Some ino → (inode v ino).kind ≡ File
      → entries_of ino (live_claims v claims) ≡ [] → IsStep (Some ino) v w claims jobs numbers numbers s (after_call s (who, Call.Open h p flags)) count count
  step claims jobs numbers s count who h p flags seen lets none cuts there file published = record {
    geometry = refl;
    base = refl;
    staging = λ i is_staging. extents-set_other ino line [] [] v i (λ one. (let never : Staging ≡ File = sym is_staging ∙ (ap (λ n. (inode v n).kind) one ∙ file) in cc));
    leaves = record {
      others = λ i out. inode-set_other ino line [] [] v i (λ same. out (ap Some (sym same)));
      plain = λ t same staging. (let own_is : ino ≡ t = cc in let never : File ≡ Staging = sym file ∙ (ap (λ n. (inode v n).kind) own_is ∙ staging) in cc);
      own = λ i same of_file. (let own_is : ino ≡ i = cc in subst (λ n. entries_of n (live_claims w claims) ≡ []) own_is (same_entries claims published));
      fewer = λ e is live. sym (same_live e) ∙ live;
      applied = λ i. (let same = same_applied i (cases_eq i ino) in omega (arith, same));
      frees = frees;
    };
    room = room_kept v w claims jobs s (after_call s (who, Call.Open h p flags)) refl (keeps_setting s (who, Call.Open h p flags)).shape frees (λ e is live. sym (same_live e) ∙ live) seen.room;
    takes = λ f world. (
        let rows = HaveSameRows-Mirrors (IsUsed v) numbers (volume_space v) (space s) (world_mirror v claims jobs f numbers s count world) in
        let none_there = ap first (sym (rows.open_ (is_full s.tables) (is_busy alone s p) p flags)) ∙ none in
        cut v w claims jobs f numbers s count who h p flags ino world lets none_there cuts
        (waits claims jobs f numbers s count who h p flags world cuts there none_there) (resizes world.valid.stands.sane file) published (alone_there f));
  }

pub steps_cut_seen : StepsCutSeen
steps_cut_seen v claims jobs numbers s count who h p flags ino w seen lets none cuts there file published below whole after is =
    subst (λ x. IsStep (Some ino) v x claims jobs numbers numbers s (after_call s (who, Call.Open h p flags)) count count) (sym is)
    (step v ino below whole (subst IsWhole is after) claims jobs numbers s count who h p flags seen lets none cuts there file published)
