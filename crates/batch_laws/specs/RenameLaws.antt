-- A name moves, while changes gather.
use Rattle.std.specs.Prelude.{◌≡◌, ◌≢◌, ◌<◌, ℕ, Bool, true, false, List, [], length, Option, None, Some, slice_index, if◌then◌else◌, refl}
use Rattle.std.proofs.Common.{ap, ◌∙◌, sym, subst}
use Rattle.eof_laws.specs.live_model.layout_model.Places.{Geometry}
use Rattle.eof_laws.specs.live_model.layout_model.Lines.{NameRow}
use Rattle.eof_laws.specs.live_model.layout_model.declared.lines.Draft.{Draft}
use Rattle.eof_laws.specs.live_model.layout_model.declared.lines.Kind.TheVariants.{File, Staging}
use Rattle.eof_laws.specs.live_model.image_model.Live.{is_directory}
use Rattle.eof_laws.specs.live_model.image_model.Volume.{inode, Volume}
use Rattle.eof_laws.specs.live_model.k_split_model.ChangesChanges.{dropped, renamed_over_directory, renamed_over_file}
use Rattle.eof_laws.specs.live_model.k_split_model.Spaces.{is_directory_in, volume_space}
use Rattle.eof_laws.specs.live_model.commute_laws.posix_types.declared.call.Call.{Call}
use Rattle.eof_laws.specs.live_model.commute_laws.posix_types.declared.call.Who.{Who}
use Rattle.eof_laws.specs.live_model.posix_tables.NameRows.{rename_rows}
use Rattle.eof_laws.specs.live_model.posix_tables.Open.{is_open}
use Rattle.eof_laws.specs.live_model.posix_tables.Outcomes.{first}
use Rattle.eof_laws.specs.live_model.posix_spec.Run.{after_call, run}
use Rattle.eof_laws.specs.live_model.posix_spec.State.{alone, State, swept}
use Rattle.eof_laws.specs.live_model.posix_laws.CutLaws.{names_cut}
use Rattle.eof_laws.specs.live_model.posix_laws.Cuts.{cut_of}
use Rattle.eof_laws.specs.live_model.world_model.Stands.{number}
use Rattle.posix_mode_laws.specs.Sides.{sized}
use Rattle.batch_laws.specs.Standing.{as_claims, staged_of}
use Rattle.k_split_laws.specs.Ends.{renames_over_file_seen}
use Rattle.k_split_laws.specs.Going.{gone_by, IsStep, moved_so_far}
use Rattle.k_split_laws.specs.Moves.{steps_rename_seen}
use Rattle.k_split_laws.specs.Seen.{SeenFor}
use Rattle.k_split_laws.specs.Steps.{steps_dropped_seen}
use Rattle.k_split_laws.specs.k_plans.Renaming.{file_over, IsRenamed, renamed_over}
use Rattle.k_split_laws.specs.k_tables.declared.tables.removing.Entry.{Entry}
use Rattle.k_split_laws.specs.layout_model.Spelling.{AreSpelled}
use Rattle.eof_laws.specs.live_model.world_step_laws.RemoveCalls.{swept-open}
use Rattle.k_split_laws.specs.volume_change_laws.CallLaws.{row_to}
use Rattle.k_split_laws.specs.volume_change_laws.Changes.{MayDrop}
use Rattle.batch_laws.specs.Calls.{IsOpenIfLost, RenameDropGoesOn, RenameGoesOn}
use Rattle.batch_laws.specs.CallSteps.{cut_seen, kept_same, live_seen, same_maps, seen_behind, two_steps}
use Rattle.batch_laws.specs.ChangesLaws.{change_goes_on}
use Rattle.batch_laws.specs.DropLaws.{dropped_none, dropped_seen, has_maps, kept_dropped}
use Rattle.batch_laws.specs.MadeLaws.{same_rows}
use Rattle.batch_laws.specs.Quiet.{IsQuiet}
use Rattle.batch_laws.specs.QuietLaws.{quiet_puts_none}
use Rattle.batch_laws.specs.SizedFound.{directory_plain, directory_same, renamed_sized}

-- ---- what a rename makes of the volume

-- all maps stay
module _ (line : ℕ) (r : NameRow) (v : Volume) where
  over_chains : (o : Option Entry) → (renamed_over line r o v).chains ≡ v.chains
  over_chains None = refl
  over_chains (Some t) = by (is_directory_in v.inodes t.child) where
    by : (b : Bool) → (if b then renamed_over_directory line r t.line t.child v else renamed_over_file line r t.line v).chains ≡ v.chains
    by true = refl
    by false = refl

  over_maps : (o : Option Entry) → (renamed_over line r o v).maps ≡ v.maps
  over_maps None = refl
  over_maps (Some t) = by (is_directory_in v.inodes t.child) where
    by : (b : Bool) → (if b then renamed_over_directory line r t.line t.child v else renamed_over_file line r t.line v).maps ≡ v.maps
    by true = refl
    by false = refl

-- what it drops is a directory,
gone_directory : (v : Volume) (o : Option Entry) (t : ℕ) → gone_by v o ≡ Some t → is_directory_in v.inodes t ≡ true
gone_directory v None t same = let never : None ≡ Some t = same in cc
gone_directory v (Some target) t same = by (is_directory_in v.inodes target.child) refl same where
  by : (b : Bool) → is_directory_in v.inodes target.child ≡ b → (if b then Some target.child else None) ≡ Some t → is_directory_in v.inodes t ≡ true
  by true is own = let child : target.child ≡ t = cc in subst (λ i. is_directory_in v.inodes i ≡ true) child is
  by false is own = cc

-- and nothing where a file loses its name
gone_none : (v : Volume) (o : Option Entry) (ino : ℕ) → Some ino ≡ file_over v.inodes o → gone_by v o ≡ None
gone_none v None ino lost = cc
gone_none v (Some target) ino lost = by (is_directory_in v.inodes target.child) lost where
  by : (b : Bool) → Some ino ≡ (if b then None else Some target.child) → (if b then Some target.child else None) ≡ None
  by true is = cc
  by false is = refl

-- so the state behind it is that of the call, where a file that lost its name is open
moved_is : (v : Volume) (claims : List (ℕ × Draft)) (numbers : List ℕ) (s : State) (count : ℕ) (who : Who) (p q : List (List ℕ)) (w : Volume) (lost : Option ℕ) → SeenFor v claims [] numbers s count
    → first (rename_rows (volume_space v) p q) ≡ None → IsRenamed p q v w lost → IsOpenIfLost lost s numbers → moved_so_far lost s who p q ≡ after_call s (who, Call.Rename p q)
moved_is v claims numbers s count who p q w None seen none is open_there = refl
moved_is v claims numbers s count who p q w (Some ino) seen none is open_there =
    sym ((renames_over_file_seen v claims [] numbers s count who p q w ino seen none is).1 ∙ swept-open (moved_so_far (Some ino) s who p q) (number numbers ino) open_there)

-- ---- the calls

-- RENAME, but over a file that goes
pub rename_goes_on : RenameGoesOn
rename_goes_on g k l files count numbers start history item p q w lost ready call_is none spelled is open_there gathered =
    change_goes_on g k l files files count count numbers numbers start history item touched w ready gathered
    (kept_same g k files count numbers start history ready touched (λ t same. no_file t same))
    (same_maps touched v w numbers numbers
    (ap (λ (x : Volume). x.chains) is.is_renamed ∙ over_chains is.moving.entry.line (row_to q is.moving.parent is.moving.entry.child) v is.moving.target)
    (ap (λ (x : Volume). x.maps) is.is_renamed ∙ over_maps is.moving.entry.line (row_to q is.moving.parent is.moving.entry.child) v is.moving.target)
    (λ t same. ready.unmapped t (no_file t same) (no_staging t same)) (λ i other. refl))
    (quiet_puts_none s item (subst (IsQuiet s) (sym call_is) tt)) live cut
  where
    v : Volume
    v = k.volume

    s : State
    s = run start history

    touched : Option ℕ
    touched = gone_by v is.moving.target

    none_kept : (ino : ℕ) → (inode v ino).kind ≢ File → slice_index files.sizes ino ≡ 0
    none_kept ino other = (ready.going.bare ino other).1

    no_file : (t : ℕ) → touched ≡ Some t → (inode v t).kind ≢ File
    no_file t same = directory_plain files.sizes v ready.going.sizes none_kept t (gone_directory v is.moving.target t same)

    no_staging : (t : ℕ) → touched ≡ Some t → (inode v t).kind ≢ Staging
    no_staging t same staging = let never : false ≡ true = sym (ap is_directory staging) ∙ gone_directory v is.moving.target t same in cc

    same_gone : (o : Option Entry) → gone_by (sized files.sizes v) o ≡ gone_by v o
    same_gone None = refl
    same_gone (Some t) = ap (λ (b : Bool). if b then Some t.child else None) (directory_same files.sizes v ready.going.sizes none_kept t.child)

    live : IsStep touched (sized files.sizes v) (sized files.sizes w) (as_claims (staged_of v files)) [] numbers numbers s (after_call s (item.who, item.call)) count count
    live =
        let seen = live_seen g k files count numbers start history ready in
        let rows = same_rows (λ sp. first (rename_rows sp p q)) files.sizes v None none in
        let moved = renamed_sized files.sizes v ready.going.sizes none_kept p q w lost is in
        subst (λ c. IsStep touched (sized files.sizes v) (sized files.sizes w) (as_claims (staged_of v files)) [] numbers numbers s (after_call s (item.who, c)) count count) (sym call_is)
        (subst (λ (t : State). IsStep touched (sized files.sizes v) (sized files.sizes w) (as_claims (staged_of v files)) [] numbers numbers s t count count)
        (moved_is (sized files.sizes v) (as_claims (staged_of v files)) numbers s count item.who p q (sized files.sizes w) lost seen rows moved open_there)
        (subst (λ (o : Option ℕ). IsStep o (sized files.sizes v) (sized files.sizes w) (as_claims (staged_of v files)) [] numbers numbers s (moved_so_far lost s item.who p q) count count)
        (same_gone is.moving.target)
        (steps_rename_seen (sized files.sizes v) (as_claims (staged_of v files)) [] numbers s count item.who p q (sized files.sizes w) lost seen tt rows spelled moved)))

    cut : IsStep touched v w [] [] numbers numbers (cut_of s) (cut_of (after_call s (item.who, item.call))) count count
    cut =
        let seen = cut_seen g k files count numbers start history ready in
        subst (λ c. IsStep touched v w [] [] numbers numbers (cut_of s) (cut_of (after_call s (item.who, c))) count count) (sym call_is)
        (subst (λ (t : State). IsStep touched v w [] [] numbers numbers (cut_of s) t count count)
        (moved_is v [] numbers (cut_of s) count item.who p q w lost seen none is (open_cut lost open_there) ∙ sym (names_cut s (item.who, Call.Rename p q) tt))
        (steps_rename_seen v [] [] numbers (cut_of s) count item.who p q w lost seen tt none spelled is))
      where
        open_cut : (o : Option ℕ) → IsOpenIfLost o s numbers → IsOpenIfLost o (cut_of s) numbers
        open_cut None is_open_there = tt
        open_cut (Some ino) is_open_there = is_open_there

-- both changes of a rename over a file that goes are one step
renamed_dropped : (v : Volume) (claims : List (ℕ × Draft)) (numbers : List ℕ) (s : State) (count : ℕ) (who : Who) (p q : List (List ℕ)) (u : Volume) (ino : ℕ) → SeenFor v claims [] numbers s count
    → first (rename_rows (volume_space v) p q) ≡ None → AreSpelled q → IsRenamed p q v u (Some ino) → is_open s.tables (number numbers ino) ≡ false
    → IsStep (Some ino) v (dropped ino u) claims [] numbers numbers s (after_call s (who, Call.Rename p q)) count count
renamed_dropped v claims numbers s count who p q u ino seen none spelled is shut =
    let mid_state : State = moved_so_far (Some ino) s who p q in
    let one =
    subst (λ (o : Option ℕ). IsStep o v u claims [] numbers numbers s mid_state count count) (gone_none v is.moving.target ino is.lost_is)
    (steps_rename_seen v claims [] numbers s count who p q u (Some ino) seen tt none spelled is)
    in
    let mid = seen_behind None v u claims [] numbers numbers s mid_state count count seen one in
    let over = renames_over_file_seen v claims [] numbers s count who p q u ino seen none is in
    let two = steps_dropped_seen u claims [] numbers mid_state count ino mid over.0 shut in
    subst (λ (t : State). IsStep (Some ino) v (dropped ino u) claims [] numbers numbers s t count count) (sym over.1)
    (two_steps ino v u (dropped ino u) claims [] numbers s mid_state (swept alone mid_state (number numbers ino)) count one two)

-- RENAME over a file that goes
pub rename_drop_goes_on : RenameDropGoesOn
rename_drop_goes_on g k l files e count numbers start history item p q u ino ready call_is none spelled is shut changes gathered =
    change_goes_on g k l files e count count numbers numbers start history item (Some ino) (dropped ino u) ready gathered
    (kept_dropped files e ino (subst (λ n. ino < n) (sym same) may.below) changes) (dropped_none v u numbers ino chains_same maps_same maps.0 maps.1)
    (quiet_puts_none s item (subst (IsQuiet s) (sym call_is) tt)) live cut
  where
    v : Volume
    v = k.volume

    s : State
    s = run start history

    none_kept : (i : ℕ) → (inode v i).kind ≢ File → slice_index files.sizes i ≡ 0
    none_kept i other = (ready.going.bare i other).1

    batch : SeenFor v [] [] numbers (cut_of s) count
    batch = cut_seen g k files count numbers start history ready

    may : MayDrop ino u
    may = (renames_over_file_seen v [] [] numbers (cut_of s) count item.who p q u ino batch none is).0

    chains_same : u.chains ≡ v.chains
    chains_same = ap (λ (x : Volume). x.chains) is.is_renamed ∙ over_chains is.moving.entry.line (row_to q is.moving.parent is.moving.entry.child) v is.moving.target

    maps_same : u.maps ≡ v.maps
    maps_same = ap (λ (x : Volume). x.maps) is.is_renamed ∙ over_maps is.moving.entry.line (row_to q is.moving.parent is.moving.entry.child) v is.moving.target

    behind : SeenFor u [] [] numbers (moved_so_far (Some ino) (cut_of s) item.who p q) count
    behind =
        seen_behind (gone_by v is.moving.target) v u [] [] numbers numbers (cut_of s) (moved_so_far (Some ino) (cut_of s) item.who p q) count count batch
        (steps_rename_seen v [] [] numbers (cut_of s) count item.who p q u (Some ino) batch tt none spelled is)

    maps : (ino < length u.chains) × (ino < length u.maps)
    maps = has_maps u ino behind.world.valid.stands.sane may.below

    same : length files.sizes ≡ length u.inodes
    same = (
        let old = batch.world.valid.stands.sane in
        let new = behind.world.valid.stands.sane in
        let one = steps_rename_seen v [] [] numbers (cut_of s) count item.who p q u (Some ino) batch tt none spelled is in
        ready.going.sizes ∙ (old.inode_count ∙ (ap (λ (x : Geometry). x.inodes) (sym one.geometry) ∙ sym new.inode_count)))

    live : IsStep (Some ino) (sized files.sizes v) (sized e.sizes (dropped ino u)) (as_claims (staged_of v files)) [] numbers numbers s (after_call s (item.who, item.call)) count count
    live =
        subst (λ c. IsStep (Some ino) (sized files.sizes v) (sized e.sizes (dropped ino u)) (as_claims (staged_of v files)) [] numbers numbers s (after_call s (item.who, c)) count count) (sym call_is)
        (subst (λ (x : Volume). IsStep (Some ino) (sized files.sizes v) x (as_claims (staged_of v files)) [] numbers numbers s (after_call s (item.who, Call.Rename p q)) count count)
        (dropped_seen files e u ino same changes)
        (renamed_dropped (sized files.sizes v) (as_claims (staged_of v files)) numbers s count item.who p q (sized files.sizes u) ino (live_seen g k files count numbers start history ready)
        (same_rows (λ sp. first (rename_rows sp p q)) files.sizes v None none) spelled (renamed_sized files.sizes v ready.going.sizes none_kept p q u (Some ino) is) shut))

    cut : IsStep (Some ino) v (dropped ino u) [] [] numbers numbers (cut_of s) (cut_of (after_call s (item.who, item.call))) count count
    cut =
        subst (λ c. IsStep (Some ino) v (dropped ino u) [] [] numbers numbers (cut_of s) (cut_of (after_call s (item.who, c))) count count) (sym call_is)
        (subst (λ (t : State). IsStep (Some ino) v (dropped ino u) [] [] numbers numbers (cut_of s) t count count) (sym (names_cut s (item.who, Call.Rename p q) tt))
        (renamed_dropped v [] numbers (cut_of s) count item.who p q u ino batch none spelled is shut))
