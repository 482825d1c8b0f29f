-- The calls by which a name goes, while changes gather, and a file with its staged runs.
use Rattle.std.specs.Prelude.{◌≡◌, ◌≢◌, ℕ, true, false, List, [], None, Some, slice_index, refl}
use Rattle.std.proofs.Common.{ap, ◌∙◌, sym, subst}
use Rattle.eof_laws.specs.live_model.layout_model.declared.lines.Draft.{Draft}
use Rattle.eof_laws.specs.live_model.layout_model.declared.lines.Kind.TheVariants.{File, Staging}
use Rattle.eof_laws.specs.live_model.image_model.Live.{is_directory}
use Rattle.eof_laws.specs.live_model.image_model.Volume.{extents, inode, Volume}
use Rattle.eof_laws.specs.live_model.k_split_model.Spaces.{volume_space}
use Rattle.eof_laws.specs.live_model.commute_laws.posix_types.declared.call.Call.{Call}
use Rattle.eof_laws.specs.live_model.commute_laws.posix_types.declared.call.Who.{Who}
use Rattle.eof_laws.specs.live_model.posix_tables.NameRows.{rmdir_rows, unlink_rows}
use Rattle.eof_laws.specs.live_model.posix_tables.Open.{is_open}
use Rattle.eof_laws.specs.live_model.posix_tables.Outcomes.{first}
use Rattle.eof_laws.specs.live_model.posix_spec.Run.{after_call, run}
use Rattle.eof_laws.specs.live_model.posix_spec.State.{State, unnamed as unnamed_state}
use Rattle.eof_laws.specs.live_model.posix_laws.CutLaws.{names_cut}
use Rattle.eof_laws.specs.live_model.posix_laws.Cuts.{cut_of}
use Rattle.eof_laws.specs.live_model.world_model.Stands.{number}
use Rattle.eof_laws.specs.live_model.world_step_laws.RemoveCalls.{swept-open}
use Rattle.posix_mode_laws.specs.Sides.{sized}
use Rattle.batch_laws.specs.Standing.{as_claims, staged_of}
use Rattle.k_split_laws.specs.Going.{IsStep}
use Rattle.k_split_laws.specs.Seen.{SeenFor}
use Rattle.k_split_laws.specs.Steps.{state_unlink_seen, steps_rmdir_seen, steps_unlinked_seen}
use Rattle.k_split_laws.specs.k_plans.Removing.{IsUnlinked}
use Rattle.batch_laws.specs.Calls.{RmdirGoesOn, UnlinkGoesOn}
use Rattle.batch_laws.specs.CallSteps.{cut_seen, kept_same, live_seen, same_maps}
use Rattle.batch_laws.specs.ChangesLaws.{change_goes_on}
use Rattle.batch_laws.specs.MadeLaws.{same_rows}
use Rattle.batch_laws.specs.Quiet.{IsQuiet}
use Rattle.batch_laws.specs.QuietLaws.{quiet_puts_none}
use Rattle.batch_laws.specs.SizedFound.{directory_plain, removed_sized, unlinked_sized}

-- RMDIR
pub rmdir_goes_on : RmdirGoesOn
rmdir_goes_on g k l files count numbers start history item p w ready call_is none is gathered =
    change_goes_on g k l files files count count numbers numbers start history item (Some is.entry.child) w ready gathered
    (kept_same g k files count numbers start history ready (Some is.entry.child) (λ t same. subst (λ i. (inode v i).kind ≢ File) (own t same) no_file))
    (same_maps (Some is.entry.child) v w numbers numbers (ap (λ (x : Volume). x.chains) is.is_removed) (ap (λ (x : Volume). x.maps) is.is_removed)
    (λ t same. subst (λ i. extents v i ≡ []) (own t same) (ready.unmapped is.entry.child no_file no_staging)) (λ i other. refl))
    (quiet_puts_none s item (subst (IsQuiet s) (sym call_is) tt)) live cut
  where
    v : Volume
    v = k.volume

    s : State
    s = run start history

    own : (t : ℕ) → Some is.entry.child ≡ Some t → is.entry.child ≡ t
    own t same = cc

    none_kept : (ino : ℕ) → (inode v ino).kind ≢ File → slice_index files.sizes ino ≡ 0
    none_kept ino other = (ready.going.bare ino other).1

    no_file : (inode v is.entry.child).kind ≢ File
    no_file = directory_plain files.sizes v ready.going.sizes none_kept is.entry.child is.is_directory.is_directory

    no_staging : (inode v is.entry.child).kind ≢ Staging
    no_staging staging = let never : false ≡ true = sym (ap is_directory staging) ∙ is.is_directory.is_directory in cc

    live : IsStep (Some is.entry.child) (sized files.sizes v) (sized files.sizes w) (as_claims (staged_of v files)) [] numbers numbers s (after_call s (item.who, item.call)) count count
    live =
        subst (λ c. IsStep (Some is.entry.child) (sized files.sizes v) (sized files.sizes w) (as_claims (staged_of v files)) [] numbers numbers s (after_call s (item.who, c)) count count) (sym call_is)
        (steps_rmdir_seen (sized files.sizes v) (as_claims (staged_of v files)) [] numbers s count item.who p (sized files.sizes w) (live_seen g k files count numbers start history ready) tt
        (same_rows (λ sp. first (rmdir_rows sp p)) files.sizes v None none) (removed_sized files.sizes v ready.going.sizes none_kept p w is))

    cut : IsStep (Some is.entry.child) v w [] [] numbers numbers (cut_of s) (cut_of (after_call s (item.who, item.call))) count count
    cut =
        subst (λ c. IsStep (Some is.entry.child) v w [] [] numbers numbers (cut_of s) (cut_of (after_call s (item.who, c))) count count) (sym call_is)
        (subst (λ (t : State). IsStep (Some is.entry.child) v w [] [] numbers numbers (cut_of s) t count count) (sym (names_cut s (item.who, Call.Rmdir p) tt))
        (steps_rmdir_seen v [] [] numbers (cut_of s) count item.who p w (cut_seen g k files count numbers start history ready) tt none is))

-- ---- the name of a file goes

-- the state behind an unlink of a file that is open
unlinked_open : (v : Volume) (claims : List (ℕ × Draft)) (numbers : List ℕ) (s : State) (count : ℕ) (who : Who) (p : List (List ℕ)) (w : Volume) (ino : ℕ) → SeenFor v claims [] numbers s count
    → first (unlink_rows (volume_space v) p) ≡ None → IsUnlinked p v w ino → is_open s.tables (number numbers ino) ≡ true → IsStep None v w claims [] numbers numbers s (after_call s (who, Call.Unlink p)) count count
unfolding unnamed_state
unlinked_open v claims numbers s count who p w ino seen none is open_there =
    subst (λ (t : State). IsStep None v w claims [] numbers numbers s t count count)
    (sym (state_unlink_seen v claims [] numbers s count who p w ino seen none is ∙ swept-open (unnamed_state s p) (number numbers ino) open_there))
    (steps_unlinked_seen v claims [] numbers s count p w ino seen is)

-- UNLINK of a file that is open
pub unlink_goes_on : UnlinkGoesOn
unlink_goes_on g k l files count numbers start history item p w ino ready call_is none is open_there gathered =
    change_goes_on g k l files files count count numbers numbers start history item None w ready gathered
    (kept_same g k files count numbers start history ready None (λ t never. absurd (nothing t never)))
    (same_maps None v w numbers numbers (ap (λ (x : Volume). x.chains) is.is_unlinked) (ap (λ (x : Volume). x.maps) is.is_unlinked) (λ t never. absurd (nothing t never)) (λ i other. refl))
    (quiet_puts_none s item (subst (IsQuiet s) (sym call_is) tt)) live cut
  where
    v : Volume
    v = k.volume

    s : State
    s = run start history

    nothing : (t : ℕ) → None ≡ Some t → ⊥
    nothing t never = cc

    live : IsStep None (sized files.sizes v) (sized files.sizes w) (as_claims (staged_of v files)) [] numbers numbers s (after_call s (item.who, item.call)) count count
    live =
        subst (λ c. IsStep None (sized files.sizes v) (sized files.sizes w) (as_claims (staged_of v files)) [] numbers numbers s (after_call s (item.who, c)) count count) (sym call_is)
        (unlinked_open (sized files.sizes v) (as_claims (staged_of v files)) numbers s count item.who p (sized files.sizes w) ino (live_seen g k files count numbers start history ready)
        (same_rows (λ sp. first (unlink_rows sp p)) files.sizes v None none) (unlinked_sized files.sizes v ready.going.sizes (λ i other. (ready.going.bare i other).1) p w ino is) open_there)

    cut : IsStep None v w [] [] numbers numbers (cut_of s) (cut_of (after_call s (item.who, item.call))) count count
    cut =
        subst (λ c. IsStep None v w [] [] numbers numbers (cut_of s) (cut_of (after_call s (item.who, c))) count count) (sym call_is)
        (subst (λ (t : State). IsStep None v w [] [] numbers numbers (cut_of s) t count count) (sym (names_cut s (item.who, Call.Unlink p) tt))
        (unlinked_open v [] numbers (cut_of s) count item.who p w ino (cut_seen g k files count numbers start history ready) none is open_there))
