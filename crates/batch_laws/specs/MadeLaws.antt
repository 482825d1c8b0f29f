-- The calls that make a node, while changes gather.
use Rattle.std.specs.Prelude.{◌≡◌, ◌≢◌, ◌+◌, ℕ, Bool, true, false, List, [], length, None, Some, is_some, option_map, refl}
use Rattle.std.proofs.Common.{ap, ◌∙◌, sym, subst, inl}
use Rattle.std.proofs.lemmas.List.{length-map}
use Rattle.eof_laws.specs.live_model.layout_model.Places.{Geometry}
use Rattle.eof_laws.specs.live_model.layout_model.declared.lines.Kind.TheVariants.{File, Free, Staging}
use Rattle.eof_laws.specs.live_model.image_model.Volume.{extents, inode, Volume}
use Rattle.eof_laws.specs.live_model.file_table.Files.{Files}
use Rattle.eof_laws.specs.live_model.k_split_model.Spaces.{volume_space}
use Rattle.eof_laws.specs.live_model.k_split_model.View.{View}
use Rattle.eof_laws.specs.live_model.commute_laws.posix_types.declared.call.Call.{Call}
use Rattle.eof_laws.specs.live_model.commute_laws.posix_types.declared.item.Item.{Item}
use Rattle.eof_laws.specs.live_model.posix_tables.NameRows.{mkdir_rows, open_rows}
use Rattle.eof_laws.specs.live_model.posix_tables.Names.{exists_at, node_at_path, Space}
use Rattle.eof_laws.specs.live_model.posix_tables.Open.{is_full}
use Rattle.eof_laws.specs.live_model.posix_tables.Outcomes.{first}
use Rattle.eof_laws.specs.live_model.posix_spec.Run.{after_call, run}
use Rattle.eof_laws.specs.live_model.posix_spec.State.{alone, space, State}
use Rattle.eof_laws.specs.live_model.posix_spec.Step.{is_busy}
use Rattle.eof_laws.specs.live_model.posix_laws.CutLaws.{names_cut, space_cut}
use Rattle.eof_laws.specs.live_model.posix_laws.Cuts.{cut_node, cut_of}
use Rattle.eof_laws.specs.live_model.world_model.Stands.{IsUsed, number}
use Rattle.eof_laws.specs.live_model.world_step_laws.Makers.{renumbered, renumbered-other}
use Rattle.eof_laws.specs.live_model.world_step_laws.Mirrors.{Mirrors, node_at_path-same}
use Rattle.eof_laws.specs.live_model.world_step_laws.Worlds.{world_mirror}
use Rattle.posix_mode_laws.specs.ClaimsLaws.{space_sized}
use Rattle.posix_mode_laws.specs.Sides.{sized}
use Rattle.batch_laws.specs.Standing.{as_claims, staged_of}
use Rattle.k_split_laws.specs.Going.{IsStep}
use Rattle.k_split_laws.specs.Steps.{steps_mkdir_seen, steps_opened_seen}
use Rattle.k_split_laws.specs.k_plans.Making.{IsMade}
use Rattle.k_split_laws.specs.name_laws.Paths.{IsNewAt}
use Rattle.k_split_laws.specs.volume_change_laws.FoundLaws.{free-found}
use Rattle.batch_laws.specs.Calls.{CreationGoesOn, MkdirGoesOn}
use Rattle.batch_laws.specs.CallSteps.{cut_seen, kept_same, live_seen, same_maps}
use Rattle.batch_laws.specs.Changes.{TakesNone}
use Rattle.batch_laws.specs.ChangesLaws.{change_goes_on}
use Rattle.batch_laws.specs.Quiet.{IsQuiet}
use Rattle.batch_laws.specs.QuietLaws.{quiet_puts_none}
use Rattle.batch_laws.specs.Ready.{GoesReady}
use Rattle.batch_laws.specs.SizedFound.{made_sized}

-- the inode of a node that is made was free
module _ (directory : Bool) (p : List (List ℕ)) (v w : Volume) (ino : ℕ) (is : IsMade directory p v w ino) where
  free : (inode v is.place.ino).kind ≡ Free
  free = (free-found v.inodes is.place.ino is.is_place.room.ino).free

  of_ino : (t : ℕ) → Some ino ≡ Some t → (inode v t).kind ≡ Free
  of_ino t same = let own : t ≡ ino = cc in ap (λ i. (inode v i).kind) (own ∙ is.ino_is) ∙ free

  plain : (t : ℕ) → Some ino ≡ Some t → (inode v t).kind ≢ File
  plain t same file = let never : File ≡ Free = sym file ∙ of_ino t same in cc

  made_none : (g : Geometry) (k : View) (files : Files) (count : ℕ) (numbers : List ℕ) (start : State) (history : List Item) (n : ℕ) → GoesReady g k files count numbers start history → k.volume ≡ v
      → TakesNone (Some ino) v w numbers (renumbered numbers ino n)
  made_none g k files count numbers start history n ready own =
      same_maps (Some ino) v w numbers (renumbered numbers ino n) (ap (λ (x : Volume). x.chains) is.is_made) (ap (λ (x : Volume). x.maps) is.is_made)
      (λ t same. (subst (λ (x : Volume). (inode x t).kind ≡ Free → extents x t ≡ []) own
      (λ kind. ready.unmapped t (λ file. (let never : File ≡ Free = sym file ∙ kind in cc)) (λ staging. (let never : Staging ≡ Free = sym staging ∙ kind in cc))) (of_ino t same)))
      (λ i other. renumbered-other numbers ino n i (λ same. other (ap Some (sym same))))

-- the rows of the volume with the lengths in memory are those of the batch
pub same_rows : {X : Type 0} (rows : Space → X) (ns : List ℕ) (v : Volume) (x : X) → rows (volume_space v) ≡ x → rows (volume_space (sized ns v)) ≡ x
same_rows rows ns v x is = ap rows (space_sized ns v) ∙ is

-- MKDIR
pub mkdir_goes_on : MkdirGoesOn
mkdir_goes_on g k l files count numbers start history item p w ino ready call_is small spelled none is gathered =
    change_goes_on g k l files files count (count + 1) numbers after start history item (Some ino) w ready gathered (kept_same g k files count numbers start history ready (Some ino) (plain true p v w ino is))
    (made_none true p v w ino is g k files count numbers start history (length s.nodes) ready refl) (quiet_puts_none s item (subst (IsQuiet s) (sym call_is) tt)) live cut
  where
    v : Volume
    v = k.volume

    s : State
    s = run start history

    after : List ℕ
    after = renumbered numbers ino (length s.nodes)

    live : IsStep (Some ino) (sized files.sizes v) (sized files.sizes w) (as_claims (staged_of v files)) [] numbers after s (after_call s (item.who, item.call)) count (count + 1)
    live =
        subst (λ c. IsStep (Some ino) (sized files.sizes v) (sized files.sizes w) (as_claims (staged_of v files)) [] numbers after s (after_call s (item.who, c)) count (count + 1)) (sym call_is)
        (steps_mkdir_seen (sized files.sizes v) (as_claims (staged_of v files)) [] numbers s count item.who p (sized files.sizes w) ino (live_seen g k files count numbers start history ready) tt small spelled
        (same_rows (λ sp. first (mkdir_rows sp p)) files.sizes v None none)
        (made_sized files.sizes v ready.going.sizes (λ i other. (ready.going.bare i other).1) true p w ino is (plain true p v w ino is is.place.ino (ap Some is.ino_is))))

    cut : IsStep (Some ino) v w [] [] numbers after (cut_of s) (cut_of (after_call s (item.who, item.call))) count (count + 1)
    cut =
        subst (λ c. IsStep (Some ino) v w [] [] numbers after (cut_of s) (cut_of (after_call s (item.who, c))) count (count + 1)) (sym call_is)
        (subst (λ (t : State). IsStep (Some ino) v w [] [] numbers after (cut_of s) t count (count + 1)) (sym (names_cut s (item.who, Call.Mkdir p) tt))
        (subst (λ n. IsStep (Some ino) v w [] [] numbers (renumbered numbers ino n) (cut_of s) (after_call (cut_of s) (item.who, Call.Mkdir p)) count (count + 1)) (length-map s.nodes cut_node)
        (steps_mkdir_seen v [] [] numbers (cut_of s) count item.who p w ino (cut_seen g k files count numbers start history ready) tt small spelled none is)))

-- ---- an open that makes the file

-- nothing stands at a path where a node is new
missing : (v : Volume) (numbers : List ℕ) (s : State) (p : List (List ℕ)) (parent : ℕ) → Mirrors (IsUsed v) numbers (volume_space v) (space s) → IsNewAt (volume_space v) p parent → exists_at (space s) p ≡ false
unfolding node_at_path
missing v numbers s p parent mirror is_new =
    let nothing : node_at_path (volume_space v) p ≡ None = rw (is_new.directory.below, is_new.directory.leads) is_new.is_new in
    ap is_some (sym (node_at_path-same (IsUsed v) numbers (volume_space v) (space s) mirror p) ∙ ap (option_map (number numbers)) nothing)

-- CREATION
pub creation_goes_on : CreationGoesOn
creation_goes_on g k l files count numbers start history item h p flags w ino ready call_is small spelled none is gathered =
    change_goes_on g k l files files count (count + 1) numbers after start history item (Some ino) w ready gathered (kept_same g k files count numbers start history ready (Some ino) (plain false p v w ino is))
    (made_none false p v w ino is g k files count numbers start history (length s.nodes) ready refl) (quiet_puts_none s item (subst (IsQuiet s) (sym call_is) (inl nothing))) live cut
  where
    v : Volume
    v = k.volume

    s : State
    s = run start history

    after : List ℕ
    after = renumbered numbers ino (length s.nodes)

    nothing : exists_at (space s) p ≡ false
    nothing =
        let seen = cut_seen g k files count numbers start history ready in
        ap (λ (sp : Space). exists_at sp p) (sym (space_cut s))
        ∙ missing v numbers (cut_of s) p is.place.parent (world_mirror v [] [] seen.words numbers (cut_of s) count seen.world) is.is_place.is_new

    live : IsStep (Some ino) (sized files.sizes v) (sized files.sizes w) (as_claims (staged_of v files)) [] numbers after s (after_call s (item.who, item.call)) count (count + 1)
    live =
        subst (λ c. IsStep (Some ino) (sized files.sizes v) (sized files.sizes w) (as_claims (staged_of v files)) [] numbers after s (after_call s (item.who, c)) count (count + 1)) (sym call_is)
        (steps_opened_seen (sized files.sizes v) (as_claims (staged_of v files)) [] numbers s count item.who h p flags (sized files.sizes w) ino (live_seen g k files count numbers start history ready) tt small
        spelled (same_rows (λ sp. first (open_rows sp (is_full s.tables) (is_busy alone s p) p flags)) files.sizes v None none)
        (made_sized files.sizes v ready.going.sizes (λ i other. (ready.going.bare i other).1) false p w ino is (plain false p v w ino is is.place.ino (ap Some is.ino_is))))

    cut : IsStep (Some ino) v w [] [] numbers after (cut_of s) (cut_of (after_call s (item.who, item.call))) count (count + 1)
    cut =
        subst (λ c. IsStep (Some ino) v w [] [] numbers after (cut_of s) (cut_of (after_call s (item.who, c))) count (count + 1)) (sym call_is)
        (subst (λ (t : State). IsStep (Some ino) v w [] [] numbers after (cut_of s) t count (count + 1)) (sym (names_cut s (item.who, Call.Open h p flags) (inl nothing)))
        (subst (λ n. IsStep (Some ino) v w [] [] numbers (renumbered numbers ino n) (cut_of s) (after_call (cut_of s) (item.who, Call.Open h p flags)) count (count + 1)) (length-map s.nodes cut_node)
        (steps_opened_seen v [] [] numbers (cut_of s) count item.who h p flags w ino (cut_seen g k files count numbers start history ready) tt small spelled none is)))
