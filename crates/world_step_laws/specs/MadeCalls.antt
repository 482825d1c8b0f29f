-- A node is made, by `mkdir` or by an `open` of a missing file.
use Rattle.std.specs.Prelude.{◌≡◌, ◌≢◌, ◌⊎◌, ◌<◌, ◌+◌, ◌^◌, ◌==◌, ℕ, Bool, true, false, List, [], ◌∷◌, ◌++◌, length, Some, None, is_some, option_map, refl, if◌then◌else◌}
use Rattle.std.proofs.Common.{arith, ap, ◌∙◌, length-append, sym, subst, inl, inr}
use Rattle.std.proofs.lemmas.Bool.{eq-eqb, ne_eqb}
use Rattle.std.proofs.lemmas.List.{length-set}
use Rattle.std.proofs.lemmas.Option.{same_Some}
use Rattle.volume_change_laws.specs.pm_model.Words.{Words}
use Rattle.volume_change_laws.specs.layout_model.declared.lines.Draft.{Draft}
use Rattle.volume_change_laws.specs.layout_model.declared.lines.Kind.{Kind}
use Rattle.volume_change_laws.specs.layout_model.declared.lines.Kind.TheVariants.{Free, Directory, File, Staging}
use Rattle.volume_change_laws.specs.layout_model.Lines.{is_name, NameRow}
use Rattle.volume_change_laws.specs.layout_model.Names.{free_line}
use Rattle.volume_change_laws.specs.image_model.Content.{size_by}
use Rattle.volume_change_laws.specs.image_model.Live.{latest}
use Rattle.volume_change_laws.specs.image_model.Volume.{inode, Volume}
use Rattle.volume_change_laws.specs.k_split_model.ChangesChanges.{made, new_node}
use Rattle.volume_change_laws.specs.k_split_model.Spaces.{volume_space}
use Rattle.commute_laws.specs.posix_types.declared.call.Call.{Call}
use Rattle.commute_laws.specs.posix_tables.declared.nodes.Node.{Node}
use Rattle.commute_laws.specs.posix_tables.NameRows.{mkdir_rows, open_rows}
use Rattle.commute_laws.specs.posix_tables.Names.{exists_at, last_name, node_at_path, number_at, parent_at, with_entry}
use Rattle.commute_laws.specs.posix_tables.Open.{is_full}
use Rattle.commute_laws.specs.posix_tables.Outcomes.{first}
use Rattle.commute_laws.specs.posix_spec.Run.{after_call}
use Rattle.commute_laws.specs.posix_spec.State.{alone, made as made_state, space, State, with_node}
use Rattle.commute_laws.specs.posix_spec.Step.{empty_file, is_busy, mkdir_done, open_done, opening, stepped}
use Rattle.volume_change_laws.specs.CallLaws.{may-make, row_to}
use Rattle.volume_change_laws.specs.Changes.{MayMake}
use Rattle.volume_change_laws.specs.FoundLaws.{IsLowestFree}
use Rattle.volume_change_laws.specs.FrameLaws.{made-inode, made-others}
use Rattle.volume_change_laws.specs.NameLaws.{made-keeps}
use Rattle.world_model.specs.name_laws.EntryLaws.{child_of-rows}
use Rattle.world_model.specs.name_laws.Paths.{IsNewAt}
use Rattle.world_model.specs.Jobs.{Job, JobsStand, live_claims}
use Rattle.world_model.specs.Stands.{is_used, IsSane, IsUsed, NamesStand, NodeStands, number}
use Rattle.world_model.specs.JobLaws.{live_file}
use Rattle.world_model.specs.TreeRules.{all_lines}
use Rattle.world_step_laws.specs.Mirrors.{Mirrors, node_at_path-same}
use Rattle.world_step_laws.specs.Rows.{HaveSameRows-Mirrors}
use Rattle.world_step_laws.specs.Ages.{AreAged-made, dead-made}
use Rattle.world_step_laws.specs.Makers.{renumbered, renumbered-other, renumbered-own, Steps-made}
use Rattle.world_step_laws.specs.NameTables.{NamesStand-made}
use Rattle.world_step_laws.specs.Steps.{AreBeside, GoOn, GoOn-call, Steps}
use Rattle.world_step_laws.specs.Touched.{beside, entries-touched, Leaves, only}
use Rattle.world_step_laws.specs.Worlds.{IsWorld, IsWorld-left, parent_number, spelled-set, world_mirror, world_volume}
use Rattle.world_step_laws.specs.NamesLaws.{KeepsCreated, KeepsMkdir}

-- what is made: a directory, or a file without bytes
abbrev pub IsMadeOf : Kind → Node → Type 0
IsMadeOf Free node = ⊥
IsMadeOf Staging node = ⊥
IsMadeOf Directory Node.Gone = ⊥
IsMadeOf Directory Node.Directory = Unit {0}
IsMadeOf Directory (Node.File file) = ⊥
IsMadeOf File Node.Gone = ⊥
IsMadeOf File Node.Directory = ⊥
IsMadeOf File (Node.File file) = file.bytes ≡ []

made_kind : (kind : Kind) (node : Node) → IsMadeOf kind node → (kind ≡ Directory) ⊎ (kind ≡ File)
made_kind Free node is = absurd is
made_kind Staging node is = absurd is
made_kind Directory node is = inl refl
made_kind File node is = inr refl

used_made : (kind : Kind) → (kind ≡ Directory) ⊎ (kind ≡ File) → is_used kind ≡ true
used_made kind (inl is) = ap is_used is
used_made kind (inr is) = ap is_used is

-- it stands, where no live entry is of its inode and the line has no bytes
stands_made : (w : Volume) (live : List Draft) (f : Words) (c : ℕ) (kind : Kind) (node : Node) → IsMadeOf kind node → (inode w c).size ≡ 0 → NodeStands w (beside (only c) live) f c kind node
stands_made w live f c Free node is size = absurd is
stands_made w live f c Staging node is size = absurd is
stands_made w live f c Directory Node.Gone is size = absurd is
stands_made w live f c Directory Node.Directory is size = tt
stands_made w live f c Directory (Node.File file) is size = absurd is
stands_made w live f c File Node.Gone is size = absurd is
stands_made w live f c File Node.Directory is size = absurd is
stands_made w live f c File (Node.File file) is size = record {
  size = ap (λ ds. size_by (latest ds) (inode w c).size) (entries-touched (only c) live c (own c)) ∙ (size ∙ sym (ap length is));
  each = λ i below. absurd (none i (ap length is) below);
} where
  own : (n : ℕ) → (n == n) ≡ true
  own n = eq-eqb n n refl

  none : (i : ℕ) → length file.bytes ≡ 0 → i < length file.bytes → ⊥
  none i empty below = omega (arith, empty, below)

-- no job is of an inode that is no file
pub beside-no_file : (v : Volume) (live : List Draft) (f : Words) (numbers : List ℕ) (s : State) (c : ℕ) (jobs : List Job) → JobsStand v live f numbers s jobs → (inode v c).kind ≢ File → AreBeside (only c) jobs
beside-no_file v live f numbers s c [] out other = tt
beside-no_file v live f numbers s c (j ∷ jobs) out other = (
  ne_eqb j.draft.ino c (λ same. other (ap (λ i. (inode v i).kind) (sym same) ∙ live_file v j.draft out.0.alive)),
  beside-no_file v live f numbers s c jobs out.2 other,
)

-- THE NODE IS MADE.
pub IsWorld-made : (v : Volume) (claims : List (ℕ × Draft)) (jobs : List Job) (f : Words) (numbers : List ℕ) (s new : State) (count : ℕ) (p : List (List ℕ)) (parent : ℕ) (kind : Kind) (node : Node) (ino line : ℕ)
    → IsWorld v claims jobs f numbers s count → count + 1 < 2 ^ 31 → IsNewAt (volume_space v) p parent → IsLowestFree v.inodes ino → free_line v.names ≡ Some line → is_name (last_name p) ≡ true → IsMadeOf kind node
    → GoOn s new numbers jobs → new.nodes ≡ s.nodes ++ node ∷ [] → new.entries ≡ with_entry s.entries (record { parent = parent_at (space s) p; name = last_name p; child = length s.nodes }) → new.shape ≡ s.shape
    → IsWorld (made kind ino line (row_to p parent ino) v) claims jobs f (renumbered numbers ino (length s.nodes)) new (count + 1)
IsWorld-made v claims jobs f numbers s new count p parent kind node ino line world small is_new free first spelled of_kind on nodes entries shape =
    IsWorld-left (only ino) v w claims jobs f numbers (renumbered numbers ino (length s.nodes)) s new count (count + 1) world
    (beside-no_file v (live_claims v claims) f numbers s ino jobs world.valid.out no_file) on steps
    (record { inodes = length-set v.inodes ino (new_node kind (inode v ino)); names = length-set v.names line (Some r); geometry = refl; shape = shape })
    (AreAged-made kind ino line r v claims count world.aged small free.within free.free)
  where
    r : NameRow
    r = row_to p parent ino

    w : Volume
    w = made kind ino line r v

    no_file : (inode v ino).kind ≢ File
    no_file is = let never : Free ≡ File = sym free.free ∙ is in cc

    may : MayMake kind ino line r v
    may = may-make v p parent kind ino line (world_volume v claims jobs f numbers s count world) is_new (made_kind kind node of_kind) free.within free.free first

    mirror : Mirrors (IsUsed v) numbers (volume_space v) (space s)
    mirror = world_mirror v claims jobs f numbers s count world

    above : IsUsed v parent × (parent_at (space s) p ≡ number numbers parent)
    above = parent_number v numbers s p parent mirror is_new.directory

    own : inode w ino ≡ new_node kind (inode v ino)
    own = made-inode kind ino line r v free.within

    others : (i : ℕ) → i ≢ ino → inode w i ≡ inode v i
    others i other = (made-others kind ino line r v).inodes i (other, tt)

    used : IsUsed w ino
    used = ap (λ x. is_used x.kind) own ∙ used_made kind (made_kind kind node of_kind)

    leaves : Leaves (only ino) v w
    leaves = record {
      inodes = λ i out. others i (apart i out);
      maps = λ i out. refl;
      staging = λ i is. ne_eqb i ino (λ same. (let never : Staging ≡ Free = sym is ∙ (ap (λ k. (inode v k).kind) same ∙ free.free) in cc));
    } where
      apart : (i : ℕ) → (i == ino) ≡ false → i ≢ ino
      apart i out same = let never : true ≡ false = sym (eq-eqb i ino same) ∙ out in cc

    sane : IsSane w
    sane = record {
      kept = made-keeps kind ino line r v world.valid.stands.sane.kept (all_lines v world.valid.stands.sane) may;
      inode_count = length-set v.inodes ino (new_node kind (inode v ino)) ∙ world.valid.stands.sane.inode_count;
      name_count = length-set v.names line (Some r) ∙ world.valid.stands.sane.name_count;
      chain_count = world.valid.stands.sane.chain_count;
      map_count = world.valid.stands.sane.map_count;
      spelled = spelled-set v.names line (Some r) world.valid.stands.sane.spelled (λ q is. ap (λ (x : NameRow). is_name x.name) (sym (same_Some r q is)) ∙ spelled);
    }

    names : NamesStand w (renumbered numbers ino (length s.nodes)) new
    names =
        NamesStand-made v w numbers (renumbered numbers ino (length s.nodes)) s new line r world.valid.stands.sane world.valid.stands.names may.line_below may.line_free
        (sym (child_of-rows v.names parent (last_name p)) ∙ is_new.is_new) above.0 free.free refl others used (renumbered-own numbers ino (length s.nodes)) (λ i other. renumbered-other numbers ino (length s.nodes) i other)
        (entries ∙ ap (λ n. with_entry s.entries (record { parent = n; name = last_name p; child = length s.nodes })) above.1) (ap length nodes ∙ length-append s.nodes (node ∷ []))

    steps : Steps (only ino) v w claims f numbers (renumbered numbers ino (length s.nodes)) s new
    steps =
        Steps-made v w claims (live_claims v claims) f numbers (renumbered numbers ino (length s.nodes)) s new ino node world.valid.stands.nodes world.valid.stands.names free.free leaves sane names nodes used
        (renumbered-own numbers ino (length s.nodes)) (λ i other. renumbered-other numbers ino (length s.nodes) i other)
        (subst (λ x. NodeStands w (beside (only ino) (live_claims v claims)) f ino x.kind node) (sym own) (stands_made w (live_claims v claims) f ino kind node of_kind (ap (λ x. x.size) own)))
        world.aged.staging (λ d is same. dead-made kind ino line r v claims count d world.aged free.within is same)

-- ---- the calls

-- `mkdir`
pub IsWorld-mkdir : KeepsMkdir
unfolding mkdir_done made_state
IsWorld-mkdir v claims jobs f numbers s count who p parent ino line world small lets none is_new free first_free spelled =
    let mirror = world_mirror v claims jobs f numbers s count world in
    let none_there : first (mkdir_rows (space s) p) ≡ None = ap first (sym ((HaveSameRows-Mirrors (IsUsed v) numbers (volume_space v) (space s) mirror).mkdir p)) ∙ none in
    let same : after_call s (who, Call.Mkdir p) ≡ made_state s p Node.Directory = ap (λ o. (stepped s o (mkdir_done s p)).state) none_there in
    subst (λ x. IsWorld (made Directory ino line (row_to p parent ino) v) claims jobs f (renumbered numbers ino (length s.nodes)) x (count + 1)) (sym same)
    (IsWorld-made v claims jobs f numbers s (made_state s p Node.Directory) count p parent Directory Node.Directory ino line world small is_new free first_free spelled tt
    (subst (λ x. GoOn s x numbers jobs) same (GoOn-call v claims jobs f numbers s (who, Call.Mkdir p) world.valid lets tt)) refl refl refl)

missing : (v : Volume) (numbers : List ℕ) (s : State) (p : List (List ℕ)) (parent : ℕ) → Mirrors (IsUsed v) numbers (volume_space v) (space s) → IsNewAt (volume_space v) p parent → exists_at (space s) p ≡ false
unfolding node_at_path
missing v numbers s p parent mirror is_new =
    let nothing : node_at_path (volume_space v) p ≡ None = rw (is_new.directory.below, is_new.directory.leads) is_new.is_new in
    ap is_some (sym (node_at_path-same (IsUsed v) numbers (volume_space v) (space s) mirror p) ∙ ap (option_map (number numbers)) nothing)

-- an `open` that makes the file
pub IsWorld-created : KeepsCreated
unfolding open_done opening made_state
IsWorld-created v claims jobs f numbers s count who h p flags parent ino line world small lets none is_new free first_free spelled =
    let mirror = world_mirror v claims jobs f numbers s count world in
    let busy : Bool = is_busy alone s p in
    let none_there : first (open_rows (space s) (is_full s.tables) busy p flags) ≡ None =
    ap first (sym ((HaveSameRows-Mirrors (IsUsed v) numbers (volume_space v) (space s) mirror).open_ (is_full s.tables) busy p flags)) ∙ none
    in
    let same : after_call s (who, Call.Open h p flags) ≡ (open_done s who h p flags).state = ap (λ o. (stepped s o (open_done s who h p flags)).state) none_there in
    let gone = missing v numbers s p parent mirror is_new in
    let open_state : opening s p flags.truncate ≡ made_state s p empty_file =
    ap (λ b. if b then (if flags.truncate then with_node s (number_at (space s) p) empty_file else s) else made_state s p empty_file) gone
    in
    subst (λ x. IsWorld (made File ino line (row_to p parent ino) v) claims jobs f (renumbered numbers ino (length s.nodes)) x (count + 1)) (sym same)
    (IsWorld-made v claims jobs f numbers s (open_done s who h p flags).state count p parent File empty_file ino line world small is_new free first_free spelled refl
    (subst (λ x. GoOn s x numbers jobs) same (GoOn-call v claims jobs f numbers s (who, Call.Open h p flags) world.valid lets tt))
    (ap (λ (x : State). x.nodes) open_state) (ap (λ (x : State). x.entries) open_state) (ap (λ (x : State). x.shape) open_state))
