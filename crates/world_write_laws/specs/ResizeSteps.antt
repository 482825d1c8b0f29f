-- `truncate`, and an `open` that cuts, once the runs of the file are published.
use Rattle.std.specs.Prelude.{◌≡◌, ◌≢◌, ◌⊎◌, ◌≤◌, ◌/◌, ◌==◌, ◌&&◌, ℕ, Bool, true, false, List, [], ◌∷◌, length, map, Option, Some, None, is_some, option_map, unwrap_or, slice_set, refl, if◌then◌else◌}
use Rattle.std.specs.Option.{option_map_or}
use Rattle.std.proofs.Common.{ap, ◌∙◌, sym, subst, inl, inr}
use Rattle.std.proofs.lemmas.Bool.{and_parts, cases_Bool, cases_eq, eq-eqb, ne_eqb}
use Rattle.std.proofs.lemmas.Bool.Decides.{Decides-eqb}
use Rattle.std.proofs.lemmas.List.{get_or-set_other, get_or-set_same, length-set}
use Rattle.world_step_laws.specs.world_model.pm_model.Words.{Words}
use Rattle.world_step_laws.specs.world_model.extent_model.Extents.{is_within}
use Rattle.world_step_laws.specs.world_model.layout_model.declared.lines.Draft.{Draft}
use Rattle.world_step_laws.specs.world_model.layout_model.declared.lines.Kind.TheVariants.{File, Staging}
use Rattle.world_step_laws.specs.world_model.layout_model.Names.{child_named}
use Rattle.world_step_laws.specs.world_model.image_model.Content.{byte_in, disk_by, entry_of_block, size_by}
use Rattle.world_step_laws.specs.world_model.image_model.Live.{is_file, is_live, is_of_file, latest}
use Rattle.world_step_laws.specs.world_model.image_model.Volume.{inode, Volume}
use Rattle.world_step_laws.specs.world_model.posix_types.declared.call.Call.{Call}
use Rattle.world_step_laws.specs.world_model.posix_tables.declared.nodes.Node.{Node}
use Rattle.world_step_laws.specs.world_model.posix_tables.declared.open.Description.{Description}
use Rattle.world_step_laws.specs.world_model.posix_tables.Bytes.{resized}
use Rattle.world_step_laws.specs.world_model.posix_tables.Names.{exists_at, node_at_path, number_at, too_long}
use Rattle.world_step_laws.specs.world_model.posix_tables.Nodes.{node_at}
use Rattle.world_step_laws.specs.world_model.posix_tables.Open.{opened}
use Rattle.world_step_laws.specs.world_model.posix_spec.FileRows.{content, file_number}
use Rattle.world_step_laws.specs.world_model.posix_spec.Run.{after_call, Unfinished}
use Rattle.world_step_laws.specs.world_model.posix_spec.State.{made, space, State, with_file, with_node}
use Rattle.world_step_laws.specs.world_model.posix_spec.Step.{empty_file, open_done, opening, stepped, truncate_done}
use Rattle.world_step_laws.specs.world_model.list_laws.Filters.{filter-In, In-filter}
use Rattle.world_step_laws.specs.world_model.list_laws.Members.{In}
use Rattle.world_step_laws.specs.world_model.crash_spec.Busy.{waits_for}
use Rattle.world_step_laws.specs.world_model.Jobs.{Job, live_claims}
use Rattle.world_step_laws.specs.world_model.Stands.{entries_of, FileStands, is_used, IsSane, IsUsed, NamesStand, NodeStands, number}
use Rattle.world_step_laws.specs.world_model.Landed.{NamesStand-same}
use Rattle.world_step_laws.specs.world_model.Latest.{latest-In}
use Rattle.world_step_laws.specs.Ages.{AreAged-same}
use Rattle.world_step_laws.specs.Steps.{AreBeside, GoOn, GoOn-call, LetsJobsBe, shown_node, Steps}
use Rattle.world_step_laws.specs.Touched.{beside, entries-touched, Leaves, only}
use Rattle.world_step_laws.specs.Worlds.{IsWorld, IsWorld-left}
use Rattle.world_write_laws.specs.JobsLaws.{KeepsCut, KeepsTruncated}
use Rattle.world_write_laws.specs.Resizes.{HasAlone, Resizes}

-- no entry covers a block of a file that has none
pub no_cover : (live : List Draft) (ino block : ℕ) → entries_of ino live ≡ [] → entry_of_block live ino block ≡ None
no_cover live ino block none = by (entry_of_block live ino block) refl where
  by : (o : Option Draft) → entry_of_block live ino block ≡ o → entry_of_block live ino block ≡ None
  by None is = is
  by (Some d) is =
      let there = filter-In (λ (e : Draft). (e.ino == ino) && is_within e.file_block e.count block) live d (latest-In _ d is) in
      let member : In d (entries_of ino live) = In-filter (λ (e : Draft). e.ino == ino) live d there.0 (and_parts (d.ino == ino) (is_within d.file_block d.count block) there.1).0 in
      absurd (subst (In d) none member)

-- what stands of the file by its own map
pub stands_alone : (w : Volume) (live : List Draft) (f : Words) (ino : ℕ) (bytes : List ℕ) → entries_of ino live ≡ [] → HasAlone w f ino bytes → FileStands w live f ino bytes
stands_alone w live f ino bytes none has = record {
  size = ap (λ ds. size_by (latest ds) (inode w ino).size) none ∙ has.size;
  each = λ i below. ap (λ o. byte_in f (disk_by w o ino (i / 4096)) i) (no_cover live ino (i / 4096) none) ∙ has.each i below;
}

-- a job that a call would wait for is of another file
beside_waiting : (s : State) (c : Unfinished) (numbers : List ℕ) (jobs : List Job) (ino : ℕ) → LetsJobsBe s c numbers jobs → waits_for s c ≡ Some (number numbers ino) → AreBeside (only ino) jobs
beside_waiting s c numbers [] ino lets waits = tt
beside_waiting s c numbers (j ∷ jobs) ino lets waits =
    (ne_eqb j.draft.ino ino (λ same. lets.0.aside (waits ∙ ap (λ n. Some (number numbers n)) (sym same))), beside_waiting s c numbers jobs ino lets.1 waits)

-- THE FILE IS RESIZED.
pub IsWorld-resized : (v w : Volume) (claims : List (ℕ × Draft)) (jobs : List Job) (f : Words) (numbers : List ℕ) (s new : State) (count ino : ℕ) (bytes : List ℕ) (published : ℕ) → IsWorld v claims jobs f numbers s count
    → Resizes v w ino → entries_of ino (live_claims v claims) ≡ [] → HasAlone w f ino bytes → AreBeside (only ino) jobs → GoOn s new numbers jobs → new.entries ≡ s.entries → new.shape ≡ s.shape
    → new.nodes ≡ slice_set s.nodes (number numbers ino) (Node.File (record { bytes = bytes; published = published })) → IsWorld w claims jobs f numbers new count
IsWorld-resized v w claims jobs f numbers s new count ino bytes published world change none has off on entries shape nodes =
    IsWorld-left (only ino) v w claims jobs f numbers numbers s new count count world off on steps
    (record { inodes = change.sane.inode_count ∙ (ap (λ g. g.inodes) change.geometry ∙ sym sane.inode_count); names = ap length change.names; geometry = change.geometry; shape = shape })
    (AreAged-same v w claims count (λ i. generation i (cases_eq i ino)) (λ i is. ap (λ x. x.kind) (change.others i (no_staging i is)) ∙ is) world.aged)
  where
    sane : IsSane v
    sane = world.valid.stands.sane

    used : IsUsed v ino
    used = ap is_used change.file

    node : Node
    node = Node.File (record { bytes = bytes; published = published })

    apart : (i : ℕ) → (i == ino) ≡ false → i ≢ ino
    apart i out same = let never : true ≡ false = sym (eq-eqb i ino same) ∙ out in cc

    no_staging : (i : ℕ) → (inode v i).kind ≡ Staging → i ≢ ino
    no_staging i is same = let never : Staging ≡ File = sym is ∙ (ap (λ k. (inode v k).kind) same ∙ change.file) in cc

    generation : (i : ℕ) → (i ≡ ino) ⊎ (i ≢ ino) → (inode w i).generation ≡ (inode v i).generation
    generation i (inl same) = ap (λ k. (inode w k).generation) same ∙ (change.generation ∙ ap (λ k. (inode v k).generation) (sym same))
    generation i (inr other) = ap (λ x. x.generation) (change.others i other)

    kinds : (i : ℕ) → (i ≡ ino) ⊎ (i ≢ ino) → (inode w i).kind ≡ (inode v i).kind
    kinds i (inl same) = ap (λ k. (inode w k).kind) same ∙ (change.kind ∙ ap (λ k. (inode v k).kind) (sym same))
    kinds i (inr other) = ap (λ x. x.kind) (change.others i other)

    same_used : (i : ℕ) → is_used (inode w i).kind ≡ is_used (inode v i).kind
    same_used i = ap is_used (kinds i (cases_eq i ino))

    leaves : Leaves (only ino) v w
    leaves = record { inodes = λ i out. change.others i (apart i out); maps = λ i out. change.maps i (apart i out); staging = λ i is. ne_eqb i ino (no_staging i is) }

    long : length new.nodes ≡ length s.nodes
    long = ap length nodes ∙ length-set s.nodes (number numbers ino) node

    before : NamesStand v numbers new
    before = NamesStand-same v numbers s new entries long world.valid.stands.names

    names : NamesStand w numbers new
    names = record {
      root = before.root;
      root_used = same_used 0 ∙ before.root_used;
      within = λ i there. before.within i (sym (same_used i) ∙ there);
      one = λ i j a b. before.one i j (sym (same_used i) ∙ a) (sym (same_used j) ∙ b);
      names = λ p name there. ap (λ rows. option_map (number numbers) (child_named rows p name)) change.names ∙ before.names p name (sym (same_used p) ∙ there);
      entry_parents = λ n name m led. (let its = before.entry_parents n name m led in (its.0, same_used its.0 ∙ its.1, its.2));
      distinct = before.distinct;
    }

    other_node : (n : ℕ) → n ≢ number numbers ino → node_at new.nodes n ≡ node_at s.nodes n
    other_node n other = ap (λ xs. node_at xs n) nodes ∙ get_or-set_other s.nodes (number numbers ino) n node Node.Gone other

    own_node : node_at new.nodes (number numbers ino) ≡ node
    own_node = ap (λ xs. node_at xs (number numbers ino)) nodes ∙ get_or-set_same s.nodes (number numbers ino) node Node.Gone (world.valid.stands.names.within ino used)

    own_stands : NodeStands w (beside (only ino) (live_claims v claims)) f ino (inode w ino).kind (node_at new.nodes (number numbers ino))
    own_stands =
        subst (λ k. NodeStands w (beside (only ino) (live_claims v claims)) f ino k (node_at new.nodes (number numbers ino))) (sym (change.kind ∙ change.file))
        (subst (NodeStands w (beside (only ino) (live_claims v claims)) f ino File) (sym own_node) (stands_alone w (beside (only ino) (live_claims v claims)) f ino bytes (entries-touched (only ino) (live_claims v claims) ino (eq-eqb ino ino refl)) has))

    dead : (d : Draft) → In d (map (λ (c : ℕ × Draft). c.1) claims) → (d.ino == ino) ≡ true → (is_of_file w d ≡ false) ⊎ ((is_of_file v d ≡ true) × (d.order ≤ (inode w d.ino).applied))
    dead d is out = by (cases_Bool (is_of_file v d)) where
      own : d.ino ≡ ino
      own = (Decides-eqb d.ino ino).0 out

      same : is_of_file w d ≡ is_of_file v d
      same =
          λ i. is_file (kinds d.ino (inl own) i) && (generation d.ino (inl own) i == d.generation)

      applied : (inode w d.ino).applied ≡ (inode v d.ino).applied
      applied = ap (λ k. (inode w k).applied) own ∙ (change.applied ∙ ap (λ k. (inode v k).applied) (sym own))

      by : (is_of_file v d ≡ true) ⊎ (is_of_file v d ≡ false) → (is_of_file w d ≡ false) ⊎ ((is_of_file v d ≡ true) × (d.order ≤ (inode w d.ino).applied))
      by (inr no_file) = inl (same ∙ no_file)
      by (inl file) =
          let slot = slot_of claims d is in
          elim (world.claims_stand.settled slot.0 d slot.1 file) [
            | inl old ↦ inr (file, subst (λ n. d.order ≤ n) (sym applied) old)
            | inr alive ↦ absurd (subst (In d) none (In-filter (λ (e : Draft). e.ino == ino) (live_claims v claims) d (In-filter (is_live v) (map (λ (c : ℕ × Draft). c.1) claims) d is alive) out))
          ]
        where
          slot_of : (cs : List (ℕ × Draft)) (e : Draft) → In e (map (λ (c : ℕ × Draft). c.1) cs) → (slot : ℕ) × In (slot, e) cs
          slot_of [] e none_in = absurd none_in
          slot_of (c ∷ cs) e (inl here) = (c.0, inl (λ i. (c.0, here i)))
          slot_of (c ∷ cs) e (inr behind) = let rest = slot_of cs e behind in (rest.0, inr rest.1)

    steps : Steps (only ino) v w claims f numbers numbers s new
    steps = record {
      leaves = leaves;
      sane = change.sane;
      names = names;
      same_number = λ i there out. refl;
      same_node = λ i there out. ap shown_node (other_node (number numbers i) (λ same. apart i out (world.valid.stands.names.one i ino there used same)));
      own = λ i there out.
          subst (λ k. NodeStands w (beside (only ino) (live_claims v claims)) f k (inode w k).kind (node_at new.nodes (number numbers k))) (sym ((Decides-eqb i ino).0 out)) own_stands;
      all = λ n there. all n there (cases_eq n (number numbers ino));
      staging = λ d is. leaves.staging d.staging (world.aged.staging d is);
      dead = dead;
    } where
      all : (n : ℕ) → node_at new.nodes n ≢ Node.Gone → (n ≡ number numbers ino) ⊎ (n ≢ number numbers ino) → (i : ℕ) × IsUsed w i × (number numbers i ≡ n)
      all n there (inl own) = (ino, same_used ino ∙ used, sym own)
      all n there (inr other) =
          let its = world.valid.stands.nodes.all n (λ gone. there (other_node n other ∙ gone)) in
          (its.0, same_used its.0 ∙ its.1, its.2)

-- ---- truncate

known_number : (o : Option Description) (n : ℕ) → option_map (λ (d : Description). d.node) o ≡ Some n → option_map_or (λ (d : Description). d.node) o 0 ≡ n
known_number None n is = cc
known_number (Some d) n is = cc

pub truncated : KeepsTruncated
unfolding truncate_done with_file waits_for
truncated v w claims jobs f numbers s count who h n ino world lets fits none waits change empty has =
    let file : file_number s.tables who h ≡ number numbers ino = known_number (opened s.tables who h) (number numbers ino) waits in
    let same : after_call s (who, Call.Truncate h n) ≡ (truncate_done s who h n).state = ap (λ o. (stepped s o (truncate_done s who h n)).state) none in
    subst (λ x. IsWorld w claims jobs f numbers x count) (sym same)
    (IsWorld-resized v w claims jobs f numbers s (truncate_done s who h n).state count ino (resized (content s who h) n) n world change empty has
    (beside_waiting s (who, Call.Truncate h n) numbers jobs ino lets waits)
    (subst (λ x. GoOn s x numbers jobs) same (GoOn-call v claims jobs f numbers s (who, Call.Truncate h n) world.valid lets fits)) refl refl
    (ap (λ k. slice_set s.nodes k (Node.File (record { bytes = resized (content s who h) n; published = n }))) file))

-- ---- an open that cuts

known_path : (b : Bool) (o : Option ℕ) (n : ℕ) → (if b then None else o) ≡ Some n → o ≡ Some n
known_path true o n is = cc
known_path false o n is = is

pub cut : KeepsCut
unfolding open_done opening waits_for
cut v w claims jobs f numbers s count who h p flags ino world lets none cuts waits change empty has =
    let there : node_at_path (space s) p ≡ Some (number numbers ino) =
    known_path (too_long (space s).longest p) (node_at_path (space s) p) (number numbers ino) (ap (λ b. if b then (if too_long (space s).longest p then None else node_at_path (space s) p) else None) (sym cuts) ∙ waits)
    in
    let exists : exists_at (space s) p ≡ true = ap is_some there in
    let num : number_at (space s) p ≡ number numbers ino = ap (λ o. unwrap_or o 0) there in
    let new : State = (open_done s who h p flags).state in
    let same : after_call s (who, Call.Open h p flags) ≡ new = ap (λ o. (stepped s o (open_done s who h p flags)).state) none in
    let opened_state : opening s p flags.truncate ≡ with_node s (number numbers ino) empty_file =
    ap (λ b. if b then (if flags.truncate then with_node s (number_at (space s) p) empty_file else s) else made s p empty_file) exists
    ∙ (ap (λ b. if b then with_node s (number_at (space s) p) empty_file else s) cuts ∙ ap (λ k. with_node s k empty_file) num)
    in
    subst (λ x. IsWorld w claims jobs f numbers x count) (sym same)
    (IsWorld-resized v w claims jobs f numbers s new count ino [] 0 world change empty has (beside_waiting s (who, Call.Open h p flags) numbers jobs ino lets waits)
    (subst (λ x. GoOn s x numbers jobs) same (GoOn-call v claims jobs f numbers s (who, Call.Open h p flags) world.valid lets tt)) (ap (λ (x : State). x.entries) opened_state) (ap (λ (x : State). x.shape) opened_state)
    (ap (λ (x : State). x.nodes) opened_state))
