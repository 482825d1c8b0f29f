-- A file is anew, with whatever was staged of it, where no job is out.
use Rattle.std.specs.Prelude.{◌≡◌, ◌≢◌, ◌⊎◌, ◌≤◌, ◌<◌, ◌+◌, ◌-◌, ◌/◌, ◌==◌, ◌&&◌, ℕ, Bool, true, false, not, List, [], ◌∷◌, length, map, filter, nat_lt, Option, Some, None, IsSome, option_map, slice_set, refl, if◌then◌else◌}
use Rattle.std.proofs.Common.{arith, ap, ◌∙◌, sym, subst, inl, inr}
use Rattle.std.proofs.lemmas.Bool.{and_parts, cases_Bool, cases_eq, eq-eqb, ne_eqb}
use Rattle.std.proofs.lemmas.Bool.Decides.{Decides-eqb}
use Rattle.std.proofs.lemmas.List.{get_or-set_other, get_or-set_same, length-set}
use Rattle.world_step_laws.specs.world_model.pm_model.Words.{Words}
use Rattle.world_step_laws.specs.world_model.extent_model.Extents.{disk_at, is_within}
use Rattle.world_step_laws.specs.world_model.layout_model.Names.{child_named}
use Rattle.world_step_laws.specs.world_model.layout_model.Places.{IsGeometry}
use Rattle.world_step_laws.specs.world_model.layout_model.declared.lines.Draft.{Draft}
use Rattle.world_step_laws.specs.world_model.layout_model.declared.lines.Kind.TheVariants.{File, Staging}
use Rattle.world_step_laws.specs.world_model.image_model.Content.{byte_in, disk_by, entry_of_block, size_by}
use Rattle.world_step_laws.specs.world_model.image_model.Live.{is_file, is_live, is_of_file, latest}
use Rattle.world_step_laws.specs.world_model.image_model.Volume.{inode, Volume}
use Rattle.world_step_laws.specs.world_model.posix_tables.declared.nodes.Node.{Node}
use Rattle.world_step_laws.specs.world_model.posix_tables.Nodes.{node_at}
use Rattle.world_step_laws.specs.world_model.posix_spec.State.{State}
use Rattle.world_step_laws.specs.world_model.list_laws.Filters.{filter-agree, filter-both, filter-In}
use Rattle.world_step_laws.specs.world_model.list_laws.Members.{In}
use Rattle.world_step_laws.specs.world_model.Jobs.{live_claims}
use Rattle.world_step_laws.specs.world_model.Stands.{Consecutive, entries_of, is_used, IsUsed, LogStands, NamesStand, NodeStands, number, Stands}
use Rattle.world_step_laws.specs.world_model.JobLaws.{live_file}
use Rattle.world_step_laws.specs.world_model.Landed.{NamesStand-same, NodeStands-same, SameFile, within_bounds}
use Rattle.world_step_laws.specs.Ages.{AreAged, AreAged-same}
use Rattle.world_step_laws.specs.Touched.{beside, beside-In, entries-beside, entries-touched, is_beside, only}
use Rattle.world_step_laws.specs.Worlds.{IsWorld}
use Rattle.world_write_laws.specs.BesideLaws.{KeepsRenewed}
use Rattle.world_write_laws.specs.PlaceSteps.{covering}
use Rattle.world_write_laws.specs.Renews.{claims_beside, Renews}
use Rattle.world_write_laws.specs.ResizeSteps.{stands_alone}
use Rattle.world_write_laws.specs.Resizes.{HasAlone}

-- ---- entries of all other files

-- a list filtered by a weaker test first
absorbed : (p q : Draft → Bool) (xs : List Draft) → ((d : Draft) → q d ≡ true → p d ≡ true) → filter q (filter p xs) ≡ filter q xs
absorbed p q xs weaker = sym (filter-both p q xs) ∙ filter-agree (λ d. p d && q d) q xs (λ d is. by (q d) (p d) (weaker d)) where
  by : (b c : Bool) → (b ≡ true → c ≡ true) → (c && b) ≡ b
  by true true w = refl
  by false true w = refl
  by false false w = refl
  by true false w = let never : false ≡ true = w refl in cc

-- two filters, in either order
swapped : (p q : Draft → Bool) (xs : List Draft) → filter q (filter p xs) ≡ filter p (filter q xs)
swapped p q xs = sym (filter-both p q xs) ∙ (filter-agree (λ d. p d && q d) (λ d. q d && p d) xs (λ d is. by (p d) (q d)) ∙ filter-both q p xs) where
  by : (a b : Bool) → (a && b) ≡ (b && a)
  by true true = refl
  by true false = refl
  by false true = refl
  by false false = refl

-- no entry of another file covers less
covers_beside : (live : List Draft) (ino i block : ℕ) → i ≢ ino → entry_of_block (beside (only ino) live) i block ≡ entry_of_block live i block
covers_beside live ino i block other =
    ap latest (absorbed (is_beside (only ino)) (λ d. (d.ino == i) && is_within d.file_block d.count block) live (λ d own.
    ap not (ne_eqb d.ino ino (λ same. other (sym ((Decides-eqb d.ino i).0 (and_parts (d.ino == i) (is_within d.file_block d.count block) own).0) ∙ same)))))

-- the claims of all other files, as entries
drafts_beside : (ino : ℕ) (claims : List (ℕ × Draft)) → map (λ (c : ℕ × Draft). c.1) (claims_beside ino claims) ≡ beside (only ino) (map (λ (c : ℕ × Draft). c.1) claims)
drafts_beside ino [] = refl
drafts_beside ino (c ∷ claims) = by (not (c.1.ino == ino)) (drafts_beside ino claims) where
  by : (b : Bool) → map (λ (x : ℕ × Draft). x.1) (claims_beside ino claims) ≡ beside (only ino) (map (λ (x : ℕ × Draft). x.1) claims)
      → map (λ (x : ℕ × Draft). x.1) (if b then (c ∷ claims_beside ino claims) else claims_beside ino claims)
      ≡ (if b then (c.1 ∷ beside (only ino) (map (λ (x : ℕ × Draft). x.1) claims)) else beside (only ino) (map (λ (x : ℕ × Draft). x.1) claims))
  by true rest = ap (λ ds. c.1 ∷ ds) rest
  by false rest = rest

-- ---- what stays of an entry of another file

of_file_renewed : (v w : Volume) (claims : List (ℕ × Draft)) (ino : ℕ) → Renews v w claims ino → (d : Draft) → is_of_file w d ≡ is_of_file v d
of_file_renewed v w claims ino renews d = λ i. is_file (renews.kinds d.ino i) && (renews.generations d.ino i == d.generation)

-- a line of a file that is another's
line_renewed : (v w : Volume) (claims : List (ℕ × Draft)) (ino : ℕ) → Renews v w claims ino → (i : ℕ) → i ≢ ino → is_file (inode v i).kind ≡ true → inode w i ≡ inode v i
line_renewed v w claims ino renews i other file =
    (renews.others i other (λ staging. (let never : true ≡ false = sym file ∙ ap is_file staging in cc))).0

live_renewed : (v w : Volume) (claims : List (ℕ × Draft)) (ino : ℕ) → Renews v w claims ino → (d : Draft) → d.ino ≢ ino → is_live w d ≡ is_live v d
live_renewed v w claims ino renews d other = by (cases_Bool (is_of_file v d)) where
  same : is_of_file w d ≡ is_of_file v d
  same = of_file_renewed v w claims ino renews d

  by : (is_of_file v d ≡ true) ⊎ (is_of_file v d ≡ false) → is_live w d ≡ is_live v d
  by (inl file) =
      let line : inode w d.ino ≡ inode v d.ino = line_renewed v w claims ino renews d.ino other (and_parts (is_file (inode v d.ino).kind) ((inode v d.ino).generation == d.generation) file).0 in
      λ i. same i && nat_lt (line i).applied d.order && (renews.generations d.staging i == d.staging_generation)
  by (inr none) =
      ap (λ b. b && nat_lt (inode w d.ino).applied d.order && ((inode w d.staging).generation == d.staging_generation)) (same ∙ none)
      ∙ sym (ap (λ b. b && nat_lt (inode v d.ino).applied d.order && ((inode v d.staging).generation == d.staging_generation)) none)

-- THE LIVE CLAIMS are those of all other files.
live_beside : (v w : Volume) (claims : List (ℕ × Draft)) (ino : ℕ) → Renews v w claims ino → live_claims w (claims_beside ino claims) ≡ beside (only ino) (live_claims v claims)
live_beside v w claims ino renews =
    ap (filter (is_live w)) (drafts_beside ino claims)
    ∙ (filter-agree (is_live w) (is_live v) (beside (only ino) (map (λ (c : ℕ × Draft). c.1) claims)) (λ d is.
    live_renewed v w claims ino renews d (apart d (filter-In (is_beside (only ino)) (map (λ (c : ℕ × Draft). c.1) claims) d is).1))
    ∙ swapped (is_beside (only ino)) (is_live v) (map (λ (c : ℕ × Draft). c.1) claims)) where
      apart : (d : Draft) → is_beside (only ino) d ≡ true → d.ino ≢ ino
      apart d out same = let never : true ≡ false = sym out ∙ ap not (eq-eqb d.ino ino same) in cc

-- ---- THE FILE IS ANEW

renewed_world : (v w : Volume) (claims : List (ℕ × Draft)) (f : Words) (numbers : List ℕ) (s new : State) (count ino : ℕ) (bytes : List ℕ) (published : ℕ) → IsWorld v claims [] f numbers s count → Renews v w claims ino → HasAlone w f ino bytes
    → new.entries ≡ s.entries → new.nodes ≡ slice_set s.nodes (number numbers ino) (Node.File (record { bytes = bytes; published = published }))
    → Stands w (beside (only ino) (live_claims v claims)) f numbers new
renewed_world v w claims f numbers s new count ino bytes published world renews has entries nodes = record {
  sane = renews.sane;
  names = names;
  nodes = record { each = λ i there. each i there (cases_eq i ino); all = λ n there. all n there (cases_eq n (number numbers ino)) };
  log = log;
} where
  live : List Draft
  live = live_claims v claims

  stands : Stands v live f numbers s
  stands = world.valid.stands

  used : IsUsed v ino
  used = ap is_used renews.file

  node : Node
  node = Node.File (record { bytes = bytes; published = published })

  same_used : (i : ℕ) → is_used (inode w i).kind ≡ is_used (inode v i).kind
  same_used i = ap is_used (renews.kinds i)

  no_staging : (i : ℕ) → IsUsed v i → (inode v i).kind ≢ Staging
  no_staging i there is = let never : true ≡ false = sym there ∙ ap is_used is in cc

  out_of : (i : ℕ) → i ≢ ino → (i == ino) ≡ false
  out_of i other = ne_eqb i ino other

  before : NamesStand v numbers new
  before = NamesStand-same v numbers s new entries (ap length nodes ∙ length-set s.nodes (number numbers ino) node) stands.names

  names : NamesStand w numbers new
  names = record {
    root = before.root;
    root_used = same_used 0 ∙ before.root_used;
    within = λ i there. before.within i (sym (same_used i) ∙ there);
    one = λ i j a b. before.one i j (sym (same_used i) ∙ a) (sym (same_used j) ∙ b);
    names = λ p name there. ap (λ rows. option_map (number numbers) (child_named rows p name)) renews.names ∙ before.names p name (sym (same_used p) ∙ there);
    entry_parents = λ n name m led. (let its = before.entry_parents n name m led in (its.0, same_used its.0 ∙ its.1, its.2));
    distinct = before.distinct;
  }

  other_node : (n : ℕ) → n ≢ number numbers ino → node_at new.nodes n ≡ node_at s.nodes n
  other_node n other = ap (λ xs. node_at xs n) nodes ∙ get_or-set_other s.nodes (number numbers ino) n node Node.Gone other

  own_node : node_at new.nodes (number numbers ino) ≡ node
  own_node = ap (λ xs. node_at xs (number numbers ino)) nodes ∙ get_or-set_same s.nodes (number numbers ino) node Node.Gone (stands.names.within ino used)

  own_stands : NodeStands w (beside (only ino) live) f ino (inode w ino).kind (node_at new.nodes (number numbers ino))
  own_stands =
      subst (λ k. NodeStands w (beside (only ino) live) f ino k (node_at new.nodes (number numbers ino))) (sym (renews.kinds ino ∙ renews.file))
      (subst (NodeStands w (beside (only ino) live) f ino File) (sym own_node) (stands_alone w (beside (only ino) live) f ino bytes (entries-touched (only ino) live ino (eq-eqb ino ino refl)) has))

  covered : (block first count : ℕ) → (first ≤ block) × (block < first + count) → block - first < count
  covered block first count is = let low = is.0 in let high = is.1 in omega (arith, low, high)

  blocks : (i block : ℕ) → IsUsed v i → i ≢ ino → (o : Option Draft) → entry_of_block live i block ≡ o → disk_by w o i block ≡ disk_by v o i block
  blocks i block there other None is = ap (λ es. disk_at es block) (renews.others i other (no_staging i there)).1
  blocks i block there other (Some d) is =
      let its = covering live i block d is in
      renews.staged d its.is (λ same. other (sym its.own ∙ same)) (block - d.file_block) (covered block d.file_block d.count (within_bounds d.file_block d.count block its.within))

  same_file : (i : ℕ) → IsUsed v i → i ≢ ino → SameFile v live f w (beside (only ino) live) f i
  same_file i there other = record {
    size = ap (λ es. size_by (latest es) (inode w i).size) (entries-beside (only ino) live i (out_of i other))
        ∙ ap (λ x. size_by (latest (entries_of i live)) x.size) (renews.others i other (no_staging i there)).0;
    bytes = λ k below.
        ap (λ b. byte_in f b k) (ap (λ o. disk_by w o i (k / 4096)) (covers_beside live ino i (k / 4096) other) ∙ blocks i (k / 4096) there other (entry_of_block live i (k / 4096)) refl);
  }

  each : (i : ℕ) → IsUsed w i → (i ≡ ino) ⊎ (i ≢ ino) → NodeStands w (beside (only ino) live) f i (inode w i).kind (node_at new.nodes (number numbers i))
  each i there (inl own) = subst (λ k. NodeStands w (beside (only ino) live) f k (inode w k).kind (node_at new.nodes (number numbers k))) (sym own) own_stands
  each i there (inr other) =
      let was : IsUsed v i = sym (same_used i) ∙ there in
      subst (λ k. NodeStands w (beside (only ino) live) f i k (node_at new.nodes (number numbers i))) (sym (renews.kinds i))
      (subst (NodeStands w (beside (only ino) live) f i (inode v i).kind) (sym (other_node (number numbers i) (λ same. other (stands.names.one i ino was used same))))
      (NodeStands-same v live f w (beside (only ino) live) f i (inode v i).kind (node_at s.nodes (number numbers i)) (same_file i was other) (stands.nodes.each i was)))

  all : (n : ℕ) → node_at new.nodes n ≢ Node.Gone → (n ≡ number numbers ino) ⊎ (n ≢ number numbers ino) → (i : ℕ) × IsUsed w i × (number numbers i ≡ n)
  all n there (inl own) = (ino, same_used ino ∙ used, sym own)
  all n there (inr other) =
      let its = stands.nodes.all n (λ gone. there (other_node n other ∙ gone)) in
      (its.0, same_used its.0 ∙ its.1, its.2)

  apart_of : (d : Draft) → In d (beside (only ino) live) → d.ino ≢ ino
  apart_of d is same = let never : true ≡ false = sym (filter-In (is_beside (only ino)) live d is).1 ∙ ap not (eq-eqb d.ino ino same) in cc

  -- only a file has live entries
  none_of : (i : ℕ) → is_file (inode v i).kind ≡ false → entries_of i live ≡ []
  none_of i none = empty (entries_of i live) (λ d is.
      let own = filter-In (λ (e : Draft). e.ino == i) live d is in
      let alive = (filter-In (is_live v) (map (λ (c : ℕ × Draft). c.1) claims) d own.0).1 in
      let never : true ≡ false = sym (ap is_file (live_file v d alive)) ∙ (ap (λ k. is_file (inode v k).kind) ((Decides-eqb d.ino i).0 own.1) ∙ none) in
      cc)
    where
      empty : (xs : List Draft) → ((d : Draft) → In d xs → ⊥) → xs ≡ []
      empty [] out = refl
      empty (x ∷ xs) out = absurd (out x (inl refl))

  orders : (i : ℕ) → (i ≡ ino) ⊎ (i ≢ ino) → (is_file (inode v i).kind ≡ true) ⊎ (is_file (inode v i).kind ≡ false) → Consecutive (inode w i).applied (entries_of i (beside (only ino) live))
  orders i (inl own) kind = subst (Consecutive (inode w i).applied) (sym (entries-touched (only ino) live i (eq-eqb i ino own))) tt
  orders i (inr other) (inr none) = subst (Consecutive (inode w i).applied) (sym (entries-beside (only ino) live i (out_of i other) ∙ none_of i none)) tt
  orders i (inr other) (inl file) =
      subst (λ x. Consecutive x.applied (entries_of i (beside (only ino) live))) (sym (line_renewed v w claims ino renews i other file))
      (subst (Consecutive (inode v i).applied) (sym (entries-beside (only ino) live i (out_of i other))) (stands.log.orders i))

  log : LogStands w (beside (only ino) live)
  log = record {
    staging = λ d is. renews.kinds d.staging ∙ stands.log.staging d (beside-In (only ino) live d is);
    staged = λ d is k below.
        subst IsSome (sym (renews.staged d (beside-In (only ino) live d is) (apart_of d is) k below)) (stands.log.staged d (beside-In (only ino) live d is) k below);
    apart = λ d e d_is e_is. stands.log.apart d e (beside-In (only ino) live d d_is) (beside-In (only ino) live e e_is);
    orders = λ i. orders i (cases_eq i ino) (cases_Bool (is_file (inode v i).kind));
  }

-- a claim of another file is a claim
claim_of : (claims : List (ℕ × Draft)) (ino slot : ℕ) (d : Draft) → In (slot, d) (claims_beside ino claims) → In (slot, d) claims × (d.ino ≢ ino)
claim_of claims ino slot d is =
    let its = filter-In (λ (c : ℕ × Draft). not (c.1.ino == ino)) claims (slot, d) is in
    (its.0, λ same. (let never : true ≡ false = sym its.1 ∙ ap not (eq-eqb d.ino ino same) in cc))

draft_of_claim : (claims : List (ℕ × Draft)) (ino : ℕ) (d : Draft) → In d (map (λ (c : ℕ × Draft). c.1) (claims_beside ino claims)) → In d (map (λ (c : ℕ × Draft). c.1) claims)
draft_of_claim claims ino d is =
    (filter-In (is_beside (only ino)) (map (λ (c : ℕ × Draft). c.1) claims) d (subst (In d) (drafts_beside ino claims) is)).0

pub renewed : KeepsRenewed
renewed v w claims f numbers s new count ino bytes published world renews has fits entries shape nodes = record {
  valid = record {
    stands = subst (λ ds. Stands w ds f numbers new) (sym (live_beside v w claims ino renews)) (renewed_world v w claims f numbers s new count ino bytes published world renews has entries nodes);
    out = tt;
    fits = fits;
    room = omega arith;
  };
  claims_stand = record {
    orders = λ a b d e first second other d_file e_file same.
        world.claims_stand.orders a b d e (claim_of claims ino a d first).0 (claim_of claims ino b e second).0 other (sym (of_file_renewed v w claims ino renews d) ∙ d_file) (sym (of_file_renewed v w claims ino renews e) ∙ e_file) same;
    settled = λ slot d is file. settled slot d (claim_of claims ino slot d is) (sym (of_file_renewed v w claims ino renews d) ∙ file);
  };
  aged = record {
    small = all_aged.small;
    staging = λ d is. all_aged.staging d (draft_of_claim claims ino d is);
    own = λ d is. all_aged.own d (draft_of_claim claims ino d is);
    taken = λ d is. all_aged.taken d (draft_of_claim claims ino d is);
  };
  shape = record {
    root = subst (λ x. 1 ≤ x.nodes) (sym shape) world.shape.root;
    nodes = ap (λ x. x.nodes + 4) shape ∙ (world.shape.nodes ∙ sym (renews.sane.inode_count ∙ (ap (λ g. g.inodes) renews.geometry ∙ sym world.valid.stands.sane.inode_count)));
    names = ap (λ x. x.names) shape ∙ (world.shape.names ∙ sym (ap length renews.names));
  };
  geometry = subst IsGeometry (sym renews.geometry) world.geometry;
} where
  all_aged : AreAged w claims count
  all_aged = AreAged-same v w claims count renews.generations (λ i is. renews.kinds i ∙ is) world.aged

  settled : (slot : ℕ) (d : Draft) → In (slot, d) claims × (d.ino ≢ ino) → is_of_file v d ≡ true → (d.order ≤ (inode w d.ino).applied) ⊎ (is_live w d ≡ true)
  settled slot d is file = elim (world.claims_stand.settled slot d is.0 file) [
    | inl old ↦ inl (subst (λ x. d.order ≤ x.applied) (sym (line_renewed v w claims ino renews d.ino is.1 (and_parts (is_file (inode v d.ino).kind) ((inode v d.ino).generation == d.generation) file).0)) old)
    | inr alive ↦ inr (live_renewed v w claims ino renews d is.1 ∙ alive)
  ]
