-- Holes of a file get blocks of zeros: the World stays as it is.
use Rattle.std.specs.Prelude.{zero, suc, ◌≡◌, ◌≢◌, ◌⊎◌, ◌<◌, ◌≤◌, ◌+◌, ◌-◌, ◌*◌, ◌/◌, ◌%◌, ◌^◌, ◌==◌, ◌&&◌, nat_lt, ℕ, true, false, List, [], ◌∷◌, length, map, Option, Some, None, IsSome, option_map, slice_get, slice_index, refl}
use Rattle.std.proofs.Common.{arith, ap, ◌∙◌, sym, subst, inl, inr}
use Rattle.std.proofs.lemmas.Bool.{cases_eq}
use Rattle.std.proofs.lemmas.Bool.Decides.{Decides-eqb}
use Rattle.world_step_laws.specs.k_split_model.Zeros.{AreZeros}
use Rattle.world_step_laws.specs.world_model.pm_model.Words.{Words}
use Rattle.world_step_laws.specs.world_model.layout_model.Places.{IsGeometry}
use Rattle.world_step_laws.specs.world_model.extent_model.Extents.{disk_at}
use Rattle.world_step_laws.specs.world_model.layout_model.declared.lines.Draft.{Draft}
use Rattle.world_step_laws.specs.world_model.layout_model.declared.lines.Kind.TheVariants.{File, Staging}
use Rattle.world_step_laws.specs.world_model.layout_model.Names.{child_named}
use Rattle.world_step_laws.specs.world_model.image_model.Content.{byte_in, disk_by, disk_of, entry_of_block, size_by}
use Rattle.world_step_laws.specs.world_model.image_model.Live.{is_file, is_live, is_of_file, latest}
use Rattle.world_step_laws.specs.world_model.image_model.Volume.{extents, inode, Volume}
use Rattle.world_step_laws.specs.world_model.posix_tables.Nodes.{node_at}
use Rattle.world_step_laws.specs.world_model.list_laws.Filters.{filter-agree}
use Rattle.world_step_laws.specs.world_model.list_laws.Members.{In, slice_get-In}
use Rattle.world_step_laws.specs.world_model.Jobs.{Job, JobsStand, live_claims}
use Rattle.world_step_laws.specs.world_model.Stands.{Consecutive, entries_of, is_used, NodeStands, number, Stands}
use Rattle.world_step_laws.specs.world_model.Landed.{NodeStands-same}
use Rattle.world_step_laws.specs.Ages.{AreAged-same}
use Rattle.world_step_laws.specs.Steps.{AreBeside}
use Rattle.world_step_laws.specs.Touched.{only}
use Rattle.world_write_laws.specs.PlaceSteps.{covering}
use Rattle.world_write_laws.specs.HolesLaws.{FillsHoles, KeepsHolesFilled, KeepsLine}

-- ---- blocks of zeros

zero_byte : (f : Words) (b i : ℕ) → f ((4096 * b + i % 4096) / 8) ≡ 0 → byte_in f (Some b) i ≡ 0
zero_byte f b i is = ap (λ x. x / 256 ^ ((4096 * b + i % 4096) % 8) % 256) is ∙ none ((4096 * b + i % 4096) % 8) where
  none : (j : ℕ) → 0 / 256 ^ j % 256 ≡ 0
  none j = grind arith

-- a block among them reads zero
zero_block : (fresh : List ℕ) (f : Words) (b i : ℕ) → AreZeros fresh f → In b fresh → byte_in f (Some b) i ≡ 0
zero_block fresh f b i zeros is = zero_byte f b i (zeros at.0 ((4096 * b + i % 4096) / 8) (below fresh at.0 at.1) (line ∙ sym (here fresh at.0 at.1))) where
  at : (n : ℕ) × (slice_get fresh n ≡ Some b)
  at = slice_get-In fresh b is

  below : (xs : List ℕ) (n : ℕ) → slice_get xs n ≡ Some b → n < length xs
  below [] n there = cc
  below (x ∷ xs) zero there = omega arith
  below (x ∷ xs) (suc n) there = omega (arith, below xs n there)

  here : (xs : List ℕ) (n : ℕ) → slice_get xs n ≡ Some b → slice_index xs n ≡ b
  here [] n there = cc
  here (x ∷ xs) zero there = cc
  here (x ∷ xs) (suc n) there = here xs n there

  line : (4096 * b + i % 4096) / 8 / 512 ≡ b
  line = omega arith

-- ---- lines and maps

pub filled_line : (v w : Volume) (ino : ℕ) (fresh : List ℕ) → FillsHoles v w ino fresh → (i : ℕ) → KeepsLine (inode v i) (inode w i)
filled_line v w ino fresh change i = by (cases_eq i ino) where
  by : (i ≡ ino) ⊎ (i ≢ ino) → KeepsLine (inode v i) (inode w i)
  by (inl same) = subst (λ k. KeepsLine (inode v k) (inode w k)) (sym same) change.own
  by (inr other) = let is = change.lines i other in record { kind = ap (λ y. y.kind) is; generation = ap (λ y. y.generation) is; size = ap (λ y. y.size) is; applied = ap (λ y. y.applied) is }

pub filled_live : (v w : Volume) (ino : ℕ) (fresh : List ℕ) → FillsHoles v w ino fresh → (claims : List (ℕ × Draft)) → live_claims w claims ≡ live_claims v claims
filled_live v w ino fresh change claims = filter-agree (is_live w) (is_live v) (map (λ (c : ℕ × Draft). c.1) claims) (λ d is. same d) where
  line : (i : ℕ) → KeepsLine (inode v i) (inode w i)
  line = filled_line v w ino fresh change

  same : (d : Draft) → is_live w d ≡ is_live v d
  same d = λ i. is_file ((line d.ino).kind i) && ((line d.ino).generation i == d.generation) && nat_lt ((line d.ino).applied i) d.order && ((line d.staging).generation i == d.staging_generation)

-- a staging file is another one
pub filled_staging : (v w : Volume) (ino : ℕ) (fresh : List ℕ) → FillsHoles v w ino fresh → (i : ℕ) → (inode v i).kind ≡ Staging → extents w i ≡ extents v i
filled_staging v w ino fresh change i is = change.maps i (λ same. (let never : Staging ≡ File = sym is ∙ (ap (λ k. (inode v k).kind) same ∙ change.file) in cc))

-- ---- the World

pub filled_holes : KeepsHolesFilled
filled_holes v w claims jobs f numbers s count ino fresh world change zeros beside = record {
  valid = record {
    stands = subst (λ l. Stands w l f numbers s) (sym same_live) after;
    out = subst (λ l. JobsStand w l f numbers s jobs) (sym same_live) (jobs_same jobs beside world.valid.out);
    fits = world.valid.fits;
    room = world.valid.room;
  };
  claims_stand = record {
    orders = λ m n a b is there other a_file b_file same. world.claims_stand.orders m n a b is there other (sym (of_file a) ∙ a_file) (sym (of_file b) ∙ b_file) same;
    settled = λ slot d is file. elim (world.claims_stand.settled slot d is (sym (of_file d) ∙ file)) [
      | inl old ↦ inl (subst (λ n. d.order ≤ n) (sym (line d.ino).applied) old)
      | inr alive ↦ inr (live_same d ∙ alive)
    ];
  };
  aged = AreAged-same v w claims count (λ i. (line i).generation) (λ i is. (line i).kind ∙ is) world.aged;
  shape = record {
    root = world.shape.root;
    nodes = world.shape.nodes ∙ sym (change.sane.inode_count ∙ (ap (λ g. g.inodes) change.geometry ∙ sym stands.sane.inode_count));
    names = world.shape.names ∙ ap length (sym change.names);
  };
  geometry = subst IsGeometry (sym change.geometry) world.geometry;
} where
  live : List Draft
  live = live_claims v claims

  stands : Stands v live f numbers s
  stands = world.valid.stands

  line : (i : ℕ) → KeepsLine (inode v i) (inode w i)
  line = filled_line v w ino fresh change

  same_used : (i : ℕ) → is_used (inode w i).kind ≡ is_used (inode v i).kind
  same_used i = ap is_used (line i).kind

  of_file : (d : Draft) → is_of_file w d ≡ is_of_file v d
  of_file d = λ i. is_file ((line d.ino).kind i) && ((line d.ino).generation i == d.generation)

  live_same : (d : Draft) → is_live w d ≡ is_live v d
  live_same d = λ i. of_file d i && nat_lt ((line d.ino).applied i) d.order && ((line d.staging).generation i == d.staging_generation)

  same_live : live_claims w claims ≡ live
  same_live = filled_live v w ino fresh change claims

  staging_map : (i : ℕ) → (inode v i).kind ≡ Staging → extents w i ≡ extents v i
  staging_map = filled_staging v w ino fresh change

  disk_same : (i block : ℕ) → i ≢ ino → disk_of w live i block ≡ disk_of v live i block
  disk_same i block other = by (entry_of_block live i block) refl where
    by : (o : Option Draft) → entry_of_block live i block ≡ o → disk_by w o i block ≡ disk_by v o i block
    by None entry = ap (λ es. disk_at es block) (change.maps i other)
    by (Some e) entry = ap (λ es. disk_at es (e.staging_block + (block - e.file_block))) (staging_map e.staging (stands.log.staging e (covering live i block e entry).is))

  -- in the file a hole reads zero as before
  bytes_same : (i block k : ℕ) → byte_in f (disk_of w live i block) k ≡ byte_in f (disk_of v live i block) k
  bytes_same i block k = by (cases_eq i ino) where
    filled : (o p : Option ℕ) → ((b : ℕ) → o ≡ Some b → p ≡ Some b) → ((b : ℕ) → o ≡ None → p ≡ Some b → In b fresh) → byte_in f p k ≡ byte_in f o k
    filled (Some b) p kept others = ap (λ q. byte_in f q k) (kept b refl)
    filled None None kept others = refl
    filled None (Some b) kept others = zero_block fresh f b k zeros (others b refl refl)

    own : (o : Option Draft) → entry_of_block live ino block ≡ o → byte_in f (disk_by w o ino block) k ≡ byte_in f (disk_by v o ino block) k
    own None entry = filled (disk_at (extents v ino) block) (disk_at (extents w ino) block) (change.kept block) (change.others block)
    own (Some e) entry = ap (λ es. byte_in f (disk_at es (e.staging_block + (block - e.file_block))) k) (staging_map e.staging (stands.log.staging e (covering live ino block e entry).is))

    by : (i ≡ ino) ⊎ (i ≢ ino) → byte_in f (disk_of w live i block) k ≡ byte_in f (disk_of v live i block) k
    by (inl same) = subst (λ n. byte_in f (disk_of w live n block) k ≡ byte_in f (disk_of v live n block) k) (sym same) (own (entry_of_block live ino block) refl)
    by (inr other) = ap (λ q. byte_in f q k) (disk_same i block other)

  jobs_same : (js : List Job) → AreBeside (only ino) js → JobsStand v live f numbers s js → JobsStand w live f numbers s js
  jobs_same [] off out = tt
  jobs_same (j ∷ js) off out =
      let job = out.0 in
      let other : j.draft.ino ≢ ino = λ same. (let never : true ≡ false = sym ((Decides-eqb j.draft.ino ino).1 same) ∙ off.0 in cc) in
      let there = staging_map j.draft.staging job.staging in (
        record {
          draft = job.draft;
          fields = job.fields;
          alive = live_same j.draft ∙ job.alive;
          order = job.order ∙ (λ i. sym (line j.draft.ino).applied i + length (entries_of j.draft.ino live) + 1);
          size = job.size;
          rest = λ i below past. bytes_same j.draft.ino (i / 4096) i ∙ job.rest i below past;
          within = job.within;
          parts = job.parts;
          placed = λ i front. subst IsSome (sym (disk_same j.draft.ino (i / 4096) other)) (job.placed i front);
          staging = (line j.draft.staging).kind ∙ job.staging;
          staged = λ k below. subst (λ es. IsSome (disk_at es (j.draft.staging_block + k))) (sym there) (job.staged k below);
          apart = job.apart;
          puts = job.puts;
          part = job.part;
        },
        out.1,
        jobs_same js off.1 out.2,
      )

  after : Stands w live f numbers s
  after = record {
    sane = change.sane;
    names = record {
      root = stands.names.root;
      root_used = same_used 0 ∙ stands.names.root_used;
      within = λ i used. stands.names.within i (sym (same_used i) ∙ used);
      one = λ i j a b. stands.names.one i j (sym (same_used i) ∙ a) (sym (same_used j) ∙ b);
      names = λ p name used. ap (λ rows. option_map (number numbers) (child_named rows p name)) change.names ∙ stands.names.names p name (sym (same_used p) ∙ used);
      entry_parents = λ n name m led. (let its = stands.names.entry_parents n name m led in (its.0, same_used its.0 ∙ its.1, its.2));
      distinct = stands.names.distinct;
    };
    nodes = record {
      each = λ i used.
          subst (λ k. NodeStands w live f i k (node_at s.nodes (number numbers i))) (sym (line i).kind)
          (NodeStands-same v live f w live f i (inode v i).kind (node_at s.nodes (number numbers i))
          (record { size = ap (λ n. size_by (latest (entries_of i live)) n) (line i).size; bytes = λ k below. bytes_same i (k / 4096) k })
          (stands.nodes.each i (sym (same_used i) ∙ used)));
      all = λ n is. (let its = stands.nodes.all n is in (its.0, same_used its.0 ∙ its.1, its.2));
    };
    log = record {
      staging = λ d is. (line d.staging).kind ∙ stands.log.staging d is;
      staged = λ d is k below. subst (λ es. IsSome (disk_at es (d.staging_block + k))) (sym (staging_map d.staging (stands.log.staging d is))) (stands.log.staged d is k below);
      apart = stands.log.apart;
      orders = λ i. subst (λ n. Consecutive n (entries_of i live)) (sym (line i).applied) (stands.log.orders i);
    };
  }
