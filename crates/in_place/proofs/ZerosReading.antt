-- Of a staged block behind the end of a file the World reads nothing from there on.
use Rattle.std.specs.Prelude.{◌≡◌, ◌≢◌, ◌⊎◌, ◌≤◌, ◌<◌, ℕ, ◌+◌, ◌*◌, ◌-◌, ◌/◌, ◌%◌, ◌==◌, ◌&&◌, true, false, List, [], ◌∷◌, length, Option, Some, None, refl}
use Rattle.std.proofs.Common.{arith, ap, ◌∙◌, sym, subst, inl, inr}
use Rattle.std.proofs.lemmas.Bool.{and_parts}
use Rattle.std.proofs.lemmas.Bool.Decides.{Decides-eqb, nat_tests}
use Rattle.live_step_laws.specs.fsync_relink.pm_model.Words.{byte_of, Words}
use Rattle.live_step_laws.specs.fsync_relink.extent_model.Extents.{disk_at, is_within}
use Rattle.live_step_laws.specs.fsync_relink.layout_model.declared.lines.Draft.{Draft}
use Rattle.live_step_laws.specs.image_model.Content.{byte_in, disk_by, disk_of, entry_of_block, size_of}
use Rattle.live_step_laws.specs.image_model.Volume.{extents, inode, Volume}
use Rattle.live_step_laws.specs.fsync_relink.posix_tables.Nodes.{node_at}
use Rattle.live_step_laws.specs.posix_spec.State.{State}
use Rattle.live_step_laws.specs.fsync_relink.list_laws.Filters.{filter-In}
use Rattle.live_step_laws.specs.fsync_relink.list_laws.Members.{In}
use Rattle.live_step_laws.specs.world_model.Jobs.{Job, JobsStand, live_claims}
use Rattle.live_step_laws.specs.world_model.Stands.{is_used, IsUsed, LogStands, number, Stands}
use Rattle.live_step_laws.specs.world_model.JobLaws.{live_used}
use Rattle.live_step_laws.specs.world_model.Landed.{NodeStands-same, SameFile}
use Rattle.live_step_laws.specs.world_model.Latest.{latest-In}
use Rattle.live_step_laws.specs.world_model.TreeRules.{used_below}
use Rattle.live_step_laws.specs.world_write_laws.PlaceSteps.{staging_below}
use Rattle.live_step_laws.specs.world_step_laws.Worlds.{IsWorld}

-- the bytes of the blocks that maps have, but those of one block from a place on
pub record SameBut (v : Volume) (x place off : ℕ) (f g : Words) : Type 0 where
  pub each : (n m b i : ℕ) → n < length v.inodes → disk_at (extents v n) m ≡ Some b → i < 4096 → (n ≡ x → m ≡ place → i < off) → byte_of g (4096 * b + i) ≡ byte_of f (4096 * b + i)

-- what has a block has it between its ends
pub within_parts : (first count i : ℕ) → is_within first count i ≡ true → (first ≤ i) × (i < first + count)
within_parts first count i is = (grind (arith, nat_tests, is), grind (arith, nat_tests, is))

-- two entries of one staging file that share a block are not apart
share_none : (a m b n i : ℕ) → a ≤ i → i < a + m → b ≤ i → i < b + n → (a + m ≤ b) ⊎ (b + n ≤ a) → ⊥
share_none a m b n i low high other_low other_high (inl before) = omega (arith, high, other_low, before)
share_none a m b n i low high other_low other_high (inr behind) = omega (arith, low, other_high, behind)

-- the place of the block in the staging file
abbrev pub place_of : Draft → ℕ → ℕ
place_of e block = e.staging_block + (block - e.file_block)

module _ (v : Volume) (live : List Draft) (f g : Words) (log : LogStands v live) (e : Draft) (e_in : In e live) (from : ℕ) (covers : is_within e.file_block e.count (from / 4096) ≡ true) (ends : size_of v live e.ino ≤ from)
    (same : SameBut v e.staging (place_of e (from / 4096)) (from % 4096) f g) where
  -- an inode in use is no staging file
  not_staging : (y : ℕ) → IsUsed v y → y ≡ e.staging → ⊥
  not_staging y used own = let never : false ≡ true = ap is_used (sym (log.staging e e_in)) ∙ (ap (λ m. is_used (inode v m).kind) (sym own) ∙ used) in cc

  -- an entry with this place in the staging file is this one
  is_it : (d : Draft) (block : ℕ) → In d live → is_within d.file_block d.count block ≡ true → d.staging ≡ e.staging → place_of d block ≡ place_of e (from / 4096) → d ≡ e
  is_it d block d_in d_covers own at = elim (log.apart d e d_in e_in) [
    | inl one ↦ one
    | inr apart ↦ (
        let of_d = within_parts d.file_block d.count block d_covers in
        let of_e = within_parts e.file_block e.count (from / 4096) covers in
        absurd (share_none d.staging_block d.count e.staging_block e.count (place_of e (from / 4096)) (omega (arith, at)) (omega (arith, at, of_d)) (omega arith) (omega (arith, of_e)) (apart own)))
  ]

  keeps : (y block i : ℕ) → IsUsed v y → i / 4096 ≡ block → (y ≡ e.ino → i < from) → byte_in g (disk_of v live y block) i ≡ byte_in f (disk_of v live y block) i
  keeps y block i used place early = by (entry_of_block live y block) refl where
    at : (n m : ℕ) (o : Option ℕ) → n < length v.inodes → (n ≡ e.staging → m ≡ place_of e (from / 4096) → i % 4096 < from % 4096) → disk_at (extents v n) m ≡ o → byte_in g o i ≡ byte_in f o i
    at n m None below first is = refl
    at n m (Some b) below first is = same.each n m b (i % 4096) below is (omega arith) first

    low : (d : Draft) → In d live → d.ino ≡ y → is_within d.file_block d.count block ≡ true → d.staging ≡ e.staging → place_of d block ≡ place_of e (from / 4096) → i % 4096 < from % 4096
    low d d_in d_ino d_covers own is =
        let one = is_it d block d_in d_covers own is in
        let first : i < from = early (sym d_ino ∙ ap (λ (z : Draft). z.ino) one) in
        let same_file : d.file_block ≡ e.file_block = ap (λ (z : Draft). z.file_block) one in
        let same_block : d.staging_block ≡ e.staging_block = ap (λ (z : Draft). z.staging_block) one in
        let of_d = within_parts d.file_block d.count block d_covers in
        let of_e = within_parts e.file_block e.count (from / 4096) covers in
        let one_block : block ≡ from / 4096 = omega (arith, is, same_file, same_block, of_d.0, of_e.0) in
        omega (arith, first, one_block, place)

    by : (o : Option Draft) → entry_of_block live y block ≡ o → byte_in g (disk_by v o y block) i ≡ byte_in f (disk_by v o y block) i
    by None entry = at y block (disk_at (extents v y) block) (used_below v y used) (λ own. absurd (not_staging y used own)) refl
    by (Some d) entry =
        let chosen = filter-In (λ (z : Draft). (z.ino == y) && is_within z.file_block z.count block) live d (latest-In _ d entry) in
        let tests = and_parts (d.ino == y) (is_within d.file_block d.count block) chosen.1 in
        at d.staging (place_of d block) (disk_at (extents v d.staging) (place_of d block)) (staging_below v d.staging (log.staging d chosen.0))
        (low d chosen.0 ((Decides-eqb d.ino y).0 tests.0) tests.1) refl

  stands_same : (numbers : List ℕ) (s : State) → Stands v live f numbers s → Stands v live g numbers s
  stands_same numbers s stands = record {
    sane = stands.sane;
    names = stands.names;
    nodes = record {
      each = λ x used. NodeStands-same v live f v live g x (inode v x).kind (node_at s.nodes (number numbers x)) (file_same x used) (stands.nodes.each x used);
      all = stands.nodes.all;
    };
    log = stands.log;
  } where
    early : (x i : ℕ) → i < size_of v live x → x ≡ e.ino → i < from
    early x i below own = let low : i < size_of v live e.ino = subst (λ m. i < size_of v live m) own below in omega (arith, low, ends)

    file_same : (x : ℕ) → IsUsed v x → SameFile v live f v live g x
    file_same x used = record { size = refl; bytes = λ i below. keeps x (i / 4096) i used refl (early x i below) }

  jobs_same : (numbers : List ℕ) (s : State) (jobs : List Job) → ((j : Job) → In j jobs → j.draft.ino ≢ e.ino) → JobsStand v live f numbers s jobs → JobsStand v live g numbers s jobs
  jobs_same numbers s [] others out = tt
  jobs_same numbers s (j ∷ jobs) others out = (
    record {
      draft = out.0.draft;
      fields = out.0.fields;
      alive = out.0.alive;
      order = out.0.order;
      size = out.0.size;
      rest = λ i below beside. keeps j.draft.ino (i / 4096) i (live_used v j.draft out.0.alive) refl (λ own. absurd (others j (inl refl) own)) ∙ out.0.rest i below beside;
      within = out.0.within;
      parts = out.0.parts;
      placed = out.0.placed;
      staging = out.0.staging;
      staged = out.0.staged;
      apart = out.0.apart;
      puts = out.0.puts;
      part = out.0.part;
    },
    out.1,
    jobs_same numbers s jobs (λ i is. others i (inr is)) out.2,
  )

pub world_but : (v : Volume) (claims : List (ℕ × Draft)) (jobs : List Job) (f g : Words) (numbers : List ℕ) (s : State) (count : ℕ) (e : Draft) (from : ℕ) → In e (live_claims v claims)
    → is_within e.file_block e.count (from / 4096) ≡ true → size_of v (live_claims v claims) e.ino ≤ from → ((j : Job) → In j jobs → j.draft.ino ≢ e.ino)
    → SameBut v e.staging (place_of e (from / 4096)) (from % 4096) f g → IsWorld v claims jobs f numbers s count → IsWorld v claims jobs g numbers s count
world_but v claims jobs f g numbers s count e from e_in covers ends others same world = record {
  valid = record {
    stands = stands_same v (live_claims v claims) f g world.valid.stands.log e e_in from covers ends same numbers s world.valid.stands;
    out = jobs_same v (live_claims v claims) f g world.valid.stands.log e e_in from covers ends same numbers s jobs others world.valid.out;
    fits = world.valid.fits;
    room = world.valid.room;
  };
  claims_stand = world.claims_stand;
  aged = world.aged;
  shape = world.shape;
  geometry = world.geometry;
}
