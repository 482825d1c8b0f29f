-- A change of a volume leaves all inodes but those that it touches: the files of the others have the bytes that they had.
use Rattle.std.specs.Prelude.{◌≡◌, ◌⊎◌, ◌<◌, ◌/◌, ◌+◌, ◌-◌, ℕ, Bool, true, false, not, ◌&&◌, ◌==◌, List, [], ◌∷◌, filter, Option, Some, None, IsSome, refl}
use Rattle.std.proofs.Common.{ap, ◌∙◌, sym, subst, inl, inr}
use Rattle.std.proofs.lemmas.Bool.{and_parts, cases_Bool}
use Rattle.std.proofs.lemmas.Bool.Decides.{Decides-eqb}
use Rattle.volume_change_laws.specs.pm_model.Words.{Words}
use Rattle.volume_change_laws.specs.extent_model.Extents.{disk_at, is_within}
use Rattle.volume_change_laws.specs.layout_model.declared.lines.Draft.{Draft}
use Rattle.volume_change_laws.specs.layout_model.declared.lines.Kind.TheVariants.{Staging}
use Rattle.volume_change_laws.specs.image_model.Content.{byte_in, disk_by, disk_of, entry_of_block, size_by, size_of}
use Rattle.volume_change_laws.specs.image_model.Live.{latest}
use Rattle.volume_change_laws.specs.image_model.Rules.{HasStagingBlocks}
use Rattle.volume_change_laws.specs.image_model.Volume.{extents, inode, Volume}
use Rattle.commute_laws.specs.list_laws.Filters.{filter-agree, filter-both, filter-In}
use Rattle.commute_laws.specs.list_laws.Members.{In}
use Rattle.world_model.specs.Stands.{Consecutive, entries_of, LogStands}
use Rattle.world_model.specs.Jobs.{staged_block}
use Rattle.world_model.specs.Landed.{SameFile}
use Rattle.world_model.specs.Latest.{latest-In}

-- All inodes but those that the test touches are as before, with their maps; no staging file is touched.
pub record Leaves (touched : ℕ → Bool) (v w : Volume) : Type 0 where
  pub inodes : (ino : ℕ) → touched ino ≡ false → inode w ino ≡ inode v ino
  pub maps : (ino : ℕ) → touched ino ≡ false → extents w ino ≡ extents v ino
  pub staging : (ino : ℕ) → (inode v ino).kind ≡ Staging → touched ino ≡ false

-- nothing is touched, or one inode
abbrev pub untouched : ℕ → Bool
untouched ino = false

abbrev pub only : ℕ → ℕ → Bool
only c ino = ino == c

-- the entries of inodes that are not touched
abbrev pub is_beside : (ℕ → Bool) → Draft → Bool
is_beside touched d = not (touched d.ino)

abbrev pub beside : (ℕ → Bool) → List Draft → List Draft
beside touched live = filter (is_beside touched) live

-- A list filtered by a weaker test first.
absorbed : (p q : Draft → Bool) (xs : List Draft) → ((d : Draft) → q d ≡ true → p d ≡ true) → filter q (filter p xs) ≡ filter q xs
absorbed p q xs weaker = sym (filter-both p q xs) ∙ filter-agree (λ d. p d && q d) q xs (λ d is. by (q d) (p d) (weaker d)) where
  by : (b c : Bool) → (b ≡ true → c ≡ true) → (c && b) ≡ b
  by true true w = refl
  by false true w = refl
  by false false w = refl
  by true false w = let never : false ≡ true = w refl in cc

beside_own : (touched : ℕ → Bool) (ino : ℕ) (d : Draft) → touched ino ≡ false → d.ino ≡ ino → is_beside touched d ≡ true
beside_own touched ino d out same = ap not (ap touched same ∙ out)

pub entries-beside : (touched : ℕ → Bool) (live : List Draft) (ino : ℕ) → touched ino ≡ false → entries_of ino (beside touched live) ≡ entries_of ino live
entries-beside touched live ino out = absorbed (is_beside touched) (λ d. d.ino == ino) live (λ d own. beside_own touched ino d out ((Decides-eqb d.ino ino).0 own))

covers-beside : (touched : ℕ → Bool) (live : List Draft) (ino block : ℕ) → touched ino ≡ false → entry_of_block (beside touched live) ino block ≡ entry_of_block live ino block
covers-beside touched live ino block out =
    ap latest (absorbed (is_beside touched) (λ d. (d.ino == ino) && is_within d.file_block d.count block) live (λ d own.
    beside_own touched ino d out ((Decides-eqb d.ino ino).0 (and_parts (d.ino == ino) (is_within d.file_block d.count block) own).0)))

-- a touched inode has none of them
pub entries-touched : (touched : ℕ → Bool) (live : List Draft) (ino : ℕ) → touched ino ≡ true → entries_of ino (beside touched live) ≡ []
entries-touched touched live ino out = none (entries_of ino (beside touched live)) (λ d is.
    let own = filter-In (λ (e : Draft). e.ino == ino) (beside touched live) d is in
    let not_it = (filter-In (is_beside touched) live d own.0).1 in
    let never : true ≡ false = sym not_it ∙ ap not (ap touched ((Decides-eqb d.ino ino).0 own.1) ∙ out) in
    cc)
  where
    none : (xs : List Draft) → ((d : Draft) → In d xs → ⊥) → xs ≡ []
    none [] out = refl
    none (x ∷ xs) out = absurd (out x (inl refl))

pub beside-In : (touched : ℕ → Bool) (live : List Draft) (d : Draft) → In d (beside touched live) → In d live
beside-In touched live d is = (filter-In (is_beside touched) live d is).0

pub beside-none : (live : List Draft) → beside untouched live ≡ live
beside-none [] = refl
beside-none (d ∷ ds) = ap (λ xs. d ∷ xs) (beside-none ds)

-- Staged blocks stay where they are.
pub staged_block-left : (touched : ℕ → Bool) (v w : Volume) (d : Draft) (k : ℕ) → Leaves touched v w → (inode v d.staging).kind ≡ Staging → staged_block w d k ≡ staged_block v d k
staged_block-left touched v w d k leaves staging = ap (λ es. disk_at es (d.staging_block + k)) (leaves.maps d.staging (leaves.staging d.staging staging))

pub staged-left : (touched : ℕ → Bool) (v w : Volume) (d : Draft) → Leaves touched v w → (inode v d.staging).kind ≡ Staging → HasStagingBlocks v d → HasStagingBlocks w d
staged-left touched v w d leaves staging has =
    subst (λ es. (k : ℕ) → k < d.count → IsSome (disk_at es (d.staging_block + k))) (sym (leaves.maps d.staging (leaves.staging d.staging staging))) has

pub staging-left : (touched : ℕ → Bool) (v w : Volume) (d : Draft) → Leaves touched v w → (inode v d.staging).kind ≡ Staging → (inode w d.staging).kind ≡ Staging
staging-left touched v w d leaves staging = ap (λ x. x.kind) (leaves.inodes d.staging (leaves.staging d.staging staging)) ∙ staging

-- FILES OF OTHER INODES have their blocks, sizes and bytes.
pub disk_of-left : (touched : ℕ → Bool) (v w : Volume) (live : List Draft) (ino block : ℕ) → Leaves touched v w → LogStands v live → touched ino ≡ false → disk_of w (beside touched live) ino block ≡ disk_of v live ino block
disk_of-left touched v w live ino block leaves log out =
    ap (λ o. disk_by w o ino block) (covers-beside touched live ino block out) ∙ by (entry_of_block live ino block) refl where
      by : (o : Option Draft) → entry_of_block live ino block ≡ o → disk_by w o ino block ≡ disk_by v o ino block
      by None entry = ap (λ es. disk_at es block) (leaves.maps ino out)
      by (Some d) entry =
          let own = filter-In (λ (e : Draft). (e.ino == ino) && is_within e.file_block e.count block) live d (latest-In _ d entry) in
          ap (λ es. disk_at es (d.staging_block + (block - d.file_block))) (leaves.maps d.staging (leaves.staging d.staging (log.staging d own.0)))

pub size_of-left : (touched : ℕ → Bool) (v w : Volume) (live : List Draft) (ino : ℕ) → Leaves touched v w → touched ino ≡ false → size_of w (beside touched live) ino ≡ size_of v live ino
size_of-left touched v w live ino leaves out =
    ap (λ es. size_by (latest es) (inode w ino).size) (entries-beside touched live ino out) ∙ ap (λ x. size_by (latest (entries_of ino live)) x.size) (leaves.inodes ino out)

pub SameFile-left : (touched : ℕ → Bool) (v w : Volume) (live : List Draft) (f : Words) (ino : ℕ) → Leaves touched v w → LogStands v live → touched ino ≡ false → SameFile v live f w (beside touched live) f ino
SameFile-left touched v w live f ino leaves log out = record {
  size = size_of-left touched v w live ino leaves out;
  bytes = λ i below. ap (λ b. byte_in f b i) (disk_of-left touched v w live ino (i / 4096) leaves log out);
}

-- The log stands.
pub LogStands-left : (touched : ℕ → Bool) (v w : Volume) (live : List Draft) → Leaves touched v w → LogStands v live → LogStands w (beside touched live)
LogStands-left touched v w live leaves log = record {
  staging = λ d is. staging-left touched v w d leaves (log.staging d (beside-In touched live d is));
  staged = λ d is. staged-left touched v w d leaves (log.staging d (beside-In touched live d is)) (log.staged d (beside-In touched live d is));
  apart = λ d e d_is e_is. log.apart d e (beside-In touched live d d_is) (beside-In touched live e e_is);
  orders = λ ino. orders ino (cases_Bool (touched ino));
} where
  orders : (ino : ℕ) → (touched ino ≡ true) ⊎ (touched ino ≡ false) → Consecutive (inode w ino).applied (entries_of ino (beside touched live))
  orders ino (inl out) = subst (Consecutive (inode w ino).applied) (sym (entries-touched touched live ino out)) tt
  orders ino (inr out) =
      subst (λ x. Consecutive x.applied (entries_of ino (beside touched live))) (sym (leaves.inodes ino out))
      (subst (Consecutive (inode v ino).applied) (sym (entries-beside touched live ino out)) (log.orders ino))
