-- Blocks of a staging file that no live entry tells of are in no chain, and no file reads them: the content is as before
-- whatever is written there, and while they are lent.
use Rattle.std.specs.Prelude.{◌≡◌, ℕ, ◌+◌, ◌-◌, ◌<◌, ◌≤◌, ◌==◌, ◌&&◌, nat_lt, Bool, true, false, List, [], ◌∷◌, length, filter, All, Option, Some, None, cond, refl}
use Rattle.std.proofs.Common.{arith, ap, sym, ◌∙◌, subst, inl, inr}
use Rattle.std.proofs.lemmas.Bool.{and_parts, cases_lt, cond_both}
use Rattle.std.proofs.lemmas.Bool.Decides.{nat_tests}
use Rattle.std.proofs.lemmas.List.{get_or_past}
use Rattle.std.proofs.lemmas.List.Elements.{All-filter, All-head, All-tail, filter_passes}
use Rattle.std.proofs.lemmas.Option.{same_Some}
use Rattle.image_model.specs.pm_model.Words.{Words}
use Rattle.image_model.specs.layout_model.Journal.{journaled}
use Rattle.image_model.specs.layout_model.Places.{Geometry, is_data_block}
use Rattle.image_model.specs.extent_model.Extents.{disk_at, is_within}
use Rattle.image_model.specs.extent_model.Covers.{covers-disk_at}
use Rattle.image_model.specs.layout_model.declared.lines.Draft.{Draft}
use Rattle.image_model.specs.Content.{entry_of_block, disk_by, content}
use Rattle.image_model.specs.Live.{is_file, live_entries, later_of, latest}
use Rattle.image_model.specs.Placed.{block_at, IsOutside}
use Rattle.image_model.specs.Reading.{Reads}
use Rattle.image_model.specs.Rules.{IsNamedOnce}
use Rattle.image_model.specs.Volume.{Volume, free_inode, inode, extents}
use Rattle.volume_laws.specs.Footprint.{AreUnread}
use Rattle.volume_laws.specs.FootprintLaws.{content-image}
use Rattle.volume_laws.specs.Reading.{AreUnchained}
use Rattle.volume_laws.specs.OwnerLaws.{IsOnePlace, one_owner, no_chain_has}
use Rattle.volume_laws.specs.Staged.{AreStaged, IsStagedElsewhere}

-- the entry of greatest order is one of the entries
pub latest-of : (P : Draft → Type 0) (ds : List Draft) (d : Draft) → All P ds → latest ds ≡ Some d → P d
latest-of P [] d all is = cc
latest-of P (x ∷ ds) d all is = by (latest ds) refl (λ y found. latest-of P ds y (All-tail P x ds all) found) is
  where
    by : (o : Option Draft) → latest ds ≡ o → ((y : Draft) → latest ds ≡ Some y → P y) → later_of x o ≡ Some d → P d
    by None found later e = subst P (same_Some x d e) (All-head P x ds all)
    by (Some y) found later e =
        subst P (same_Some (cond (nat_lt x.order y.order) y x) d e)
        (cond_both (nat_lt x.order y.order) y x P (λ _. later y found) (λ _. All-head P x ds all))

-- the entry that has a file block last is one of the live ones, and has the block
pub entry_of_block-of : (P : Draft → Type 0) (live : List Draft) (ino block : ℕ) (d : Draft) → All P live
    → entry_of_block live ino block ≡ Some d → P d × (is_within d.file_block d.count block ≡ true)
entry_of_block-of P live ino block d all is =
    let test : Draft → Bool = λ x. (x.ino == ino) && is_within x.file_block x.count block in
    let has : test d ≡ true = latest-of (λ x. test x ≡ true) (filter test live) d (filter_passes test live) is in (
      latest-of P (filter test live) d
          (All-filter test P live all) is,
      (and_parts (d.ino == ino) (is_within d.file_block d.count block) has).1,
    )

-- a file is an inode in range
file_below : (v : Volume) (ino : ℕ) → is_file (inode v ino).kind ≡ true → ino < length v.inodes
file_below v ino file = elim (cases_lt ino (length v.inodes)) [
  | inl below ↦ below
  | inr past ↦
      let free : inode v ino ≡ free_inode = get_or_past v.inodes ino free_inode past in
      let is : false ≡ true = sym (ap (λ x. is_file x.kind) free) ∙ file in
      absurd (cc)
]

pub unchained-staged : (v : Volume) (staging from : ℕ) (blocks : List ℕ) → length v.inodes ≡ v.geometry.inodes
    → ((b : ℕ) → is_data_block v.geometry b ≡ true → IsNamedOnce v b)
    → AreStaged v staging from blocks → AreUnchained v.geometry v blocks
unchained-staged v staging from blocks count once staged = record {
  in_data = staged.in_data;
  apart = λ ino k j ino_below k_below j_below same.
      let b = block_at blocks j in
      let covered = covers-disk_at (extents v staging) (from + j) b (staged.at j j_below) in
      no_chain_has v b staging ino k (once b (staged.in_data j 0 j_below)) staged.below (omega arith) covered k_below (sym same);
}

pub unread-staged : (v : Volume) (live : List Draft) (staging from : ℕ) (blocks : List ℕ)
    → ((b : ℕ) → is_data_block v.geometry b ≡ true → IsNamedOnce v b)
    → AreStaged v staging from blocks → All (IsStagedElsewhere v staging from (length blocks)) live
    → AreUnread v live blocks
unread-staged v live staging from blocks once staged elsewhere = record {
  apart = λ ino block b k file within is below same.
      let named : IsNamedOnce v b = subst (λ n. IsNamedOnce v n) same (once (block_at blocks k) (staged.in_data k 0 below)) in
      by ino block b k file below named (staged.at k below ∙ ap Some same) (entry_of_block live ino block) refl is;
}
  where
    by : (ino block b k : ℕ) → is_file (inode v ino).kind ≡ true → k < length blocks → IsNamedOnce v b
        → disk_at (extents v staging) (from + k) ≡ Some b → (o : Option Draft) → entry_of_block live ino block ≡ o
        → disk_by v o ino block ≡ Some b → ⊥
    by ino block b k file below named at None entry is =
        let one : IsOnePlace ino staging block (from + k) = one_owner v b ino staging block (from + k) named (file_below v ino file) staged.below is at in
        let clash : false ≡ true = sym (ap is_file (ap (λ n. (inode v n).kind) one.inode ∙ staged.kind)) ∙ file in
        cc
    by ino block b k file below named at (Some d) entry is =
        let of = entry_of_block-of (IsStagedElsewhere v staging from (length blocks)) live ino block d elsewhere entry in
        let one : IsOnePlace d.staging staging (d.staging_block + (block - d.file_block)) (from + k) =
        one_owner v b d.staging staging (d.staging_block + (block - d.file_block)) (from + k) named of.0.below staged.below is at
        in
        let low : d.file_block ≤ block = grind (arith, nat_tests, of.1) in
        let high : block < d.file_block + d.count = grind (arith, nat_tests, of.1) in
        elim (of.0.apart one.inode) [ inl before ↦ omega (arith, one.place) | inr behind ↦ omega (arith, one.place) ]

-- So images that differ in them alone have the same content.
pub content-staged : (g : Geometry) (v : Volume) (staging from : ℕ) (blocks : List ℕ) (before image : Words)
    → Reads g (journaled before) v → ((b : ℕ) → is_data_block v.geometry b ≡ true → IsNamedOnce v b)
    → AreStaged v staging from blocks
    → All (IsStagedElsewhere v staging from (length blocks)) (live_entries v (journaled before))
    → ((i : ℕ) → IsOutside blocks i → image i ≡ before i)
    → content g image ≡ content g before
content-staged g v staging from blocks before image r once staged elsewhere same =
    let count : length v.inodes ≡ v.geometry.inodes = r.inode_count ∙ ap (λ (x : Geometry). x.inodes) (sym r.geometry) in
    let unchained : AreUnchained g v blocks = subst (λ x. AreUnchained x v blocks) r.geometry (unchained-staged v staging from blocks count once staged) in
    content-image g v blocks before image unchained
    (unread-staged v (live_entries v (journaled before)) staging from blocks once staged elsewhere) same r
