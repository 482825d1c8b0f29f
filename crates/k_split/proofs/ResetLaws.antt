-- A reset of what a file has applied: its line has its own map, and images keep their content.
use Rattle.std.proofs.Common.{◌≡◌, ◌∙◌, ◌<◌, ◌+◌, ◌/◌, ℕ, Bool, zero, suc, true, not, List, [], length, Option, Ok, Err, Result, if◌then◌else◌, refl, sym, ap, arith, inl, inr, subst}
use Rattle.std.specs.Prelude.{◌==◌, ◌&&◌, nat_le, ◌^◌}
use Rattle.std.proofs.lemmas.Bool.Decides.{nat_tests}
use Rattle.block_io.specs.pm_model.declared.Cell.{Cell}
use Rattle.block_io.specs.pm_model.Frames.{SameLent}
use Rattle.block_io.specs.pm_model.Images.{Follows, Follows-same, Follows-weaken, IsImage}
use Rattle.block_io.specs.pm_model.Powers.{Supply}
use Rattle.block_io.specs.pm_model.Words.{Words}
use Rattle.block_io.specs.layout_model.Journal.{journaled}
use Rattle.layout_model.specs.declared.lines.Inode.{Inode}
use Rattle.layout_model.specs.declared.lines.Kind.{Kind}
use Rattle.layout_model.specs.declared.lines.Kind.TheVariants.{File}
use Rattle.layout_model.specs.block_counts.declared.TheConstants.{LONGEST_FILE}
use Rattle.layout_model.specs.Lines.{has_map_or_none, is_inode, is_inode_of_kind}
use Rattle.block_io.specs.image_model.Chains.{blocks_from, first_or_zero}
use Rattle.block_io.specs.image_model.Content.{Node, content, found}
use Rattle.block_io.specs.image_model.Live.{live_entries}
use Rattle.block_io.specs.image_model.Volume.{Volume, inode}
use Rattle.k_tables.specs.volume_laws.ChainLaws.{length-blocks_from}
use Rattle.k_tables.specs.volume_laws.FootprintLaws.{content-own}
use Rattle.k_map_plans.specs.k_journal.declared.batches.Record.{Record}
use Rattle.k_map_plans.specs.ResetLaws.{reset-content}
use Rattle.k_map_plans.specs.Going.{HasOwnMap}
use Rattle.k_map_plans.specs.Resets.{HasNoValid, reset}
use Rattle.k_map_plans.specs.Plans.{IsLiveFile}
use Rattle.k_map_plans.specs.k_plans.Whole.{IsWhole}
use Rattle.k_tables.specs.k_split_model.Stands.{IsOldOrNew, Stands}
use Rattle.block_io.specs.image_model.Reading.{Reads}
use Rattle.k_map_plans.specs.k_plans.View.{TablesView}
use Rattle.k_split.specs.Order.{IsReady}
use Rattle.k_split.proofs.Ready.{ready-idle, reads-ready}
use Rattle.k_split.specs.declared.faults.KFault.{KFault}
use Rattle.k_split.specs.Contents.{HasOldOrNew}
use Rattle.k_group_commit.specs.Joins.{Goes}
use Rattle.k_split.specs.Landed.{IsLanded, IsLandedJoin, IsPlanOn}
use Rattle.k_split.specs.Resets.{KeepsUnloggedContent}
use Rattle.k_split.proofs.ContentLaws.{have-old-or-new, none-own}

-- ---- the line of a file, and its chain

from-root : (f : Words) (root n : ℕ) → (n ≡ 0 → root ≡ 0) → first_or_zero (blocks_from f root n) ≡ root
unfolding blocks_from
from-root f root zero none = sym (none refl)
from-root f root (suc n) none = refl

none-root : (root count : ℕ) → (if root == 0 then count == 0 else not (count == 0)) ≡ true → count ≡ 0 → root ≡ 0
none-root root count fits none = grind (arith, nat_tests)

file-root : (x : Inode) → x.kind ≡ File → is_inode x ≡ true → x.extents ≡ 0 → x.root ≡ 0
file-root x file fits none = parts (subst (λ (k : Kind). is_inode_of_kind k x ≡ true) file fits)
  where
    parts : (nat_le x.size LONGEST_FILE && nat_le x.applied (2 ^ 63) && has_map_or_none x) ≡ true → x.root ≡ 0
    parts all = none-root x.root x.extents (grind (arith, nat_tests)) none

own-map : (v : Volume) (f : Words) (ino : ℕ) → Reads v.geometry f v → IsWhole v → IsLiveFile ino v → HasOwnMap v ino
own-map v f ino reads whole file =
    let is = reads.chains ino (omega (arith, file.below, whole.kept.all.inode_count)) in
    record {
      root = ap first_or_zero is.linked
          ∙ from-root f (inode v ino).root (((inode v ino).extents + 254) / 255) (λ none.
          file-root (inode v ino) file.file (whole.inodes ino) (omega (arith, none)));
      count = is.map.counted;
      blocks = ap length is.linked
          ∙ length-blocks_from f (inode v ino).root (((inode v ino).extents + 254) / 255)
          ∙ ap (λ n. (n + 254) / 255) (sym is.map.counted);
    }

pub own-map-ready : (t : TablesView) (group b : List Record) (d : List Cell) (batched : Bool) (ino : ℕ) → IsReady t group b d batched → IsLiveFile ino t.volume
    → HasOwnMap t.volume ino
own-map-ready t group b d batched ino ready file =
    let reads = reads-ready t group b d batched ready in
    own-map t.volume reads.0 ino reads.1 ready.opened.whole file

-- ---- the content of the images

pub landed-images : (v w : Volume) (b : List Record) (d e : List Cell) (p q : Supply) (r : Result (Unit {0}) KFault) → IsLanded v w b d e p q r
    → Follows (IsOldOrNew v.geometry [] v w) d e
landed-images v w b d e p q (Ok done) landed = landed.changes.each_image
landed-images v w b d e p q (Err KFault.PowerLost) landed = landed.changes.each_image
landed-images v w b d e p q (Err (KFault.Refused errno)) landed = absurd landed
landed-images v w b d e p q (Err (KFault.Room room)) landed = absurd landed
landed-images v w b d e p q (Err KFault.NoMemory) landed = absurd landed

pub landed-lent : (v w : Volume) (b : List Record) (d e : List Cell) (p q : Supply) (r : Result (Unit {0}) KFault) → IsLanded v w b d e p q r → SameLent d e
landed-lent v w b d e p q (Ok done) landed = landed.changes.lent
landed-lent v w b d e p q (Err KFault.PowerLost) landed = landed.changes.lent
landed-lent v w b d e p q (Err (KFault.Refused errno)) landed = absurd landed
landed-lent v w b d e p q (Err (KFault.Room room)) landed = absurd landed
landed-lent v w b d e p q (Err KFault.NoMemory) landed = absurd landed

pub reset-images : (ino : ℕ) (v w : Volume) (d e : List Cell) → Stands v.geometry v d → IsWhole v → IsWhole w → w ≡ reset ino v → ino < length v.inodes
    → Follows (IsOldOrNew v.geometry [] v w) d e → Follows (KeepsUnloggedContent v) d e
reset-images ino v w d e stands whole after is below each image candidate =
    let from = have-old-or-new v.geometry [] v w d e stands whole.kept.kept after.kept.kept (none-own v w) each image candidate in
    (from.0, from.1, λ none path. by from.0 from.1.is_image none path from.2)
  where
    by : (before : Words) → IsImage d before → HasNoValid v (journaled before) → (path : List (List ℕ)) → HasOldOrNew v.geometry w before image
        → content v.geometry image path ≡ content v.geometry before path
    by before was none path (inl same) = ap (λ (c : List (List ℕ) → Option Node). c path) same
    by before was none path (inr now) =
        ap (λ (c : List (List ℕ) → Option Node). c path) now
        ∙ ap (λ (x : Volume). found x (live_entries x (journaled before)) (journaled before) path) is
        ∙ reset-content ino v (journaled before) path below none
        ∙ ap (λ (c : List (List ℕ) → Option Node). c path) (sym (content-own v.geometry v (journaled before) (stands.reads before was)))

module _ (ino : ℕ) (t p : TablesView) (group b : List Record) (d : List Cell) (batched : Bool) (planned : IsPlanOn t p group b d batched) (none : group ≡ [])
    (below : ino < length t.volume.inodes) (is : p.volume ≡ reset ino t.volume) where
  kept : (e : List Cell) → Follows (IsOldOrNew t.volume.geometry [] t.volume p.volume) d e → Follows (KeepsUnloggedContent t.volume) d e
  kept e each =
      let plain = ready-idle t group [] d batched planned.ready none in
      reset-images ino t.volume p.volume d e plain.stands plain.whole planned.plan.whole is below each

  pub reset-landed : (e : List Cell) (x y : Supply) (r : Result (Unit {0}) KFault) → IsLanded t.volume p.volume b d e x y r
      → Follows (KeepsUnloggedContent t.volume) d e
  reset-landed e x y r landed = kept e (landed-images t.volume p.volume b d e x y r landed)

  -- where it joined, the device stands where it stood
  goes-images : (u v : Volume) (e : List Cell) → u ≡ t.volume → v ≡ t.volume → Goes [] u v d e
      → Follows (IsOldOrNew t.volume.geometry [] t.volume p.volume) d e
  goes-images u v e first second goes =
      Follows-weaken (IsOldOrNew t.volume.geometry [] t.volume t.volume) (IsOldOrNew t.volume.geometry [] t.volume p.volume) d e
      (λ before image after. record {
        reads = elim after.reads [ inl old ↦ inl old | inr old ↦ inl old ];
        others = after.others;
        sound = after.sound;
      })
      (subst (λ (w : Volume). Follows (IsOldOrNew t.volume.geometry [] t.volume w) d e) second
      (subst (λ (w : Volume). Follows (IsOldOrNew w.geometry [] w v) d e) first goes.each_image))

  pub reset-joined : (h : TablesView) (c : List Record) (e : List Cell) (y : Supply) (r : Result (Unit {0}) KFault)
      → IsLandedJoin planned.ready.committed t p h [] group b c d e y r → Follows (KeepsUnloggedContent t.volume) d e
  reset-joined h c e y (Ok done) joined = elim joined.0 [
    | inl room ↦ kept e (goes-images planned.ready.committed planned.ready.committed e (planned.ready.empty none).0 (planned.ready.empty none).0 room.1.goes)
    | inr was ↦ kept e (goes-images planned.ready.committed t.volume e (planned.ready.empty none).0 refl was.1.goes)
  ]
  reset-joined h c e y (Err KFault.PowerLost) joined = elim joined.0 [
    | inl was ↦ kept e (goes-images planned.ready.committed t.volume e (planned.ready.empty none).0 refl was.1)
    | inr cut ↦ elim cut [
      | inl room ↦ kept e (goes-images planned.ready.committed planned.ready.committed e (planned.ready.empty none).0 (planned.ready.empty none).0 room.1.goes)
      | inr was ↦ kept e (goes-images planned.ready.committed t.volume e (planned.ready.empty none).0 refl was.1.goes)
    ]
  ]
  reset-joined h c e y (Err (KFault.Refused errno)) joined = absurd joined
  reset-joined h c e y (Err (KFault.Room room)) joined = absurd joined
  reset-joined h c e y (Err KFault.NoMemory) joined = absurd joined

-- where nothing changes
pub same-images : (v : Volume) (d : List Cell) → Follows (KeepsUnloggedContent v) d d
same-images v d = Follows-same (KeepsUnloggedContent v) d (λ f none path. refl)
