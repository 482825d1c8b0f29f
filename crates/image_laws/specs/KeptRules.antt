-- The first broken rule of words that read as a volume is that of the volume: what is left of the rules on lines is
-- pure in the volume.
use Rattle.std.specs.Prelude.{◌≡◌, ◌↔◌, ℕ, ◌<◌, ◌++◌, All, true, List, ◌∷◌, Option, Some, None}
use Rattle.std.proofs.Common.{arith, inl, inr, ap, sym, ◌∙◌, subst}
use Rattle.std.proofs.lemmas.Option.{same_Some}
use Rattle.volume_laws.specs.pm_model.Words.{Words}
use Rattle.volume_laws.specs.layout_model.Journal.{journaled}
use Rattle.volume_laws.specs.layout_model.Places.{Geometry, is_data_block}
use Rattle.volume_laws.specs.layout_model.declared.lines.Inode.{Inode}
use Rattle.volume_laws.specs.layout_model.Lines.{NameRow}
use Rattle.volume_laws.specs.layout_model.Names.{row}
use Rattle.volume_laws.specs.image_model.Broken.{Rule, below, FailsFirst, BreaksFirst, HoldAll, head_rules, line_rules, volume_rules, log_rules, Breaks}
use Rattle.volume_laws.specs.image_model.Checked.{HasHead}
use Rattle.volume_laws.specs.image_model.Kept.{IsNamedRow, AreKept}
use Rattle.volume_laws.specs.image_model.Reading.{slot_for, Reads}
use Rattle.volume_laws.specs.image_model.Rules.{geometry_of, IsKindAt, IsNameSlot, HasInode, HasChain, file_blocks_of, IsInData}
use Rattle.volume_laws.specs.image_model.Volume.{Volume, volume, name_at, inode, chain, extents}
use Rattle.volume_laws.specs.ReadingLaws.{reads-volume}
use Rattle.image_laws.specs.BrokenLaws.{BreaksFirst-behind}
use Rattle.image_laws.specs.CheckedLaws.{data-within, HoldAll-head}

-- what a volume has to keep, as a list of rules
abbrev pub kept_rules : Volume → List Rule
kept_rules v =
    below 5 v.geometry.inodes (λ ino. IsKindAt ino (inode v ino).kind) ∷ below 6 v.geometry.names (λ k. IsNamedRow v (row v.names k))
    ∷ below 7 v.geometry.inodes (λ ino. All (IsInData v.geometry (file_blocks_of (inode v ino).kind)) (extents v ino)) ∷ volume_rules v

-- Rules that ask the same at each of their places.
pub record AskSame (number count : ℕ) (P Q : ℕ → Type 0) : Type 0 where
  pub to : (p : ℕ) → p < count → P p → Q p
  pub from : (p : ℕ) → p < count → Q p → P p

same-break : (number count : ℕ) (P Q : ℕ → Type 0) (rules more : List Rule) (n place : ℕ) → AskSame number count P Q → (BreaksFirst rules n place → BreaksFirst more n place)
    → BreaksFirst (below number count P ∷ rules) n place → BreaksFirst (below number count Q ∷ more) n place
same-break number count P Q rules more n place same later breaks =
    elim breaks [
      | inl here ↦ inl (
        here.0,
        let fails : FailsFirst (below number count P) place = here.1 in
            let within : place < count = omega (arith, fails.within) in
            record {
              from = omega arith;
              within = fails.within;
              before = λ p from lower. same.to p (omega arith) (fails.before p from lower);
              fails = λ holds. fails.fails (same.from place within holds);
            },
      )
      | inr passed ↦ inr (λ p from within. same.to p (omega arith) (passed.0 p from within), later passed.1)
    ]

-- what the lines say, and what the volume does
inodes-same : (g : Geometry) (h : Words) (v : Volume) → Reads g h v → AskSame 5 v.geometry.inodes (λ ino. IsKindAt ino (inode v ino).kind) (HasInode h)
inodes-same g h v r =
    let in_range = λ (ino : ℕ) (within : ino < v.geometry.inodes). subst (λ (k : Geometry). ino < k.inodes) r.geometry within in
    record {
      to = λ ino within kind. record { line = inode v ino; is = r.inodes ino (in_range ino within); kind = kind };
      from = λ ino within has.
          subst (λ (x : Inode). IsKindAt ino x.kind) (same_Some has.line (inode v ino) (sym has.is ∙ r.inodes ino (in_range ino within))) has.kind;
    }

slot-row : (v : Volume) (o : Option NameRow) → IsNamedRow v o ↔ IsNameSlot v (slot_for o)
slot-row v None = (λ x. x, λ x. x)
slot-row v (Some r) = (λ x. x, λ x. x)

names-same : (g : Geometry) (h : Words) (v : Volume) → Reads g h v → AskSame 6 v.geometry.names (λ k. IsNamedRow v (row v.names k)) (λ k. IsNameSlot v (name_at v.geometry h k))
names-same g h v r =
    let line : (k : ℕ) → k < v.geometry.names → name_at v.geometry h k ≡ slot_for (row v.names k) =
    λ k within. ap (λ m. name_at m h k) r.geometry ∙ r.names k (subst (λ (m : Geometry). k < m.names) r.geometry within)
    in
    record {
      to = λ k within named. subst (IsNameSlot v) (sym (line k within)) ((slot-row v (row v.names k)).0 named);
      from = λ k within named. (slot-row v (row v.names k)).1 (subst (IsNameSlot v) (line k within) named);
    }

chains-same : (g : Geometry) (h : Words) (v : Volume) → Reads g h v
    → AskSame 7 v.geometry.inodes (λ ino. All (IsInData v.geometry (file_blocks_of (inode v ino).kind)) (extents v ino)) (HasChain v h)
chains-same g h v r =
    let in_range = λ (ino : ℕ) (within : ino < v.geometry.inodes). subst (λ (k : Geometry). ino < k.inodes) r.geometry within in
    record {
      to = λ ino within in_data. record {
        spelled = (r.chains ino (in_range ino within)).map.spelled;
        count = (r.chains ino (in_range ino within)).map.counted;
        blocks = subst (λ k. All (λ b. is_data_block k b ≡ true) (chain v ino)) (sym r.geometry) (r.blocks ino (in_range ino within));
        canonical = (r.chains ino (in_range ino within)).map.canonical;
        in_data = in_data;
      };
      from = λ ino within has. has.in_data;
    }

pub lines-break : (g : Geometry) (h : Words) (v : Volume) (n place : ℕ) → Reads g h v → BreaksFirst (kept_rules v ++ log_rules v h) n place
    → BreaksFirst (line_rules v h ++ volume_rules v ++ log_rules v h) n place
lines-break g h v n place r breaks =
    let rest : List Rule = volume_rules v ++ log_rules v h in
    let named : ℕ → Type 0 = λ k. IsNamedRow v (row v.names k) in
    let slots : ℕ → Type 0 = λ k. IsNameSlot v (name_at v.geometry h k) in
    let in_data : ℕ → Type 0 = λ ino. All (IsInData v.geometry (file_blocks_of (inode v ino).kind)) (extents v ino) in
    let sevens : List Rule = below 7 v.geometry.inodes in_data ∷ rest in
    let chains : List Rule = below 7 v.geometry.inodes (HasChain v h) ∷ rest in
    same-break 5 v.geometry.inodes (λ ino. IsKindAt ino (inode v ino).kind) (HasInode h) (below 6 v.geometry.names named ∷ sevens) (below 6 v.geometry.names slots ∷ chains) n place
    (inodes-same g h v r)
    (same-break 6 v.geometry.names named slots sevens chains n place (names-same g h v r)
    (same-break 7 v.geometry.inodes in_data (HasChain v h) rest rest n place (chains-same g h v r) (λ later. later)))
    breaks

-- An image whose head is right and whose words read as a volume breaks first what the volume does, or the log.
pub reads-break : (bytes : ℕ) (h : Words) (v : Volume) (n place : ℕ) → HasHead bytes h → Reads (geometry_of h) (journaled h) v
    → BreaksFirst (kept_rules v ++ log_rules v (journaled h)) n place → Breaks bytes h n place
reads-break bytes h v n place head r breaks =
    let g = geometry_of h in
    let j = journaled h in
    let w = volume g j in
    BreaksFirst-behind (head_rules bytes h) (line_rules w j ++ volume_rules w ++ log_rules w j) n place (HoldAll-head bytes h head)
    (subst (λ u. BreaksFirst (line_rules u j ++ volume_rules u ++ log_rules u j) n place) (sym (reads-volume g j v r)) (lines-break g j v n place r breaks))

-- where the volume is kept, all hold
pub HoldAll-volume : (v : Volume) → AreKept v → HoldAll (kept_rules v)
HoldAll-volume v kept = (
  λ p from within. kept.kinds p (omega arith),
  (
    λ p from within. kept.named p (omega arith),
    (
      λ p from within. kept.in_data p (omega arith),
      (
        λ p from within. kept.once p (data-within v.geometry p from within),
        (
          λ p from within. kept.placed p (omega arith),
          (λ p from within. kept.directories, (λ p from within. kept.one_name p (omega arith), tt)),
        ),
      ),
    ),
  ),
)
