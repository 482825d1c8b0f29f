-- A reset is a line of the inode that keeps its map.
use Rattle.std.proofs.Common.{◌≡◌, ◌≤◌, ◌∙◌, ◌^◌, ℕ, Bool, true, false, List, [], length, refl, sym, ap, arith, subst}
use Rattle.std.proofs.lemmas.List.{set-get_or}
use Rattle.std.specs.Prelude.{◌&&◌, nat_le, OnErr, OnOk, Result, Ok, Err, slice_set}
use Rattle.std.specs.declared.alloc.AllocError.{AllocError}
use Rattle.std.proofs.lemmas.Bool.{both_ways}
use Rattle.layout_model.specs.declared.lines.Inode.{Inode}
use Rattle.layout_model.specs.declared.lines.Kind.{Kind}
use Rattle.layout_model.specs.declared.lines.Kind.TheVariants.{File}
use Rattle.layout_model.specs.block_counts.declared.TheConstants.{LONGEST_FILE}
use Rattle.layout_model.specs.Lines.{has_map_or_none, is_inode, is_inode_of_kind}
use Rattle.k_plans.specs.image_model.Volume.{Volume, extents, inode}
use Rattle.k_plans.specs.k_journal.declared.batches.Record.{Record}
use Rattle.k_map_plans.specs.Plans.{IsLiveFile}
use Rattle.k_plans.specs.Free.{SetsFreedAside}
use Rattle.k_plans.specs.Switching.{IsMapPlan}
use Rattle.k_plans.specs.View.{TablesView, with_volume}
use Rattle.k_map_plans.specs.Going.{HasOwnMap, kept_map, MayKeep}
use Rattle.k_map_plans.specs.Resets.{IsResetPlan, reset, unapplied}
use Rattle.k_map_plans.proofs.Keeps.{own-line}

-- the line of a file may have no entry applied
unapplied-fields : (x : Inode) → x.kind ≡ File → is_inode x ≡ true → is_inode (unapplied x) ≡ true
unapplied-fields x file fits =
    subst (λ (k : Kind). is_inode_of_kind k (unapplied x) ≡ true) (sym file)
    (parts (nat_le x.size LONGEST_FILE) (nat_le x.applied (2 ^ 63)) (has_map_or_none x) (subst (λ (k : Kind). is_inode_of_kind k x ≡ true) file fits))
  where
    parts : (a b c : Bool) → (a && b && c) ≡ true → (a && true && c) ≡ true
    parts true true c both = both
    parts true false c both = let never : false ≡ true = both in absurd (both_ways false refl never)
    parts false b c both = both

pub reset-may : (t : TablesView) (ino : ℕ) → HasOwnMap t.volume ino → IsLiveFile ino t.volume → t.aside ≡ []
    → MayKeep t ino (unapplied (inode t.volume ino))
reset-may t ino own file idle = record {
  below = file.below;
  kind = refl;
  own = own;
  fields = λ whole. ap is_inode (own-line t.volume ino (unapplied (inode t.volume ino)) own refl refl)
      ∙ unapplied-fields (inode t.volume ino) file.file (whole.inodes ino);
  idle = idle;
}

-- what is kept is as it was, but for the line
kept-reset : (v : Volume) (ino : ℕ) → HasOwnMap v ino → kept_map ino (unapplied (inode v ino)) v ≡ reset ino v
kept-reset v ino own i =
    record v {
      inodes = slice_set v.inodes ino (own-line v ino (unapplied (inode v ino)) own refl refl i);
      chains = set-get_or v.chains ino [] i;
      maps = set-get_or v.maps ino [] i;
    }

pub reset-answer : (t u : TablesView) (ino : ℕ) (b : List Record) (r : Result (Unit {0}) AllocError) → HasOwnMap t.volume ino
    → OnOk r (u ≡ with_volume (kept_map ino (unapplied (inode t.volume ino)) t.volume) t) → OnOk r (IsMapPlan [] t.volume u.volume b)
    → OnOk r (length b ≤ 1) → OnOk r (SetsFreedAside t u) → OnErr r (u ≡ t) → OnErr r (b ≡ []) → IsResetPlan ino t u b r
reset-answer t u ino b (Ok done) own kept plan line aside same none =
    let now : u ≡ with_volume (reset ino t.volume) t = kept ∙ (λ i. with_volume (kept-reset t.volume ino own i) t) in (
      now,
      record {
        turns = plan.turns;
        some = plan.some;
        most = omega (arith, line);
        aside = aside;
        waiting = ap (λ (x : TablesView). x.waiting) now;
        staged = λ n least most. ap (λ (x : TablesView). extents x.volume n) now;
        whole = plan.whole;
      },
    )
reset-answer t u ino b (Err e) own kept plan line aside same none = record { same = same; no_lines = none }
