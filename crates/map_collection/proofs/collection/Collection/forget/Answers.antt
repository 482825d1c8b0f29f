use Rattle.std.proofs.Common.{arith, ap, subst, ◌∙◌, ◌≡◌, ◌≢◌, ◌<◌, ℕ, List, None, true, false, inl, inr}
use Rattle.std.proofs.lemmas.Bool.{cases_lt}
use Rattle.std.proofs.lemmas.Bool.Decides.{nat_tests}
use Rattle.extent_map.specs.extent_model.Extents.{is_within}
use Rattle.map_collection.specs.Kept.{Answer, KeepsOthers}
use Rattle.map_collection.specs.Regions.{answers_in, region_of}
use Rattle.map_collection.proofs.Kept.{keeps_others, kept_behind, kept_there}
use Rattle.map_collection.proofs.collection.Collection.forget.Goals as goal

-- the regions of an inode are 8 in a row
own : (first ino block : ℕ) → first ≡ region_of ino 0 → block < 4096 → is_within first 8 (region_of ino block) ≡ true
own first ino block is low = grind (arith, nat_tests)

others : (first ino other block : ℕ) → first ≡ region_of ino 0 → block < 4096 → other ≢ ino → is_within first 8 (region_of other block) ≡ false
others first ino other block is low apart = grind (arith, nat_tests)

pub returns-clause-gone : goal.returns-clause-gone
returns-clause-gone c block = elim (cases_lt block 4096) [
  | inr high ↦ kept_behind c.loop-i.self-inside.regions.entries c.args.ino block high
  | inl low ↦ (
      let eight : c.loop-i.i ≡ 8 = grind arith in
      kept_there c.self.inside.regions c.loop-i.self-inside.regions (is_within c.region_of-first.result c.loop-i.i) None c.loop-i.invariant c.args.ino block low
      (ap (λ n. is_within c.region_of-first.result n (region_of c.args.ino block)) eight ∙ own c.region_of-first.result c.args.ino block c.region_of-first.ensures low))
]

pub returns-clause-others : goal.returns-clause-others
returns-clause-others c =
    let eight : c.loop-i.i ≡ 8 = grind arith in
    subst (λ (kept : List Answer). KeepsOthers c.args.ino kept (answers_in c.loop-i.self-inside.regions.entries)) c.self.view_is
    (keeps_others c.self.inside.regions c.loop-i.self-inside.regions c.args.ino (is_within c.region_of-first.result c.loop-i.i) None c.loop-i.invariant
    (λ other b low apart. ap (λ n. is_within c.region_of-first.result n (region_of other b)) eight ∙ others c.region_of-first.result c.args.ino other b c.region_of-first.ensures low apart))
