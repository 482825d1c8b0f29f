use Rattle.std.proofs.Common.{arith, ap, subst, sym, ◌∙◌, ◌≡◌, ℕ, List, Option, Some}
use Rattle.std.specs.Ordering.{nat_cmp}
use Rattle.std.specs.BTreeMap.{is_at, get, Updates}
use Rattle.map_collection.specs.Kept.{Agrees, Answer, KeepsOthers, kept_for}
use Rattle.map_collection.specs.Regions.{answers_in, region_of}
use Rattle.map_collection.proofs.Kept.{agrees_with_region, keeps_others, kept_found, other_region}
use Rattle.map_collection.proofs.collection.Collection.lookup.Goals as goal

pub returns-in-Some-clause-disk : goal.returns-in-Some-clause-disk
returns-in-Some-clause-disk c =
    let ino = c.args.ino in
    let block = c.args.block in
    let found : get nat_cmp c.self.inside.regions (region_of ino block) ≡ Some c.in-Some.disks.now =
    subst (λ (region : ℕ). get nat_cmp c.self.inside.regions region ≡ Some c.in-Some.disks.now) c.region_of-region.ensures (sym c.in-Some.ensures.value) in
    c.requires block c.disk_of.result
    (ap (λ (kept : List Answer). kept_for kept ino block) (sym c.self.view_is)
    ∙ kept_found c.self.inside.regions.entries ino block c.in-Some.disks.now (omega (arith, c.if-block-ge-FILE_BLOCKS.false)) found
    ∙ ap (λ (o : Option ℕ). Some o) (grind arith))

pub returns-clause-agrees : goal.returns-clause-agrees
returns-clause-agrees c =
    let ino = c.args.ino in
    let block = c.args.block in
    let updates : Updates nat_cmp c.self.inside.regions c.insert.new.self (region_of ino block) (Some c.in_ok-disks.disks) =
    subst (λ (region : ℕ). Updates nat_cmp c.self.inside.regions c.insert.new.self region (Some c.in_ok-disks.disks)) c.region_of-region.ensures c.in_ok-insert.ensures.updates in
    agrees_with_region c.self.inside.regions c.insert.new.self ino block c.args.map.now c.in_ok-disks.disks updates.0 c.in_ok-disks.ensures
    (subst (λ (kept : List Answer). Agrees kept ino c.args.map.now) (sym c.self.view_is) c.requires)

pub returns-clause-others : goal.returns-clause-others
returns-clause-others c =
    let ino = c.args.ino in
    let block = c.args.block in
    let updates : Updates nat_cmp c.self.inside.regions c.insert.new.self (region_of ino block) (Some c.in_ok-disks.disks) =
    subst (λ (region : ℕ). Updates nat_cmp c.self.inside.regions c.insert.new.self region (Some c.in_ok-disks.disks)) c.region_of-region.ensures c.in_ok-insert.ensures.updates in
    subst (λ (kept : List Answer). KeepsOthers ino kept (answers_in c.insert.new.self.entries)) c.self.view_is
    (keeps_others c.self.inside.regions c.insert.new.self ino (is_at (nat_cmp (region_of ino block))) (Some c.in_ok-disks.disks) updates.0
    (λ other b low apart. other_region ino block other b (omega (arith, c.if-block-ge-FILE_BLOCKS.false)) low apart))
