use Rattle.std.proofs.Common.{◌≡◌, ℕ, List, length, sym, subst, arith}
use Rattle.std.proofs.lemmas.List.{with_items_is}
use Rattle.check_image.specs.image_model.Honest.{IsHonest}
use Rattle.oplog_entry.specs.pm_model.Cells.{cell, IsCandidate}
use Rattle.oplog_entry.specs.pm_model.Images.{IsImageOf}
use Rattle.oplog_entry.specs.pm_model.Words.{word_at}
use Rattle.k_check.proofs.CrashFacts.{crash-honest, crash-image}
use Rattle.k_check.proofs.crashes.crash_image.Goals as goal

pub returns-clause-image : goal.returns-clause-image
returns-clause-image c =
    let d = c.args.pm.now in
    let new = c.settle.new.bytes in
    let size : length new ≡ c.in_ok-bytes.bytes.len = omega (arith, c.settle.auto.bytes, c.deref_mut.ensures.len) in
    subst (IsImageOf d) (sym (with_items_is c.in_ok-bytes.bytes new size)) (record {
      size = omega (arith, size, c.in_ok-bytes.ensures.image.size);
      words = crash-image c.args.geometry.now c.args.choice d (word_at new) c.in_ok-settle.ensures
          (λ i. subst (IsCandidate (cell d i)) (c.in_ok-bytes.ensures.chosen i) (c.in_ok-bytes.ensures.image.words i));
    })

pub returns-clause-honest : goal.returns-clause-honest
returns-clause-honest c =
    let new = c.settle.new.bytes in
    let size : length new ≡ c.in_ok-bytes.bytes.len = omega (arith, c.settle.auto.bytes, c.deref_mut.ensures.len) in
    subst (λ (b : List ℕ). IsHonest c.args.geometry.now (cell c.args.pm.now) (word_at b)) (sym (with_items_is c.in_ok-bytes.bytes new size))
    (crash-honest c.args.geometry.now c.args.choice c.args.pm.now (word_at new) c.in_ok-settle.ensures)
