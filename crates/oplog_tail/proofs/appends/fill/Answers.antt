-- The line goes back with its entry, and is marked by whether the power lasted.
use Rattle.std.proofs.Common.{◌≡◌, ◌∙◌, ◌+◌, ◌%◌, ◌^◌, ◌≤◌, ◌∷◌, [], ℕ, cond, ap, sym, subst, arith}
use mathlib.Core.Option.{none}
use Rattle.atomic_table.specs.Table.{Allows, Me, step}
use Rattle.oplog_entry.specs.image_model.pm_model.Parts.{Part}
use Rattle.oplog_entry.specs.EntryLines.{Holds}
use Rattle.oplog_tail.specs.Rule.{Kept}
use Rattle.oplog_tail.specs.Steps.{mark_of, marked}
use Rattle.oplog_tail.specs.declared.views.Knows.{Knows}
use Rattle.oplog_entry.specs.declared.claims.Mark.{Mark}
use Rattle.oplog_entry.specs.declared.claims.Mark.TheVariants.{Lost, Written}
use Rattle.oplog_tail.specs.declared.views.Slot.{Slot}
use Rattle.oplog_tail.specs.declared.views.Slot.TheVariants.{Filled}
use Rattle.oplog_tail.proofs.Allowing.{mark_of_bool, marks_allowed, one_of_bool, same_line}
use Rattle.oplog_tail.proofs.appends.fill.Goals as goal

pub fetch_add-requires : goal.fetch_add-requires
fetch_add-requires c =
    let shared = c.args.shared.now in
    let n = c.args.number in
    let d = c.args.draft.now in
    let v : Knows = c.args.place.now.me.0 in
    let before : Part = c.requires.line.0 in
    let line : Part = c.write_entry-on.new.line in
    let k : ℕ = c.from.result in
    let same : before ≡ c.take_line-line.result = same_line n before c.take_line-line.result (sym c.requires.line.2 ∙ c.take_line-line.ensures.line) in
    let me : c.put_line.new.place.me ≡ (v, (n, Filled line d) ∷ []) =
    c.put_line.ensures.line ∙ ap (λ (m : Me Slot Knows). (m.0, (n, Filled line d) ∷ [])) c.take_line-line.ensures.out in
    let on : mark_of k ≡ cond c.write_entry-on.result Written Lost = ap mark_of c.from.ensures ∙ mark_of_bool c.write_entry-on.result in
    let one : k ≤ 1 = subst (λ (x : ℕ). x ≤ 1) (sym c.from.ensures) (one_of_bool c.write_entry-on.result) in
    let place : line.place ≡ before.place = c.write_entry-on.ensures.place ∙ ap (λ (p : Part). p.place) (sym same) in
    let holds : Holds (mark_of k) d (shared.key.base + n) before.cells line.cells =
    subst (λ (b : ℕ). Holds (mark_of k) d (b + n) before.cells line.cells) c.requires.base.0
    (subst (λ (p : Part). Holds (mark_of k) d (c.args.base + n) p.cells line.cells) (sym same)
    (subst (λ (m : Mark). Holds m d (c.args.base + n) c.take_line-line.result.cells line.cells) (sym on) c.write_entry-on.ensures.holds)) in
    let words = c.requires.table.1 in (
      c.put_line.ensures.table ∙ (c.take_line-line.ensures.table ∙ c.requires.table.0),
      omega (arith, words),
      subst (λ (m : Me Slot Knows). Allows (Kept shared.key) shared.table_id.slots c.put_line.new.place.id m 1 (λ x. (x + k) % 2 ^ 64) (marked (step shared.table_id.slots 1 k 0 none) m)) (sym me)
          (marks_allowed shared.key shared.table_id.slots c.put_line.new.place.id v n before line d k c.requires.line.3 place one holds),
    )
