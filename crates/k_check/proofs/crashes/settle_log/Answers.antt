use Rattle.std.proofs.Common.{◌≡◌, ◌+◌, ◌*◌, ℕ, List, ap, sym, ◌∙◌, subst, rules}
use Rattle.std.proofs.lemmas.Bool.{both_ways}
use Rattle.pm_lines.specs.Choices.{chosen}
use Rattle.oplog_entry.specs.pm_model.Words.{word_at}
use Rattle.k_check.specs.Crashes.{IsChance, IsCrashImage}
use Rattle.k_check.proofs.CrashFacts.{not_yet, crash-kept, crash-older}
use Rattle.k_check.proofs.crashes.settle_log.Goals as goal
use Rattle.k_check.proofs.crashes.settle_log.Goals.{then-is_chance, else-is_chance}

pub is_chance-requires-clause-chosen : goal.is_chance-requires-clause-chosen
is_chance-requires-clause-chosen c j below =
    subst (λ line. word_at c.loop-slot.bytes (8 * line + j) ≡ chosen c.args.choice c.args.pm.now (8 * line + j)) (sym c.log_line-line.ensures)
    (not_yet c.args.geometry.now c.args.choice c.args.pm.now c.loop-slot.slot (word_at c.loop-slot.bytes) c.loop-slot.invariant j below)

pub loop-slot-preserved : goal.loop-slot-preserved
loop-slot-preserved c =
    let g = c.args.geometry.now in
    let d = c.args.pm.now in
    let f = word_at c.loop-slot.bytes in
    let line = c.log_line-line.ensures in
    elim c.if-is_chance.branch [
      | then-is_chance w ↦
          crash-older g c.args.choice d c.loop-slot.slot f (word_at c.if-is_chance.bytes) c.loop-slot.invariant
          (subst (IsChance c.args.choice d) line (c.is_chance.ensures.0 w.if-is_chance.true))
          (λ i at. ap (λ (b : List ℕ). word_at b i) w.bytes-is ∙ w.put_line.ensures.words i (at ∙ sym line) ∙ c.requires.older i)
          (λ i other. ap (λ (b : List ℕ). word_at b i) w.bytes-is ∙ w.put_line.ensures.others i (λ e. other (e ∙ line)))
      | else-is_chance w ↦
          subst (λ (b : List ℕ). IsCrashImage g c.args.choice d (c.loop-slot.slot + 1) (word_at b)) (sym w.bytes-is)
          (crash-kept g c.args.choice d c.loop-slot.slot f c.loop-slot.invariant
          (λ chance. both_ways c.is_chance.result w.if-is_chance.false (c.is_chance.ensures.1 (subst (IsChance c.args.choice d) (sym line) chance))))
    ]

pub loop-slot-init : goal.loop-slot-init
loop-slot-init c = search rules
