use Rattle.std.proofs.Common.{◌+◌, ◌-◌, ◌*◌, ◌%◌, take, drop, List, ℕ, ap, ◌∙◌, refl, arith}
use Rattle.oplog_entry.specs.pm_model.Words.{word_at}
use Rattle.check_image.specs.volume_laws.LineWords.{with_line-in, with_line-out}
use Rattle.check_image.proofs.k_reading_proofs.LineWords.{words-put}
use Rattle.k_check.proofs.CrashFacts.{part-words}
use Rattle.k_check.proofs.crashes.put_line.Goals as goal

pub returns-clause-words : goal.returns-clause-words
returns-clause-words c i here =
    let put = words-put c.args.line (64 * c.args.line) (64 * c.args.line + 64 - 64 * c.args.line) c.args.bytes.now c.copy_from_slice.new.self refl (omega arith) c.requires.line (omega (arith, c.copy_from_slice.ensures.len)) in
    ap (λ (f : ℕ → ℕ). f i) put ∙ with_line-in c.args.line c.copy_from_slice.new.self (word_at c.args.bytes.now) i here
    ∙ ap (λ (ys : List ℕ). word_at ys (i % 8)) c.copy_from_slice.ensures.after
    ∙ ap (λ n. word_at (take n (drop (64 * c.args.line) c.args.other.now)) (i % 8)) {x = 64 * c.args.line + 64 - 64 * c.args.line} {y = 64} (omega arith)
    ∙ part-words c.args.other.now c.args.line i here

pub returns-clause-others : goal.returns-clause-others
returns-clause-others c i elsewhere =
    let put = words-put c.args.line (64 * c.args.line) (64 * c.args.line + 64 - 64 * c.args.line) c.args.bytes.now c.copy_from_slice.new.self refl (omega arith) c.requires.line (omega (arith, c.copy_from_slice.ensures.len)) in
    ap (λ (f : ℕ → ℕ). f i) put ∙ with_line-out c.args.line c.copy_from_slice.new.self (word_at c.args.bytes.now) i elsewhere
