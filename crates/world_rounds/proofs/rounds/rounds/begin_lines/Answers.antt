use Rattle.std.proofs.Common.{◌≡◌, ◌<◌, ◌*◌, ◌/◌, ◌%◌, ℕ, List, length, subst, sym}
use Rattle.std.specs.Prelude.{slice_index}
use Rattle.world_parts.specs.block_io.Lines.{line_at}
use Rattle.world_parts.specs.pm_model.Cells.{cell, newest}
use Rattle.world_parts.specs.pm_model.Parts.{Part}
use Rattle.world_parts.specs.k_split_model.View.{View}
use Rattle.world_parts.specs.Seen.{IsKept}
use Rattle.world_rounds.proofs.Lapping.{begun_kept, begun_round}
use Rattle.world_rounds.proofs.rounds.rounds.begin_lines.Goals as goal

pub returns-clause-kept : goal.returns-clause-kept
returns-clause-kept c =
    begun_kept c.log_lines_go_out.ensures c.the_lines_of_a_round_may_go_out.ensures c.args.p.now c.keep_words.new.p c.take_log.new.self c.in_ok-lines.lines.items c.words_of-words.result.items c.requires.kept c.requires.home c.requires.awake
    c.take_log.ensures.same c.is_lost-lost.ensures.order c.in_ok-lines.ensures.lines c.in_ok-lines.ensures.out
    (subst (λ (ls : List Part). length c.words_of-words.result.items ≡ 8 * length ls) c.deref.ensures.value c.words_of-words.ensures.count)
    (subst (λ (ls : List Part). (i : ℕ) → i < 8 * length ls → slice_index c.words_of-words.result.items i ≡ newest (cell (line_at ls (i / 8)).cells (i % 8))) c.deref.ensures.value c.words_of-words.ensures.words)
    c.keep_words.ensures.first c.keep_words.ensures.rest

pub returns-clause-begun : goal.returns-clause-begun
returns-clause-begun c =
    begun_round c.log_lines_go_out.ensures c.the_lines_of_a_round_may_go_out.ensures c.args.p.now c.keep_words.new.p c.take_log.new.self c.in_ok-lines.lines.items c.words_of-words.result.items c.requires.kept c.requires.home c.requires.awake
    c.take_log.ensures.same c.is_lost-lost.ensures.order c.in_ok-lines.ensures.lines c.in_ok-lines.ensures.out
    (subst (λ (ls : List Part). length c.words_of-words.result.items ≡ 8 * length ls) c.deref.ensures.value c.words_of-words.ensures.count)
    (subst (λ (ls : List Part). (i : ℕ) → i < 8 * length ls → slice_index c.words_of-words.result.items i ≡ newest (cell (line_at ls (i / 8)).cells (i % 8))) c.deref.ensures.value c.words_of-words.ensures.words)
    c.keep_words.ensures.first c.keep_words.ensures.rest

pub returns-in_err-lines-clause-kept : goal.returns-in_err-lines-clause-kept
returns-in_err-lines-clause-kept c = subst (λ (k : View). IsKept (record c.args.p.now { k = k })) (sym c.in_err-lines.ensures.err) c.requires.kept
