use Rattle.std.proofs.Common.{◌≡◌, true, rules}
use Rattle.k_journal.specs.Phases.{IsStage}
use Rattle.pm_lines.specs.pm_model.Images.{IsImage}
use Rattle.pm_lines.specs.pm_model.Powers.{is_on}
use Rattle.pm_lines.specs.pm_model.Words.{Words}
use Rattle.k_journal.proofs.Views.{IsFramed, follows, follows-after, follows-same, words-done}
use Rattle.k_journal.proofs.commits.commit.Goals as goal

pub returns-then-not-on-clause-each_image : goal.returns-then-not-on-clause-each_image
returns-then-not-on-clause-each_image c = follows-same c.args.geometry.now c.args.batch.now c.args.pm.now

pub returns-then-eq-clause-each_image : goal.returns-then-eq-clause-each_image
returns-then-eq-clause-each_image c =
    let batch = c.args.batch.now in
    let on : is_on c.args.power.now ≡ true = search rules in
    let framed : IsFramed batch c.args.pm.now c.commit_entries-outcome.new.pm = record { frame = rw c.entries.ensures.entries at c.commit_entries-outcome.ensures.others } in
    let stages : (image : Words) → IsImage c.commit_entries-outcome.new.pm image → IsStage batch c.args.pm.now c.commit_entries-outcome.new.pm image =
    rw c.entries.ensures.entries at c.commit_entries-outcome.ensures.each_image in
    follows c.args.geometry.now batch c.args.pm.now c.commit_entries-outcome.new.pm (c.requires.ready on) framed c.entries.ensures.most c.entries.ensures.distinct stages

pub returns-then-eq-clause-words : goal.returns-then-eq-clause-words
returns-then-eq-clause-words c done =
    let batch = c.args.batch.now in
    let framed : IsFramed batch c.args.pm.now c.commit_entries-outcome.new.pm = record { frame = rw c.entries.ensures.entries at c.commit_entries-outcome.ensures.others } in
    words-done batch c.args.pm.now c.commit_entries-outcome.new.pm c.entries.ensures.distinct framed (rw c.entries.ensures.entries at (c.commit_entries-outcome.ensures.targets done))

pub returns-else-eq-clause-each_image : goal.returns-else-eq-clause-each_image
returns-else-eq-clause-each_image c =
    let batch = c.args.batch.now in
    let on : is_on c.args.power.now ≡ true = search rules in
    let framed : IsFramed batch c.args.pm.now c.commit_entries-outcome.new.pm = record { frame = rw c.entries.ensures.entries at c.commit_entries-outcome.ensures.others } in
    let stages : (image : Words) → IsImage c.commit_entries-outcome.new.pm image → IsStage batch c.args.pm.now c.commit_entries-outcome.new.pm image =
    rw c.entries.ensures.entries at c.commit_entries-outcome.ensures.each_image in
    follows c.args.geometry.now batch c.args.pm.now c.commit_entries-outcome.new.pm (c.requires.ready on) framed c.entries.ensures.most c.entries.ensures.distinct stages

pub returns-then-eq-clause-durable : goal.returns-then-eq-clause-durable
returns-then-eq-clause-durable c done =
    let batch = c.args.batch.now in
    let on : is_on c.args.power.now ≡ true = search rules in
    let framed : IsFramed batch c.args.pm.now c.commit_entries-outcome.new.pm = record { frame = rw c.entries.ensures.entries at c.commit_entries-outcome.ensures.others } in
    follows-after c.args.geometry.now batch c.args.pm.now c.commit_entries-outcome.new.pm (c.requires.ready on) framed c.entries.ensures.distinct
    (c.commit_entries-outcome.ensures.idle done) (rw c.entries.ensures.entries at (c.commit_entries-outcome.ensures.targets done))
