use Rattle.std.proofs.Common.{false, subst, sym, true, ◌≡◌}
use Rattle.k_check.specs.layout_model.Journal.{journaled}
use Rattle.k_check.specs.image_model.Volume.{volume}
use Rattle.staging_files.specs.k_split.Order.{IsOpened}
use Rattle.k_check.specs.pm_model.Images.{words_of}
use Rattle.k_check.specs.pm_model.Powers.{is_on}
use Rattle.log_replay.proofs.MountingMounting.{left-open, may-replay, mounted-open}
use Rattle.log_replay.specs.Mounts.{IsLeft, IsMounted}
use Rattle.log_replay.proofs.mounting.mounts.mount_recovered.Goals as goal

pub recover_log-requires : goal.recover_log-requires
recover_log-requires c =
    let opened = subst (λ b. IsOpened c.args.pm (volume c.args.geometry (journaled (words_of c.args.pm))) b c.in_ok-k.k) c.requires.unbatched c.in_ok-k.ensures in
    may-replay c.args.geometry c.args.pm c.in_ok-k.k c.requires.single c.requires.numbers c.requires.checked opened c.args.entries.now c.requires.entries

pub returns-in-Ok-clause-answer : goal.returns-in-Ok-clause-answer
returns-in-Ok-clause-answer c =
    let opened = subst (λ b. IsOpened c.args.pm (volume c.args.geometry (journaled (words_of c.args.pm))) b c.in_ok-k.k) c.requires.unbatched c.in_ok-k.ensures in
    let done : IsMounted c.in_ok-k.k.volume.geometry (words_of c.in_ok-k.k.cells) c.recover_log.new.k = c.in-Ok.ensures.done in
    let on : is_on c.recover_log.new.power ≡ true = c.in-Ok.ensures.paid in
    (mounted-open c.args.geometry c.args.pm c.in_ok-k.k c.requires.single c.requires.numbers c.requires.checked opened c.recover_log.new.k done, on)

pub returns-in-Err-PowerLost-clause-answer : goal.returns-in-Err-PowerLost-clause-answer
returns-in-Err-PowerLost-clause-answer c =
    let opened = subst (λ b. IsOpened c.args.pm (volume c.args.geometry (journaled (words_of c.args.pm))) b c.in_ok-k.k) c.requires.unbatched c.in_ok-k.ensures in
    let off : is_on c.recover_log.new.power ≡ false = rw c.in-Err-PowerLost.field-0-is at c.in-Err-PowerLost.ensures.paid in
    let shown = left-open c.args.geometry c.args.pm c.in_ok-k.k c.requires.single c.requires.numbers c.requires.checked opened c.recover_log.new.k.cells c.requires.size c.recover_log.ensures.device c.recover_log.ensures.images in
    (off, subst (IsLeft c.args.geometry (words_of c.args.pm)) (sym c.into_pm.ensures) shown)
