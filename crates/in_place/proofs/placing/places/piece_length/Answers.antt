use Rattle.std.proofs.Common.{◌+◌, ◌/◌, List, arith, subst}
use Rattle.write_plan.specs.file_overlay.declared.runs.Run.{Run}
use Rattle.in_place.specs.Holes.{IsUnstaged}
use Rattle.in_place.proofs.Absent.{is_piece}
use Rattle.in_place.proofs.placing.places.piece_length.Goals as goal

pub returns : goal.returns
returns c =
    let unstaged = subst (λ (runs : List Run). IsUnstaged runs (c.args.at / 4096) ((c.args.at + c.args.count + 4095) / 4096) c.unstaged_from-bare.result) c.overlay.ensures c.unstaged_from-bare.ensures in
    let piece = is_piece _ c.args.at c.args.count c.unstaged_from-bare.result c.min.result c.requires.some unstaged (omega (arith, c.max.ensures, c.min.ensures)) in
    record { least = piece.least; most = piece.most; ends = piece.ends; one = piece.one }
