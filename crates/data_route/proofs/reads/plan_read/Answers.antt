use Rattle.std.proofs.Common.{arith, ap, ◌∙◌, ◌≡◌, ◌+◌, ◌-◌, ◌≤◌, [], ◌∷◌, ◌++◌}
use Rattle.std.specs.List.{flat_map}
use Rattle.data_route.specs.declared.reads.Piece.{Piece}
use Rattle.data_route.specs.Reads.{places_from, places_in}
use Rattle.data_route.proofs.Pieces.{places-push}
use Rattle.data_route.proofs.reads.plan_read.Goals as goal

-- one piece more, and so many bytes fewer
pub loop-left-preserved : goal.loop-left-preserved
loop-left-preserved c =
    let before = c.loop-left.invariant in
    let one = c.in_ok-piece.ensures in
    let piece : Piece = c.in_ok-piece.piece in
    let few : piece.len ≤ c.loop-left.left = one.few in
    let start : c.args.offset ≤ c.loop-left.at = before.start in
    let rest = before.rest in
    let within = before.within in
    let place : c.loop-left.at ≡ c.args.offset + (c.loop-left.at - c.args.offset) = omega arith in
    let done : c.loop-left.at - c.args.offset + piece.len ≡ c.loop-left.at + piece.len - c.args.offset = omega arith in
    let items : c.push.new.self.items ≡ c.loop-left.pieces.items ++ piece ∷ [] = c.in_ok-push.ensures.items in
    record {
      start = omega arith;
      rest = omega arith;
      within = λ some. omega (arith, within);
      bytes = ap (flat_map places_in) items
          ∙ places-push c.args.overlay.now.runs c.args.map.now c.args.offset c.loop-left.at (c.loop-left.at - c.args.offset) piece.len
          c.loop-left.pieces.items piece place before.bytes one.bytes
          ∙ ap (places_from c.args.overlay.now.runs c.args.map.now c.args.offset) done;
      blocks = grind (arith, before.blocks, one.fits, items);
      agrees = one.agrees;
      others = λ other block apart. one.others other block apart ∙ before.others other block apart;
    }
