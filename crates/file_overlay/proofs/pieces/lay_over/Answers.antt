use Rattle.std.proofs.Common.{arith, ap, subst, sym, ◌∙◌, ◌≡◌, ◌+◌, ◌-◌, ◌++◌, ◌∷◌, [], ℕ, List, drop, length, map, take}
use Rattle.file_overlay.specs.declared.runs.Run.{Run}
use Rattle.file_overlay.specs.Pieces.{back_of, front_of, ArePieces, IsBegun}
use Rattle.file_overlay.proofs.Laying.{few_pieces, first_size, fits_room, pieces_laid}
use Rattle.file_overlay.proofs.pieces.lay_over.Goals as goal

pub put_backs-requires-clause-room : goal.put_backs-requires-clause-room
put_backs-requires-clause-room c =
    let ps = c.args.pieces.now in
    let a = c.begun-front.result in
    let b = c.ended-back.result in
    let begun : IsBegun ps c.args.run.file_block a = subst (λ (n : ℕ). IsBegun ps n a) c.from.ensures c.begun-front.ensures in
    let before : c.put_fronts.new.room.items ≡ map (front_of c.args.run.file_block) (take a ps) = c.put_fronts.ensures.items ∙ ap (λ (xs : List Run). xs ++ map (front_of c.args.run.file_block) (take a ps)) c.clear.ensures.items in
    let size : length c.put_fronts.new.room.items ≡ a = ap length before ∙ first_size ps c.args.run a b c.requires.apart c.requires.fits begun c.ended-back.ensures in
    omega (arith, size, c.push_reserved.ensures.len, c.push_reserved.ensures.capacity, c.put_fronts.ensures.capacity, c.clear.ensures.capacity, c.requires.room, fits_room ps c.args.run a b c.requires.apart c.requires.fits begun c.ended-back.ensures)

pub returns-clause-pieces : goal.returns-clause-pieces
returns-clause-pieces c runs are =
    let ps = c.args.pieces.now in
    let a = c.begun-front.result in
    let b = c.ended-back.result in
    let fronts = map (front_of c.args.run.file_block) (take a ps) in
    let backs = map (back_of (c.args.run.file_block + c.args.run.count)) (take (length ps - b) (drop b ps)) in
    let items : c.put_backs.new.room.items ≡ (fronts ++ c.args.run ∷ []) ++ backs =
    c.put_backs.ensures.items
    ∙ ap (λ (xs : List Run). xs ++ backs) (c.push_reserved.ensures.items ∙ ap (λ (xs : List Run). xs ++ c.args.run ∷ []) (c.put_fronts.ensures.items ∙ ap (λ (xs : List Run). xs ++ fronts) c.clear.ensures.items)) in
    subst (ArePieces (runs ++ c.args.run ∷ [])) (sym items) (pieces_laid ps c.args.run a b c.requires.apart c.requires.fits (subst (λ (n : ℕ). IsBegun ps n a) c.from.ensures c.begun-front.ensures) c.ended-back.ensures runs are)

pub returns-clause-few : goal.returns-clause-few
returns-clause-few c =
    let ps = c.args.pieces.now in
    let a = c.begun-front.result in
    let b = c.ended-back.result in
    let fronts = map (front_of c.args.run.file_block) (take a ps) in
    let backs = map (back_of (c.args.run.file_block + c.args.run.count)) (take (length ps - b) (drop b ps)) in
    let items : c.put_backs.new.room.items ≡ (fronts ++ c.args.run ∷ []) ++ backs =
    c.put_backs.ensures.items
    ∙ ap (λ (xs : List Run). xs ++ backs) (c.push_reserved.ensures.items ∙ ap (λ (xs : List Run). xs ++ c.args.run ∷ []) (c.put_fronts.ensures.items ∙ ap (λ (xs : List Run). xs ++ fronts) c.clear.ensures.items)) in
    omega (arith, ap length items, few_pieces ps c.args.run a b c.requires.apart c.requires.fits (subst (λ (n : ℕ). IsBegun ps n a) c.from.ensures c.begun-front.ensures) c.ended-back.ensures)
