use Rattle.std.proofs.Common.{arith, ap, sym, subst, ◌∙◌, ◌≡◌, ◌<◌, List, length, take}
use Rattle.std.specs.Prelude.{slice_index_or}
use Rattle.std.specs.List.{flat_map}
use Rattle.std.proofs.Math.Seq.{take-length}
use Rattle.k_split.specs.pm_model.Images.{words_of}
use Rattle.data_route.specs.extent_model.declared.extent_words.Extent.{Extent}
use Rattle.data_route.specs.declared.reads.Piece.{Piece}
use Rattle.data_route.specs.declared.reads.Source.TheVariants.{Disk}
use Rattle.data_route.specs.Reads.{IsReadPlan}
use Rattle.file_reads.specs.Reads.{bytes_of_piece, SourceCanBeRead}
use Rattle.file_reads.proofs.Places.{piece_readable, plan_bytes}
use Rattle.file_reads.proofs.reads.read_bytes.Goals as goal

pub push_piece-requires-clause-readable : goal.push_piece-requires-clause-readable
push_piece-requires-clause-readable c =
    let v = c.args.k.now.volume in
    let none : Piece = record { source = Disk 0; at = 0; len = 0 } in
    let plan = subst (λ (es : List Extent). IsReadPlan c.args.overlay.now.runs es c.args.size c.args.offset c.args.len c.in_ok-pieces.pieces.items) c.in-Some.ensures.map c.in_ok-pieces.ensures.plan in
    let items = c.deref-piece-items.ensures.value in
    let below : c.loop-piece.piece-index < length c.in_ok-pieces.pieces.items = omega (arith, ap length items) in
    subst (λ (ps : List Piece). SourceCanBeRead v c.args.k.now.cells (slice_index_or ps c.loop-piece.piece-index none).source) (sym items)
    (piece_readable v c.args.k.now.cells c.args.overlay.now.runs c.args.ino c.args.size c.args.offset c.args.len c.in_ok-pieces.pieces.items c.loop-piece.piece-index none plan below c.requires.readable)

pub returns-clause-bytes : goal.returns-clause-bytes
returns-clause-bytes c =
    let v = c.args.k.now.volume in
    let f = words_of c.args.k.now.cells in
    let plan = subst (λ (es : List Extent). IsReadPlan c.args.overlay.now.runs es c.args.size c.args.offset c.args.len c.in_ok-pieces.pieces.items) c.in-Some.ensures.map c.in_ok-pieces.ensures.plan in
    let all : c.loop-piece.piece-index ≡ length c.deref-piece-items.result.now = omega arith in
    c.loop-piece.invariant ∙ ap (λ n. flat_map (bytes_of_piece v f) (take n c.deref-piece-items.result.now)) all
    ∙ ap (flat_map (bytes_of_piece v f)) (take-length c.deref-piece-items.result.now ∙ c.deref-piece-items.ensures.value)
    ∙ plan_bytes v f c.args.overlay.now.runs c.args.ino c.args.size c.args.offset c.args.len c.in_ok-pieces.pieces.items plan
