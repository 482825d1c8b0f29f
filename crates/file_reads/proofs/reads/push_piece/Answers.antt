use Rattle.std.proofs.Common.{◌++◌, ◌∙◌, ap, ℕ, List, Option, map}
use Rattle.std.specs.List.{range_with_len}
use Rattle.k_split.specs.image_model.Content.{byte_in}
use Rattle.k_split.specs.pm_model.Images.{words_of}
use Rattle.file_reads.proofs.Places.{piece_bytes}
use Rattle.file_reads.proofs.reads.push_piece.Goals as goal

pub returns : goal.returns
returns c =
    c.in_ok-extend_from_slice.ensures.items
    ∙ ap (λ (xs : List ℕ). c.args.bytes.now.items ++ xs)
    (piece_bytes (words_of c.args.k.now.cells) c.block_of.result c.read_whole.new.buffer c.args.piece.at c.args.piece.len c.read_whole.array_long c.requires.fits.within c.read_whole.ensures
    ∙ ap (λ (o : Option ℕ). map (λ i. byte_in (words_of c.args.k.now.cells) o i) (range_with_len c.args.piece.at c.args.piece.len)) c.block_of.ensures)
