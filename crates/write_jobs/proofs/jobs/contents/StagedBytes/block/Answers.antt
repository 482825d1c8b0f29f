use Rattle.std.proofs.Common.{arith, ap, sym, ◌∙◌, ◌≡◌, ◌<◌, ◌+◌, ◌*◌, ℕ, List, length}
use Rattle.std.specs.Prelude.{slice_index}
use Rattle.pm_lines.specs.pm_model.Words.{word_at}
use Rattle.write_jobs.specs.Contents.{framed}
use Rattle.write_jobs.proofs.Words.{index-words, length-words}
use Rattle.write_jobs.proofs.jobs.contents.StagedBytes.block.Goals as goal

pub block_at-requires : goal.block_at-requires
block_at-requires c =
    let inside = c.self.inside in
    let size = length-words (framed inside.front.items inside.at inside.new inside.back.items) (512 * inside.count) in
    let all = ap (λ (words : List ℕ). length words) c.self.view_is in
    omega (arith, c.requires, c.self.invariant, size, all)

pub returns : goal.returns
returns c j low =
    let inside = c.self.inside in
    let bytes = framed inside.front.items inside.at inside.new inside.back.items in
    let same : framed c.deref.result.now inside.at c.as_slice.result.now c.deref-2.result.now ≡ bytes =
    λ i. framed (c.deref.ensures.value i) inside.at (c.as_slice.ensures i) (c.deref-2.ensures.value i) in
    let place : ℕ = 512 * c.args.block + j in
    let size = length-words bytes (512 * inside.count) in
    let all = ap (λ (words : List ℕ). length words) c.self.view_is in
    let within : place < 512 * inside.count = omega (arith, c.requires, size, all, low) in
    c.block_at.ensures j low
    ∙ ap (λ (b : List ℕ). word_at b place) same
    ∙ sym (index-words bytes (512 * inside.count) place within)
    ∙ ap (λ (words : List ℕ). slice_index words place) c.self.view_is
