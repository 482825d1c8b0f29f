-- The bytes behind the name were zeros before, and are as many as the name leaves of 48.
use Rattle.std.proofs.Common.{◌≡◌, ◌∙◌, ◌+◌, ◌-◌, ◌∷◌, ◌++◌, List, ℕ, ap, arith, length}
use Rattle.std.proofs.lemmas.List.{drop-replicate}
use Rattle.std.specs.Int.{to_le_bytes, w32}
use Rattle.std.specs.Prelude.{slice_set}
use borrow.Rule.Slice.PartMut.{put_mid}
use Rattle.layout_model.specs.Fields.{zeros}
use Rattle.image_layout.specs.Puts.{put_at}
use Rattle.k_names.proofs.line.spelled.Goals as goal

pub returns-clause-line : goal.returns-clause-line
returns-clause-line c =
    let name = c.args.name.now in
    let n = length name in
    let parent = to_le_bytes w32 c.args.parent in
    let child = to_le_bytes w32 c.args.child in
    let count : 16 + n - 16 ≡ n = omega arith in
    let line = c.put_u32-2.ensures ∙ ap (λ (l : List ℕ). put_at l 4 child) c.put_u32.ensures in
    (λ i. put_mid 16 (count i) (slice_set (line i) 8 n) (c.copy_from_slice.ensures.after i))
    ∙ ap (λ (rest : List ℕ). parent ++ child ++ (n ∷ zeros 7) ++ name ++ rest) (drop-replicate n 48 0)
