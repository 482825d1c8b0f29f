use Rattle.std.proofs.Common.{◌≡◌, refl, subst, List, ℕ}
use Rattle.std.specs.Prelude.{IfOk}
use Rattle.posix_tables.specs.Bytes.{overwritten}
use Rattle.posix_tables.proofs.bytes.overwritten.Goals as goal

pub returns : goal.returns
returns c =
    let all : c.extend_from_slice-2.new.self.items ≡ overwritten c.args.old.now c.args.start c.args.new.now =
    rw (c.in_ok-extend_from_slice-2.ensures.items, c.in_ok-extend_from_slice.ensures.items, c.in_ok-resize.ensures.items, c.in_ok-bytes.ensures.len, c.in_ok-bytes.ensures.items, c.tail.ensures)
    refl
    in
    subst (λ (items : List ℕ). IfOk c.of.result (λ (made : List ℕ). made ≡ items)) all c.of.ensures
