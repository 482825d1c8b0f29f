use Rattle.std.proofs.Common.{◌≡◌, ◌+◌, ◌-◌, length, sym, arith}
use Rattle.std.proofs.lemmas.Bool.{eqb-false}
use Rattle.extent_map.proofs.Found.{past_last, last_mapped}
use Rattle.extent_map.proofs.pieces.file_end.Goals as goal

-- the list has an extent
is_filled : (c : goal.After-struct_known-1) → length c.args.extents.now ≡ length c.args.extents.now - 1 + 1
is_filled c = omega (arith, eqb-false (length c.args.extents.now) 0 (sym (c.if-is_empty.ensures)))

pub returns-clause-past : goal.returns-clause-past
returns-clause-past c = past_last c.args.extents.now _ _ c.requires (is_filled c)

pub returns-clause-last : goal.returns-clause-last
returns-clause-last c = λ _. last_mapped c.args.extents.now _ _ c.requires (is_filled c)
