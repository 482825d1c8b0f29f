use Rattle.std.proofs.Common.{sym, ap, subst, refl, ◌∙◌, ℕ, Some, None, ◌≡◌}
use Rattle.std.specs.Prelude.{option_and_then}
use Rattle.layout_model.specs.Names.{find_name}
use Rattle.k_names.specs.Finding.{IsRow}
use Rattle.name_laws.specs.k_split_model.Spaces.{entries_of, space_of}
use Rattle.posix_tables.specs.Names.{child_of, last_name}
use Rattle.name_laws.specs.EntryLaws.{child_of-rows}
use Rattle.name_laws.specs.Paths.{IsAt}
use Rattle.k_tables.proofs.RowFacts.{node-at, node-none}
use Rattle.k_tables.proofs.tables.removing.entry_below.Goals as goal

found : (c : goal.In-Some) → find_name c.args.names.now c.args.parent (last_name c.args.path.now) ≡ Some (c.in-Some.line, c.in-Some.child)
found c = sym (c.in-Some.ensures.found ∙ ap (find_name c.args.names.now c.args.parent) c.last.ensures)

at : (c : goal.In-Some) → IsAt (space_of c.args.inodes.now c.args.names.now) c.args.path.now c.args.parent c.in-Some.child
at c = record {
  directory = c.requires;
  is = child_of-rows c.args.names.now c.args.parent (last_name c.args.path.now) ∙ ap (option_and_then (λ (f : ℕ × ℕ). Some f.1)) (found c);
}

none : (c : goal.In-None) → child_of (entries_of c.args.names.now) c.args.parent (last_name c.args.path.now) ≡ None
none c =
    child_of-rows c.args.names.now c.args.parent (last_name c.args.path.now)
    ∙ sym (ap (option_and_then (λ (f : ℕ × ℕ). Some f.1)) (c.in-None.ensures.found ∙ ap (find_name c.args.names.now c.args.parent) c.last.ensures))

pub returns-in-Some-clause-target : goal.returns-in-Some-clause-target
returns-in-Some-clause-target c = (
  refl,
  record {
    is_at = at c;
    line = found c;
    within = c.in-Some.ensures.within;
    is_row = subst (λ n. IsRow c.args.names.now c.args.parent n c.in-Some.line c.in-Some.child) c.last.ensures c.in-Some.ensures.row;
  },
)

pub returns-in-Some-clause-node : goal.returns-in-Some-clause-node
returns-in-Some-clause-node c = node-at (space_of c.args.inodes.now c.args.names.now) c.args.path.now c.args.parent c.in-Some.child (at c)

pub returns-in-None-clause-target : goal.returns-in-None-clause-target
returns-in-None-clause-target c = none c

pub returns-in-None-clause-node : goal.returns-in-None-clause-node
returns-in-None-clause-node c = node-none (space_of c.args.inodes.now c.args.names.now) c.args.path.now c.args.parent c.requires (none c)
