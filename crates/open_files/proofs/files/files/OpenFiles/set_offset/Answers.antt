use Rattle.std.proofs.Common.{◌≡◌, ℕ, Some, ap, ◌∙◌, sym}
use Rattle.std.specs.Prelude.{get_or, unwrap_or, None, Option}
use Rattle.std.specs.Option.{option_map}
use Rattle.slab.specs.Slab.{get}
use Rattle.posix_tables.specs.Open.{with_offset}
use Rattle.open_files.specs.Kept.{number_of, tables_of}
use Rattle.open_files.proofs.Answering.{same_kept}
use Rattle.open_files.proofs.Changing.{kept-moved, tables-moved}
use Rattle.open_files.proofs.Places.{number_at}
use Rattle.open_files.proofs.files.files.OpenFiles.set_offset.Goals as goal

pub invariant_of-self : goal.invariant_of-self
invariant_of-self c =
    let there : get c.self.inside.kept c.in-Some.reference.key ≡ Some c.in-Some-kept_at.kept = sym c.kept_at.ensures ∙ c.in-Some-kept_at.is in
    kept-moved c.self.inside.kept c.replace.new.kept c.self.inside.ever_opened c.self.inside.descriptors.items c.self.inside.bindings.items c.in-Some.reference.key c.in-Some-kept_at.kept c.args.offset c.replace.ensures.updates there c.self.invariant

pub returns-clause-tables : goal.returns-clause-tables
returns-clause-tables c =
    let there : get c.self.inside.kept c.in-Some.reference.key ≡ Some c.in-Some-kept_at.kept = sym c.kept_at.ensures ∙ c.in-Some-kept_at.is in
    let at : get_or c.self.inside.descriptors.items c.args.key None ≡ Some c.in-Some.reference = rw c.deref.ensures.value at (sym c.reference_at.ensures ∙ c.in-Some.is) in
    let of = c.self.invariant.refers c.args.key c.in-Some.reference at in
    let number : c.in-Some-kept_at.kept.number ≡ c.in-Some.reference.number = ap (λ k. k.number) (same_kept c.self.inside.kept.slots c.in-Some.reference.key c.in-Some-kept_at.kept of.0 there of.1) ∙ of.2 in
    let key : c.in-Some-kept_at.kept.number ≡ unwrap_or (option_map number_of (get_or c.self.inside.descriptors.items c.args.key None)) 0 = number ∙ sym (ap (λ o. unwrap_or (option_map number_of o) 0) at) in
    let key_is = key ∙ sym (ap (λ (o : Option ℕ). unwrap_or o 0) (number_at c.self.inside.descriptors.items c.args.key)) in
    rw (← c.self.view_is)
    (tables-moved c.self.inside.kept c.replace.new.kept c.self.inside.ever_opened c.self.inside.descriptors.items c.self.inside.bindings.items c.in-Some.reference.key c.in-Some-kept_at.kept c.args.offset c.replace.ensures.updates there c.self.invariant
    ∙ ap (λ k. with_offset (tables_of c.self.inside.kept.slots c.self.inside.ever_opened c.self.inside.descriptors.items c.self.inside.bindings.items) k c.args.offset) key_is)
