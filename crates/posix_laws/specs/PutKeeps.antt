-- A call that puts bytes shortens no file.
use Rattle.std.specs.Prelude.{◌≡◌, ◌≤◌, ◌&&◌, nat_le, nat_lt, ℕ, Bool, true, false, List, length, Option, Some, None, refl}
use Rattle.std.proofs.Common.{arith, ap, ◌∙◌, inl, inr}
use Rattle.std.proofs.lemmas.Bool.Decides.{nat_tests}
use Rattle.posix_spec.specs.posix_types.declared.call.Call.{Call}
use Rattle.posix_spec.specs.posix_types.declared.call.Who.{Who}
use Rattle.posix_spec.specs.posix_types.declared.handle.Handle.{Handle}
use Rattle.posix_spec.specs.posix_types.declared.item.Outcome.{Outcome}
use Rattle.posix_spec.specs.posix_tables.declared.nodes.Node.{Node}
use Rattle.posix_spec.specs.posix_tables.Bytes.{overwritten}
use Rattle.posix_spec.specs.posix_tables.Nodes.{bytes_of, node_at, published_of}
use Rattle.posix_spec.specs.posix_tables.Outcomes.{first}
use Rattle.posix_spec.specs.FileRows.{file_number, write_rows, write_start}
use Rattle.posix_spec.specs.Put.{Put, put_at, put_by}
use Rattle.posix_spec.specs.State.{alone, State, with_file}
use Rattle.posix_spec.specs.Step.{pwrite_done, stepped, Stepped, write_done, written}
use Rattle.posix_laws.specs.FitsLaws.{length-overwritten}
use Rattle.posix_laws.specs.PublishLaws.{node_set}
use Rattle.posix_laws.specs.RowLaws.{put_at-Some, rows-from_Accepts}
use Rattle.posix_laws.specs.Shortens.{ends_before, shortens}

-- what is no shorter ends nowhere before
and_false : (b : Bool) → (b && false) ≡ false
and_false true = refl
and_false false = refl

not_both : (a b i : ℕ) → a ≤ b → (nat_lt i a && nat_le b i) ≡ false
not_both a b i long = grind (arith, nat_tests)

not_ended : (x y : Node) (i : ℕ) → length (bytes_of x) ≤ length (bytes_of y) → (nat_lt i (length (bytes_of x)) && ends_before y i) ≡ false
not_ended x Node.Gone i long = and_false (nat_lt i (length (bytes_of x)))
not_ended x Node.Directory i long = and_false (nat_lt i (length (bytes_of x)))
not_ended x (Node.File file) i long = not_both (length (bytes_of x)) (length file.bytes) i long

written_longer : (s : State) (who : Who) (h : Handle) (start : ℕ) (x : List ℕ) (n : ℕ) → length (bytes_of (node_at s.nodes n)) ≤ length (bytes_of (node_at (written alone s who h start x).nodes n))
unfolding written with_file
written_longer s who h start x n = elim (node_set s.nodes (file_number s.tables who h) (grown (node_at s.nodes (file_number s.tables who h))) n) [
  | inl same ↦ (let long = ap (λ y. length (bytes_of y)) same in omega (arith, long))
  | inr here ↦
      let file : ℕ = file_number s.tables who h in
      let was = ap (λ k. length (bytes_of (node_at s.nodes k))) here.0 in
      let is = ap (λ y. length (bytes_of y)) here.1 in
      let long = length-overwritten (bytes_of (node_at s.nodes file)) start x in
      omega (arith, was, is, long)
] where
  grown : Node → Node
  grown y = Node.File (record { bytes = overwritten (bytes_of y) start x; published = published_of y })

-- where no row fits the last one acts
acted : (s : State) (o : Option Outcome) (last : Stepped) → o ≡ None → (stepped s o last).state ≡ last.state
acted s o last none = ap (λ (x : Option Outcome). (stepped s x last).state) none

accepted : (s : State) (who : Who) (h : Handle) (start : ℕ) (x : List ℕ) (p : Put) → put_at s who h start x ≡ Some p → first (write_rows s who h start x) ≡ None
accepted s who h start x p is = rows-from_Accepts s who h start x (put_at-Some s who h start x p is).0

pub put_keeps : (s : State) (who : Who) (call : Call) (p : Put) → put_by s who call ≡ Some p → (n i : ℕ) → shortens s (who, call) n i ≡ false
unfolding put_by write_done pwrite_done
put_keeps s who (Call.Write h x) p is n i =
    let start = write_start s who h in
    let after = acted s (first (write_rows s who h start x)) (write_done alone s who h x) (accepted s who h start x p is) in
    ap (λ (t : State). nat_lt i (length (bytes_of (node_at s.nodes n))) && ends_before (node_at t.nodes n) i) after
    ∙ not_ended (node_at s.nodes n) (node_at (written alone s who h start x).nodes n) i (written_longer s who h start x n)
put_keeps s who (Call.Pwrite h start x) p is n i =
    let after = acted s (first (write_rows s who h start x)) (pwrite_done alone s who h start x) (accepted s who h start x p is) in
    ap (λ (t : State). nat_lt i (length (bytes_of (node_at s.nodes n))) && ends_before (node_at t.nodes n) i) after
    ∙ not_ended (node_at s.nodes n) (node_at (written alone s who h start x).nodes n) i (written_longer s who h start x n)
put_keeps s who call p is n i = cc
