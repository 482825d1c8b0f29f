use Rattle.std.proofs.Common.{arith, ap, ◌∙◌, ◌≡◌, ◌+◌, sym, inl, inr}
use Rattle.std.specs.Prelude.{slice_index}
use Rattle.std.proofs.lemmas.Bool.{cases_lt}
use Rattle.std.proofs.lemmas.Grind.{get_or-set_at}
use Rattle.std.proofs.lemmas.List.{get_or-set_other, length-set}
use Rattle.write_jobs.specs.Contents.{framed}
use Rattle.write_jobs.proofs.jobs.contents.eight_at.Goals as goal

-- one byte more
pub loop-j-preserved : goal.loop-j-preserved
loop-j-preserved c = record {
  long = length-set c.loop-j.eight c.loop-j.j c.byte_at.result ∙ c.loop-j.invariant.long;
  each = λ k low. elim (cases_lt k c.loop-j.j) [
    | inl early ↦ get_or-set_other c.loop-j.eight c.loop-j.j k c.byte_at.result 0 (λ same. omega (arith, same, early)) ∙ c.loop-j.invariant.each k early
    | inr late ↦ (
        let last : k ≡ c.loop-j.j = omega (arith, low, late) in
        let long = c.loop-j.invariant.long in
        get_or-set_at c.loop-j.eight c.loop-j.j k c.byte_at.result 0 last (omega (arith, long))
        ∙ c.byte_at.ensures
        ∙ ap (λ n. slice_index (framed c.args.front.now c.args.at c.args.new.now c.args.back.now) (c.args.first + n)) (sym last))
  ];
}
