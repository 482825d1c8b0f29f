use Rattle.std.proofs.Common.{◌≡◌, ◌<◌, ◌+◌, ◌∙◌, List, ap, sym, refl, arith, subst}
use Rattle.k_split.specs.pm_model.declared.Cell.{Cell}
use Rattle.k_split.specs.image_model.Volume.{Volume}
use Rattle.k_split.specs.k_split_model.View.{View}
use Rattle.k_split.specs.Loans.{MayLend}
use Rattle.write_jobs.specs.Blocks.{GoOut}
use Rattle.write_jobs.specs.Loans.{AreLoansOf}
use Rattle.write_jobs.proofs.LendLaws.{front, given_back, loans_apart, loans_more, loans_out, may_now, no_loans, none_out, out_more}
use Rattle.write_jobs.proofs.loans.lending.lend_blocks.Goals as goal

pub loop-n-init : goal.loop-n-init
loop-n-init c = record {
  out = none_out c.args.k.now.volume c.args.draft.now c.args.k.now.cells;
  loans_are = subst (AreLoansOf c.args.k.now.volume c.args.draft.now c.args.k.now.cells 0) (sym c.in_ok-loans.ensures.items)
      (no_loans c.args.k.now.volume c.args.draft.now c.args.k.now.cells);
  same = refl;
  room = omega (arith, c.in_ok-loans.ensures.capacity);
}

pub lend-requires : goal.lend-requires
lend-requires c =
    let inv = c.loop-n.invariant in
    let within : c.loop-n.n < c.args.draft.now.count = omega arith in
    let b = (c.requires.may.may c.loop-n.n within).0 in
    record {
      on = ap (λ (w : View). w.lost) inv.same ∙ c.requires.on;
      may = (
        b,
        subst (λ (v : Volume). MayLend v c.loop-n.k.cells c.args.draft.now.staging (c.args.draft.now.staging_block + c.loop-n.n) b) (sym (ap (λ (w : View). w.volume) inv.same))
            (may_now c.args.k.now.volume c.args.draft.now c.args.k.now.cells c.requires.may c.loop-n.n within c.loop-n.k.cells inv.out),
      );
    }

pub loop-n-preserved : goal.loop-n-preserved
loop-n-preserved c =
    let inv = c.loop-n.invariant in
    let within : c.loop-n.n < c.args.draft.now.count = omega arith in
    let b = (c.requires.may.may c.loop-n.n within).0 in
    let lent =
    c.in-Ok.ensures.lent b (
    subst (λ (v : Volume). MayLend v c.loop-n.k.cells c.args.draft.now.staging (c.args.draft.now.staging_block + c.loop-n.n) b) (sym (ap (λ (w : View). w.volume) inv.same))
    (may_now c.args.k.now.volume c.args.draft.now c.args.k.now.cells c.requires.may c.loop-n.n within c.loop-n.k.cells inv.out)) in
    record {
      out = out_more c.args.k.now.volume c.args.draft.now c.args.k.now.cells c.requires.may c.loop-n.n within c.loop-n.k.cells inv.out
          c.lend.new.self.cells c.in-Ok.loan.cells c.in-Ok.ensures.size lent.1;
      loans_are = subst (AreLoansOf c.args.k.now.volume c.args.draft.now c.args.k.now.cells (c.loop-n.n + 1)) (sym c.push_reserved.ensures.items)
          (loans_more c.args.k.now.volume c.args.draft.now c.args.k.now.cells c.requires.may c.loop-n.n within c.loop-n.k.cells inv.out
          c.loop-n.loans.items c.in-Ok.loan c.lend.new.self.cells inv.loans_are lent.0 lent.1);
      same = c.in-Ok.ensures.same ∙ ap (λ (w : View). record w { cells = c.lend.new.self.cells }) inv.same;
      room = omega (arith, inv.room, c.push_reserved.ensures.capacity);
    }

pub settle_blocks-requires : goal.settle_blocks-requires
settle_blocks-requires c =
    let inv = c.loop-n.invariant in
    let few : c.loop-n.n < c.args.draft.now.count + 1 = omega arith in
    let out = subst (GoOut c.args.k.now.volume (front c.args.draft.now c.loop-n.n) c.args.k.now.cells) (sym (ap (λ (w : View). w.cells) c.in-Err.ensures.err)) inv.out in
    record {
      out = loans_out c.args.k.now.volume c.args.draft.now c.args.k.now.cells c.lend.new.self.cells c.requires.may c.loop-n.n few c.loop-n.loans.items out inv.loans_are;
      apart = loans_apart c.args.k.now.volume c.args.draft.now c.args.k.now.cells c.lend.new.self.cells c.requires.may c.loop-n.n few c.loop-n.loans.items out inv.loans_are;
    }

pub returns-in-Err : goal.returns-in-Err
returns-in-Err c =
    let inv = c.loop-n.invariant in
    let few : c.loop-n.n < c.args.draft.now.count + 1 = omega arith in
    let out = subst (GoOut c.args.k.now.volume (front c.args.draft.now c.loop-n.n) c.args.k.now.cells) (sym (ap (λ (w : View). w.cells) c.in-Err.ensures.err)) inv.out in
    let back = given_back c.args.k.now.volume c.args.draft.now c.args.k.now.cells c.lend.new.self.cells c.settle_blocks.new.k.cells c.requires.may c.loop-n.n few
    c.loop-n.loans.items out inv.loans_are c.settle_blocks.ensures.back in
    let same = c.settle_blocks.ensures.same ∙ ap (λ (w : View). record w { cells = c.settle_blocks.new.k.cells }) (c.in-Err.ensures.err ∙ inv.same) in
    record { lent = tt; same = same; err = same ∙ ap (λ (d : List Cell). record c.args.k.now { cells = d }) back }

pub returns : goal.returns
returns c =
    let inv = c.loop-n.invariant in
    let all : c.loop-n.n ≡ c.args.draft.now.count = omega arith in
    record {
      lent = record {
        out = subst (λ m. GoOut c.args.k.now.volume (front c.args.draft.now m) c.args.k.now.cells c.loop-n.k.cells) all inv.out;
        loans_are = subst (λ m. AreLoansOf c.args.k.now.volume c.args.draft.now c.args.k.now.cells m c.loop-n.loans.items) all inv.loans_are;
      };
      same = inv.same;
      err = tt;
    }
