use Rattle.std.proofs.Common.{◌≡◌, ◌∙◌, ◌<◌, List, length, ap, subst, sym, arith}
use Rattle.k_plans.specs.layout_model.Places.{Geometry}
use Rattle.k_plans.specs.LandingsPlans.{IsMapFrom, Turns}
use Rattle.k_plans.specs.Switching.{switched_tables}
use Rattle.k_plans.specs.View.{TablesView}
use Rattle.k_plans.specs.k_split_model.Taken.{with_map}
use Rattle.k_plans.specs.volume_change_laws.Switches.{MaySwitch}
use Rattle.k_map_plans.specs.Steps.{ComeFrom, MayStepAll, Step, after_steps}
use Rattle.k_map_plans.proofs.StepLaws.{step-map, step-switches, taken-first}
use Rattle.k_map_plans.proofs.map_plans.steps.switch_all.Goals as goal

pub switch-requires-clause-may : goal.switch-requires-clause-may
switch-requires-clause-may c =
    let t = c.loop-steps.tables in
    let s = c.remove.result in
    let some : 0 < length c.loop-steps.steps.items = grind (arith, c.is_empty.ensures, c.loop-steps-test.true) in
    let is = taken-first c.loop-steps.steps.items c.remove.new.self.items s s some c.remove.ensures.value c.remove.ensures.items in
    let may = subst (MayStepAll t.volume t.aside) is c.loop-steps.invariant.may in
    subst (λ (x : Step). MaySwitch t.volume t.aside x.ino x.line x.chain x.map x.aside) (sym c.ino.view_is)
    (step-switches t.volume t.aside s may.0 c.loop-steps.invariant.once)

pub loop-steps-preserved : goal.loop-steps-preserved
loop-steps-preserved c =
    let t = c.loop-steps.tables in
    let u = c.switch.new.self in
    let s = c.remove.result in
    let inv = c.loop-steps.invariant in
    let rest = c.remove.new.self.items in
    let some : 0 < length c.loop-steps.steps.items = grind (arith, c.is_empty.ensures, c.loop-steps-test.true) in
    let is = taken-first c.loop-steps.steps.items rest s s some c.remove.ensures.value c.remove.ensures.items in
    let switched : u ≡ switched_tables s.ino s.line s.chain s.map s.aside t =
    c.switch.ensures.switched ∙ ap (λ (x : Step). switched_tables x.ino x.line x.chain x.map x.aside t) c.ino.view_is
    in
    let may = subst (MayStepAll t.volume t.aside) is inv.may in
    record {
      once = c.switch.ensures.once;
      may = subst (λ (y : TablesView). MayStepAll y.volume y.aside rest) (sym switched) may.1;
      after = ap (λ (y : TablesView). after_steps rest y.volume) switched ∙ ap (λ ss. after_steps ss t.volume) (sym is) ∙ inv.after;
      geometry = ap (λ (y : TablesView). y.volume.geometry) switched ∙ inv.geometry;
      waiting = ap (λ (y : TablesView). y.waiting) switched ∙ inv.waiting;
      free = λ b. c.switch.ensures.free b ∙ inv.free b;
      turns = λ news v from turns.
          let was = inv.turns news v from turns in
          let come = subst (ComeFrom news) is was.0 in (
            come.1,
            subst (λ (g : Geometry). Turns g news v u.volume c.switch.new.batch) inv.geometry
                (c.switch.ensures.turns news v
                (subst (λ (x : Step). IsMapFrom news t.volume x.ino (with_map x.chain x.map x.line) x.chain x.map) (sym c.ino.view_is) (step-map news t.volume s come.0))
                (subst (λ (g : Geometry). Turns g news v t.volume c.loop-steps.batch) (sym inv.geometry) was.1)),
          );
      lines = omega (arith, inv.lines, c.switch.ensures.count, ap (λ (ss : List Step). length ss) is);
      some = λ fewer. c.switch.ensures.some;
      whole = λ fewer. c.switch.ensures.whole;
      back = λ fewer. c.switch.ensures.back;
    }

pub returns-clause-turns : goal.returns-clause-turns
returns-clause-turns c news v from turns = (c.loop-steps.invariant.turns news v from turns).1
