use Rattle.std.proofs.Common.{◌≡◌, sym, ap, ◌∙◌, subst, arith, ◌+◌, ◌<◌}
use Rattle.k_inodes.specs.layout_model.Names.{Rows}
use Rattle.k_inodes.specs.image_layout.layout_model.Places.{Geometry}
use Rattle.map_chain.specs.image_model.Volume.{volume}
use Rattle.k_inodes.specs.image_layout.pm_model.Images.{words_of}
use Rattle.k_reading.proofs.NameRows.{AreRead, row-volume, count-volume, read-none, read-name, read-free, read-all, name-new}
use Rattle.k_reading.proofs.lines.read_names.Goals as goal
use Rattle.k_reading.proofs.lines.read_names.Goals.{in-Some+in_ok-set, in_default}

pub loop-line-init : goal.loop-line-init
loop-line-init c =
    read-none _ _ c.geometry.inside.names c.in_ok-names.ensures
    (count-volume c.args.geometry.now (words_of c.args.pm.now) ∙ sym (ap (λ (g : Geometry). g.names) c.geometry.view_is))

pub set-requires-clause-in_table : goal.set-requires-clause-in_table
set-requires-clause-in_table c =
    omega (arith, c.loop-line.invariant.count, count-volume c.args.geometry.now (words_of c.args.pm.now), ap (λ (g : Geometry). g.names) c.geometry.view_is, c.loop-line-test.true)

pub set-requires-clause-new : goal.set-requires-clause-new
set-requires-clause-new c =
    let below : c.loop-line.line < c.args.geometry.now.names = omega (arith, c.loop-line-test.true, ap (λ (g : Geometry). g.names) c.geometry.view_is) in
    name-new c.loop-line.names (volume c.args.geometry.now (words_of c.args.pm.now)).names c.loop-line.line c.in-Some.name
    c.loop-line.invariant c.requires.keyed
    (sym c.in-Some.is ∙ c.in_ok-name.ensures ∙ sym (row-volume c.args.geometry.now (words_of c.args.pm.now) c.loop-line.line below))

pub loop-line-preserved : goal.loop-line-preserved
loop-line-preserved c =
    let g = c.args.geometry.now in
    let f = words_of c.args.pm.now in
    let names : c.geometry.inside.names ≡ g.names = ap (λ (a : Geometry). a.names) c.geometry.view_is in
    let below : c.loop-line.line < g.names = omega (arith, c.loop-line-test.true, names) in
    let read = c.in_ok-name.ensures ∙ sym (row-volume g f c.loop-line.line below) in
    elim c.match-branch-3.branch [
      | in-Some+in_ok-set w ↦
          read-name c.loop-line.names (volume g f).names c.match-branch-3.names c.loop-line.line w.in-Some.name
          c.loop-line.invariant (omega (arith, below, count-volume g f)) (sym w.in-Some.is ∙ read) (w.names-is ∙ w.in_ok-set.ensures.set)
      | in_default w ↦
          subst (λ (rows : Rows). AreRead rows (volume g f).names (c.loop-line.line + 1)) (sym w.names-is)
          (read-free c.loop-line.names (volume g f).names c.loop-line.line c.loop-line.invariant (sym w.in_default.is ∙ read))
    ]

pub returns : goal.returns
returns c =
    read-all _ _ c.loop-line.line c.loop-line.invariant
    (omega (arith, count-volume c.args.geometry.now (words_of c.args.pm.now), ap (λ (g : Geometry). g.names) c.geometry.view_is, c.loop-line-test.false))
