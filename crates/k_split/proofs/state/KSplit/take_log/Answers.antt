use Rattle.std.proofs.Common.{◌≡◌, false, length, ◌∙◌, ap, subst}
use Rattle.block_io.specs.layout_model.Places.{Geometry, log_line}
use Rattle.block_io.specs.Lines.{LinesGoOut}
use Rattle.k_tables.specs.k_split_model.View.{View}
use Rattle.k_split.specs.LogLines.{AreLogLines}
use Rattle.k_split.proofs.LogOut.{comes_out, ready_beside, same_out, view_beside}
use Rattle.k_split.proofs.Steady.{steady-ready}
use Rattle.k_split.proofs.state.KSplit.take_log.Goals as goal

pub invariant_of-self : goal.invariant_of-self
invariant_of-self c off =
    let k = c.self.inside in
    let v = k.tables.volume in
    let e = c.take_lines.new.pm in
    let first : c.log_line-first.result ≡ log_line v.geometry 0 = c.log_line-first.ensures ∙ ap (λ (g : Geometry). log_line g 0) c.geometry-geometry.ensures.numbers in
    let count : length c.take_lines.result.items ≡ v.geometry.log =
    c.take_lines.ensures.count ∙ c.from.ensures ∙ ap (λ (g : Geometry). g.log) (c.geometry.view_is ∙ c.geometry-geometry.ensures.numbers)
    in
    let out : LinesGoOut (log_line v.geometry 0) k.pm e c.take_lines.result.items =
    subst (λ n. LinesGoOut n k.pm e c.take_lines.result.items) first c.take_lines.ensures.out
    in
    ready_beside k.tables k.group k.batch k.pm e k.batched (c.self.invariant off) c.take_lines.ensures.size
    (same_out v k.pm e c.take_lines.result.items count out) (comes_out v k.pm e c.take_lines.result.items count out)

pub returns-clause-lines : goal.returns-clause-lines
returns-clause-lines c =
    let v = c.self.inside.tables.volume in
    let first : c.log_line-first.result ≡ log_line v.geometry 0 = c.log_line-first.ensures ∙ ap (λ (g : Geometry). log_line g 0) c.geometry-geometry.ensures.numbers in
    let count : length c.take_lines.result.items ≡ v.geometry.log =
    c.take_lines.ensures.count ∙ c.from.ensures ∙ ap (λ (g : Geometry). g.log) (c.geometry.view_is ∙ c.geometry-geometry.ensures.numbers)
    in
    let out : LinesGoOut (log_line v.geometry 0) c.self.inside.pm c.take_lines.new.pm c.take_lines.result.items =
    subst (λ n. LinesGoOut n c.self.inside.pm c.take_lines.new.pm c.take_lines.result.items) first c.take_lines.ensures.out
    in
    subst (λ (x : View). AreLogLines x.volume c.take_lines.result.items) c.self.view_is (record { count = count; places = out.places })

pub returns-clause-out : goal.returns-clause-out
returns-clause-out c =
    let v = c.self.inside.tables.volume in
    let first : c.log_line-first.result ≡ log_line v.geometry 0 = c.log_line-first.ensures ∙ ap (λ (g : Geometry). log_line g 0) c.geometry-geometry.ensures.numbers in
    let out : LinesGoOut (log_line v.geometry 0) c.self.inside.pm c.take_lines.new.pm c.take_lines.result.items =
    subst (λ n. LinesGoOut n c.self.inside.pm c.take_lines.new.pm c.take_lines.result.items) first c.take_lines.ensures.out
    in
    subst (λ (x : View). LinesGoOut (log_line x.volume.geometry 0) x.cells c.take_lines.new.pm c.take_lines.result.items) c.self.view_is out

pub returns-clause-same : goal.returns-clause-same
returns-clause-same c =
    let k = c.self.inside in
    let v = k.tables.volume in
    let e = c.take_lines.new.pm in
    let is : k.lost ≡ false = ap (λ (x : View). x.lost) c.self.view_is ∙ c.requires.on in
    let first : c.log_line-first.result ≡ log_line v.geometry 0 = c.log_line-first.ensures ∙ ap (λ (g : Geometry). log_line g 0) c.geometry-geometry.ensures.numbers in
    let count : length c.take_lines.result.items ≡ v.geometry.log =
    c.take_lines.ensures.count ∙ c.from.ensures ∙ ap (λ (g : Geometry). g.log) (c.geometry.view_is ∙ c.geometry-geometry.ensures.numbers)
    in
    let out : LinesGoOut (log_line v.geometry 0) k.pm e c.take_lines.result.items =
    subst (λ n. LinesGoOut n k.pm e c.take_lines.result.items) first c.take_lines.ensures.out
    in
    view_beside k.tables k.group k.batch k.pm e k.batched (c.self.invariant is) c.take_lines.ensures.size
    (same_out v k.pm e c.take_lines.result.items count out) (comes_out v k.pm e c.take_lines.result.items count out) k.lost k.lost
    ∙ ap (λ (x : View). record x { cells = e }) c.self.view_is

pub invariant_of-self-inside : goal.invariant_of-self-inside
invariant_of-self-inside c =
    let k = c.self.inside in
    let v = k.tables.volume in
    let e = c.take_lines.new.pm in
    let is : k.lost ≡ false = ap (λ (x : View). x.lost) c.self.view_is ∙ c.requires.on in
    let first : c.log_line-first.result ≡ log_line v.geometry 0 = c.log_line-first.ensures ∙ ap (λ (g : Geometry). log_line g 0) c.geometry-geometry.ensures.numbers in
    let count : length c.take_lines.result.items ≡ v.geometry.log =
    c.take_lines.ensures.count ∙ c.from.ensures ∙ ap (λ (g : Geometry). g.log) (c.geometry.view_is ∙ c.geometry-geometry.ensures.numbers)
    in
    let out : LinesGoOut (log_line v.geometry 0) k.pm e c.take_lines.result.items =
    subst (λ n. LinesGoOut n k.pm e c.take_lines.result.items) first c.take_lines.ensures.out
    in (
      k.none_aside,
      (
        λ batched. steady-ready k.tables k.group k.batch e k.batched
            (ready_beside k.tables k.group k.batch k.pm e k.batched (c.self.invariant is) c.take_lines.ensures.size
            (same_out v k.pm e c.take_lines.result.items count out) (comes_out v k.pm e c.take_lines.result.items count out)),
        tt,
      ),
    )
