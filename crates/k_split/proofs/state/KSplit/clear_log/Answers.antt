use Rattle.std.proofs.Common.{◌≡◌, true, false, sym, ◌∙◌, ap}
use Rattle.block_io.specs.pm_model.Powers.{is_on}
use Rattle.block_io.specs.layout_model.Places.{Geometry, log_line}
use Rattle.k_tables.specs.k_split_model.View.{View}
use Rattle.k_split.proofs.LogLaws.{cleared, losing, ready_cleared, steady-loses, view_loses}
use Rattle.k_split.proofs.state.KSplit.clear_log.Goals as goal

pub invariant_of-self-else-not-on : goal.invariant_of-self-else-not-on
invariant_of-self-else-not-on c off =
    let k = c.self.inside in
    let on : is_on c.zero_lines.new.power ≡ true = sym c.on.ensures ∙ c.if-not-on.false in
    let z = c.zero_lines.ensures in
    let first = c.log_line-first.ensures ∙ ap (λ (g : Geometry). log_line g 0) c.geometry-geometry.ensures.numbers in
    let count = c.from-count.ensures ∙ ap (λ (g : Geometry). g.log) (c.geometry.view_is ∙ c.geometry-geometry.ensures.numbers) in
    let clear = cleared k.tables.volume k.pm c.zero_lines.new.pm c.log_line-first.result c.from-count.result first count z.size z.lent (z.each_image, z.others, z.durable on, z.words) (z.keeps on) in
    ready_cleared k.tables k.group k.batch k.pm k.batched (c.self.invariant off) c.zero_lines.new.pm clear.loses clear.singles

pub returns-then-not-on-clause-same : goal.returns-then-not-on-clause-same
returns-then-not-on-clause-same c =
    let k = c.self.inside in
    let is : k.lost ≡ false = ap (λ (x : View). x.lost) c.self.view_is ∙ c.requires.awake in
    let z = c.zero_lines.ensures in
    let first = c.log_line-first.ensures ∙ ap (λ (g : Geometry). log_line g 0) c.geometry-geometry.ensures.numbers in
    let count = c.from-count.ensures ∙ ap (λ (g : Geometry). g.log) (c.geometry.view_is ∙ c.geometry-geometry.ensures.numbers) in
    view_loses k.tables k.group k.batch k.pm k.batched (c.self.invariant is) c.zero_lines.new.pm
    (losing k.tables.volume k.pm c.zero_lines.new.pm c.log_line-first.result c.from-count.result first count z.size z.lent (z.each_image, z.others, z.words)) k.lost true
    ∙ ap (λ (x : View). record x { cells = c.zero_lines.new.pm; lost = true }) c.self.view_is

pub returns-else-not-on-clause-same : goal.returns-else-not-on-clause-same
returns-else-not-on-clause-same c =
    let k = c.self.inside in
    let is : k.lost ≡ false = ap (λ (x : View). x.lost) c.self.view_is ∙ c.requires.awake in
    let z = c.zero_lines.ensures in
    let first = c.log_line-first.ensures ∙ ap (λ (g : Geometry). log_line g 0) c.geometry-geometry.ensures.numbers in
    let count = c.from-count.ensures ∙ ap (λ (g : Geometry). g.log) (c.geometry.view_is ∙ c.geometry-geometry.ensures.numbers) in
    view_loses k.tables k.group k.batch k.pm k.batched (c.self.invariant is) c.zero_lines.new.pm
    (losing k.tables.volume k.pm c.zero_lines.new.pm c.log_line-first.result c.from-count.result first count z.size z.lent (z.each_image, z.others, z.words)) k.lost k.lost
    ∙ ap (λ (x : View). record x { cells = c.zero_lines.new.pm; lost = k.lost }) c.self.view_is

pub invariant_of-self-inside : goal.invariant_of-self-inside
invariant_of-self-inside c =
    let k = c.self.inside in
    let is : k.lost ≡ false = ap (λ (x : View). x.lost) c.self.view_is ∙ c.requires.awake in
    let z = c.zero_lines.ensures in
    let first = c.log_line-first.ensures ∙ ap (λ (g : Geometry). log_line g 0) c.geometry-geometry.ensures.numbers in
    let count = c.from-count.ensures ∙ ap (λ (g : Geometry). g.log) (c.geometry.view_is ∙ c.geometry-geometry.ensures.numbers) in (
      k.none_aside,
      (
        λ batched. steady-loses k.tables k.group k.batch k.pm k.batched (c.self.invariant is) c.zero_lines.new.pm
            (losing k.tables.volume k.pm c.zero_lines.new.pm c.log_line-first.result c.from-count.result first count z.size z.lent (z.each_image, z.others, z.words)),
        tt,
      ),
    )

pub invariant_of-self-inside-else-not-on : goal.invariant_of-self-inside-else-not-on
invariant_of-self-inside-else-not-on c =
    let k = c.self.inside in
    let is : k.lost ≡ false = ap (λ (x : View). x.lost) c.self.view_is ∙ c.requires.awake in
    let z = c.zero_lines.ensures in
    let first = c.log_line-first.ensures ∙ ap (λ (g : Geometry). log_line g 0) c.geometry-geometry.ensures.numbers in
    let count = c.from-count.ensures ∙ ap (λ (g : Geometry). g.log) (c.geometry.view_is ∙ c.geometry-geometry.ensures.numbers) in (
      k.none_aside,
      (
        λ batched. steady-loses k.tables k.group k.batch k.pm k.batched (c.self.invariant is) c.zero_lines.new.pm
            (losing k.tables.volume k.pm c.zero_lines.new.pm c.log_line-first.result c.from-count.result first count z.size z.lent (z.each_image, z.others, z.words)),
        tt,
      ),
    )
