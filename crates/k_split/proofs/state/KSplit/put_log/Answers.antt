use Rattle.std.proofs.Common.{◌≡◌, ℕ, true, false, length, sym, ◌∙◌, ap, subst}
use Rattle.block_io.specs.pm_model.Cells.{cell, is_lent}
use Rattle.block_io.specs.Overwrites.{IsInLines}
use Rattle.block_io.specs.layout_model.Places.{Geometry, log_line}
use Rattle.block_io.specs.Lines.{AreFrom, LinesComeBack}
use Rattle.k_tables.specs.k_split_model.View.{View}
use Rattle.k_split.specs.Laps.{IsLogWord}
use Rattle.k_split.specs.LogLines.{AreLogLines}
use Rattle.k_split.proofs.LogOut.{comes_back, home_back, of_log, ready_beside, same_back}
use Rattle.k_split.proofs.Steady.{steady-back, view-back}
use Rattle.k_split.proofs.state.KSplit.put_log.Goals as goal

pub put_lines-requires-clause-places : goal.put_lines-requires-clause-places
put_lines-requires-clause-places c =
    let v = c.self.inside.tables.volume in
    let first : c.log_line-first.result ≡ log_line v.geometry 0 = c.log_line-first.ensures ∙ ap (λ (g : Geometry). log_line g 0) c.geometry.ensures.numbers in
    let lines : AreLogLines v c.args.lines.items = subst (λ (x : View). AreLogLines x.volume c.args.lines.items) (sym c.self.view_is) c.requires.lines in
    subst (λ n. AreFrom n c.args.lines.items) (sym first) lines.places

pub put_lines-requires-clause-out : goal.put_lines-requires-clause-out
put_lines-requires-clause-out c =
    let v = c.self.inside.tables.volume in
    let first : c.log_line-first.result ≡ log_line v.geometry 0 = c.log_line-first.ensures ∙ ap (λ (g : Geometry). log_line g 0) c.geometry.ensures.numbers in
    let lines : AreLogLines v c.args.lines.items = subst (λ (x : View). AreLogLines x.volume c.args.lines.items) (sym c.self.view_is) c.requires.lines in
    let out : (i : ℕ) → IsLogWord v i → is_lent (cell c.self.inside.pm i) ≡ true =
    subst (λ (x : View). (i : ℕ) → IsLogWord x.volume i → is_lent (cell x.cells i) ≡ true) (sym c.self.view_is) c.requires.out
    in
    λ i is. out i (of_log v c.self.inside.pm c.self.inside.pm c.args.lines.items lines.count i (subst (λ n. IsInLines n (length c.args.lines.items) i) first is))

pub invariant_of-self : goal.invariant_of-self
invariant_of-self c off =
    let k = c.self.inside in
    let v = k.tables.volume in
    let e = c.put_lines.new.pm in
    let first : c.log_line-first.result ≡ log_line v.geometry 0 = c.log_line-first.ensures ∙ ap (λ (g : Geometry). log_line g 0) c.geometry.ensures.numbers in
    let lines : AreLogLines v c.args.lines.items = subst (λ (x : View). AreLogLines x.volume c.args.lines.items) (sym c.self.view_is) c.requires.lines in
    let out : (i : ℕ) → IsLogWord v i → is_lent (cell k.pm i) ≡ true =
    subst (λ (x : View). (i : ℕ) → IsLogWord x.volume i → is_lent (cell x.cells i) ≡ true) (sym c.self.view_is) c.requires.out
    in
    let back : LinesComeBack (log_line v.geometry 0) c.args.lines.items k.pm e =
    subst (λ n. LinesComeBack n c.args.lines.items k.pm e) first c.put_lines.ensures.back
    in
    ready_beside k.tables k.group k.batch k.pm e k.batched (c.self.invariant off) c.put_lines.ensures.size
    (same_back v k.pm e c.args.lines.items lines.count back) (comes_back v k.pm e c.args.lines.items lines.count back out)

pub returns-clause-back : goal.returns-clause-back
returns-clause-back c =
    let v = c.self.inside.tables.volume in
    let first : c.log_line-first.result ≡ log_line v.geometry 0 = c.log_line-first.ensures ∙ ap (λ (g : Geometry). log_line g 0) c.geometry.ensures.numbers in
    subst (λ (x : View). LinesComeBack (log_line x.volume.geometry 0) c.args.lines.items x.cells c.put_lines.new.pm) c.self.view_is
    (subst (λ n. LinesComeBack n c.args.lines.items c.self.inside.pm c.put_lines.new.pm) first c.put_lines.ensures.back)

pub returns-clause-home : goal.returns-clause-home
returns-clause-home c =
    let v = c.self.inside.tables.volume in
    let first : c.log_line-first.result ≡ log_line v.geometry 0 = c.log_line-first.ensures ∙ ap (λ (g : Geometry). log_line g 0) c.geometry.ensures.numbers in
    let lines : AreLogLines v c.args.lines.items = subst (λ (x : View). AreLogLines x.volume c.args.lines.items) (sym c.self.view_is) c.requires.lines in
    subst (λ (x : View). (i : ℕ) → IsLogWord x.volume i → is_lent (cell c.put_lines.new.pm i) ≡ false) c.self.view_is
    (λ i is.
    let at : IsInLines (log_line v.geometry 0) (length c.args.lines.items) i = subst (λ n. IsInLines (log_line v.geometry 0) n i) (sym lines.count) is in
    c.put_lines.ensures.home i (subst (λ n. IsInLines n (length c.args.lines.items) i) (sym first) at))

pub returns-clause-same : goal.returns-clause-same
returns-clause-same c =
    let k = c.self.inside in
    let v = k.tables.volume in
    let e = c.put_lines.new.pm in
    let first : c.log_line-first.result ≡ log_line v.geometry 0 = c.log_line-first.ensures ∙ ap (λ (g : Geometry). log_line g 0) c.geometry.ensures.numbers in
    let lines : AreLogLines v c.args.lines.items = subst (λ (x : View). AreLogLines x.volume c.args.lines.items) (sym c.self.view_is) c.requires.lines in
    let out : (i : ℕ) → IsLogWord v i → is_lent (cell k.pm i) ≡ true =
    subst (λ (x : View). (i : ℕ) → IsLogWord x.volume i → is_lent (cell x.cells i) ≡ true) (sym c.self.view_is) c.requires.out
    in
    let back : LinesComeBack (log_line v.geometry 0) c.args.lines.items k.pm e =
    subst (λ n. LinesComeBack n c.args.lines.items k.pm e) first c.put_lines.ensures.back
    in
    view-back k.tables k.group k.pm e k.batched k.lost k.steady (home_back v k.pm e c.args.lines.items lines.count back out)
    ∙ ap (λ (x : View). record x { cells = e }) c.self.view_is

pub invariant_of-self-inside : goal.invariant_of-self-inside
invariant_of-self-inside c =
    let k = c.self.inside in
    let v = k.tables.volume in
    let e = c.put_lines.new.pm in
    let first : c.log_line-first.result ≡ log_line v.geometry 0 = c.log_line-first.ensures ∙ ap (λ (g : Geometry). log_line g 0) c.geometry.ensures.numbers in
    let lines : AreLogLines v c.args.lines.items = subst (λ (x : View). AreLogLines x.volume c.args.lines.items) (sym c.self.view_is) c.requires.lines in
    let out : (i : ℕ) → IsLogWord v i → is_lent (cell k.pm i) ≡ true =
    subst (λ (x : View). (i : ℕ) → IsLogWord x.volume i → is_lent (cell x.cells i) ≡ true) (sym c.self.view_is) c.requires.out
    in
    let back : LinesComeBack (log_line v.geometry 0) c.args.lines.items k.pm e =
    subst (λ n. LinesComeBack n c.args.lines.items k.pm e) first c.put_lines.ensures.back
    in
    (k.none_aside, (λ batched. steady-back k.tables.volume.geometry k.pm e (k.steady batched) (home_back v k.pm e c.args.lines.items lines.count back out), tt))
