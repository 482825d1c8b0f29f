use Rattle.std.proofs.Common.{subst, sym, ◌++◌, ◌∷◌, [], All, List}
use Rattle.std.proofs.lemmas.List.Elements.{All-append, All-cons, All-nil}
use Rattle.file_overlay.specs.declared.runs.Run.{Run}
use Rattle.file_overlay.specs.Pieces.{ArePieces}
use Rattle.file_overlay.specs.Runs.{FitsRun}
use Rattle.file_overlay.proofs.overlay.Overlay.lay.Goals as goal

pub invariant_of-self : goal.invariant_of-self
invariant_of-self c =
    let was = c.self.invariant in
    let before = c.self.inside.runs.items in
    let run = c.args.run in
    let after = before ++ run ∷ [] in
    let pieces : ArePieces after c.lay_over.new.room.items = c.lay_over.ensures.pieces before (subst (ArePieces before) (sym c.deref.ensures.value) was.1) in
    let swapped = subst (λ v. ArePieces after v.items) (sym c.swap.ensures.x_after) pieces in (
      subst (All FitsRun) (sym c.push_reserved.ensures.items) (All-append FitsRun before (run ∷ []) was.0 (All-cons FitsRun run [] (record { in_file = c.requires.in_file; in_staging = c.requires.in_staging }) (All-nil FitsRun))),
      subst (λ (rs : List Run). ArePieces rs c.swap.new.x.items) (sym c.push_reserved.ensures.items) swapped,
    )
