use Rattle.std.proofs.Common.{◌≡◌, ◌∙◌, inl, inr, sym}
use Rattle.posix_types.specs.declared.call.Mode.{Mode}
use Rattle.world_rounds.proofs.job_ends.ends.write_front.Goals as goal

pub place_front-requires-clause-can : goal.place_front-requires-clause-can
place_front-requires-clause-can c front = c.requires.can (λ strict. elim c.in-Sync.is [
  | inl sync ↦ (let never : Mode.Sync ≡ Mode.Strict = sym sync ∙ strict in cc)
  | inr posix ↦ (let never : Mode.Posix ≡ Mode.Strict = sym posix ∙ strict in cc)
])
