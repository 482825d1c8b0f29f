use Rattle.std.proofs.Common.{sym, subst}
use Rattle.staging_files.specs.Keeps.{Agrees}
use Rattle.k_map_rows.proofs.runs.is_calm.Goals as goal

pub returns : goal.returns
returns c bare = record {
  on = c.requires.fresh.on;
  unbatched = c.requires.fresh.unbatched;
  agrees = subst (λ s. Agrees s c.args.k.now) (sym c.requires.nothing) (c.is_bare.ensures bare);
  single = c.requires.fresh.single;
}
