use Rattle.std.specs.Prelude.{refl}
use Rattle.std.proofs.Common.{subst}
use Rattle.world_rounds.specs.round_laws.layout_model.Places.{Geometry}
use Rattle.world_rounds.specs.round_laws.StartsLaws.{HasNumbersOf}
use Rattle.split_world.proofs.Opening.{first_begun}
use Rattle.split_world.proofs.starting.parts_with.Goals as goal

pub returns : goal.returns
returns c =
    let shape = c.shape-shape.ensures in
    first_begun _
    (record {
      tables = c.requires.taken.files;
      staging = c.new.ensures;
      geometry = c.geometry.ensures;
      base = c.log_base-base.ensures;
      history = c.new-2.ensures.items;
      settled = refl;
      claims = c.new-3.ensures.items;
      pending = c.new-4.ensures.items;
      unfinished = refl;
      over = refl;
      given_up = refl;
      acts = refl;
      lines_out = refl;
      home = c.new-5.ensures.items;
      first = c.new-6.ensures.items;
      lost = refl;
      usable = refl;
      counts = c.no_calls.ensures;
      no_item = c.new-2.ensures.len;
      no_claim = c.new-3.ensures.len;
      spare = c.requires.taken.empty;
      one = c.requires.taken.one;
    })
    c.a_world_begins.ensures.going c.requires.mounted c.requires.mode c.requires.limits
    (c.requires.taken.shows _ (subst (λ (g : Geometry). HasNumbersOf g c.shape-shape.result) c.geometry.ensures (record { data_blocks = shape.data_blocks; nodes = shape.nodes; names = shape.names; in_range = shape.in_range })))
    c.requires.taken.sizes
