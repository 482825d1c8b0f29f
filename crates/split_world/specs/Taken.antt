-- What a World that begins takes memory for.
use Rattle.std.specs.Prelude.{◌≡◌, ◌≤◌, []}
use Rattle.std.specs.Vec.{vec_capacity}
use Rattle.world_rounds.specs.round_laws.k_split_model.View.{View}
use Rattle.world_rounds.specs.round_laws.posix_tables.Open.{nothing_open}
use Rattle.posix_types.specs.declared.reply.Shape.{Shape}
use Rattle.world_rounds.specs.round_laws.Sizes.{HasSizesOf}
use Rattle.world_rounds.specs.round_laws.StartsLaws.{HasNumbersOf, ShowsAs}
use Rattle.split_world.specs.declared.starting.Taken.{Taken}

-- the tree that the device shows and the sizes of its files; nothing is open; and room for one call
pub record IsTaken (k : View) (t : Taken) : Type 0 where
  pub shows : (shape : Shape) → HasNumbersOf k.volume.geometry shape → ShowsAs k t.tree shape
  pub files : t.tables.tables ≡ nothing_open
  pub sizes : HasSizesOf k.volume t.files
  pub empty : t.spare.items ≡ []
  pub one : 1 ≤ vec_capacity t.spare
