-- What clauses see of the values of the program.
use Rattle.std.specs.Prelude.{◌≢◌, ◌≤◌, ⊤, option_and_then, option_map}
use Rattle.std.specs.String.{string_bytes}
use Rattle.command_line.specs.declared.commands.commands.Command.{Command}
use Rattle.command_line.specs.declared.commands.commands.Image.{Image}
use Rattle.command_line.specs.declared.commands.options.Options.{Options}
use Rattle.script_text.specs.posix_spec.posix_types.declared.call.Mode.{Mode}
use Rattle.command_line.specs.declared.commands.orders.OrderWords.{OrderWords}
use Rattle.schedule.specs.crash_spec.Orders.{Order, Round, Seeded}
use Rattle.script_text.specs.Words.{numbers_in}
use Rattle.command_line.specs.Command as meaning

abbrev pub seen_image : Image → meaning.Image
seen_image Image.Fresh = meaning.Fresh
seen_image (Image.Stored name) = meaning.Stored (string_bytes name.now)

abbrev pub seen_order : OrderWords → Order
seen_order (OrderWords.List word) = meaning.listed (numbers_in (string_bytes word.now))
seen_order (OrderWords.Seed seed) = Seeded seed
seen_order OrderWords.Round = Round

abbrev pub seen_options : Options → meaning.Options
seen_options options =
    record {
      mode = options.mode;
      by_threads = options.by_threads;
      order = seen_order options.order;
      cut = options.cut;
      stop = options.stop;
      again = meaning.few_steps (option_and_then (λ word. numbers_in (string_bytes word.now)) options.again);
      choice = options.choice;
      keep = option_map (λ name. string_bytes name.now) options.keep;
    }

abbrev pub seen : Command → meaning.Command
seen (Command.Mkfs name geometry) = meaning.Mkfs (string_bytes name.now) geometry
seen (Command.Tree image) = meaning.Tree (seen_image image)
seen (Command.Step image script options) =
    meaning.Step (record { image = seen_image image; script = string_bytes script.now; options = seen_options options })
seen (Command.Load calls threads mode) = meaning.Load (record { calls = calls; threads = threads; mode = mode })

-- a load in a mode that is built, of at most 500 calls for each of at most 8 threads
pub record IsBuiltLoad (loading : meaning.Loading) : Type 0 where
  pub few : loading.calls ≤ 500
  pub threads : loading.threads ≤ 8
  pub mode_is : loading.mode ≢ Mode.Posix

-- a run is in a mode that is built, and a load is within its limits
abbrev pub IsBuilt : Command → Type 0
IsBuilt (Command.Mkfs name geometry) = ⊤
IsBuilt (Command.Tree image) = ⊤
IsBuilt (Command.Step image script options) = options.mode ≢ Mode.Posix
IsBuilt (Command.Load calls threads mode) = IsBuiltLoad (record { calls = calls; threads = threads; mode = mode })
