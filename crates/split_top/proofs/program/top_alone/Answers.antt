use Rattle.std.proofs.Common.{Option, map, refl, subst}
use Rattle.std.specs.Prelude.{IfSome}
use Rattle.std.specs.String.{string_bytes}
use Rattle.command_line.specs.declared.commands.commands.Command as words
use Rattle.command_line.specs.Seen.{IsBuilt, seen}
use Rattle.split_top.proofs.Told.{command-is, is-told}
use Rattle.split_top.proofs.program.top_alone.Goals as goal

pub do_alone-requires-clause-built : goal.do_alone-requires-clause-built
do_alone-requires-clause-built g c = subst (λ (r : Option words.Command). IfSome r IsBuilt) c.in-Some.is c.read_command.ensures.built

pub do_alone-requires-clause-alone : goal.do_alone-requires-clause-alone
do_alone-requires-clause-alone g c = c.is_by_threads.ensures.no c.if-is_by_threads.false

pub returns-then-is_by_threads-clause-threads : goal.returns-then-is_by_threads-clause-threads
returns-then-is_by_threads-clause-threads g c none = (
  record {
    command = seen c.in-Some.command;
    is_command = command-is (map string_bytes c.args.words.now) c.read_command.result c.in-Some.command c.read_command.ensures.command c.in-Some.is;
    holds = c.is_by_threads.ensures.yes c.if-is_by_threads.true;
  },
  refl,
  refl,
)

pub returns-clause-told : goal.returns-clause-told
returns-clause-told g c =
    is-told (map string_bytes c.args.words.now) (seen c.in-Some.command) (command-is (map string_bytes c.args.words.now) c.read_command.result c.in-Some.command c.read_command.ensures.command c.in-Some.is) _ _ _ _ _ _ _ c.do_alone.result c.do_alone.ensures
