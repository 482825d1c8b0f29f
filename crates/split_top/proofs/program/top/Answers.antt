use Rattle.std.proofs.Common.{Option, map, subst}
use Rattle.std.specs.Prelude.{IfSome}
use Rattle.std.specs.String.{string_bytes}
use Rattle.command_line.specs.declared.commands.commands.Command as words
use Rattle.command_line.specs.Seen.{IsBuilt, seen}
use Rattle.split_top.proofs.Told.{command-is, told-bad_image, told-bad_script, told-complete, told-done, told-files, told-front, told-missing, told-read_fault, told-usage, told-write_fault}
use Rattle.split_top.proofs.program.top.Goals as goal

pub returns-clause-usage : goal.returns-clause-usage
returns-clause-usage g c =
    told-usage (map string_bytes c.args.words.now) (seen c.in-Some.command) (command-is (map string_bytes c.args.words.now) c.read_command.result c.in-Some.command c.read_command.ensures.command c.in-Some.is) _ _ _ _ _ _ _ c.do_command.result c.do_command.ensures

pub returns-clause-no_such_file : goal.returns-clause-no_such_file
returns-clause-no_such_file g c =
    told-missing (map string_bytes c.args.words.now) (seen c.in-Some.command) (command-is (map string_bytes c.args.words.now) c.read_command.result c.in-Some.command c.read_command.ensures.command c.in-Some.is) _ _ _ _ _ _ _ c.do_command.result c.do_command.ensures

pub returns-clause-bad_image : goal.returns-clause-bad_image
returns-clause-bad_image g c =
    told-bad_image (map string_bytes c.args.words.now) (seen c.in-Some.command) (command-is (map string_bytes c.args.words.now) c.read_command.result c.in-Some.command c.read_command.ensures.command c.in-Some.is) _ _ _ _ _ _ _ c.do_command.result c.do_command.ensures

pub returns-clause-bad_script : goal.returns-clause-bad_script
returns-clause-bad_script g c =
    told-bad_script (map string_bytes c.args.words.now) (seen c.in-Some.command) (command-is (map string_bytes c.args.words.now) c.read_command.result c.in-Some.command c.read_command.ensures.command c.in-Some.is) _ _ _ _ _ _ _ c.do_command.result c.do_command.ensures

pub returns-clause-write_fault : goal.returns-clause-write_fault
returns-clause-write_fault g c =
    told-write_fault (map string_bytes c.args.words.now) (seen c.in-Some.command) (command-is (map string_bytes c.args.words.now) c.read_command.result c.in-Some.command c.read_command.ensures.command c.in-Some.is) _ _ _ _ _ _ _ c.do_command.result c.do_command.ensures

pub returns-clause-done : goal.returns-clause-done
returns-clause-done g c =
    told-done (map string_bytes c.args.words.now) (seen c.in-Some.command) (command-is (map string_bytes c.args.words.now) c.read_command.result c.in-Some.command c.read_command.ensures.command c.in-Some.is) _ _ _ _ _ _ _ c.do_command.result c.do_command.ensures

pub returns-clause-files : goal.returns-clause-files
returns-clause-files g c =
    told-files (map string_bytes c.args.words.now) (seen c.in-Some.command) (command-is (map string_bytes c.args.words.now) c.read_command.result c.in-Some.command c.read_command.ensures.command c.in-Some.is) _ _ _ _ _ _ _ c.do_command.result c.do_command.ensures

pub returns-clause-front : goal.returns-clause-front
returns-clause-front g c =
    told-front (map string_bytes c.args.words.now) (seen c.in-Some.command) (command-is (map string_bytes c.args.words.now) c.read_command.result c.in-Some.command c.read_command.ensures.command c.in-Some.is) _ _ _ _ _ _ _ c.do_command.result c.do_command.ensures

pub returns-clause-complete : goal.returns-clause-complete
returns-clause-complete g c =
    told-complete (map string_bytes c.args.words.now) (seen c.in-Some.command) (command-is (map string_bytes c.args.words.now) c.read_command.result c.in-Some.command c.read_command.ensures.command c.in-Some.is) _ _ _ _ _ _ _ c.do_command.result c.do_command.ensures

pub returns-clause-read_fault : goal.returns-clause-read_fault
returns-clause-read_fault g c =
    told-read_fault (map string_bytes c.args.words.now) (seen c.in-Some.command) (command-is (map string_bytes c.args.words.now) c.read_command.result c.in-Some.command c.read_command.ensures.command c.in-Some.is) _ _ _ _ _ _ _ c.do_command.result c.do_command.ensures

pub returns-clause-nothing : goal.returns-clause-nothing
returns-clause-nothing g c = c.do_command.ensures.nothing

pub do_command-requires-clause-built : goal.do_command-requires-clause-built
do_command-requires-clause-built g c κs within = subst (λ (r : Option words.Command). IfSome r IsBuilt) c.in-Some.is c.read_command.ensures.built
