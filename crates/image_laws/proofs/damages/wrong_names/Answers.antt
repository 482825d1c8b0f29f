-- the rows
use Rattle.image_laws.specs.TreeRows.{name_without_child, parent_past, child_free, parent_is_a_file, one_name_twice, directories_in_a_ring, directory_without_a_name, two_names_of_a_directory, two_names_of_a_file}
use Rattle.image_laws.proofs.damages.wrong_names.Goals as goal

pub returns-clause-childless : goal.returns-clause-childless
returns-clause-childless c = name_without_child

pub returns-clause-parent_past : goal.returns-clause-parent_past
returns-clause-parent_past c = parent_past

pub returns-clause-free_child : goal.returns-clause-free_child
returns-clause-free_child c = child_free

pub returns-clause-file_parent : goal.returns-clause-file_parent
returns-clause-file_parent c = parent_is_a_file

pub returns-clause-twice : goal.returns-clause-twice
returns-clause-twice c = one_name_twice

pub returns-clause-ring : goal.returns-clause-ring
returns-clause-ring c = directories_in_a_ring

pub returns-clause-nameless : goal.returns-clause-nameless
returns-clause-nameless c = directory_without_a_name

pub returns-clause-two : goal.returns-clause-two
returns-clause-two c = two_names_of_a_directory

pub returns-clause-two_of_a_file : goal.returns-clause-two_of_a_file
returns-clause-two_of_a_file c = two_names_of_a_file
