-- The number that the program ends with, and its text on standard error.
use Rattle.std.specs.Prelude.{ℕ, List, [], ◌++◌, codes, decimal}
use Rattle.command_line.specs.declared.statuses.statuses.Status.{Status}

abbrev pub exit_number : Status → ℕ
exit_number Status.Done = 0
exit_number Status.Usage = 2
exit_number (Status.NoSuchFile name) = 3
exit_number (Status.BadImage rule place) = 4
exit_number (Status.BadScript line) = 5
exit_number Status.ReadFault = 6
exit_number Status.WriteFault = 7
exit_number Status.NoMemory = 8

abbrev pub status_text : Status → List ℕ
status_text Status.Done = []
status_text Status.Usage = codes "splitfs: usage\n"
status_text (Status.NoSuchFile name) = codes "splitfs: no such file " ++ name ++ codes "\n"
status_text (Status.BadImage rule place) = codes "splitfs: bad image: rule " ++ decimal rule ++ (codes " at " ++ decimal place ++ codes "\n")
status_text (Status.BadScript line) = codes "splitfs: bad script: line " ++ decimal line ++ codes "\n"
status_text Status.ReadFault = codes "splitfs: read failed\n"
status_text Status.WriteFault = codes "splitfs: write failed\n"
status_text Status.NoMemory = codes "splitfs: no memory\n"
