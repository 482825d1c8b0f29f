-- What is printed of a refusal.
use Rattle.std.specs.Prelude.{ℕ, List, ◌++◌, codes}
use Rattle.std.specs.Fmt.{decimal}
use Rattle.k_relink.specs.declared.linking.RelinkFault.{RelinkFault}

abbrev pub fault_text : RelinkFault → List ℕ
fault_text (RelinkFault.Hole block) = codes "the source has no disk block at " ++ decimal block
fault_text RelinkFault.NoMemory = codes "out of memory"
