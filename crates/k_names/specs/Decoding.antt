-- What the answer of `decode_name` stands for.
use Rattle.layout_model.specs.Lines.{NameSlot, FreeName, Named, BadName}
use Rattle.k_names.specs.declared.line.Decoded.{Decoded}
use Rattle.k_names.specs.declared.line.Decoded.TheVariants.{Free, Line, Bad}

abbrev pub slot_of : Decoded → NameSlot
slot_of Free = FreeName
slot_of (Line r) = Named r
slot_of Bad = BadName
