-- Flags are read as they are printed.
use Rattle.std.proofs.Common.{◌≡◌, refl, Bool, true, false, Some}
use Rattle.posix_types.specs.declared.handle.Flags.{Flags}
use Rattle.report_text.specs.Texts.{flags_text}
use Rattle.script_text.specs.Words.{flags_in, may_open}
use Rattle.script_text.proofs.WordsBack.{IsWord}

record IsReadBack (f : Flags) : Type 0 where
  is : flags_in (flags_text f) ≡ Some f
  word : IsWord (flags_text f)

each : (r w a c x t : Bool) → may_open (record { read = r; write = w; append = a; create = c; exclusive = x; truncate = t }) ≡ true → IsReadBack (record { read = r; write = w; append = a; create = c; exclusive = x; truncate = t })
unfolding flags_in flags_text
each true true true true true true h = record { is = refl; word = record { solid = refl; some = refl } }
each true true true true true false h = record { is = refl; word = record { solid = refl; some = refl } }
each true true true true false true h = record { is = refl; word = record { solid = refl; some = refl } }
each true true true true false false h = record { is = refl; word = record { solid = refl; some = refl } }
each true true true false true true h = cc
each true true true false true false h = cc
each true true true false false true h = record { is = refl; word = record { solid = refl; some = refl } }
each true true true false false false h = record { is = refl; word = record { solid = refl; some = refl } }
each true true false true true true h = record { is = refl; word = record { solid = refl; some = refl } }
each true true false true true false h = record { is = refl; word = record { solid = refl; some = refl } }
each true true false true false true h = record { is = refl; word = record { solid = refl; some = refl } }
each true true false true false false h = record { is = refl; word = record { solid = refl; some = refl } }
each true true false false true true h = cc
each true true false false true false h = cc
each true true false false false true h = record { is = refl; word = record { solid = refl; some = refl } }
each true true false false false false h = record { is = refl; word = record { solid = refl; some = refl } }
each true false true true true true h = cc
each true false true true true false h = record { is = refl; word = record { solid = refl; some = refl } }
each true false true true false true h = cc
each true false true true false false h = record { is = refl; word = record { solid = refl; some = refl } }
each true false true false true true h = cc
each true false true false true false h = cc
each true false true false false true h = cc
each true false true false false false h = record { is = refl; word = record { solid = refl; some = refl } }
each true false false true true true h = cc
each true false false true true false h = record { is = refl; word = record { solid = refl; some = refl } }
each true false false true false true h = cc
each true false false true false false h = record { is = refl; word = record { solid = refl; some = refl } }
each true false false false true true h = cc
each true false false false true false h = cc
each true false false false false true h = cc
each true false false false false false h = record { is = refl; word = record { solid = refl; some = refl } }
each false true true true true true h = record { is = refl; word = record { solid = refl; some = refl } }
each false true true true true false h = record { is = refl; word = record { solid = refl; some = refl } }
each false true true true false true h = record { is = refl; word = record { solid = refl; some = refl } }
each false true true true false false h = record { is = refl; word = record { solid = refl; some = refl } }
each false true true false true true h = cc
each false true true false true false h = cc
each false true true false false true h = record { is = refl; word = record { solid = refl; some = refl } }
each false true true false false false h = record { is = refl; word = record { solid = refl; some = refl } }
each false true false true true true h = record { is = refl; word = record { solid = refl; some = refl } }
each false true false true true false h = record { is = refl; word = record { solid = refl; some = refl } }
each false true false true false true h = record { is = refl; word = record { solid = refl; some = refl } }
each false true false true false false h = record { is = refl; word = record { solid = refl; some = refl } }
each false true false false true true h = cc
each false true false false true false h = cc
each false true false false false true h = record { is = refl; word = record { solid = refl; some = refl } }
each false true false false false false h = record { is = refl; word = record { solid = refl; some = refl } }
each false false true true true true h = cc
each false false true true true false h = cc
each false false true true false true h = cc
each false false true true false false h = cc
each false false true false true true h = cc
each false false true false true false h = cc
each false false true false false true h = cc
each false false true false false false h = cc
each false false false true true true h = cc
each false false false true true false h = cc
each false false false true false true h = cc
each false false false true false false h = cc
each false false false false true true h = cc
each false false false false true false h = cc
each false false false false false true h = cc
each false false false false false false h = cc

pub flags-back : (f : Flags) → may_open f ≡ true → flags_in (flags_text f) ≡ Some f
flags-back f h = (each f.read f.write f.append f.create f.exclusive f.truncate h).is

pub flags-word : (f : Flags) → may_open f ≡ true → IsWord (flags_text f)
flags-word f h = (each f.read f.write f.append f.create f.exclusive f.truncate h).word
