-- The calls that put no byte, shorten no file and are no `fsync`.
use Rattle.std.specs.Prelude.{◌≡◌, ◌⊎◌, false, None}
use Rattle.eof_laws.specs.live_model.commute_laws.posix_types.declared.call.Call.{Call}
use Rattle.eof_laws.specs.live_model.commute_laws.posix_types.declared.item.Item.{Item}
use Rattle.eof_laws.specs.live_model.posix_tables.Names.{exists_at}
use Rattle.eof_laws.specs.live_model.posix_spec.Put.{put_by}
use Rattle.eof_laws.specs.live_model.posix_spec.Run.{after_call, begun}
use Rattle.eof_laws.specs.live_model.posix_spec.State.{space, State}
use Rattle.eof_laws.specs.live_model.crash_spec.Posix.{syncs}
use Rattle.batch_laws.specs.Changes.{PutsNone}

-- the calls of names, an `open` that cuts no file, `close`, and what only looks or seeks
abbrev pub IsQuiet : State → Call → Type 0
IsQuiet s (Call.Mkdir p) = Unit {0}
IsQuiet s (Call.Rmdir p) = Unit {0}
IsQuiet s (Call.Unlink p) = Unit {0}
IsQuiet s (Call.Rename p q) = Unit {0}
IsQuiet s (Call.Open h p f) = (exists_at (space s) p ≡ false) ⊎ (f.truncate ≡ false)
IsQuiet s (Call.Close h) = Unit {0}
IsQuiet s (Call.Dup h g) = Unit {0}
IsQuiet s (Call.Read h n) = Unit {0}
IsQuiet s (Call.Pread h o n) = Unit {0}
IsQuiet s (Call.Write h x) = ⊥
IsQuiet s (Call.Pwrite h o x) = ⊥
IsQuiet s (Call.Seek h w by) = Unit {0}
IsQuiet s (Call.Truncate h n) = ⊥
IsQuiet s (Call.Fsync h) = ⊥
IsQuiet s (Call.Stat p) = Unit {0}
IsQuiet s (Call.List p) = Unit {0}

-- Such a call puts none, whatever it answers;
abbrev pub QuietPutsNone : Type 0
QuietPutsNone = (s : State) (item : Item) → IsQuiet s item.call → PutsNone s item

-- and so does a call that changed nothing, a write that a row refused, and an `fsync` that did not return ok.
abbrev pub RefusedPutsNone : Type 0
RefusedPutsNone = (s : State) (item : Item) → after_call s (begun item) ≡ s → put_by s item.who item.call ≡ None → syncs item ≡ false → PutsNone s item
